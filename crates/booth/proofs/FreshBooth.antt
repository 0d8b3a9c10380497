-- A booth before wall tick 0 is the one that document 01 opens. Assumes nothing.
use mathlib.Core.Path.{◌≡◌, refl, sym, ap, ◌∙◌, subst}
use mathlib.Core.List.{List, [], ◌∷◌}
use Prim.Native.Nat.{ℕ, zero, suc, ◌≤◌, ◌<◌}
use native.Mathlib.Omega.{arith}
use lib.ListN.{length, get_or, take, replicate}
use lib.Seq.{length-take-le, set_out}
use Rattle.rules.specs.declared.Line.{Line as HeldLine}
use Rattle.rules.specs.ArrivalLog.{entry_at}
use Rattle.rules.specs.Moves.{nobody, no_demand}
use Rattle.rules.specs.declared.Opens.{Opens}
use Rattle.rules.specs.Opens.{opens_at}
use Rattle.rules.specs.Session.{fresh_booth}
use Rattle.rules.specs.Values.{line_held}
use Rattle.rules.proofs.Held.{zeros}
use Rattle.rules.specs.InRange.{Sound}
use Rattle.rules.proofs.Fitting.{fit_sound, fit_short}
use Rattle.rules.specs.Fit.{FitLine}
use Rattle.arrivals.specs.Places.{waiting_at, Place, WholeLog}
use Rattle.std.specs.Prelude.{None}
use Rattle.booth.specs.declared.Booth.{Booth as HeldBooth}
use Rattle.booth.specs.BoothHeld.{first_with, owed, shown, Fit, looking_at, Looked}

abbrev silent : List ℕ
silent = 0 ∷ 0 ∷ 0 ∷ 0 ∷ 0 ∷ 0 ∷ 0 ∷ 0 ∷ []

-- the booth before it looks at the log, its clock lying here
abbrev pub unopened_at : ℕ → HeldLine → Opens → HeldBooth
unopened_at number line opens =
    record {
      number = number;
      tasks = line.tasks;
      demand = silent;
      first = None;
      left = 0;
      at = 9;
      promise = line.promise;
      clock = record { 0 = 0 };
      opens = opens;
      tick = record { 0 = 4294967295 };
      point = record { 0 = 0 };
    }

abbrev pub unopened : ℕ → HeldLine → HeldBooth
unopened number line = unopened_at number line (opens_at line.promise 0)

take_zeros : (n m : ℕ) → n ≤ m → take {A = ℕ} n (replicate m 0) ≡ replicate n 0
take_zeros zero m h = refl
take_zeros (suc n) zero h = absurd (omega arith)
take_zeros (suc n) (suc m) h = ap (λ xs. 0 ∷ xs) (take_zeros n m (omega arith))

no_first : None ≡ first_with silent
unfolding first_with no_demand
no_first = refl

module _ (bs : List ℕ) (number : ℕ) (line : HeldLine) (log : WholeLog bs) (fit : FitLine line)
    (own : (at : ℕ) → Place bs at → at < length bs → (entry_at bs at).booth ≡ number → (entry_at bs at).task < line.tasks) (r : HeldBooth) (looked : Looked bs (unopened number line) 9 r) where
  kept_number : r.number ≡ number
  unfolding looking_at
  kept_number = ap (λ h. h.number) looked.is

  kept_promise : r.promise ≡ line.promise
  unfolding looking_at
  kept_promise = ap (λ h. h.promise) looked.is

  kept_tasks : r.tasks ≡ line.tasks
  unfolding looking_at
  kept_tasks = ap (λ h. h.tasks) looked.is

  kept_demand : r.demand ≡ silent
  unfolding looking_at
  kept_demand = ap (λ h. h.demand) looked.is

  kept_owed : owed r ≡ silent
  unfolding looking_at owed
  kept_owed = ap owed looked.is ∙ set_out silent nobody 0 (omega arith)

  kept_opens : r.opens ≡ opens_at r.promise r.clock.0
  unfolding looking_at
  kept_opens = ap (λ h. h.opens) looked.is ∙ ap (λ p. opens_at p 0) (sym (ap (λ h. h.promise) looked.is)) ∙ ap (opens_at r.promise) (sym (ap (λ h. h.clock.0) looked.is))

  kept_first : r.first ≡ None
  unfolding looking_at
  kept_first = ap (λ h. h.first) looked.is

  kept_clock : r.clock.0 ≡ 0
  unfolding looking_at
  kept_clock = ap (λ h. h.clock.0) looked.is

  pub open_fit : Fit bs r × (r.number ≡ number) × (r.promise ≡ line.promise) × (r.tasks ≡ line.tasks)
  open_fit = (
    record {
      steady = record {
        sound = subst Sound (sym kept_promise) (fit_sound _ fit);
        short = subst (λ p. p.period ≤ 10000) (sym kept_promise) (fit_short _ fit);
        tasks = subst (λ n. n ≤ 8) (sym kept_tasks) fit.tasks;
        eight = ap length kept_demand;
        rest = λ k h. ap (λ ds. get_or ds k 0) kept_owed ∙ zeros 8 k;
        first = kept_first ∙ no_first ∙ ap first_with (sym kept_owed);
        opens = kept_opens;
      };
      waits = looked.waits;
      own = λ at p l e. subst (λ n. (entry_at bs at).task < n) (sym kept_tasks) (own at p l (e ∙ kept_number));
      room = λ k. omega (arith, ap (λ ds. get_or ds k 0) kept_owed ∙ zeros 8 k, log.short);
    },
    kept_number,
    kept_promise,
    kept_tasks,
  )

  pub open_fresh : (row : List ℕ) → shown (line_held line) bs r row ≡ fresh_booth (line_held line) (waiting_at bs number 9)
  unfolding shown fresh_booth line_held
  open_fresh row =
      let tasks : length (take line.tasks line.longest) ≡ line.tasks = length-take-le line.tasks line.longest (omega (arith, fit.tasks, fit.eight)) in
      let left : take r.tasks (owed r) ≡ replicate (length (take line.tasks line.longest)) 0 =
      ap (λ n. take n (owed r)) kept_tasks ∙ ap (take line.tasks) kept_owed ∙ take_zeros line.tasks 8 fit.tasks ∙ ap (λ n. replicate n 0) (sym tasks) in
      let waiting : waiting_at bs r.number r.at ≡ waiting_at bs number 9 = ap (λ n. waiting_at bs n r.at) kept_number ∙ looked.same in
      ap (λ u. record { line = line_held line; u = u; left = take r.tasks (owed r); waiting = waiting_at bs r.number r.at; row = take u row }) kept_clock
      ∙ ap (λ x. record { line = line_held line; u = 0; left = x; waiting = waiting_at bs r.number r.at; row = [] }) left
      ∙ ap (λ x. record { line = line_held line; u = 0; left = replicate (length (take line.tasks line.longest)) 0; waiting = x; row = [] }) waiting
