-- One booth's turn at a wall tick: what its answer says, and that it wakes within a period. Assumes nothing.
use mathlib.Core.Path.{◌≡◌, refl, sym, ap, ◌∙◌}
use mathlib.Core.Bool.{Bool, true, false, not, ◌&&◌, true≢false}
use mathlib.Core.List.{List}
use Prim.Native.Nat.{ℕ, suc, ◌+◌, ◌≤◌, ◌<◌}
use native.Mathlib.Omega.{arith}
use lib.Dec.{leb, ltb}
use lib.ListN.{length, take, set}
use borrow.Author.Tests.{leb-true, ltb-true}
use Rattle.rules.specs.BoothTable.{Line}
use Rattle.rules.specs.Due.{due}
use Rattle.rules.specs.Moves.{Booth, first_task, settle, may_work, work}
use Rattle.rules.proofs.FirstDemand.{First}
use Rattle.laws.proofs.DueLaws.{laws_of_due, due_at_most}
use Rattle.arrivals.specs.Places.{WholeLog}
use Rattle.booth.specs.declared.Booth.{Booth as HeldBooth}
use Rattle.std.specs.Prelude.{Some, None, is_some, is_none}
use Rattle.booth.specs.BoothHeld.{first_number, goes_with, owed, shown, settled_answer, asked, takes_next, goes_on, wakes_at, Steady, Fit, ToPlay, AfterAsk, played_on}
use Rattle.booth.proofs.Demand.{is_nothing, is_number}
use Rattle.booth.proofs.Working.{held_first, one_of_eight, opens_from, may_held, task_held, answers_first, Played, played_on_lem, shown_worked, after_play}
use Rattle.booth.proofs.Settling.{both_true, settles_first, settled_busy}

-- ---- what a settled booth's answer says

told : (t : ℕ) (b : Booth) → may_work t b ≡ true → settled_answer t b ≡ Some (first_task 0 b.left)
unfolding settled_answer
told t b q = rw (q, settled_answer)

refused : (t : ℕ) (b : Booth) → may_work t b ≡ false → settled_answer t b ≡ None
unfolding settled_answer
refused t b q = rw (q, settled_answer)

pub works : (t : ℕ) (b : Booth) (k : ℕ) → settled_answer t b ≡ Some k → may_work t b ≡ true
works t b k e = go (may_work t b) refl
  where
    go : (c : Bool) → may_work t b ≡ c → may_work t b ≡ true
    go true q = q
    go false q =
        let no : None ≡ Some k = sym (refused t b q) ∙ e in
        let z : ◌≡◌ {A = ℕ} 0 1 = cc in
        absurd (omega arith)

pub in_vain : (t : ℕ) (b : Booth) → settled_answer t b ≡ None → may_work t b ≡ false
in_vain t b e = go (may_work t b) refl
  where
    go : (c : Bool) → may_work t b ≡ c → may_work t b ≡ false
    go true q =
        let no : Some (first_task 0 b.left) ≡ None = sym (told t b q) ∙ e in
        let z : ◌≡◌ {A = ℕ} 0 1 = cc in
        absurd (omega arith)
    go false q = q

-- the task chosen is the booth's first with demand, and its own tick is due by the tick's end
both_held : (a b : Bool) → (not a && b) ≡ true → (a ≡ false) × (b ≡ true)
both_held true b q = absurd (true≢false (sym q))
both_held false b q = (refl, q)

not-false : (a : Bool) → not a ≡ true → a ≡ false
not-false true q = absurd (true≢false (sym q))
not-false false q = refl

pub chosen_first : (l : Line) (bs : List ℕ) (t : ℕ) (h : HeldBooth) (row : List ℕ) (k : ℕ) → Steady h → l.promise ≡ h.promise → settled_answer t (shown l bs h row) ≡ Some k
    → (k < 8) × (h.first ≡ Some k) × (h.clock.0 < due h.promise (suc t))
unfolding shown
chosen_first l bs t h row k s p e =
    let may = both_held (is_none h.first) (ltb h.clock.0 (due h.promise (suc t))) (sym (may_held l bs h row s p t) ∙ works t (shown l bs h row) k e) in
    let busy : is_none h.first ≡ false = may.0 in
    let task : Some (first_task 0 (take h.tasks (owed h))) ≡ Some k = sym (told t (shown l bs h row) (works t (shown l bs h row) k e)) ∙ e in
    let same : first_task 0 (take h.tasks (owed h)) ≡ k = cc in
    let first : h.first ≡ Some k = is_number h.first busy ∙ ap Some (sym (task_held l bs h row s p busy) ∙ same) in
    ((one_of_eight h s).first k first, first, ltb-true h.clock.0 (due h.promise (suc t)) may.1)

-- ---- the turn

pub asked_rests : (t : ℕ) (b c : Booth) → c ≡ settle t b → settled_answer t c ≡ None → (c ≡ asked t b) × (false ≡ may_work t (settle t b))
unfolding asked
asked_rests t b c e answer =
    let no : may_work t (settle t b) ≡ false = ap (may_work t) (sym e) ∙ in_vain t c answer in
    (e ∙ sym (rw (no, asked)), sym no)

pub asked_works : (t : ℕ) (b c : Booth) (k : ℕ) → c ≡ settle t b → settled_answer t c ≡ Some k → (work c ≡ asked t b) × (true ≡ may_work t (settle t b))
unfolding asked
asked_works t b c k e answer =
    let yes : may_work t (settle t b) ≡ true = ap (may_work t) (sym e) ∙ works t c k answer in
    (ap work e ∙ sym (rw (yes, asked)), sym yes)

-- ---- a booth that goes on

-- what the tests of goesOn say
pub goes : (t : ℕ) (h : HeldBooth) → goes_on t h ≡ true → (is_none h.first ≡ false) × (h.opens.from.0 ≤ t) × (1 < h.left) × (takes_next t h ≡ false)
unfolding goes_on
goes t h q =
    let a = both_held (is_none h.first) (leb h.opens.from.0 t && (ltb 1 h.left && not (takes_next t h))) q in
    let b = both_true (leb h.opens.from.0 t) (ltb 1 h.left && not (takes_next t h)) a.1 in
    let c = both_true (ltb 1 h.left) (not (takes_next t h)) b.1 in
    (a.0, leb-true h.opens.from.0 t b.0, ltb-true 1 h.left c.0, not-false (takes_next t h) c.1)

pub played_clock : (h : HeldBooth) → (played_on h).clock.0 ≡ h.clock.0 + 1
unfolding played_on
played_clock h = refl

-- the task that it goes on with is the first
pub goes_with_first : (t : ℕ) (h : HeldBooth) (k : ℕ) → goes_with t h ≡ Some k → (goes_on t h ≡ true) × (h.first ≡ Some k)
unfolding goes_with
goes_with_first t h k e = go (goes_on t h) refl
  where
    go : (c : Bool) → goes_on t h ≡ c → (goes_on t h ≡ true) × (h.first ≡ Some k)
    go true q = (q, rw (q, goes_with) at e)
    go false q =
        let no : None ≡ Some k = rw (q, goes_with) at e in
        let z : ◌≡◌ {A = ℕ} 0 1 = cc in
        absurd (omega arith)

-- with one of the tests failed it goes on with none, with all of them passed with its first
never_both : (a : Bool) → (a && false) ≡ false
never_both true = refl
never_both false = refl

pub goes_not : (t : ℕ) (h : HeldBooth) → (leb h.opens.from.0 t && (ltb 1 h.left && not (takes_next t h))) ≡ false → None ≡ goes_with t h
unfolding goes_with goes_on
goes_not t h q =
    let no : goes_on t h ≡ false = rw q (never_both (not (is_none h.first))) in
    rw (no, goes_with)

pub goes_first : (t : ℕ) (h : HeldBooth) → (leb h.opens.from.0 t && (ltb 1 h.left && not (takes_next t h))) ≡ true → h.first ≡ goes_with t h
unfolding goes_with goes_on
goes_first t h q = go (is_none h.first) refl
  where
    go : (c : Bool) → is_none h.first ≡ c → h.first ≡ goes_with t h
    go true e =
        let no : goes_on t h ≡ false = rw e in
        is_nothing h.first e ∙ rw (no, goes_with)
    go false e =
        let on : goes_on t h ≡ true = rw (e, q) in
        rw (on, goes_with)

-- it answers with a task exactly where it goes on
pub goes_told : (t : ℕ) (h : HeldBooth) → is_some (goes_with t h) ≡ goes_on t h
unfolding goes_with goes_on
goes_told t h = go (is_none h.first) (leb h.opens.from.0 t && (ltb 1 h.left && not (takes_next t h))) refl refl
  where
    go : (c d : Bool) → is_none h.first ≡ c → (leb h.opens.from.0 t && (ltb 1 h.left && not (takes_next t h))) ≡ d → is_some (goes_with t h) ≡ goes_on t h
    go true d e q =
        let no : goes_on t h ≡ false = rw e in
        rw (no, goes_with)
    go false false e q =
        let no : goes_on t h ≡ false = rw (e, q) in
        ap is_some (sym (goes_not t h q)) ∙ sym no
    go false true e q =
        let on : goes_on t h ≡ true = rw (e, q) in
        ap is_some (sym (goes_first t h q)) ∙ ap is_some (is_number h.first e) ∙ sym on

-- what playing on asks
pub goes_on_asks : (bs : List ℕ) (t : ℕ) (h : HeldBooth) (row : List ℕ) (k : ℕ) → Fit bs h → t < length row → length row < 1000001 → h.clock.0 ≤ due h.promise t → goes_with t h ≡ Some k
    → ToPlay h k row
goes_on_asks bs t h row k fit within short cap e =
    let on = goes_with_first t h k e in
    let most = due_at_most h.promise fit.steady.sound t in
    record {
      steady = fit.steady;
      few = (one_of_eight h fit.steady).first k on.1;
      first = on.1;
      inside = omega arith;
      short = short;
      opens = omega (arith, (goes t h on.0).1);
    }

-- it is settled as it is, may work, and has worked once it has played
module _ (bs : List ℕ) (t : ℕ) (h : HeldBooth) (row : List ℕ) (log : WholeLog bs) (fit : Fit bs h) (cap : h.clock.0 ≤ due h.promise t) (inside : h.clock.0 < length row) (q : goes_on t h ≡ true) where
  first : First (owed h) (first_number h.first)
  first = held_first h fit.steady (goes t h q).0

  played : Played h (played_on h)
  played = played_on_lem h fit.steady first (goes t h q).0 (goes t h q).2

  due_now : h.clock.0 < due h.promise (suc t)
  due_now = (laws_of_due.playable h.promise fit.steady.sound h.clock.0 t).1 (omega (arith, opens_from h fit.steady, (goes t h q).1))

  settled : (l : Line) → l.promise ≡ h.promise → shown l bs h row ≡ settle t (shown l bs h row)
  settled l p = settled_busy bs t h row h row (settles_first bs t h row fit cap) (omega arith) log fit cap (goes t h q).3 l p (goes t h q).0

  turned : (l : Line) → l.promise ≡ h.promise → (work (shown l bs h row) ≡ asked t (shown l bs h row)) × (true ≡ may_work t (settle t (shown l bs h row)))
  turned l p =
      asked_works t (shown l bs h row) (shown l bs h row) (first_number h.first) (settled l p) (sym (answers_first l bs h row fit.steady p t due_now) ∙ is_number h.first (goes t h q).0)

  pub goes_on_shown : (l : Line) → l.promise ≡ h.promise → shown l bs (played_on h) (set row h.clock.0 (first_number h.first)) ≡ asked t (shown l bs h row)
  goes_on_shown l p = shown_worked h fit.steady first (goes t h q).0 (played_on h) played l bs row inside ∙ (turned l p).0

  pub goes_on_works : (l : Line) → l.promise ≡ h.promise → true ≡ may_work t (settle t (shown l bs h row))
  goes_on_works l p = (turned l p).1

  pub goes_on_after : AfterAsk bs t h (record { booth = played_on h; wakes = (played_on h).opens.from; worked = true })
  unfolding wakes_at played_on
  goes_on_after =
      let after = after_play h fit.steady first (goes t h q).0 (played_on h) played in
      record {
        fit = after.fit bs fit;
        stays = after.stays;
        grown = omega (arith, after.clock);
        cap = omega (arith, after.clock, due_now);
        rests = λ e. absurd (true≢false e);
        wakes = rw (busy, wakes_at) (opens_from (played_on h) after.steady);
      }
    where
      busy : is_none (played_on h).first ≡ false
      busy = (goes t h q).0
