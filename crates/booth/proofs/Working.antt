-- A settled booth's answer, what working does to it, and when it need not be asked. Assumes nothing.
use mathlib.Core.Path.{◌≡◌, refl, sym, ap, ◌∙◌, subst}
use mathlib.Core.Bool.{Bool, true, false, not, ◌&&◌, true≢false}
use mathlib.Core.List.{List}
use Prim.Native.Nat.{ℕ, suc, ◌+◌, ◌-◌, ◌≤◌, ◌<◌}
use native.Mathlib.Decide.{ℕ_discrete, dec_le}
use native.Mathlib.Numerals.{add-one}
use native.Mathlib.Omega.{arith}
use lib.Dec.{ltb}
use lib.ListN.{length, get_or, take, set}
use lib.Seq.{get_or-set_same, get_or-set_other, take-suc-set}
use borrow.Author.Tests.{lt-ltb, le-ltb}
use Rattle.rules.specs.BoothTable.{Line}
use Rattle.rules.specs.Due.{due, playable_from}
use Rattle.rules.specs.Opens.{opens_at}
use Rattle.rules.specs.declared.Opens.{Opens}
use Rattle.rules.specs.Moves.{no_demand, first_task, may_work, work, settle}
use Rattle.rules.specs.InRange.{Sound}
use Rattle.rules.specs.ArrivalLog.{entry_at}
use Rattle.rules.specs.declared.WallTick.{WallTick}
use Rattle.rules.specs.declared.OwnTick.{OwnTick}
use Rattle.laws.proofs.QuickSettle.{Late}
use Rattle.laws.specs.Courses.{InOrder}
use Rattle.laws.proofs.DueLaws.{laws_of_due, not_yet_due}
use Rattle.laws.proofs.Asleep.{asleep_silent, asleep_busy}
use Rattle.arrivals.specs.Places.{WholeLog}
use Rattle.arrivals.proofs.PlaceLaws.{waiting_end}
use Rattle.booth.specs.declared.Booth.{Booth as HeldBooth}
use Rattle.std.specs.Prelude.{Some, None, is_none}
use Rattle.booth.specs.BoothHeld.{first_number, first_with, OneOfEight, owed, shown, settled_answer, wakes_at, Steady, Next, Fit, Stays, AfterPlay, played_on, demanding}
use Rattle.rules.proofs.FirstDemand.{First, first_here, found_first}
use Rattle.booth.proofs.Demand.{with_is_none, with_some, with_first, is_nothing, is_number, first_same, first_taken, lose_taken, owed_eight, owed_first, owed_demanding, owed_played}
use Rattle.booth.proofs.Taking.{first_waits}
use Rattle.booth.proofs.Settling.{held_none, shown_in_order}

-- ---- the answer

-- the held first task is the rule's
pub held_first : (h : HeldBooth) → Steady h → is_none h.first ≡ false → First (owed h) (first_number h.first)
held_first h s busy = go (no_demand (owed h)) refl
  where
    go : (c : Bool) → no_demand (owed h) ≡ c → First (owed h) (first_number h.first)
    go true q = absurd (true≢false (sym (ap is_none s.first ∙ with_is_none (owed h) ∙ q) ∙ busy))
    go false q = subst (λ k. First (owed h) (first_number k)) (sym (s.first ∙ with_some (owed h) q)) (found_first (owed h) q)

pub busy_with : (h : HeldBooth) (k : ℕ) → h.first ≡ Some k → is_none h.first ≡ false
busy_with h k is = ap is_none is

-- it is one of eight
pub one_of_eight : (h : HeldBooth) → Steady h → OneOfEight h
one_of_eight h s = record {
  eight = s.eight;
  first = λ k is. omega (arith, (held_first h s (busy_with h k is)).there, ap first_number is, owed_eight h, s.eight);
}

-- where the clock lies says from which wall tick on its own tick may be played
pub opens_from : (h : HeldBooth) → Steady h → h.opens.from.0 ≡ playable_from h.promise h.clock.0
unfolding opens_at
opens_from h s = ap (λ (o : Opens). o.from.0) s.opens

never_both : (a : Bool) → (a && false) ≡ false
never_both true = refl
never_both false = refl

module _ (l : Line) (bs : List ℕ) (h : HeldBooth) (row : List ℕ) (s : Steady h) (q : l.promise ≡ h.promise) where
  pub task_held : is_none h.first ≡ false → first_task 0 (take h.tasks (owed h)) ≡ first_number h.first
  task_held busy =
      (first_here (take h.tasks (owed h)) (first_number h.first) (first_taken h.tasks (owed h) s.rest (first_number h.first) (held_first h s busy))).1

  -- whether the booth may work, as the code tests it
  pub may_held : (t : ℕ) → may_work t (shown l bs h row) ≡ (not (is_none h.first) && ltb h.clock.0 (due h.promise (suc t)))
  unfolding may_work shown
  may_held t =
      ap (λ p. not (no_demand (take h.tasks (owed h))) && ltb h.clock.0 (due p (suc t))) q
      ∙ ap (λ c. not c && ltb h.clock.0 (due h.promise (suc t))) (sym (held_none l bs h row s))

  answers_none : (t : ℕ) → is_none h.first ≡ true → None ≡ settled_answer t (shown l bs h row)
  unfolding settled_answer
  answers_none t free =
      let may : may_work t (shown l bs h row) ≡ false = may_held t ∙ rw free in
      rw (may, settled_answer)

  pub answers_late : (t : ℕ) → due h.promise (suc t) ≤ h.clock.0 → None ≡ settled_answer t (shown l bs h row)
  unfolding settled_answer
  answers_late t late =
      let may : may_work t (shown l bs h row) ≡ false = may_held t ∙ rw (le-ltb h.clock.0 (due h.promise (suc t)) late) (never_both (not (is_none h.first))) in
      rw (may, settled_answer)

  answers_task : (t : ℕ) → is_none h.first ≡ false → h.clock.0 < due h.promise (suc t) → h.first ≡ settled_answer t (shown l bs h row)
  unfolding settled_answer shown
  answers_task t busy early =
      let may : may_work t (shown l bs h row) ≡ true = may_held t ∙ rw (busy, lt-ltb h.clock.0 (due h.promise (suc t)) early) in
      is_number h.first busy ∙ rw (may, settled_answer) (ap Some (sym (task_held busy)))

  pub answers_first : (t : ℕ) → h.clock.0 < due h.promise (suc t) → h.first ≡ settled_answer t (shown l bs h row)
  answers_first t early = go (is_none h.first) refl
    where
      go : (c : Bool) → is_none h.first ≡ c → h.first ≡ settled_answer t (shown l bs h row)
      go true q = is_nothing h.first q ∙ answers_none t q
      go false q = answers_task t q early

-- before the tick where its own clock opens it answers with none, from there on with its first task
pub none_before : (l : Line) (bs : List ℕ) (h : HeldBooth) (row : List ℕ) (t : ℕ) → Steady h → l.promise ≡ h.promise → t < h.opens.from.0 → None ≡ settled_answer t (shown l bs h row)
none_before l bs h row t s q ahead = answers_late l bs h row s q t (not_yet_due h.promise s.sound h.clock.0 t (omega (arith, opens_from h s)))

pub chosen_by_then : (l : Line) (bs : List ℕ) (h : HeldBooth) (row : List ℕ) (t : ℕ) → Steady h → l.promise ≡ h.promise → h.opens.from.0 ≤ t → h.first ≡ settled_answer t (shown l bs h row)
chosen_by_then l bs h row t s q reached = answers_first l bs h row s q t ((laws_of_due.playable h.promise s.sound h.clock.0 t).1 (omega (arith, opens_from h s)))

-- ---- the work

-- h has played its first task once, and is r
pub record Played (h r : HeldBooth) : Type 0 where
  pub stays : Stays h r
  pub at : r.at ≡ h.at
  pub tick : r.tick ≡ h.tick
  pub point : r.point ≡ h.point
  pub eight : length r.demand ≡ 8
  pub owes : owed r ≡ set (owed h) (first_number h.first) (get_or (owed h) (first_number h.first) 0 - 1)
  pub first : r.first ≡ first_with (owed r)
  pub clock : r.clock.0 ≡ h.clock.0 + 1
  pub opens : r.opens ≡ opens_at r.promise r.clock.0

module _ (h : HeldBooth) (s : Steady h) (f : First (owed h) (first_number h.first)) (busy : is_none h.first ≡ false) where
  there : first_number h.first < length h.demand
  there = omega (arith, f.there, owed_eight h)

  -- with more of the task left it stays the first
  pub played_on_lem : 1 < h.left → Played h (played_on h)
  unfolding played_on
  played_on_lem more =
      let owes = owed_played h there in
      let left = owed_first h there in
      record {
        stays = record { number = refl; promise = refl; tasks = refl };
        at = refl;
        tick = refl;
        point = refl;
        eight = s.eight;
        owes = owes;
        first =
            is_number h.first busy
            ∙ sym (ap first_with owes ∙ with_first _ (first_number h.first) (first_same (owed h) (first_number h.first) (first_number h.first) (get_or (owed h) (first_number h.first) 0 - 1) f f.there (omega (arith, left)) (omega arith)));
        clock = refl;
        opens = refl;
      }

  -- with none the next with demand is
  pub played_out : Played h (demanding (played_on h) (owed (played_on h)))
  unfolding played_on demanding
  played_out =
      let owes = owed_played h there in
      let now_owed = owed_demanding (played_on h) (owed (played_on h)) in
      record {
        stays = record { number = refl; promise = refl; tasks = refl };
        at = refl;
        tick = refl;
        point = refl;
        eight = owed_eight (played_on h) ∙ s.eight;
        owes = now_owed ∙ owes;
        first = ap first_with (sym now_owed);
        clock = refl;
        opens = refl;
      }

  module _ (r : HeldBooth) (p : Played h r) where
    pub shown_worked : (l : Line) (bs row : List ℕ) → h.clock.0 < length row → shown l bs r (set row h.clock.0 (first_number h.first)) ≡ work (shown l bs h row)
    unfolding shown work
    shown_worked l bs row inside =
        let u = h.clock.0 in
        let tasks = h.tasks in
        let k = first_number h.first in
        let left = lose_taken tasks (owed h) s.rest k f in
        let is : first_task 0 (take tasks (owed h)) ≡ k = (first_here (take tasks (owed h)) k (first_taken tasks (owed h) s.rest k f)).1 in
        rw (p.owes, p.stays.tasks, p.stays.number, p.at, p.clock, add-one u, take-suc-set row u k inside, is, left)

    -- no task's demand grows
    demand_falls : (j : ℕ) → get_or (owed r) j 0 ≤ get_or (owed h) j 0
    demand_falls j = rw p.owes (go (ℕ_discrete j (first_number h.first)))
      where
        go : Dec (j ≡ first_number h.first) → get_or (set (owed h) (first_number h.first) (get_or (owed h) (first_number h.first) 0 - 1)) j 0 ≤ get_or (owed h) j 0
        go (yes q) = rw (q, get_or-set_same (owed h) (first_number h.first) (get_or (owed h) (first_number h.first) 0 - 1) 0 f.there) (omega arith)
        go (no ne) = rw (get_or-set_other (owed h) (first_number h.first) j (get_or (owed h) (first_number h.first) 0 - 1) 0 ne) (omega arith)

    pub after_play : AfterPlay h r
    after_play =
        record { steady = steady; fit = fit; stays = p.stays; at = p.at; tick = p.tick; point = p.point; clock = p.clock; falls = demand_falls }
      where
        steady : Steady r
        steady =
            record {
              sound = subst Sound (sym p.stays.promise) s.sound;
              short = subst (λ q. q.period ≤ 10000) (sym p.stays.promise) s.short;
              tasks = omega (arith, p.stays.tasks, s.tasks);
              eight = p.eight;
              rest = λ j far. omega (arith, demand_falls j, s.rest j (omega (arith, p.stays.tasks)));
              first = p.first;
              opens = p.opens;
            }

        fit : (bs : List ℕ) → Fit bs h → Fit bs r
        fit bs b =
            record {
              steady = steady;
              waits = record {
                place = rw p.at b.waits.place;
                none = rw (p.at, p.tick) b.waits.none;
                next = λ i. next (b.waits.next (rw p.at at i));
              };
              own = λ at q l e. subst (λ n. (entry_at bs at).task < n) (sym p.stays.tasks) (b.own at q l (e ∙ p.stays.number));
              room = λ j. omega (arith, demand_falls j, b.room j, p.at);
            }
          where
            next : Next bs h → Next bs r
            next n =
                record {
                  booth = ap (λ a. (entry_at bs a).booth) p.at ∙ n.booth ∙ sym p.stays.number;
                  tick = ap (λ (x : WallTick). x.0) p.tick ∙ n.tick ∙ ap (λ a. (entry_at bs a).tick) (sym p.at);
                  point = ap (λ (x : OwnTick). x.0) p.point ∙ n.point ∙ ap (λ a. due h.promise (entry_at bs a).tick) (sym p.at) ∙ ap (λ q. due q (entry_at bs r.at).tick) (sym p.stays.promise);
                }

-- ---- asleep

-- before the tick of `wakes_at` a booth may not work, so it need not be asked
pub asleep_until : (l : Line) (bs : List ℕ) (h : HeldBooth) (row : List ℕ) (t : ℕ) → l.promise ≡ h.promise → WholeLog bs → Fit bs h → h.clock.0 ≤ due h.promise t → t < wakes_at h
    → may_work t (settle t (shown l bs h row)) ≡ false
unfolding wakes_at shown
asleep_until l bs h row t p log fit cap early = go (is_none h.first) refl
  where
    order : InOrder t (shown l bs h row)
    order = shown_in_order l bs h row t p log fit cap

    late : t < h.tick.0 → Late t (shown l bs h row).waiting
    late before = ends (dec_le (length bs) h.at)
      where
        ends : Dec (length bs ≤ h.at) → Late t (shown l bs h row).waiting
        ends (yes k) = rw (waiting_end bs h.number h.at fit.waits.place k) tt
        ends (no k) =
            let more : h.at < length bs = omega arith in
            rw (first_waits bs h fit more) (omega (arith, (fit.waits.next more).tick))

    go : (c : Bool) → is_none h.first ≡ c → may_work t (settle t (shown l bs h row)) ≡ false
    go true q = asleep_silent t (shown l bs h row) order (sym (held_none l bs h row fit.steady) ∙ q) (late (rw (q, wakes_at) at early))
    go false q =
        asleep_busy t (shown l bs h row) order (sym (held_none l bs h row fit.steady) ∙ q)
        (subst (λ x. due x (suc t) ≤ h.clock.0) (sym p) (not_yet_due h.promise fit.steady.sound h.clock.0 t (rw (q, wakes_at) at early)))
