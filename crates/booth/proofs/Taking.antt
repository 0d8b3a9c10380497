-- What a booth shows as its code takes the first waiting entry or moves its clock. Assumes nothing.
use mathlib.Core.Path.{◌≡◌, refl, sym, ap, ◌∙◌, subst}
use mathlib.Core.List.{List, ◌∷◌, ◌++◌}
use Prim.Native.Nat.{ℕ, ◌+◌, ◌-◌, ◌*◌, ◌≤◌, ◌<◌}
use native.Mathlib.Decide.{ℕ_discrete}
use native.Mathlib.Omega.{arith}
use lib.ListN.{length, get_or, take, set, replicate, length-set, length-replicate}
use lib.Seq.{get_or-set_same, get_or-set_other, set-get_or}
use Rattle.rules.specs.BoothTable.{Line}
use Rattle.rules.specs.ArrivalLog.{Entry, entry_at}
use Rattle.rules.specs.Due.{due, release_point}
use Rattle.rules.specs.Moves.{Booth, add_demand}
use Rattle.laws.specs.Courses.{forward, add_first, after_first}
use Rattle.arrivals.specs.Places.{waiting_at}
use Rattle.arrivals.proofs.PlaceLaws.{whole_entry, waiting_own}
use Rattle.booth.specs.declared.Booth.{Booth as HeldBooth}
use Rattle.booth.specs.BoothHeld.{first_number, first_with, owed, shown, taken_next, Next, Waits, Fit, Looked, looking_at, demanding, clock_at, lengthened}
use Rattle.booth.proofs.Demand.{add_taken, owed_eight}
use Rattle.booth.proofs.RowWritten.{written_front}

-- ---- the clock moves

-- the clock moves on to v, and the own ticks passed over are written
pub shown_moved : (l : Line) (bs : List ℕ) (h : HeldBooth) (row : List ℕ) (v : ℕ) → h.clock.0 ≤ length row
    → shown l bs (clock_at h (h.clock.0 + (v - h.clock.0))) (lengthened row h.clock.0 (replicate (v - h.clock.0) 255)) ≡ forward v (shown l bs h row)
unfolding shown clock_at forward owed
shown_moved l bs h row v inside =
    let u = h.clock.0 in
    let ticks : List ℕ = replicate (v - u) 255 in
    let front : take (u + (v - u)) (lengthened row u ticks) ≡ take u row ++ ticks =
    ap (λ n. take (u + n) (lengthened row u ticks)) (sym (length-replicate {A = ℕ} (v - u) 255)) ∙ written_front row u ticks inside in
    rw front

pub fit_moved : (bs : List ℕ) (h : HeldBooth) (u : ℕ) → Fit bs h → Fit bs (clock_at h u)
unfolding clock_at owed
fit_moved bs h u f =
    record {
      steady = record { sound = f.steady.sound; short = f.steady.short; tasks = f.steady.tasks; eight = f.steady.eight; rest = f.steady.rest; first = f.steady.first; opens = refl };
      waits = record {
        place = f.waits.place;
        none = f.waits.none;
        next = λ i. let n = f.waits.next i in record { booth = n.booth; tick = n.tick; point = n.point };
      };
      own = f.own;
      room = f.room;
    }

-- ---- the first waiting entry is added

abbrev pub entry_of : List ℕ → HeldBooth → Entry
entry_of bs h = entry_at bs h.at

-- a booth at its first waiting entry's point, with the entry's demand added to its task
abbrev pub added : List ℕ → HeldBooth → HeldBooth
added bs h =
    demanding (clock_at h (h.clock.0 + (h.point.0 - h.clock.0)))
    (set (owed h) (entry_of bs h).task (get_or (owed h) (entry_of bs h).task 0 + (entry_of bs h).demand))

-- its demand is that, wherever it looks
owed_looking : (h : HeldBooth) (ds : List ℕ) (at tick point : ℕ) → owed (looking_at (demanding h ds) at tick point) ≡ ds
unfolding owed looking_at demanding
owed_looking h ds at tick point = set-get_or ds (first_number (first_with ds)) 0

pub owed_moved : (h : HeldBooth) (u : ℕ) → owed (clock_at h u) ≡ owed h
unfolding owed clock_at
owed_moved h u = refl

pub taken_next_lem : (b : Booth) (e : Entry) (es : List Entry) → b.waiting ≡ e ∷ es → taken_next b ≡ after_first e es b
unfolding taken_next add_first forward
taken_next_lem b e es q = rw (q, taken_next)

module _ (bs : List ℕ) (h : HeldBooth) (fit : Fit bs h) (more : h.at < length bs) where
  next : Next bs h
  next = fit.waits.next more

  -- its task is one of the booth's
  pub own_task : (entry_of bs h).task < h.tasks
  own_task = fit.own h.at fit.waits.place more next.booth

  inside_demand : (entry_of bs h).task < length (owed h)
  inside_demand = omega (arith, own_task, owed_eight h, fit.steady.eight, fit.steady.tasks)

  pub first_waits : waiting_at bs h.number h.at ≡ entry_of bs h ∷ waiting_at bs h.number (h.at + 9)
  first_waits = waiting_own bs h.number h.at fit.waits.place more next.booth

  -- what is added leaves room for all that still waits
  pub room_for : (entry_of bs h).demand ≤ 65535 → (k : ℕ) → (get_or (owed h) k 0 + (entry_of bs h).demand) * 9 + 65535 * (length bs - (h.at + 9)) ≤ 65535 * 36873
  room_for small k = omega (arith, fit.room k, (whole_entry bs h.at fit.waits.place more).0)

  module _ (row : List ℕ) (inside : h.clock.0 ≤ length row) (r : HeldBooth) (looked : Looked bs (added bs h) (h.at + 9) r) where
    pub shown_taken : (l : Line) → l.promise ≡ h.promise → shown l bs r (lengthened row h.clock.0 (replicate (h.point.0 - h.clock.0) 255)) ≡ taken_next (shown l bs h row)
    unfolding shown add_first looking_at demanding clock_at release_point
    shown_taken l q =
        let e = entry_of bs h in
        let u = h.clock.0 + (h.point.0 - h.clock.0) in
        let row' = lengthened row h.clock.0 (replicate (h.point.0 - h.clock.0) 255) in
        let es = waiting_at bs h.number (h.at + 9) in
        let left : take h.tasks (owed (looking_at (added bs h) r.at r.tick.0 r.point.0)) ≡ add_demand e.task e.demand (take h.tasks (owed (clock_at h u))) =
        ap (take h.tasks) (owed_looking (clock_at h u) (set (owed h) e.task (get_or (owed h) e.task 0 + e.demand)) r.at r.tick.0 r.point.0)
        ∙ sym (add_taken h.tasks e.task e.demand (owed h) own_task inside_demand)
        ∙ ap (λ ds. add_demand e.task e.demand (take h.tasks ds)) (sym (owed_moved h u)) in
        let seen : shown l bs (looking_at (added bs h) r.at r.tick.0 r.point.0) row' ≡ add_first e es (shown l bs (clock_at h u) row') =
        ap (λ x. record { line = l; u = u; left = x; waiting = waiting_at bs h.number r.at; row = take u row' }) left
        ∙ ap (λ w. record { line = l; u = u; left = add_demand e.task e.demand (take h.tasks (owed (clock_at h u))); waiting = w; row = take u row' }) looked.same in
        ap (λ x. shown l bs x row') looked.is
        ∙ seen
        ∙ ap (add_first e es) (shown_moved l bs h row h.point.0 inside)
        ∙ ap (λ p. add_first e es (forward p (shown l bs h row))) (next.point ∙ ap (λ p. due p e.tick) (sym q))
        ∙ sym (taken_next_lem (shown l bs h row) e es first_waits)

    pub fit_taken : (entry_of bs h).demand ≤ 65535 → Fit bs r
    unfolding looking_at demanding clock_at
    fit_taken small = subst (Fit bs) (sym looked.is) at_look
      where
        e : Entry
        e = entry_of bs h

        x : ℕ
        x = get_or (owed h) e.task 0 + e.demand

        looks : HeldBooth
        looks = looking_at (added bs h) r.at r.tick.0 r.point.0

        now_owed : owed looks ≡ set (owed h) e.task x
        now_owed = owed_looking (clock_at h (h.clock.0 + (h.point.0 - h.clock.0))) (set (owed h) e.task x) r.at r.tick.0 r.point.0

        other : (k : ℕ) → (k ≡ e.task → ⊥) → get_or (owed looks) k 0 ≡ get_or (owed h) k 0
        other k ne = ap (λ ds. get_or ds k 0) now_owed ∙ get_or-set_other (owed h) e.task k x 0 ne

        same : get_or (owed looks) e.task 0 ≡ x
        same = ap (λ ds. get_or ds e.task 0) now_owed ∙ get_or-set_same (owed h) e.task x 0 inside_demand

        room : (k : ℕ) → Dec (k ≡ e.task) → get_or (owed looks) k 0 * 9 + 65535 * (length bs - r.at) ≤ 65535 * 36873
        room k (yes q) = rw (q, same) (omega (arith, room_for small e.task, looked.later))
        room k (no ne) = rw (other k ne) (omega (arith, fit.room k, looked.later))

        at_look : Fit bs looks
        at_look =
            record {
              steady = record {
                sound = fit.steady.sound;
                short = fit.steady.short;
                tasks = fit.steady.tasks;
                eight = length-set (owed h) e.task x ∙ owed_eight h ∙ fit.steady.eight;
                rest = λ k far. other k (λ q. omega (arith, q, own_task)) ∙ fit.steady.rest k far;
                first = ap first_with (sym now_owed);
                opens = refl;
              };
              waits = subst (Waits bs) looked.is looked.waits;
              own = fit.own;
              room = λ k. room k (ℕ_discrete k e.task);
            }
