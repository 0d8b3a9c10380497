-- A booth that takes its waiting entries one after the other settles as document 01 says. Assumes nothing.
use mathlib.Core.Path.{◌≡◌, refl, sym, ap, ◌∙◌, subst}
use mathlib.Core.Bool.{Bool, true, false, ◌&&◌, ◌||◌, or-true, true≢false}
use mathlib.Core.List.{List, [], ◌∷◌}
use Prim.Native.Nat.{ℕ, ◌+◌, ◌-◌, ◌≤◌, ◌<◌}
use native.Mathlib.Decide.{dec_le}
use native.Mathlib.Omega.{arith}
use lib.Dec.{leb}
use lib.ListN.{length, take, drop, replicate, length-replicate}
use borrow.Author.Tests.{leb-true}
use Rattle.rules.specs.declared.Promise.{Promise}
use Rattle.rules.specs.BoothTable.{Line}
use Rattle.rules.specs.ArrivalLog.{Entry}
use Rattle.rules.specs.Due.{due, playable_from, release_point}
use Rattle.rules.specs.Moves.{Booth, no_demand, settle}
use Rattle.rules.specs.InRange.{Sound}
use Rattle.laws.proofs.DueLaws.{due_mono, due_at_most, playable_soon}
use Rattle.laws.proofs.QuickSettle.{rest, rests, takes_first, settle_through, quick_settle}
use Rattle.laws.specs.Courses.{forward, add_first, after_first, InOrder}
use Rattle.laws.proofs.PageSettle.{settle_quick}
use Rattle.arrivals.specs.Places.{waiting_at, WholeLog}
use Rattle.arrivals.proofs.PlaceLaws.{waiting_end, waiting_sorted}
use Rattle.std.specs.Prelude.{is_none}
use Rattle.booth.specs.declared.Booth.{Booth as HeldBooth}
use Rattle.booth.specs.BoothHeld.{owed, shown, taken_next, takes_next, Steady, Fit, Stays, clock_at, lengthened}
use Rattle.booth.proofs.Demand.{with_is_none, none_taken}
use Rattle.booth.proofs.RowWritten.{written_behind, agree_later}
use Rattle.booth.proofs.Taking.{entry_of, taken_next_lem, first_waits, shown_moved}

-- the wall tick from which an own tick that is due may be played fits a number
pub near : (p : Promise) (u t : ℕ) → Sound p → p.period ≤ 10000 → t < 1000001 → u ≤ due p t → playable_from p u < 4294967296
near p u t s short early cap = omega (arith, playable_soon p s u t cap)

-- the held first task says whether demand is left
pub held_none : (l : Line) (bs : List ℕ) (h : HeldBooth) (row : List ℕ) → Steady h → is_none h.first ≡ no_demand (shown l bs h row).left
unfolding shown
held_none l bs h row s =
    ap is_none s.first ∙ with_is_none (owed h) ∙ sym (none_taken h.tasks (owed h) s.rest)

-- a booth in the hand of the code is in order, as the laws on settling ask
pub shown_in_order : (l : Line) (bs : List ℕ) (h : HeldBooth) (row : List ℕ) (t : ℕ) → l.promise ≡ h.promise → WholeLog bs → Fit bs h → h.clock.0 ≤ due h.promise t
    → InOrder t (shown l bs h row)
unfolding shown
shown_in_order l bs h row t q log fit cap =
    record { sound = subst Sound (sym q) fit.steady.sound; cap = subst (λ p. h.clock.0 ≤ due p t) (sym q) cap; sorted = waiting_sorted bs h.number h.at log fit.waits.place }

-- ---- quick settling takes the first entry, or rests

quick_takes : (t : ℕ) (b : Booth) (e : Entry) (es : List Entry) → b.waiting ≡ e ∷ es → takes_first t e b ≡ true → quick_settle t (after_first e es b) ≡ quick_settle t b
unfolding quick_settle settle_through add_first
quick_takes t b e es w q = sym (ap (λ x. settle_through t x b) w ∙ rw (q, settle_through))

quick_stops : (t : ℕ) (b : Booth) (e : Entry) (es : List Entry) → b.waiting ≡ e ∷ es → takes_first t e b ≡ false → quick_settle t b ≡ rest t b
unfolding quick_settle settle_through
quick_stops t b e es w q = ap (λ x. settle_through t x b) w ∙ rw (q, settle_through)

quick_ends : (t : ℕ) (b : Booth) → b.waiting ≡ [] → quick_settle t b ≡ rest t b
unfolding quick_settle settle_through
quick_ends t b w = ap (λ x. settle_through t x b) w

swap_or : (a b : Bool) → (a || b) ≡ (b || a)
swap_or true b = sym (or-true b)
swap_or false true = refl
swap_or false false = refl

pub both_true : (a b : Bool) → (a && b) ≡ true → (a ≡ true) × (b ≡ true)
both_true true b q = (refl, q)
both_true false b q = absurd (true≢false (sym q))

module _ (bs : List ℕ) (h : HeldBooth) (row : List ℕ) (t : ℕ) (fit : Fit bs h) where
  -- the code's test is the rule's
  takes_alike : (l : Line) → l.promise ≡ h.promise → h.at < length bs → takes_first t (entry_of bs h) (shown l bs h row) ≡ takes_next t h
  unfolding takes_first takes_next shown release_point
  takes_alike l q more =
      let n = fit.waits.next more in
      ap (λ p. leb (entry_of bs h).tick t && (leb (due p (entry_of bs h).tick) h.clock.0 || no_demand (take h.tasks (owed h)))) q
      ∙ ap (λ x. leb (entry_of bs h).tick t && x)
      (swap_or (leb (due h.promise (entry_of bs h).tick) h.clock.0) (no_demand (take h.tasks (owed h)))
      ∙ ap (λ x. x || leb (due h.promise (entry_of bs h).tick) h.clock.0) (sym (held_none l bs h row fit.steady))
      ∙ ap (λ x. is_none h.first || leb x h.clock.0) (sym n.point))
      ∙ ap (λ x. leb x t && (is_none h.first || leb h.point.0 h.clock.0)) (sym n.tick)

  pub has_come : takes_next t h ≡ true → h.tick.0 ≤ t
  unfolding takes_next
  has_come q = leb-true h.tick.0 t (both_true (leb h.tick.0 t) (is_none h.first || leb h.point.0 h.clock.0) q).0

  -- an entry that is taken stands in the log
  pub takes_inside : t < 1000001 → takes_next t h ≡ true → h.at < length bs
  takes_inside early q = go (dec_le (length bs) h.at)
    where
      go : Dec (length bs ≤ h.at) → h.at < length bs
      go (yes k) = absurd (omega (arith, has_come q, fit.waits.none k))
      go (no k) = omega arith

  -- and its point is due by then
  pub point_due : h.at < length bs → takes_next t h ≡ true → h.point.0 ≤ due h.promise t
  point_due more q =
      let n = fit.waits.next more in
      omega (arith, n.point, due_mono h.promise fit.steady.sound (entry_of bs h).tick t (omega (arith, has_come q, n.tick)))

  quick_taken : (l : Line) → l.promise ≡ h.promise → h.at < length bs → takes_next t h ≡ true → quick_settle t (taken_next (shown l bs h row)) ≡ quick_settle t (shown l bs h row)
  unfolding shown
  quick_taken l p more q =
      let es = waiting_at bs h.number (h.at + 9) in
      ap (quick_settle t) (taken_next_lem (shown l bs h row) (entry_of bs h) es (first_waits bs h fit more))
      ∙ quick_takes t (shown l bs h row) (entry_of bs h) es (first_waits bs h fit more) (takes_alike l p more ∙ q)

  quick_left : (l : Line) → l.promise ≡ h.promise → takes_next t h ≡ false → quick_settle t (shown l bs h row) ≡ rest t (shown l bs h row)
  unfolding shown
  quick_left l p q = go (dec_le (length bs) h.at)
    where
      go : Dec (length bs ≤ h.at) → quick_settle t (shown l bs h row) ≡ rest t (shown l bs h row)
      go (yes k) = quick_ends t (shown l bs h row) (waiting_end bs h.number h.at fit.waits.place k)
      go (no k) =
          let more : h.at < length bs = omega arith in
          quick_stops t (shown l bs h row) (entry_of bs h) (waiting_at bs h.number (h.at + 9)) (first_waits bs h fit more) (takes_alike l p more ∙ q)

-- ---- the booth on its way through its waiting entries

pub record Settling (bs : List ℕ) (t : ℕ) (h₀ : HeldBooth) (row₀ : List ℕ) (h : HeldBooth) (row : List ℕ) : Type 0 where
  pub fit : Fit bs h
  pub stays : Stays h₀ h
  pub grown : h₀.clock.0 ≤ h.clock.0
  pub cap : h.clock.0 ≤ due h.promise t
  pub behind : drop h.clock.0 row ≡ drop h.clock.0 row₀
  pub long : length row ≡ length row₀
  pub same : (l : Line) → l.promise ≡ h₀.promise → quick_settle t (shown l bs h row) ≡ quick_settle t (shown l bs h₀ row₀)

pub settles_first : (bs : List ℕ) (t : ℕ) (h : HeldBooth) (row : List ℕ) → Fit bs h → h.clock.0 ≤ due h.promise t → Settling bs t h row h row
settles_first bs t h row fit cap = record { fit = fit; stays = record { number = refl; promise = refl; tasks = refl }; grown = omega arith; cap = cap; behind = refl; long = refl; same = λ l q. refl }

-- a row of t own ticks has room for all that is due at t
pub due_fits : (bs : List ℕ) (t : ℕ) (h₀ : HeldBooth) (row₀ : List ℕ) (h : HeldBooth) (row : List ℕ) → Settling bs t h₀ row₀ h row → t ≤ length row₀
    → (h.clock.0 ≤ length row) × (due h.promise t ≤ length row)
due_fits bs t h₀ row₀ h row s fits =
    let most = due_at_most h.promise s.fit.steady.sound t in
    (omega (arith, s.cap, s.long), omega (arith, s.long))

module _ (bs : List ℕ) (t : ℕ) (h₀ : HeldBooth) (row₀ : List ℕ) (h : HeldBooth) (row : List ℕ) (s : Settling bs t h₀ row₀ h row) (inside : h.clock.0 ≤ length row) where
  -- what lies behind the ticks that are written is still as it was at first
  pub behind_moved : (v : ℕ) → drop (h.clock.0 + (v - h.clock.0)) (lengthened row h.clock.0 (replicate (v - h.clock.0) 255)) ≡ drop (h.clock.0 + (v - h.clock.0)) row₀
  behind_moved v =
      let u = h.clock.0 in
      let ticks : List ℕ = replicate (v - u) 255 in
      ap (λ n. drop (u + n) (lengthened row u ticks)) (sym (length-replicate {A = ℕ} (v - u) 255))
      ∙ written_behind row u ticks inside
      ∙ ap (λ n. drop (u + n) row) (length-replicate {A = ℕ} (v - u) 255)
      ∙ agree_later row row₀ u (u + (v - u)) (omega arith) s.behind

  module _ (more : h.at < length bs) (takes : takes_next t h ≡ true) (r : HeldBooth) (row' : List ℕ) (fit : Fit bs r) (stays : Stays h r)
      (state : (l : Line) → l.promise ≡ h.promise → shown l bs r row' ≡ taken_next (shown l bs h row))
      (written : row' ≡ lengthened row h.clock.0 (replicate (h.point.0 - h.clock.0) 255)) (long : length row' ≡ length row) where
    clock_taken : r.clock.0 ≡ h.clock.0 + (h.point.0 - h.clock.0)
    unfolding shown add_first forward release_point
    clock_taken =
        let es = waiting_at bs h.number (h.at + 9) in
        let e = entry_of bs h in
        let l : Line = record { promise = h.promise; longest = [] } in
        ap (λ (b : Booth). b.u) (state l refl ∙ taken_next_lem (shown l bs h row) e es (first_waits bs h s.fit more))
        ∙ ap (λ p. h.clock.0 + (p - h.clock.0)) (sym (s.fit.waits.next more).point)

    -- a booth that has taken an entry is still on its way
    pub settles_on : Settling bs t h₀ row₀ r row'
    settles_on =
        record {
          fit = fit;
          stays = record { number = stays.number ∙ s.stays.number; promise = stays.promise ∙ s.stays.promise; tasks = stays.tasks ∙ s.stays.tasks };
          grown = omega (arith, clock_taken, s.grown);
          cap = rw stays.promise (omega (arith, clock_taken, s.cap, point_due bs h row t s.fit more takes));
          behind = ap (λ u. drop u row') clock_taken ∙ ap (drop (h.clock.0 + (h.point.0 - h.clock.0))) written ∙ behind_moved h.point.0 ∙ ap (λ u. drop u row₀) (sym clock_taken);
          long = long ∙ s.long;
          same = λ l q. ap (quick_settle t) (state l (q ∙ sym s.stays.promise)) ∙ quick_taken bs h row t s.fit l (q ∙ sym s.stays.promise) more takes ∙ s.same l q;
        }

  module _ (log : WholeLog bs) (fit₀ : Fit bs h₀) (cap₀ : h₀.clock.0 ≤ due h₀.promise t) (stops : takes_next t h ≡ false) (l : Line) (q : l.promise ≡ h₀.promise) where
    rests_now : rest t (shown l bs h row) ≡ settle t (shown l bs h₀ row₀)
    rests_now =
        sym (quick_left bs h row t s.fit l (q ∙ sym s.stays.promise) stops)
        ∙ s.same l q
        ∙ sym (settle_quick t (shown l bs h₀ row₀) (shown_in_order l bs h₀ row₀ t q log fit₀ cap₀))

    -- with demand left it has settled
    pub settled_busy : is_none h.first ≡ false → shown l bs h row ≡ settle t (shown l bs h₀ row₀)
    settled_busy busy =
        let some : no_demand (shown l bs h row).left ≡ false = sym (held_none l bs h row s.fit.steady) ∙ busy in
        sym (rests t (shown l bs h row) (λ x. x ≡ shown l bs h row) (λ z. absurd (true≢false (sym z ∙ some))) (λ z. refl)) ∙ rests_now

    -- with none, once its clock has moved on to due(t)
    pub settled_free : is_none h.first ≡ true → (v : ℕ) → v ≡ due h.promise t
        → shown l bs (clock_at h (h.clock.0 + (v - h.clock.0))) (lengthened row h.clock.0 (replicate (v - h.clock.0) 255)) ≡ settle t (shown l bs h₀ row₀)
    unfolding shown
    settled_free free v is =
        let none : no_demand (shown l bs h row).left ≡ true = sym (held_none l bs h row s.fit.steady) ∙ free in
        shown_moved l bs h row v inside
        ∙ ap (λ x. forward x (shown l bs h row)) (is ∙ ap (λ p. due p t) (s.stays.promise ∙ sym q))
        ∙ sym (rests t (shown l bs h row) (λ x. x ≡ forward (due l.promise t) (shown l bs h row)) (λ z. refl) (λ z. absurd (true≢false (sym none ∙ z))))
        ∙ rests_now
