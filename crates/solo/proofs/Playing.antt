-- A player keeps what its record says: at the start, over each entry it passes, and over each own tick. Assumes nothing.
use mathlib.Core.Path.{◌≡◌, refl, sym, ap, ◌∙◌, subst}
use mathlib.Core.Logic.{◌⊎◌, inl, inr, ◌≢◌}
use mathlib.Core.Bool.{true}
use mathlib.Core.List.{List, [], ◌∷◌, ◌++◌}
use Prim.Native.Nat.{ℕ, suc, ◌+◌, ◌-◌, ◌≤◌, ◌<◌}
use native.Mathlib.Decide.{ℕ_discrete, dec_le}
use native.Mathlib.Numerals.{add-one}
use native.Mathlib.Omega.{arith}
use Rattle.std.specs.Prelude.{Option, Some, None, IsSomeAnd, IfSome}
use lib.Dec.{ltb}
use lib.ListN.{length, get_or, set, drop, length-set, length-append}
use lib.Seq.{get_or-set_same, get_or-set_other, length-take-le, set_at, drop-cons, append_snoc}
use borrow.Author.Tests.{lt-ltb, le-ltb, ltb-true}
use Rattle.rules.specs.declared.Line.{Line as HeldLine}
use Rattle.rules.specs.declared.OwnTick.{OwnTick}
use Rattle.base.specs.Bytes.{written}
use Rattle.rules.specs.BoothTable.{Line}
use Rattle.rules.specs.ArrivalLog.{Entry, entry_at}
use Rattle.rules.specs.Due.{due, release_point}
use Rattle.rules.specs.Moves.{nobody, first_task}
use Rattle.rules.specs.Session.{count}
use Rattle.rules.specs.SoloPart.{asked, first_that, solo}
use Rattle.rules.specs.Values.{line_held}
use Rattle.rules.proofs.Counting.{count_nil, count_append, count_same, count_other}
use Rattle.laws.proofs.Opening.{length_solo}
use Rattle.laws.proofs.LentRows.{length_written}
use Rattle.solo.specs.declared.Player.{Player}
use Rattle.solo.specs.declared.SoloBooth.{SoloBooth}
use Rattle.solo.specs.Alone.{Alone, own_tick}
use Rattle.solo.specs.Played.{Point, Plays, Admitted, Passed}
use Rattle.arrivals.specs.Places.{waiting_at, Place}
use Rattle.arrivals.proofs.PlaceLaws.{first_place, whole_entry, waiting_own, waiting_other}
use Rattle.solo.proofs.AskedSoFar.{asked_task, asked_elsewhere, none_asked}
use Rattle.rules.proofs.FirstDemand.{first_that_lem}
use Rattle.rules.proofs.FirstThat.{found, alike}

-- a store at one task
stored : (xs : List ℕ) (i v k : ℕ) → i < length xs → (k ≡ i → get_or (set xs i v) k 0 ≡ v) × (k ≢ i → get_or (set xs i v) k 0 ≡ get_or xs k 0)
stored xs i v k h = ((λ e. ap (λ j. get_or (set xs i v) j 0) e ∙ get_or-set_same xs i v 0 h), get_or-set_other xs i k v 0)

-- a release point that is reached, and one that is not
due_by : (point : Option OwnTick) (d u : ℕ) → IsSomeAnd point (λ p. p.0 ≡ d) → IsSomeAnd point (λ p. p.0 ≤ u) → d ≤ u
due_by (Some p) d u is early = omega (arith, is, early)
due_by None d u is early = absurd is

due_later : (point : Option OwnTick) (d u : ℕ) → IsSomeAnd point (λ p. p.0 ≡ d) → IfSome point (λ p. u < p.0) → u < d
due_later (Some p) d u is later = omega (arith, is, later)
due_later None d u is later = absurd is

module _ (b : SoloBooth) where
  abbrev bs : List ℕ
  bs = b.log.now

  abbrev line : HeldLine
  line = b.line

  abbrev booth : ℕ
  booth = b.number

  abbrev a : Alone bs line booth
  a = b.alone

  abbrev l : Line
  l = line_held line

  abbrev es : List Entry
  es = waiting_at bs booth 9

  pub starts : (point : Option OwnTick) (left : List ℕ) → Point b 9 point → length left ≡ 8 → ((k : ℕ) → get_or left k 0 ≡ 0)
      → Plays b 0 (record { next = 9; point = point; left = left })
  unfolding solo
  starts point left p e z = record {
    place = first_place a.log;
    point = p;
    eight = e;
    rest = λ k h. z k;
    room = λ k. omega (arith, z k, a.log.short);
    sums = λ n k h j. omega (arith, z k, count_nil k);
  }

  -- ---- an entry whose point is reached

  pub there : (u : ℕ) (p : Player) → Plays b u p → IsSomeAnd p.point (λ point. point.0 ≤ u) → p.next < length bs
  there u p plays reached = go (dec_le (length bs) p.next)
    where
      go : Dec (length bs ≤ p.next) → p.next < length bs
      go (yes h) = absurd (subst (λ o. IsSomeAnd o (λ point. point.0 ≤ u)) (plays.point.none h) reached)
      go (no h) = omega arith

  module _ (u : ℕ) (p r : Player) (plays : Plays b u p) (reached : IsSomeAnd p.point (λ point. point.0 ≤ u)) (inside : p.next < length bs) (passed : Passed b p r) where
    abbrev e : Entry
    e = entry_at bs p.next

    abbrev asks_task : ℕ
    asks_task = get_or p.left e.task 0 + e.demand

    -- what the player holds and what still waits add up to what they did
    Kept : Type 0
    Kept =
        (length r.left ≡ 8)
        × ((k : ℕ) → line.tasks ≤ k → get_or r.left k 0 ≡ get_or p.left k 0)
        × ((k : ℕ) → get_or r.left k 0 ≤ get_or p.left k 0 + 65535)
        × ((n k : ℕ) → u ≤ n → get_or r.left k 0 + asked l (waiting_at bs booth (p.next + 9)) n k ≡ get_or p.left k 0 + asked l (waiting_at bs booth p.next) n k)

    kept_own : e.booth ≡ booth → Kept
    unfolding Kept release_point line_held
    kept_own own = (
      ap length (passed.own own).1 ∙ length-set p.left e.task asks_task ∙ plays.eight,
      (λ k h. elsewhere k (λ q. absurd (omega (arith, below)))),
      (λ k. more k (ℕ_discrete k e.task)),
      λ n k h. sums n k h (ℕ_discrete k e.task),
    )
      where
        below : e.task < line.tasks
        below = a.task p.next plays.place inside own

        within : e.task < length p.left
        within = omega (arith, below, a.tasks, plays.eight)

        here : (k : ℕ) → k ≡ e.task → get_or r.left k 0 ≡ get_or p.left k 0 + e.demand
        here k q =
            ap (λ xs. get_or xs k 0) (passed.own own).1 ∙ (stored p.left e.task asks_task k within).0 q ∙ ap (λ j. get_or p.left j 0 + e.demand) (sym q)

        elsewhere : (k : ℕ) → k ≢ e.task → get_or r.left k 0 ≡ get_or p.left k 0
        elsewhere k q = ap (λ xs. get_or xs k 0) (passed.own own).1 ∙ (stored p.left e.task asks_task k within).1 q

        more : (k : ℕ) → Dec (k ≡ e.task) → get_or r.left k 0 ≤ get_or p.left k 0 + 65535
        more k (yes q) = omega (arith, here k q, (passed.own own).0)
        more k (no q) = omega (arith, elsewhere k q)

        now_waiting : (n k : ℕ) → asked l (waiting_at bs booth p.next) n k ≡ asked l (e ∷ waiting_at bs booth (p.next + 9)) n k
        now_waiting n k = ap (λ xs. asked l xs n k) (waiting_own bs booth p.next plays.place inside own)

        sums : (n k : ℕ) → u ≤ n → Dec (k ≡ e.task)
            → get_or r.left k 0 + asked l (waiting_at bs booth (p.next + 9)) n k ≡ get_or p.left k 0 + asked l (waiting_at bs booth p.next) n k
        sums n k h (yes q) =
            omega (arith, here k q, now_waiting n k, asked_task l e (waiting_at bs booth (p.next + 9)) n k (omega (arith, due_by p.point (due line.promise e.tick) u (plays.point.some inside) reached)) (sym q))
        sums n k h (no q) = omega (arith, elsewhere k q, now_waiting n k, asked_elsewhere l e (waiting_at bs booth (p.next + 9)) n k (λ z. q (sym z)))

    kept_other : e.booth ≢ booth → Kept
    unfolding Kept
    kept_other o =
        let left : r.left ≡ p.left = passed.other o in (
          ap length left ∙ plays.eight,
          (λ k h. ap (λ xs. get_or xs k 0) left),
          (λ k. omega (arith, ap (λ xs. get_or xs k 0) left)),
          λ n k h. omega (arith, ap (λ xs. get_or xs k 0) left, ap (λ xs. asked l xs n k) (waiting_other bs booth p.next plays.place inside o)),
        )

    kept : Dec (e.booth ≡ booth) → Kept
    kept (yes o) = kept_own o
    kept (no o) = kept_other o

    pub plays_on : Plays b u r
    unfolding Kept
    plays_on =
        let k = kept (ℕ_discrete e.booth booth) in
        let whole = whole_entry bs p.next plays.place inside in
        record {
          place = subst (Place bs) (sym passed.next) whole.1;
          point = subst (λ i. Point b i r.point) (sym passed.next) passed.point;
          eight = k.0;
          rest = λ j h. k.1 j h ∙ plays.rest j h;
          room = λ j. omega (arith, passed.next, whole.0, k.2 j, plays.room j);
          sums = λ n j h i. omega (arith, plays.sums n j h i, k.3 n j h, ap (λ x. asked l (waiting_at bs booth x) n j) passed.next);
        }

  -- ---- one own tick

  tasks_are : length l.longest ≡ line.tasks
  unfolding line_held
  tasks_are = length-take-le line.tasks line.longest (omega (arith, a.tasks, a.eight))

  module _ (u : ℕ) (p : Player) (now : Admitted b u p) where
    abbrev tick : ℕ
    tick = own_tick l es u

    asked_now : (k : ℕ) → k < line.tasks → asked l es u k ≡ get_or p.left k 0 + count k (solo l es u)
    asked_now k h =
        omega (
          arith,
          now.plays.sums u k (omega arith) h,
          none_asked bs line booth a p.next u k now.plays.place (λ i. due_later p.point _ u (now.plays.point.some i) now.later),
        )

    asks : (k : ℕ) → k < line.tasks → ltb 0 (get_or p.left k 0) ≡ ltb (count k (solo l es u)) (asked l es u k)
    asks k h = go (dec_le (get_or p.left k 0) 0) (asked_now k h)
      where
        go : Dec (get_or p.left k 0 ≤ 0) → asked l es u k ≡ get_or p.left k 0 + count k (solo l es u)
            → ltb 0 (get_or p.left k 0) ≡ ltb (count k (solo l es u)) (asked l es u k)
        go (yes z) s = le-ltb 0 (get_or p.left k 0) z ∙ sym (le-ltb (count k (solo l es u)) (asked l es u k) (omega arith))
        go (no z) s = lt-ltb 0 (get_or p.left k 0) (omega arith) ∙ sym (lt-ltb (count k (solo l es u)) (asked l es u k) (omega arith))

    -- the first task with something left is the one that the solo part plays
    pub picked : first_task 0 p.left ≡ tick
    unfolding own_tick
    picked =
        first_that_lem line.tasks p.left now.plays.rest
        ∙ alike (λ k. ltb 0 (get_or p.left k 0)) (λ k. ltb (count k (solo l es u)) (asked l es u k)) line.tasks 0 (λ k h. asks k (omega arith))
        ∙ ap (λ m. first_that (λ k. ltb (count k (solo l es u)) (asked l es u k)) m 0) (sym tasks_are)

    task_picked : tick ≢ nobody → (tick < line.tasks) × (0 < get_or p.left tick 0)
    unfolding own_tick
    task_picked some = go (found (λ k. ltb (count k (solo l es u)) (asked l es u k)) (length l.longest) 0)
      where
        go : (tick ≡ nobody) ⊎ ((tick < 0 + length l.longest) × (ltb (count tick (solo l es u)) (asked l es u tick) ≡ true)) → (tick < line.tasks) × (0 < get_or p.left tick 0)
        go (inl z) = absurd (some z)
        go (inr z) =
            let below : tick < line.tasks = omega (arith, tasks_are, z.0) in
            (below, ltb-true 0 (get_or p.left tick 0) (asks tick below ∙ z.1))

    solo_step : solo l es (u + 1) ≡ solo l es u ++ (tick ∷ [])
    unfolding solo own_tick
    solo_step = rw (add-one u)

    turn : (left : List ℕ) → length left ≡ 8 → ((k : ℕ) → get_or left k 0 ≤ get_or p.left k 0) → ((k : ℕ) → k < line.tasks → get_or p.left k 0 ≡ get_or left k 0 + count k (tick ∷ []))
        → Plays b (u + 1) (record { next = p.next; point = p.point; left = left })
    turn left e less lost = record {
      place = now.plays.place;
      point = now.plays.point;
      eight = e;
      rest = λ k h. omega (arith, now.plays.rest k h, less k);
      room = λ k. omega (arith, now.plays.room k, less k);
      sums = λ n k h j. omega (arith, now.plays.sums n k (omega arith) j, lost k j, ap (count k) solo_step, count_append k (solo l es u) (tick ∷ []));
    }

    silent : tick ≡ nobody → Plays b (u + 1) p
    silent z =
        turn p.left now.plays.eight (λ k. omega arith)
        (λ k h. omega (arith, count_other k tick [] (λ q. absurd (omega (arith, a.tasks))), count_nil k))

    worked : tick ≢ nobody → Plays b (u + 1) (record { next = p.next; point = p.point; left = set p.left tick (get_or p.left tick 0 - 1) })
    worked some =
        turn after (length-set p.left tick (get_or p.left tick 0 - 1) ∙ now.plays.eight) (λ k. less k (ℕ_discrete k tick)) (λ k h. lost k (ℕ_discrete k tick))
      where
        after : List ℕ
        after = set p.left tick (get_or p.left tick 0 - 1)

        within : tick < length p.left
        within = omega (arith, (task_picked some).0, a.tasks, now.plays.eight)

        less : (k : ℕ) → Dec (k ≡ tick) → get_or after k 0 ≤ get_or p.left k 0
        less k (yes q) = omega (arith, (stored p.left tick (get_or p.left tick 0 - 1) k within).0 q, ap (λ j. get_or p.left j 0) q)
        less k (no q) = omega (arith, (stored p.left tick (get_or p.left tick 0 - 1) k within).1 q)

        lost : (k : ℕ) → Dec (k ≡ tick) → get_or p.left k 0 ≡ get_or after k 0 + count k (tick ∷ [])
        lost k (yes q) =
            omega (
              arith,
              (stored p.left tick (get_or p.left tick 0 - 1) k within).0 q,
              ap (λ j. get_or p.left j 0) q,
              (task_picked some).1,
              count_same k tick [] (sym q),
              count_nil k,
            )
        lost k (no q) =
            omega (arith, (stored p.left tick (get_or p.left tick 0 - 1) k within).1 q, count_other k tick [] (λ z. q (sym z)), count_nil k)

    -- a task that is found has something left, and plays; where none is found, nobody plays
    some_task : (k : ℕ) → k ≡ first_task 0 p.left → k < length p.left → tick ≢ nobody
    some_task k is within z = absurd (omega (arith, z, is, picked, within, now.plays.eight))

    pub task_left : (k : ℕ) → k ≡ first_task 0 p.left → k < length p.left → 0 < get_or p.left k 0
    task_left k is within = subst (λ j. 0 < get_or p.left j 0) (sym (is ∙ picked)) (task_picked (some_task k is within)).1

    pub task_plays : (k : ℕ) → k ≡ first_task 0 p.left → k < length p.left
        → Plays b (u + 1) (record { next = p.next; point = p.point; left = set p.left k (get_or p.left k 0 - 1) })
    task_plays k is within =
        subst (λ j. Plays b (u + 1) (record { next = p.next; point = p.point; left = set p.left j (get_or p.left j 0 - 1) }))
        (sym (is ∙ picked)) (worked (some_task k is within))

    pub nobody_plays : nobody ≡ first_task 0 p.left → Plays b (u + 1) p
    nobody_plays is = silent (sym (is ∙ picked))

-- ---- the part as far as u own ticks

pub none_written : (l : Line) (es : List Entry) (lent : List ℕ) → lent ≡ written 0 (solo l es 0) lent
unfolding written solo
none_written _ _ _ = refl

-- one byte more
pub written_more : (l : Line) (es : List Entry) (u : ℕ) (part lent : List ℕ) → u < length lent → part ≡ written 0 (solo l es u) lent
    → set part u (own_tick l es u) ≡ written 0 (solo l es (u + 1)) lent
unfolding written solo own_tick
written_more l es u part lent h e =
    let p = solo l es u in
    let x = own_tick l es u in
    let len : length p ≡ u = length_solo l es u in
    let next : suc (0 + u) ≡ 0 + length (p ++ (x ∷ [])) = omega (arith, length-append p (x ∷ [])) in
    ap (λ y. set y u x) e
    ∙ ap (λ n. set (p ++ drop (0 + n) lent) u x) len
    ∙ ap (λ r. set (p ++ r) u x) (drop-cons lent (0 + u) 0 (omega arith))
    ∙ set_at p (get_or lent (0 + u) 0) (drop (suc (0 + u)) lent) x u len
    ∙ sym (append_snoc p x (drop (suc (0 + u)) lent))
    ∙ ap (λ n. (p ++ (x ∷ [])) ++ drop n lent) next
    ∙ ap (λ n. solo l es n ++ drop (0 + length (solo l es n)) lent) (sym (add-one u))
