-- The course of an engine that asks the booths of a wall tick one by one and leaves a sleeping booth alone: each of its steps keeps what
-- the rules say of the session. Assumes nothing.
use mathlib.Core.Path.{◌≡◌, refl, sym, ap, ◌∙◌, subst}
use mathlib.Core.Logic.{◌≢◌}
use mathlib.Core.Bool.{true, false}
use mathlib.Core.List.{List, [], ◌∷◌, ◌++◌, map, append_assoc}
use Prim.Native.Nat.{ℕ, suc, ◌+◌, ◌-◌, ◌*◌, ◌≤◌, ◌<◌}
use native.Mathlib.Decide.{ℕ_discrete}
use native.Mathlib.Nat.{not-suc-le-zero, zero-add}
use native.Mathlib.Omega.{arith}
use lib.ListN.{length, get_or, take, drop, set, replicate, length-append, length-replicate, length-set, length-map}
use lib.Seq.{get_or-set_same, get_or-set_other, ext_get_or, take-append_seam}
use Rattle.base.specs.Bytes.{written}
use Rattle.rules.specs.BoothTable.{Line, no_line}
use Rattle.rules.specs.ArrivalLog.{Entry}
use Rattle.rules.specs.Moves.{Booth, nobody, no_demand, settle, may_work, first_task, work, worker, turn, settle_all}
use Rattle.rules.specs.Session.{own_entries, fresh_booth, open_booths, settled_at, count, write_rows}
use Rattle.rules.proofs.Held.{zeros, at_set}
use Rattle.rules.specs.InRange.{Sound}
use Rattle.laws.specs.Statements.{booth_at}
use Rattle.laws.proofs.Entries.{own_sorted}
use Rattle.laws.specs.Ordered.{Sorted}
use Rattle.laws.specs.Courses.{forward, add_first, InOrder, AsRead, ShortRows, nobooth, Kept, Course, Closing}
use Rattle.laws.proofs.DueLaws.{due_at_most}
use Rattle.laws.proofs.QuickSettle.{quick_settle, settle_ind, rests}
use Rattle.laws.proofs.PageSettle.{settle_quick}
use Rattle.laws.proofs.SettleAgain.{in_order_later, settled_in_order, work_in_order, settle_again}
use Rattle.laws.proofs.FirstWorker.{first_works, none_works}
use Rattle.laws.proofs.Run.{get_d_map, length_open, open_at, opened, length_booths, wall_start, wall_step}
use Rattle.laws.proofs.WallRecord.{length_wall}
use Rattle.rules.proofs.Counting.{count_nil, count_last_same, count_last_other}
use Rattle.laws.proofs.RowSlices.{rows_open, row_moved, short_set}

-- ---- settling lengthens a row by silence

pub record Longer (b c : Booth) : Type 0 where
  pub by : ℕ
  pub row : c.row ≡ b.row ++ replicate by nobody
  pub clock : c.u ≡ b.u + by

longer_forward : (b : Booth) (v : ℕ) (c : Booth) → Longer b c → Longer b (forward v c)
unfolding forward
longer_forward b v c l =
    record {
      by = l.by + (v - c.u);
      row =
          ap (λ r. r ++ replicate (v - c.u) nobody) l.row
          ∙ append_assoc b.row (replicate l.by nobody) (replicate (v - c.u) nobody)
          ∙ ap (λ r. b.row ++ r) (lib.ListN.replicate-append-replicate l.by (v - c.u) nobody);
      clock = omega (arith, l.clock);
    }

pub settle_longer : (t : ℕ) (b : Booth) → InOrder t b → Longer b (settle t b)
unfolding quick_settle add_first
settle_longer t b i =
    subst (Longer b) (sym (settle_quick t b i))
    (settle_ind t (λ es c. Longer b c) (Longer b) (λ e es c l r. longer_add e es (forward _ c) (longer_forward b _ c l))
    (λ es c l s. rests t c (Longer b) (λ q. longer_forward b _ c l) (λ q. l)) b.waiting b same)
  where
    longer_add : (e : Entry) (es : List Entry) (c : Booth) → Longer b c → Longer b (add_first e es c)
    longer_add e es c l = record { by = l.by; row = l.row; clock = l.clock }

    same : Longer b b
    same = record { by = 0; row = sym (mathlib.Core.List.append-nil b.row); clock = omega arith }

-- working lengthens it by the task that ran
row_worked : (b : Booth) → ((work b).row ≡ b.row ++ (first_task 0 b.left ∷ [])) × ((work b).u ≡ suc b.u)
unfolding work
row_worked b = (refl, refl)

fresh_order : (l : Line) (es : List Entry) → Sound l.promise → Sorted es → InOrder 0 (fresh_booth l es)
unfolding fresh_booth
fresh_order l es sound sorted = record { sound = sound; cap = omega arith; sorted = sorted }

fresh_size : (l : Line) (es : List Entry) → length (fresh_booth l es).row ≡ (fresh_booth l es).u
unfolding fresh_booth
fresh_size l es = refl

-- ---- its steps

module _ (ls : List Line) (es : List Entry) (as_read : AsRead ls es) where
  booths : ℕ → List Booth
  booths t = (settled_at t ls es).booths

  next_booths : (t : ℕ) (bs : List Booth) → turn t (booths t) ≡ bs → (j : ℕ) → j < length ls → length bs ≡ length ls → booth_at ls es (suc t) j ≡ settle (suc t) (get_or bs j nobooth)
  unfolding booths settled_at Rattle.rules.specs.Moves.play_ticks Rattle.rules.specs.Moves.play settle_all
  next_booths t bs e j h n =
      ap (λ x. get_or (map (settle (suc t)) x) j nobooth) e ∙ get_d_map (settle (suc t)) bs j nobooth nobooth (omega (arith, n))

  -- a booth that did not work is kept as it was
  kept_on : (t j : ℕ) (b : Booth) (w : ℕ) → Kept ls es t j b w → booth_at ls es (suc t) j ≡ settle (suc t) (booth_at ls es t j) → Kept ls es (suc t) j b w
  kept_on t j b w k e =
      record {
        order = in_order_later t (suc t) b k.order (omega arith);
        size = k.size;
        alike = sym (settle_again t (suc t) b k.order (omega arith)) ∙ ap (settle (suc t)) k.alike ∙ sym e;
        asleep = λ s h l. k.asleep s (omega arith) l;
      }

  module _ (H : ℕ) (wall₀ own₀ : List ℕ) (wall_room : H ≤ length wall₀) (own_room : length ls * H ≤ length own₀) where
    -- one byte more in the wall record
    wall_more : (t x : ℕ) (wall : List ℕ) → t < H → wall ≡ written 0 (settled_at t ls es).wall wall₀ → worker t 0 (booths t) ≡ x
        → set wall t x ≡ written 0 (settled_at (suc t) ls es).wall wall₀
    unfolding booths written
    wall_more t x wall h e w =
        let p = (settled_at t ls es).wall in
        let l : length p ≡ t = length_wall ls es t in
        let next : suc (0 + t) ≡ 0 + length (p ++ (worker t 0 (booths t) ∷ [])) = omega (arith, length-append p (worker t 0 (booths t) ∷ [])) in
        ap (λ y. set y t x) e
        ∙ ap (λ n. set (p ++ drop (0 + n) wall₀) t x) l
        ∙ ap (λ r. set (p ++ r) t x) (lib.Seq.drop-cons wall₀ (0 + t) 0 (omega arith))
        ∙ lib.Seq.set_at p (get_or wall₀ (0 + t) 0) (drop (suc (0 + t)) wall₀) x t l
        ∙ sym (lib.Seq.append_snoc p x (drop (suc (0 + t)) wall₀))
        ∙ ap (λ y. (p ++ (y ∷ [])) ++ drop (suc (0 + t)) wall₀) (sym w)
        ∙ ap (λ n. (p ++ (worker t 0 (booths t) ∷ [])) ++ drop n wall₀) next
        ∙ ap (λ r. r ++ drop (0 + length r) wall₀) (sym (wall_step ls es t))

    -- no booth may work at t
    pub nobody_works : (t i : ℕ) (bs : List Booth) (wakes worked : List ℕ) (idle : ℕ) (wall own : List ℕ) → Course ls es H wall₀ own₀ t i bs wakes worked idle wall own
        → i ≡ length ls → t < H → Course ls es H wall₀ own₀ (suc t) 0 bs wakes worked (suc idle) (set wall t nobody) own
    unfolding booths
    nobody_works t i bs wakes worked idle wall own c all h =
        let none = none_works t (booths t) nobooth (λ j l. c.asked j (omega (arith, all, length_booths ls es t))) in
        record {
          few = c.few;
          booth = λ j l. kept_on t j (get_or bs j nobooth) (get_or wakes j 0) (c.booth j l) (next_booths t (booths t) none.1 j l (length_booths ls es t));
          asked = λ j l. absurd (not-suc-le-zero l);
          short = c.short;
          rows = c.rows;
          wall_is = wall_more t nobody wall h c.wall_is none.0;
          worked_is = λ j l.
              c.worked_is j l
              ∙ sym (ap (count j) (wall_step ls es t ∙ ap (λ x. (settled_at t ls es).wall ++ (x ∷ [])) none.0) ∙ count_last_other j nobody (settled_at t ls es).wall (omega (arith, as_read.few)));
          idle_is =
              ap suc c.idle_is
              ∙ sym (ap (count nobody) (wall_step ls es t ∙ ap (λ x. (settled_at t ls es).wall ++ (x ∷ [])) none.0) ∙ count_last_same nobody nobody (settled_at t ls es).wall refl);
        }

    -- booth i still sleeps, and is passed over
    pub sleeps : (t i : ℕ) (bs : List Booth) (wakes worked : List ℕ) (idle : ℕ) (wall own : List ℕ) → Course ls es H wall₀ own₀ t i bs wakes worked idle wall own
        → i < length ls → t < get_or wakes i 0 → Course ls es H wall₀ own₀ t (suc i) bs wakes worked idle wall own
    sleeps t i bs wakes worked idle wall own c there h =
        record {
          few = c.few;
          booth = c.booth;
          asked = λ j l. go j (ℕ_discrete j i) l;
          short = c.short;
          rows = c.rows;
          wall_is = c.wall_is;
          worked_is = c.worked_is;
          idle_is = c.idle_is;
        }
      where
        go : (j : ℕ) → Dec (j ≡ i) → j < suc i → may_work t (booth_at ls es t j) ≡ false
        go j (yes e) l =
            ap (λ x. may_work t (booth_at ls es t x)) e ∙ ap (may_work t) (sym (c.booth i there).alike) ∙ (c.booth i there).asleep t (omega arith) h
        go j (no e) l = c.asked j (omega arith)

    -- booth i's row, lengthened in its own part of the own record
    lengthened_row : (t i : ℕ) (bs : List Booth) (b : Booth) (own part : List ℕ) → ShortRows H bs → length bs ≡ length ls → own ≡ write_rows H 0 bs own₀ → i < length ls
        → length b.row ≤ H → take (length (get_or bs i nobooth).row) b.row ≡ (get_or bs i nobooth).row
        → part ≡ b.row ++ drop (length b.row) (take H (drop (i * H) own))
        → take (i * H) own ++ (part ++ drop H (drop (i * H) own)) ≡ write_rows H 0 (set bs i b) own₀
    lengthened_row t i bs b own part short few rows there fits longer is =
        let room : length bs * H ≤ length own₀ = rw few own_room in
        ap (λ p. take (i * H) own ++ (p ++ drop H (drop (i * H) own))) is
        ∙ ap (λ o. take (i * H) o ++ ((b.row ++ drop (length b.row) (take H (drop (i * H) o))) ++ drop H (drop (i * H) o))) rows
        ∙ row_moved H bs own₀ nobooth b i short fits (omega (arith, few)) room longer

    -- a settled booth's row begins with what it was before and is at most H long
    settled_row : (t i : ℕ) (b : Booth) (w : ℕ) → Kept ls es t i b w → t ≤ H → (length (settle t b).row ≡ (settle t b).u) × ((settle t b).u ≤ H) × (take (length b.row) (settle t b).row ≡ b.row)
    settled_row t i b w k h =
        let l = settle_longer t b k.order in
        let o = settled_in_order t b k.order in (
          omega (arith, ap length l.row, length-append b.row (replicate l.by nobody), length-replicate {A = ℕ} l.by nobody, l.clock, k.size),
          omega (arith, o.cap, due_at_most (settle t b).line.promise o.sound t),
          ap (take (length b.row)) l.row ∙ take-append_seam b.row (replicate l.by nobody),
        )

    -- booth i is settled and asked in vain, and sleeps until w
    pub passed_over : (t i : ℕ) (bs : List Booth) (wakes worked : List ℕ) (idle : ℕ) (wall own : List ℕ) → Course ls es H wall₀ own₀ t i bs wakes worked idle wall own
        → i < length ls → t ≤ H → i < length wakes → (b : Booth) → b ≡ settle t (get_or bs i nobooth) → may_work t b ≡ false
        → (w : ℕ) → ((s : ℕ) → t ≤ s → s < w → may_work s (settle s b) ≡ false)
        → (part : List ℕ) → part ≡ b.row ++ drop (length b.row) (take H (drop (i * H) own))
        → Course ls es H wall₀ own₀ t (suc i) (set bs i b) (set wakes i w) worked idle wall (take (i * H) own ++ (part ++ drop H (drop (i * H) own)))
    passed_over t i bs wakes worked idle wall own c there h room b is may_not w slumbers part p =
        record {
          few = length-set bs i b ∙ c.few;
          booth = λ j l. at_set bs i j b nobooth (λ x. Kept ls es t j x (get_or (set wakes i w) j 0)) (omega (arith, c.few)) (mine j) (other j l);
          asked = λ j l. asked j (ℕ_discrete j i) l;
          short = short_set H bs b i c.short short;
          rows = lengthened_row t i bs b own part c.short c.few c.rows there short longer p;
          wall_is = c.wall_is;
          worked_is = c.worked_is;
          idle_is = c.idle_is;
        }
      where
        k : Kept ls es t i (get_or bs i nobooth) (get_or wakes i 0)
        k = c.booth i there

        r : (length (settle t (get_or bs i nobooth)).row ≡ (settle t (get_or bs i nobooth)).u) × ((settle t (get_or bs i nobooth)).u ≤ H)
            × (take (length (get_or bs i nobooth).row) (settle t (get_or bs i nobooth)).row ≡ (get_or bs i nobooth).row)
        r = settled_row t i (get_or bs i nobooth) (get_or wakes i 0) k h

        size : length b.row ≡ b.u
        size = subst (λ x. length x.row ≡ x.u) (sym is) r.0

        short : length b.row ≤ H
        short = omega (arith, size, ap (λ x. x.u) is, r.1)

        longer : take (length (get_or bs i nobooth).row) b.row ≡ (get_or bs i nobooth).row
        longer = ap (λ x. take (length (get_or bs i nobooth).row) x.row) is ∙ r.2

        order : InOrder t b
        order = subst (InOrder t) (sym is) (settled_in_order t (get_or bs i nobooth) k.order)

        again : settle t b ≡ booth_at ls es t i
        again = ap (settle t) is ∙ settle_again t t (get_or bs i nobooth) k.order (omega arith) ∙ k.alike

        mine : (j : ℕ) → j ≡ i → Kept ls es t j b (get_or (set wakes i w) j 0)
        mine j e =
            record {
              order = order;
              size = size;
              alike = again ∙ ap (booth_at ls es t) (sym e);
              asleep = λ s u v. slumbers s u (subst (λ x. s < x) (ap (λ x. get_or (set wakes i w) x 0) e ∙ get_or-set_same wakes i w 0 room) v);
            }

        other : (j : ℕ) → j < length ls → j ≢ i → Kept ls es t j (get_or bs j nobooth) (get_or (set wakes i w) j 0)
        other j l e = subst (Kept ls es t j (get_or bs j nobooth)) (sym (get_or-set_other wakes i j w 0 e)) (c.booth j l)

        asked : (j : ℕ) → Dec (j ≡ i) → j < suc i → may_work t (booth_at ls es t j) ≡ false
        asked j (yes e) l = ap (λ x. may_work t (booth_at ls es t x)) e ∙ ap (may_work t) (sym k.alike) ∙ ap (may_work t) (sym is) ∙ may_not
        asked j (no e) l = c.asked j (omega arith)

    -- booth i is settled, may work and works
    pub plays : (t i : ℕ) (bs : List Booth) (wakes worked : List ℕ) (idle : ℕ) (wall own : List ℕ) → Course ls es H wall₀ own₀ t i bs wakes worked idle wall own
        → i < length ls → t < H → i < length wakes → i < length worked → (b : Booth) → b ≡ settle t (get_or bs i nobooth) → may_work t b ≡ true
        → (w : ℕ) → ((s : ℕ) → suc t ≤ s → s < w → may_work s (settle s (work b)) ≡ false)
        → (part : List ℕ) → part ≡ (work b).row ++ drop (length (work b).row) (take H (drop (i * H) own))
        → Course ls es H wall₀ own₀ (suc t) 0 (set bs i (work b)) (set wakes i w) (set worked i (suc (get_or worked i 0))) idle (set wall t i) (take (i * H) own ++ (part ++ drop H (drop (i * H) own)))
    unfolding booths
    plays t i bs wakes worked idle wall own c there h room room' b is may w slumbers part p =
        record {
          few = length-set bs i (work b) ∙ c.few;
          booth = λ j l. at_set bs i j (work b) nobooth (λ x. Kept ls es (suc t) j x (get_or (set wakes i w) j 0)) (omega (arith, c.few)) (mine j) (other j l);
          asked = λ j l. absurd (not-suc-le-zero l);
          short = short_set H bs (work b) i c.short short;
          rows = lengthened_row t i bs (work b) own part c.short c.few c.rows there short longer p;
          wall_is = wall_more t i wall h c.wall_is turned.0;
          worked_is = λ j l. at_set worked i j (suc (get_or worked i 0)) 0 (λ x. x ≡ count j (settled_at (suc t) ls es).wall) room' (counted j) (uncounted j l);
          idle_is = c.idle_is ∙ sym (ap (count nobody) wall_next ∙ count_last_other nobody i (settled_at t ls es).wall (omega (arith, as_read.few)));
        }
      where
        k : Kept ls es t i (get_or bs i nobooth) (get_or wakes i 0)
        k = c.booth i there

        b_is : b ≡ booth_at ls es t i
        b_is = is ∙ k.alike

        turned : (worker t 0 (settled_at t ls es).booths ≡ i) × (turn t (settled_at t ls es).booths ≡ set (settled_at t ls es).booths i (work (booth_at ls es t i)))
        turned =
            first_works t (settled_at t ls es).booths nobooth i (omega (arith, length_booths ls es t)) (λ j l. c.asked j l) (ap (may_work t) (sym b_is) ∙ may)

        r : (length (settle t (get_or bs i nobooth)).row ≡ (settle t (get_or bs i nobooth)).u) × ((settle t (get_or bs i nobooth)).u ≤ H)
            × (take (length (get_or bs i nobooth).row) (settle t (get_or bs i nobooth)).row ≡ (get_or bs i nobooth).row)
        r = settled_row t i (get_or bs i nobooth) (get_or wakes i 0) k (omega arith)

        order : InOrder (suc t) (work b)
        order = work_in_order t b (subst (InOrder t) (sym is) (settled_in_order t (get_or bs i nobooth) k.order)) may

        size : length (work b).row ≡ (work b).u
        size =
            let before : length b.row ≡ b.u = subst (λ x. length x.row ≡ x.u) (sym is) r.0 in
            omega (arith, ap length (row_worked b).0, (row_worked b).1, length-append b.row (first_task 0 b.left ∷ []))

        short : length (work b).row ≤ H
        short = omega (arith, size, order.cap, due_at_most (work b).line.promise order.sound (suc t))

        longer : take (length (get_or bs i nobooth).row) (work b).row ≡ (get_or bs i nobooth).row
        longer =
            let l = settle_longer t (get_or bs i nobooth) k.order in
            let old = (get_or bs i nobooth).row in
            let here : (work b).row ≡ old ++ (replicate l.by nobody ++ (first_task 0 b.left ∷ [])) =
            (row_worked b).0
            ∙ ap (λ x. x ++ (first_task 0 b.left ∷ [])) (ap (λ x. x.row) is ∙ l.row)
            ∙ append_assoc old (replicate l.by nobody) (first_task 0 b.left ∷ []) in
            ap (take (length old)) here ∙ take-append_seam old (replicate l.by nobody ++ (first_task 0 b.left ∷ []))

        next : (j : ℕ) → j < length ls → booth_at ls es (suc t) j ≡ settle (suc t) (get_or (set (settled_at t ls es).booths i (work (booth_at ls es t i))) j nobooth)
        next j l =
            next_booths t (set (settled_at t ls es).booths i (work (booth_at ls es t i))) turned.1 j l
            (length-set (settled_at t ls es).booths i (work (booth_at ls es t i)) ∙ length_booths ls es t)

        mine : (j : ℕ) → j ≡ i → Kept ls es (suc t) j (work b) (get_or (set wakes i w) j 0)
        mine j e =
            record {
              order = order;
              size = size;
              alike =
                  ap (λ x. settle (suc t) (work x)) b_is
                  ∙ ap (settle (suc t)) (sym (get_or-set_same (settled_at t ls es).booths i (work (booth_at ls es t i)) nobooth (omega (arith, length_booths ls es t))))
                  ∙ sym (next i there)
                  ∙ ap (booth_at ls es (suc t)) (sym e);
              asleep = λ s u v. slumbers s u (subst (λ x. s < x) (ap (λ x. get_or (set wakes i w) x 0) e ∙ get_or-set_same wakes i w 0 room) v);
            }

        other : (j : ℕ) → j < length ls → j ≢ i → Kept ls es (suc t) j (get_or bs j nobooth) (get_or (set wakes i w) j 0)
        other j l e =
            subst (Kept ls es (suc t) j (get_or bs j nobooth)) (sym (get_or-set_other wakes i j w 0 e))
            (kept_on t j (get_or bs j nobooth) (get_or wakes j 0) (c.booth j l)
            (next j l ∙ ap (settle (suc t)) (get_or-set_other (settled_at t ls es).booths i j (work (booth_at ls es t i)) nobooth e)))

        wall_next : (settled_at (suc t) ls es).wall ≡ (settled_at t ls es).wall ++ (i ∷ [])
        wall_next = wall_step ls es t ∙ ap (λ x. (settled_at t ls es).wall ++ (x ∷ [])) turned.0

        counted : (j : ℕ) → j ≡ i → suc (get_or worked i 0) ≡ count j (settled_at (suc t) ls es).wall
        counted j e =
            ap suc (c.worked_is i there) ∙ sym (ap (λ x. count x (settled_at (suc t) ls es).wall) e ∙ ap (count i) wall_next ∙ count_last_same i i (settled_at t ls es).wall refl)

        uncounted : (j : ℕ) → j < length ls → j ≢ i → get_or worked j 0 ≡ count j (settled_at (suc t) ls es).wall
        uncounted j l e =
            c.worked_is j l ∙ sym (ap (count j) wall_next ∙ count_last_other j i (settled_at t ls es).wall (λ q. e (sym q)))

    -- ---- how the course begins

    short_open : (k : ℕ) (ms : List Line) → ShortRows H (open_booths k ms es)
    unfolding open_booths fresh_booth
    short_open k [] = tt
    short_open k (m ∷ ms) = (omega arith, short_open (suc k) ms)

    pub begins : Course ls es H wall₀ own₀ 0 0 (open_booths 0 ls es) (replicate 8 0) (replicate 8 0) 0 wall₀ own₀
    begins =
        record {
          few = length_open 0 ls es;
          booth = λ j l. subst (λ b. Kept ls es 0 j b (get_or (replicate 8 0) j 0)) (sym (open_at 0 ls es j l ∙ ap (λ n. fresh_booth (get_or ls j no_line) (own_entries n es)) (zero-add j))) (fresh j l);
          asked = λ j l. absurd (not-suc-le-zero l);
          short = short_open 0 ls;
          rows = sym (rows_open H 0 0 ls es own₀);
          wall_is = sym (ap (λ x. written 0 x wall₀) (wall_start ls es) ∙ nothing);
          worked_is = λ j l. zeros 8 j ∙ sym (ap (count j) (wall_start ls es) ∙ count_nil j);
          idle_is = sym (ap (count nobody) (wall_start ls es) ∙ count_nil nobody);
        }
      where
        nothing : written 0 [] wall₀ ≡ wall₀
        nothing = unfold written in refl

        fresh : (j : ℕ) → j < length ls → Kept ls es 0 j (fresh_booth (get_or ls j no_line) (own_entries j es)) (get_or (replicate 8 0) j 0)
        fresh j l =
            record {
              order = fresh_order (get_or ls j no_line) (own_entries j es) (as_read.sound j l) (own_sorted j es as_read.sorted);
              size = fresh_size (get_or ls j no_line) (own_entries j es);
              alike = sym (opened ls es j l);
              asleep = λ s h v. absurd (not-suc-le-zero (subst (λ x. s < x) (zeros 8 j) v));
            }

    -- ---- how it ends: all booths settle at H

    pub closes : (i : ℕ) (bs : List Booth) (wakes worked : List ℕ) (idle : ℕ) (wall own : List ℕ) → Course ls es H wall₀ own₀ H i bs wakes worked idle wall own → Closing ls es H wall₀ own₀ 0 bs own
    closes i bs wakes worked idle wall own c =
        record {
          few = c.few;
          done = λ j l. absurd (not-suc-le-zero l);
          left = λ j h l. let k = c.booth j l in record { order = k.order; size = k.size; alike = k.alike; asleep = λ s a b. absurd (not-suc-le-zero b) };
          short = c.short;
          rows = c.rows;
        }

    pub closes_one : (i : ℕ) (bs : List Booth) (own : List ℕ) → Closing ls es H wall₀ own₀ i bs own → i < length ls → (b : Booth) → b ≡ settle H (get_or bs i nobooth)
        → (part : List ℕ) → part ≡ b.row ++ drop (length b.row) (take H (drop (i * H) own))
        → Closing ls es H wall₀ own₀ (suc i) (set bs i b) (take (i * H) own ++ (part ++ drop H (drop (i * H) own)))
    closes_one i bs own c there b is part p =
        record {
          few = length-set bs i b ∙ c.few;
          done = λ j l. at_set bs i j b nobooth (λ x. x ≡ booth_at ls es H j) (omega (arith, c.few)) (λ e. is ∙ k.alike ∙ ap (booth_at ls es H) (sym e)) (λ e. c.done j (omega arith));
          left = λ j h l. at_set bs i j b nobooth (λ x. Kept ls es H j x 0) (omega (arith, c.few)) (λ e. absurd (omega arith)) (λ e. c.left j (omega arith) l);
          short = short_set H bs b i c.short short;
          rows = lengthened_row H i bs b own part c.short c.few c.rows there short longer p;
        }
      where
        k : Kept ls es H i (get_or bs i nobooth) 0
        k = c.left i (omega arith) there

        r : (length (settle H (get_or bs i nobooth)).row ≡ (settle H (get_or bs i nobooth)).u) × ((settle H (get_or bs i nobooth)).u ≤ H)
            × (take (length (get_or bs i nobooth).row) (settle H (get_or bs i nobooth)).row ≡ (get_or bs i nobooth).row)
        r = settled_row H i (get_or bs i nobooth) 0 k (omega arith)

        short : length b.row ≤ H
        short = subst (λ x. length x.row ≤ H) (sym is) (omega (arith, r.0, r.1))

        longer : take (length (get_or bs i nobooth).row) b.row ≡ (get_or bs i nobooth).row
        longer = ap (λ x. take (length (get_or bs i nobooth).row) x.row) is ∙ r.2

    pub closed : (i : ℕ) (bs : List Booth) (own : List ℕ) → Closing ls es H wall₀ own₀ i bs own → i ≡ length ls → bs ≡ (settled_at H ls es).booths
    closed i bs own c all =
        ext_get_or nobooth bs (settled_at H ls es).booths (c.few ∙ sym (length_booths ls es H)) (λ j l. c.done j (omega (arith, all, c.few)))
