-- The statements of specs/Statements, proved: the laws of due stand in DueLaws, admission in Admitted. Assumes nothing.
use mathlib.Core.Path.{◌≡◌, sym, ap, ◌∙◌, subst}
use mathlib.Core.Logic.{◌⊎◌}
use mathlib.Core.List.{List, [], ◌∷◌, ◌++◌}
use Prim.Native.Nat.{ℕ, zero, suc, ◌+◌, ◌-◌, ◌*◌, ◌≤◌, ◌<◌, min}
use native.Mathlib.Nat.{zero-add, not-suc-le-zero, le_of_suc-le-suc}
use native.Mathlib.Omega.{arith}
use lib.ListN.{length, get_or, take}
use lib.Seq.{get_or-take}
use Rattle.rules.specs.ArrivalLog.{Entry}
use Rattle.rules.specs.Moves.{nobody}
use Rattle.rules.specs.Session.{count, settled_at}
use Rattle.rules.specs.SoloPart.{solo}
use Rattle.laws.specs.Statements.{GoodEntry, Accepted, outcome, booths, ticks, line_of, entries_of, clock_of, row_of, settled_of, no_entry, WhatIsAccepted, ThereAt, Opening, asks, Agreement, NoLag, total, demand_of, CountedOnce, Untouched, Pinned}
use Rattle.laws.specs.Ordered.{Sorted}
use Rattle.laws.proofs.Readers.{all_at}
use Rattle.laws.proofs.Clocks.{whole_periods, never_ahead, never_back, never_behind}
use Rattle.laws.proofs.Rows.{opened, opening, row_length, worked}
use Rattle.laws.proofs.WallRecord.{in_range_at, all_counted, worked_at, length_worked, length_wall, wall_in_range}
use Rattle.laws.proofs.SoloAlike.{solo_alike, take_solo}
use Rattle.laws.proofs.RowBytes.{solo_bytes}
use Rattle.laws.proofs.Answered.{has_read, answers, or_nothing, room, lines_read, log_is_read, good_line, passing, as_read, clock_is, clocks_length, worked_is, idle_is, wall_is, row_is, wall_kept, row_kept, own_kept, lengths_kept}

sorted_at : (es : List Entry) → Sorted es → (n : ℕ) → suc n < length es → (get_or es n no_entry).tick ≤ (get_or es (suc n) no_entry).tick
sorted_at [] s n h = absurd (not-suc-le-zero h)
sorted_at (e ∷ []) s n h = absurd (not-suc-le-zero (le_of_suc-le-suc h))
sorted_at (e ∷ (f ∷ es)) s zero h = s.0.0
sorted_at (e ∷ (f ∷ es)) s (suc n) h = sorted_at (f ∷ es) s.1 n (le_of_suc-le-suc h)

pub what_is_accepted : WhatIsAccepted
what_is_accepted =
    record {
      has_read = has_read;
      answers = answers;
      or_nothing = or_nothing;
      few_booths = λ s. let r = lines_read s in (r.some_booth, r.few_booths);
      lines = good_line;
      few_ticks = λ s. let r = log_is_read s in (r.short, r.few_entries);
      entries = λ s n h. all_at (GoodEntry s.table (ticks s)) s.log.entries no_entry (log_is_read s).good n h;
      in_order = λ s n h. sorted_at s.log.entries (log_is_read s).sorted n h;
      room = room;
    }

module _ (s : Accepted) (i : ℕ) (there : i < booths s) where
  abbrev at : ℕ → List ℕ
  at t = (settled_of s t i).row

  row_at : (t : ℕ) → at t ≡ solo (line_of s i) (entries_of s i) (settled_of s t i).u
  row_at t = opening s.table s.log.entries (as_read s) i there t

  row_opens : row_of s i ≡ solo (line_of s i) (entries_of s i) (clock_of s i)
  row_opens = row_is s i there ∙ row_at (ticks s) ∙ ap (solo (line_of s i) (entries_of s i)) (sym (clock_is s i there))

  length_at : (t : ℕ) → length (at t) ≡ (settled_of s t i).u
  length_at t = row_length s.table s.log.entries (as_read s) i there t

  length_is : length (row_of s i) ≡ clock_of s i
  length_is = ap length (row_is s i there) ∙ length_at (ticks s) ∙ sym (clock_is s i there)

  there_at : (t : ℕ) → t ≤ ticks s → ThereAt s i t (settled_of s t i).u
  there_at t h =
      let whole : t + (ticks s - t) ≡ ticks s = omega arith in
      let later : (settled_of s t i).u ≤ clock_of s i =
      omega (arith, rw whole at (never_back s.table s.log.entries (as_read s) i there t (ticks s - t)), clock_is s i there) in
      record {
        answered = omega (arith, length_is);
        first = ap (take (settled_of s t i).u) row_opens ∙ take_solo (line_of s i) (entries_of s i) (settled_of s t i).u (clock_of s i) later ∙ sym (row_at t);
      }

pub rows_open : Opening
rows_open =
    record {
      row = row_opens;
      at_tick = row_at;
      final = λ s i h. (row_is s i h, clock_is s i h);
      grows = there_at;
    }

pub rows_agree : Agreement
rows_agree = record { rows = λ s z i j h k l e. agree s z i j h k l e }
  where
    -- as much of a row as is asked for
    part : (s : Accepted) (i : ℕ) → i < booths s → (n : ℕ) → n ≤ clock_of s i → take n (row_of s i) ≡ solo (line_of s i) (entries_of s i) n
    part s i h n k = ap (take n) (row_opens s i h) ∙ take_solo (line_of s i) (entries_of s i) n (clock_of s i) k

    agree : (s z : Accepted) (i j : ℕ) → i < booths s → j < booths z → line_of s i ≡ line_of z j → asks (entries_of s i) ≡ asks (entries_of z j)
        → take (min (clock_of s i) (clock_of z j)) (row_of s i) ≡ take (min (clock_of s i) (clock_of z j)) (row_of z j)
    agree s z i j h k l e =
        let n = min (clock_of s i) (clock_of z j) in
        part s i h n (omega arith)
        ∙ solo_alike (line_of s i) (entries_of s i) (entries_of z j) e n
        ∙ ap (λ m. solo m (entries_of z j) n) l
        ∙ sym (part z j k n (omega arith))

pub no_lag : NoLag
no_lag =
    record {
      whole_periods = λ s i h k.
          length_at s i h (k * (line_of s i).promise.period) ∙ whole_periods s.table s.log.entries (as_read s) i h (passing s i h) k;
      at_tick = λ s i h t. (
        omega (arith, length_at s i h t, never_ahead s.table s.log.entries (as_read s) i h t),
        omega (arith, length_at s i h t, never_behind s.table s.log.entries (as_read s) i h (passing s i h) t),
      );
      bytes_at_periods = λ s i h k e.
          subst (ThereAt s i (k * (line_of s i).promise.period)) (whole_periods s.table s.log.entries (as_read s) i h (passing s i h) k) (there_at s i h _ e);
      bytes_at_tick = λ s i h t e. (
        (settled_of s t i).u,
        there_at s i h t e,
        never_ahead s.table s.log.entries (as_read s) i h t,
        never_behind s.table s.log.entries (as_read s) i h (passing s i h) t,
      );
    }

module _ (s : Accepted) where
  abbrev W : List ℕ
  W = (settled_at (ticks s) s.table s.log.entries).wall

  worked_of : (i : ℕ) → i < booths s → get_or (outcome s).worked i 0 ≡ count i W
  worked_of i h = ap (λ x. get_or x i 0) (worked_is s) ∙ worked_at 0 (booths s) W i h ∙ ap (λ x. count x W) (zero-add i)

  byte_at : (t : ℕ) → t < ticks s → (get_or (outcome s).wall t 0 < booths s) ⊎ (get_or (outcome s).wall t 0 ≡ nobody)
  byte_at t h =
      let same : get_or W t 0 ≡ get_or (outcome s).wall t 0 = ap (λ x. get_or x t 0) (sym (wall_is s)) ∙ get_or-take (ticks s) (outcome s).wall t 0 h in
      subst (λ x. (x < booths s) ⊎ (x ≡ nobody)) same
      (in_range_at (booths s) W (wall_in_range s.table s.log.entries (ticks s)) t (omega (arith, length_wall s.table s.log.entries (ticks s))))

  all_ticks : total (outcome s).worked + (outcome s).idle ≡ ticks s
  all_ticks =
      omega (
        arith,
        ap total (worked_is s),
        idle_is s,
        all_counted (booths s) W (as_read s).few (wall_in_range s.table s.log.entries (ticks s)),
        length_wall s.table s.log.entries (ticks s),
      )

  conserved : (i : ℕ) → i < booths s
      → (added : List Entry) × (entries_of s i ≡ added ++ (settled_of s (ticks s) i).waiting)
      × ((k : ℕ) → k < length (line_of s i).longest → demand_of k added ≡ count k (row_of s i) + get_or (settled_of s (ticks s) i).left k 0)
  conserved i h =
      let o = (opened s.table s.log.entries (as_read s) i h (ticks s)).opens in
      (o.added, o.parts, λ k j. omega (arith, o.sums k j, ap (count k) (row_is s i h)))

pub counted_once : CountedOnce
counted_once =
    record {
      worked = λ s i h. worked_of s i h ∙ ap (count i) (sym (wall_is s));
      idle = λ s. idle_is s ∙ ap (count nobody) (sym (wall_is s));
      all = all_ticks;
      figures = λ s. (clocks_length s, ap length (worked_is s) ∙ length_worked 0 (booths s) (W s));
      wall_bytes = byte_at;
      row_bytes = λ s i h n l.
          subst (λ r. (get_or r n 0 < length (line_of s i).longest) ⊎ (get_or r n 0 ≡ nobody)) (sym (rows_open.row s i h)) (solo_bytes (line_of s i) (entries_of s i) (clock_of s i) n l);
      row_length = length_is;
      row_worked = λ s i h.
          omega (
            arith,
            worked_of s i h,
            ap (count nobody) (row_is s i h),
            ap length (row_is s i h),
            worked s.table s.log.entries (as_read s) i h (ticks s),
          );
      demand = conserved;
    }

pub untouched : Untouched
untouched = record { wall = wall_kept; row = row_kept; own = own_kept; lengths = lengths_kept }

pub pinned : Pinned
pinned = record { once = λ In Out f x a b p q. p ∙ sym q }
