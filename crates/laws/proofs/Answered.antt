-- What an accepted session answers and leaves in the lent records, booth by booth. Assumes nothing.
use mathlib.Core.Path.{◌≡◌, refl, sym, ap, ◌∙◌}
use mathlib.Core.Logic.{◌⊎◌, inl, inr}
use mathlib.Core.List.{List, [], ◌∷◌, ◌++◌}
use mathlib.Core.Option.{Option, none, some}
use Prim.Native.Nat.{ℕ, suc, ◌+◌, ◌*◌, ◌≤◌, ◌<◌}
use native.Mathlib.Nat.{zero-add}
use native.Mathlib.Omega.{arith}
use lib.ListN.{length, get_or, take, drop, length-map}
use lib.Seq.{take-append_seam}
use borrow.Author.Tests.{ltb-false, le-ltb}
use Rattle.base.specs.Refusals.{Refusal, taken, refuse_if, first_fault}
use Rattle.rules.specs.Verdicts.{TheCall, accepted, refused_as}
use Rattle.base.specs.Bytes.{written}
use Rattle.rules.specs.BoothTable.{Line, no_line}
use Rattle.rules.specs.ArrivalLog.{Entry, Log, read_log}
use Rattle.rules.specs.Admission.{read_table}
use Rattle.rules.specs.Files.{TwoFiles, both_taken, one_refused, read_files}
use Rattle.rules.specs.Moves.{Booth, nobody}
use Rattle.rules.specs.Session.{count, worked_from, write_rows, fresh_booth, settled_at, nothing_done, buffer_checks, played, session}
use Rattle.rules.specs.InRange.{GoodLine}
use Rattle.rules.proofs.TwoFiles.{both_taken_lem, read_in_turn, one_refused_lem}
use Rattle.laws.specs.Statements.{Passes, Accepted, outcome, booths, ticks, line_of, clock_of, row_of, wall_of, settled_of}
use Rattle.laws.proofs.DueLaws.{due_at_most}
use Rattle.laws.proofs.NoFault.{no_fault}
use Rattle.laws.proofs.Readers.{all_at, Lines, LogRead, read_log_lem}
use Rattle.laws.proofs.Admitted.{read_table_lem, table_lines}
use Rattle.laws.proofs.Run.{get_d_map, length_booths}
use Rattle.laws.specs.Courses.{AsRead, ShortRows}
use Rattle.laws.proofs.Clocks.{never_ahead}
use Rattle.laws.proofs.Rows.{row_length}
use Rattle.laws.proofs.WallRecord.{length_wall}
use Rattle.laws.proofs.LentRows.{length_written, kept_outside, Outside, row_back_lem, rows_outside, length_rows, behind_rows, between_rows}

-- ---- what the answer 0 says

-- a refusal of the call is no acceptance
no_room : (r : Refusal) → ¬ (refused_as TheCall r ≡ accepted)
unfolding refused_as accepted
no_room r h = let z : ◌≡◌ {A = ℕ} 0 1 = cc (ap (λ v. v.refused) h) in omega arith

pub has_read : (table_bytes log_bytes wall own : List ℕ) → (session table_bytes log_bytes wall own).verdict ≡ accepted
    → (ls : List Line) × (log : Log) × (read_table table_bytes ≡ taken ls) × (read_log ls log_bytes ≡ taken log)
unfolding session nothing_done accepted
has_read table_bytes log_bytes wall own h = go (read_files table_bytes log_bytes) refl
  where
    go : (f : TwoFiles) → read_files table_bytes log_bytes ≡ f
        → (ls : List Line) × (log : Log) × (read_table table_bytes ≡ taken ls) × (read_log ls log_bytes ≡ taken log)
    go (one_refused v) q = absurd (one_refused_lem table_bytes log_bytes v q (ap (λ w. w.refused) (rw (q, session) at h)))
    go (both_taken ls log) q = let (t, l) = read_in_turn table_bytes log_bytes ls log q in (ls, log, t, l)

pub answers : (table_bytes log_bytes wall own : List ℕ) (ls : List Line) (log : Log) → read_table table_bytes ≡ taken ls → read_log ls log_bytes ≡ taken log
    → log.horizon ≤ length wall → length ls * log.horizon ≤ length own → (session table_bytes log_bytes wall own).verdict ≡ accepted
unfolding session played buffer_checks refuse_if first_fault
answers table_bytes log_bytes wall own ls log q p w o =
    rw (both_taken_lem table_bytes log_bytes ls log q p, session) (rw (le-ltb (length wall) log.horizon w, le-ltb (length own) (length ls * log.horizon) o))

pub or_nothing : (table_bytes log_bytes wall own : List ℕ)
    → ((session table_bytes log_bytes wall own).verdict ≡ accepted)
    ⊎ (session table_bytes log_bytes wall own ≡ nothing_done (session table_bytes log_bytes wall own).verdict wall own)
unfolding session nothing_done played
or_nothing table_bytes log_bytes wall own = go (read_files table_bytes log_bytes) refl
  where
    Either : Type 0
    Either =
        ((session table_bytes log_bytes wall own).verdict ≡ accepted)
        ⊎ (session table_bytes log_bytes wall own ≡ nothing_done (session table_bytes log_bytes wall own).verdict wall own)

    the_call : (ls : List Line) (log : Log) → read_files table_bytes log_bytes ≡ both_taken ls log
        → (f : Option Refusal) → first_fault (buffer_checks (length ls) log.horizon wall own) ≡ f → Either
    the_call ls log q (some r) x = inr (rw (q, session) (rw x))
    the_call ls log q none x = inl (rw (q, session) (rw x))

    go : (f : TwoFiles) → read_files table_bytes log_bytes ≡ f → Either
    go (one_refused v) q = inr (rw (q, session))
    go (both_taken ls log) q = the_call ls log q (first_fault (buffer_checks (length ls) log.horizon wall own)) refl

module _ (s : Accepted) where
  abbrev H : ℕ
  H = ticks s

  abbrev ls : List Line
  ls = s.table

  abbrev es : List Entry
  es = s.log.entries

  -- the buffers fit, and the session is played
  record Played : Type 0 where
    is : outcome s ≡ played ls s.log s.wall_lent s.own_lent
    wall_fits : H ≤ length s.wall_lent
    own_fits : booths s * H ≤ length s.own_lent

  files : read_files s.table_bytes s.log_bytes ≡ both_taken ls s.log
  files = both_taken_lem s.table_bytes s.log_bytes ls s.log s.table_read s.log_read

  is_played : Played
  unfolding session nothing_done buffer_checks refuse_if
  is_played = go (first_fault (buffer_checks (length ls) H s.wall_lent s.own_lent)) refl
    where
      go : (f : Option Refusal) → first_fault (buffer_checks (length ls) H s.wall_lent s.own_lent) ≡ f → Played
      go (some r) q = absurd (no_room r (rw q at (rw (files, session) at s.accepts)))
      go none q =
          let p = no_fault (buffer_checks (length ls) H s.wall_lent s.own_lent) q in
          record {
            is = rw (files, session) (rw q);
            wall_fits = ltb-false (length s.wall_lent) H p.0;
            own_fits = ltb-false (length s.own_lent) (length ls * H) p.1.0;
          }

  pub room : (H ≤ length s.wall_lent) × (booths s * H ≤ length s.own_lent)
  room = let p = is_played in (p.wall_fits, p.own_fits)

  -- ---- the table and the log

  pub lines_read : Lines ls
  lines_read = table_lines s.table_bytes ls s.table_read

  pub log_is_read : LogRead ls s.log_bytes s.log
  log_is_read = read_log_lem ls s.log_bytes s.log s.log_read

  pub good_line : (i : ℕ) → i < booths s → GoodLine (line_of s i)
  good_line i h = all_at GoodLine ls no_line lines_read.good i h

  pub passing : (i : ℕ) → i < booths s → Passes (take i ls) (line_of s i)
  passing i h = (read_table_lem s.table_bytes ls s.table_read).pass i h

  pub as_read : AsRead ls es
  as_read =
      record {
        few = omega (arith, lines_read.few_booths);
        sound = λ j h. (good_line j h).sound;
        tasks = λ j h. omega (arith, (good_line j h).few_tasks);
        sorted = log_is_read.sorted;
      }

  -- ---- the figures

  pub clock_is : (i : ℕ) → i < booths s → clock_of s i ≡ (settled_of s H i).u
  unfolding played
  clock_is i h =
      ap (λ o. get_or o.clocks i 0) is_played.is
      ∙ get_d_map (λ b. b.u) (settled_at H ls es).booths i (fresh_booth no_line []) 0 (omega (arith, length_booths ls es H))

  pub clocks_length : length (outcome s).clocks ≡ booths s
  unfolding played
  clocks_length = ap (λ o. length o.clocks) is_played.is ∙ length-map (settled_at H ls es).booths (λ b. b.u) ∙ length_booths ls es H

  pub worked_is : (outcome s).worked ≡ worked_from 0 (booths s) (settled_at H ls es).wall
  unfolding played
  worked_is = ap (λ o. o.worked) is_played.is

  pub idle_is : (outcome s).idle ≡ count nobody (settled_at H ls es).wall
  unfolding played
  idle_is = ap (λ o. o.idle) is_played.is

  -- ---- the lent records

  pub wall_is : wall_of s ≡ (settled_at H ls es).wall
  unfolding played written
  wall_is =
      let w = (settled_at H ls es).wall in
      ap (λ o. take H o.wall) is_played.is
      ∙ ap (λ n. take n (w ++ drop (0 + length w) s.wall_lent)) (sym (length_wall ls es H))
      ∙ take-append_seam w (drop (0 + length w) s.wall_lent)

  short_rows : (bs : List Booth) → ((j : ℕ) → j < length bs → length (get_or bs j (fresh_booth no_line [])).row ≤ H) → ShortRows H bs
  short_rows [] h = tt
  short_rows (b ∷ bs) h = (h 0 (omega arith), short_rows bs (λ j k. h (suc j) (omega arith)))

  row_short : (j : ℕ) → j < booths s → length (settled_of s H j).row ≤ H
  row_short j h =
      omega (arith, row_length ls es as_read j h H, never_ahead ls es as_read j h H, due_at_most (line_of s j).promise (good_line j h).sound H)

  -- the booths settled at H, whose rows are short and fit
  abbrev last : List Booth
  last = (settled_at H ls es).booths

  rows_short : ShortRows H last
  rows_short = short_rows last (λ j k. row_short j (omega (arith, length_booths ls es H)))

  rows_fit : (0 + length last) * H ≤ length s.own_lent
  rows_fit = rw (zero-add (length last), length_booths ls es H) is_played.own_fits

  own_is : (outcome s).own ≡ write_rows H 0 last s.own_lent
  unfolding played
  own_is = ap (λ o. o.own) is_played.is

  pub row_is : (i : ℕ) → i < booths s → row_of s i ≡ (settled_of s H i).row
  row_is i h =
      ap (λ o. take (clock_of s i) (drop (i * H) o)) own_is
      ∙ ap (λ u. take u (drop (i * H) (write_rows H 0 last s.own_lent))) (clock_is i h ∙ sym (row_length ls es as_read i h H))
      ∙ ap (λ x. take (length (settled_of s H i).row) (drop (x * H) (write_rows H 0 last s.own_lent))) (sym (zero-add i))
      ∙ row_back_lem H 0 last s.own_lent (fresh_booth no_line []) i rows_short rows_fit (omega (arith, length_booths ls es H))

  -- ---- what keeps what it held

  all_wall : (outcome s).wall ≡ written 0 (settled_at H ls es).wall s.wall_lent
  unfolding played
  all_wall = ap (λ o. o.wall) is_played.is

  wall_fits : 0 + length (settled_at H ls es).wall ≤ length s.wall_lent
  wall_fits = omega (arith, length_wall ls es H, is_played.wall_fits)

  pub wall_kept : (n : ℕ) → H ≤ n → get_or (outcome s).wall n 0 ≡ get_or s.wall_lent n 0
  wall_kept n h =
      ap (λ x. get_or x n 0) all_wall ∙ kept_outside 0 (settled_at H ls es).wall s.wall_lent n wall_fits (inr (omega (arith, length_wall ls es H)))

  pub row_kept : (i : ℕ) → i < booths s → (n : ℕ) → clock_of s i ≤ n → n < H → get_or (outcome s).own (i * H + n) 0 ≡ get_or s.own_lent (i * H + n) 0
  row_kept i h n a c =
      let o : Outside H 0 last ((0 + i) * H + n) =
      between_rows H 0 last (fresh_booth no_line []) i n rows_short (omega (arith, length_booths ls es H)) (omega (arith, clock_is i h, row_length ls es as_read i h H)) c in
      ap (λ x. get_or x (i * H + n) 0) own_is ∙ rows_outside H 0 last s.own_lent (i * H + n) rows_short rows_fit (rw (zero-add i) at o)

  pub own_kept : (n : ℕ) → booths s * H ≤ n → get_or (outcome s).own n 0 ≡ get_or s.own_lent n 0
  own_kept n h =
      ap (λ x. get_or x n 0) own_is
      ∙ rows_outside H 0 last s.own_lent n rows_short rows_fit (behind_rows H 0 last n rows_short (rw (zero-add (length last), length_booths ls es H) h))

  pub lengths_kept : (length (outcome s).wall ≡ length s.wall_lent) × (length (outcome s).own ≡ length s.own_lent)
  lengths_kept = (
    ap length all_wall ∙ length_written 0 (settled_at H ls es).wall s.wall_lent wall_fits,
    ap length own_is ∙ length_rows H 0 last s.own_lent rows_short rows_fit,
  )
