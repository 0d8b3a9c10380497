-- What a call is answered, case by case. Assumes nothing.
use mathlib.Core.Path.{◌≡◌, ap}
use mathlib.Core.List.{List}
use mathlib.Core.Option.{none, some}
use Prim.Native.Nat.{ℕ, ◌≤◌, ◌<◌}
use borrow.Author.Tests.{le-leb, lt-leb, lt-ltb, le-ltb, leb-false, ltb-false}
use lib.ListN.{length, get_or}
use Rattle.base.specs.Refusals.{Refusal, refusal, refuse_if, first_fault}
use Rattle.rules.specs.Verdicts.{TheCall, Verdict, accepted, refused_as}
use Rattle.rules.specs.declared.Table.{Table as HeldTable}
use Rattle.base.specs.Bytes.{written}
use Rattle.rules.specs.BoothTable.{Line, no_line}
use Rattle.rules.specs.ArrivalLog.{Log}
use Rattle.rules.specs.Files.{both_taken, one_refused, read_files}
use Rattle.rules.specs.Due.{due}
use Rattle.rules.specs.Session.{own_entries}
use Rattle.rules.specs.SoloPart.{solo, solo_checks, ask_solo}
use Rattle.rules.specs.Values.{line_held, lines_held, no_held_line}
use Rattle.base.proofs.Checks.{passed}
use Rattle.rules.proofs.Fitting.{line_in}

-- ---- the promises of a table as the code holds it

pub promise_in : (t : HeldTable) (j : ℕ) → j < t.booths → (get_or (lines_held t) j no_line).promise ≡ (get_or t.lines j no_held_line).promise
unfolding line_held
promise_in t j h = ap (λ l. l.promise) (line_in t j h)

-- ---- the call's own checks

module _ (ls : List Line) (H booth n : ℕ) (buffer : List ℕ) where
  pub call_absent : length ls ≤ booth → first_fault (solo_checks ls H booth n buffer) ≡ some (refusal 9 0)
  unfolding solo_checks first_fault refuse_if
  call_absent h = rw (le-leb (length ls) booth h)

  pub call_many : booth < length ls → due (get_or ls booth no_line).promise H < n → first_fault (solo_checks ls H booth n buffer) ≡ some (refusal 11 0)
  unfolding solo_checks first_fault refuse_if
  call_many h m = rw (lt-leb (length ls) booth h, lt-ltb (due (get_or ls booth no_line).promise H) n m)

  pub call_long : booth < length ls → n ≤ due (get_or ls booth no_line).promise H → length buffer < n → first_fault (solo_checks ls H booth n buffer) ≡ some (refusal 11 0)
  unfolding solo_checks first_fault refuse_if
  call_long h m b = rw (lt-leb (length ls) booth h, le-ltb (due (get_or ls booth no_line).promise H) n m, lt-ltb (length buffer) n b)

  pub call_fits : booth < length ls → n ≤ due (get_or ls booth no_line).promise H → n ≤ length buffer → first_fault (solo_checks ls H booth n buffer) ≡ none
  unfolding solo_checks first_fault refuse_if
  call_fits h m b = rw (lt-leb (length ls) booth h, le-ltb (due (get_or ls booth no_line).promise H) n m, le-ltb (length buffer) n b)

-- what is known of a call that they let pass
pub record Fits (ls : List Line) (H booth n : ℕ) (buffer : List ℕ) : Type 0 where
  pub present : booth < length ls
  pub few : n ≤ due (get_or ls booth no_line).promise H
  pub room : n ≤ length buffer

pub call_passed : (ls : List Line) (H booth n : ℕ) (buffer : List ℕ) → first_fault (solo_checks ls H booth n buffer) ≡ none → Fits ls H booth n buffer
unfolding solo_checks
call_passed ls H booth n buffer e =
    let a = passed _ _ _ _ e in
    let b = passed _ _ _ _ a.1 in
    let c = passed _ _ _ _ b.1 in
    record { present = leb-false _ _ a.0; few = ltb-false _ _ b.0; room = ltb-false _ _ c.0 }

-- ---- the outcome

module _ (table_bytes log_bytes : List ℕ) (booth n : ℕ) (buffer : List ℕ) where
  pub bad_files : (v : Verdict) → read_files table_bytes log_bytes ≡ one_refused v → ask_solo table_bytes log_bytes booth n buffer ≡ record { verdict = v; buffer = buffer }
  unfolding ask_solo
  bad_files v e = rw (e, ask_solo)

  module _ (ls : List Line) (log : Log) (q : read_files table_bytes log_bytes ≡ both_taken ls log) where
    pub bad_call : (r : Refusal) → first_fault (solo_checks ls log.horizon booth n buffer) ≡ some r
        → ask_solo table_bytes log_bytes booth n buffer ≡ record { verdict = refused_as TheCall r; buffer = buffer }
    unfolding ask_solo
    bad_call r e = rw (q, ask_solo) (rw e)

    pub part_written : first_fault (solo_checks ls log.horizon booth n buffer) ≡ none
        → ask_solo table_bytes log_bytes booth n buffer ≡ record { verdict = accepted; buffer = written 0 (solo (get_or ls booth no_line) (own_entries booth log.entries) n) buffer }
    unfolding ask_solo
    part_written e = rw (q, ask_solo) (rw e)
