-- What the code tells of two files, and what is known where both are taken.
use Rattle.std.specs.Prelude.{◌≡◌, List, ℕ, ◌≤◌, ◌<◌, length, get_or}
use Rattle.rules.specs.ArrivalLog.{entry_at, longest_session}
use Rattle.std.proofs.Math.Option.{some, none}
use Rattle.rules.specs.Files.{TwoFiles, both_taken, one_refused, read_files}
use Rattle.rules.specs.Verdicts.{Answered, accepted}
use Rattle.rules.specs.Values.{held_table, lines_held, no_held_line}
use Rattle.rules.specs.Fit.{FitTable}
use Rattle.arrivals.specs.Places.{log_of, Place, WholeLog}
use Rattle.files.specs.declared.Files.{Files}

-- the table and the wall ticks of the two, or the verdict that refuses one of them
unfoldable pub told : TwoFiles → Answered Files
told (both_taken ls log) = record { verdict = accepted; given = some (record { table = held_table ls; horizon = log.horizon }) }
told (one_refused v) = record { verdict = v; given = none }

-- the rules take both; the table is theirs, within its limits, the log is whole and its bytes hold the entries that were read, and none is of a task that its booth does not have
pub record FilesTaken (table_bytes log_bytes : List ℕ) (f : Files) : Type 0 where
  pub read : read_files table_bytes log_bytes ≡ both_taken (lines_held f.table) (log_of f.horizon log_bytes)
  pub held : f.table ≡ held_table (lines_held f.table)
  pub fit : FitTable f.table
  pub whole : WholeLog log_bytes
  pub tasks : (j at : ℕ) → j < f.table.booths → Place log_bytes at → at < length log_bytes → (entry_at log_bytes at).booth ≡ j
      → (entry_at log_bytes at).task < (get_or f.table.lines j no_held_line).tasks
  pub short : f.horizon ≤ longest_session
