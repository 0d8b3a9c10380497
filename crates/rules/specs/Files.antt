-- The two files of a session in their order: the table, then the log over its lines. Every call that is handed both reads them so.
use Rattle.std.specs.Prelude.{List, ℕ}
use Rattle.base.specs.Refusals.{taken, refused}
use Rattle.rules.specs.Verdicts.{TheTable, TheLog, Verdict, accepted, refused_as}
use Rattle.rules.specs.BoothTable.{Line}
use Rattle.rules.specs.ArrivalLog.{Log, read_log}
use Rattle.rules.specs.Admission.{read_table}

-- both taken, with the table's lines and the log, or the verdict that refuses one of them
pub data TwoFiles : Type 0 where
  both_taken : List Line → Log → TwoFiles
  one_refused : Verdict → TwoFiles

unfoldable pub read_files : List ℕ → List ℕ → TwoFiles
read_files table_bytes log_bytes =
    elim (read_table table_bytes) [
      | refused r ↦ one_refused (refused_as TheTable r)
      | taken ls ↦ elim (read_log ls log_bytes) [ refused r ↦ one_refused (refused_as TheLog r) | taken log ↦ both_taken ls log ]
    ]

-- what is answered where nothing else is asked
unfoldable pub files_verdict : List ℕ → List ℕ → Verdict
files_verdict table_bytes log_bytes = elim (read_files table_bytes log_bytes) [ one_refused v ↦ v | both_taken ls log ↦ accepted ]
