-- What the two readers' answers say of both files. Assumes nothing.
use mathlib.Core.Path.{◌≡◌, sym, ap, ◌∙◌}
use mathlib.Core.List.{List}
use Prim.Native.Nat.{ℕ}
use native.Mathlib.Omega.{arith}
use Rattle.base.specs.Refusals.{taken}
use Rattle.rules.specs.declared.Table.{Table}
use Rattle.rules.specs.Admission.{read_table}
use Rattle.std.proofs.Common.{Ok, Err}
use Rattle.std.proofs.Math.Option.{some}
use Rattle.rules.specs.declared.Refused.{Refused}
use Rattle.rules.specs.Verdicts.{accepted, verdict_said, answer_in}
use Rattle.rules.specs.Files.{both_taken, one_refused, read_files}
use Rattle.rules.specs.Values.{held_table, lines_held}
use Rattle.rules.specs.Fit.{FitTable}
use Rattle.rules.proofs.Held.{lines_held_lem}
use Rattle.rules.proofs.TwoFiles.{both_taken_lem}
use Rattle.laws.proofs.Readers.{read_log_lem}
use Rattle.table.proofs.TableTaken.{TableTaken}
use Rattle.arrivals.specs.declared.LogAnswer.{LogAnswer}
use Rattle.arrivals.specs.Places.{log_of}
use Rattle.arrivals.proofs.LogAnswers.{Took}
use Rattle.arrivals.proofs.TakenLog.{log_is, whole_log, task_fits}
use Rattle.files.specs.declared.Files.{Files}
use Rattle.files.specs.FilesTaken.{FilesTaken, told}

module _ (table_bytes log_bytes : List ℕ) (t : Table) (k : TableTaken table_bytes t) (fit : FitTable t) where
  lines_are : lines_held t ≡ k.lines
  lines_are = ap lines_held k.held ∙ lines_held_lem k.lines

  pub lines_taken : read_table table_bytes ≡ taken (lines_held t)
  lines_taken = k.read ∙ ap taken (sym lines_are)

  module _ (l : LogAnswer) (took : Took (lines_held t) log_bytes l) where
    both : read_files table_bytes log_bytes ≡ both_taken (lines_held t) (log_of l.horizon log_bytes)
    both =
        both_taken_lem table_bytes log_bytes (lines_held t) took.log lines_taken took.read
        ∙ ap (both_taken (lines_held t)) (log_is (lines_held t) log_bytes took.log took.read ∙ ap (λ h. log_of h log_bytes) (sym took.horizon))

    pub taken_so : FilesTaken table_bytes log_bytes (record { table = t; horizon = l.horizon })
    taken_so =
        record {
          read = both;
          held = k.held ∙ ap held_table (sym lines_are);
          fit = fit;
          whole = whole_log (lines_held t) log_bytes took.log took.read;
          tasks = task_fits t log_bytes took.log took.read;
          short = omega (arith, took.horizon, (read_log_lem (lines_held t) log_bytes took.log took.read).short);
        }

-- ---- what is told of them

pub told_taken : (table_bytes log_bytes : List ℕ) (f : Files) → FilesTaken table_bytes log_bytes f → answer_in (Ok f) ≡ told (read_files table_bytes log_bytes)
unfolding answer_in told log_of
told_taken table_bytes log_bytes f k = ap (λ t. record { verdict = accepted; given = some (record { table = t; horizon = f.horizon }) }) k.held ∙ sym (ap told k.read)

pub told_refused : (table_bytes log_bytes : List ℕ) (why : Refused) → read_files table_bytes log_bytes ≡ one_refused (verdict_said why) → answer_in {A = Files} (Err why) ≡ told (read_files table_bytes log_bytes)
unfolding answer_in told
told_refused table_bytes log_bytes why e = sym (ap told e)
