-- `files::read_files` meets its contract: the table's answer first, then the log's. Assumes nothing.
use Rattle.std.proofs.Common.{rules, ◌≡◌, refl, sym, ap, ◌∙◌, Result, Ok, Err}
use Rattle.std.proofs.lemmas.Result.{err_from_is_err_and}
use Rattle.base.specs.declared.Refusal.{Refusal as HeldRefusal}
use Rattle.base.proofs.Checks.{ok_once, ok_not_err}
use Rattle.rules.specs.declared.Table.{Table as HeldTable}
use Rattle.base.specs.Refusals.{taken}
use Rattle.rules.specs.Admission.{read_table}
use Rattle.rules.specs.Values.{lines_held}
use Rattle.rules.specs.Fit.{FitTable}
use Rattle.files.specs.FilesTaken.{FilesTaken}
use Rattle.rules.specs.Files.{read_files, one_refused}
use Rattle.rules.specs.Verdicts.{verdict_said}
use Rattle.rules.specs.declared.Refused.TheVariants.{Table, Log}
use Rattle.rules.proofs.TwoFiles.{table_refused, log_refused}
use Rattle.table.proofs.TableTaken.{TableTaken, answer_taken, answer_refused}
use Rattle.arrivals.specs.declared.LogAnswer.{LogAnswer}
use Rattle.arrivals.proofs.LogAnswers.{log_taken, log_declined}
use Rattle.files.proofs.InTurn.{lines_taken, taken_so, told_taken, told_refused}
use Rattle.files.proofs.read_files.Goals as goal
use Rattle.files.proofs.read_files.Goals.{In_ok-table, In_err-table, In_ok-answer, In_err-answer}

-- the table was refused so
table_said : (c : In_err-table) → read_files c.args.table.now c.args.log.now ≡ one_refused (verdict_said c.in_err-table.field-0.0)
unfolding verdict_said
table_said c = go c.read_table.result refl
  where
    go : (r : Result HeldTable HeldRefusal) → c.read_table.result ≡ r → read_files c.args.table.now c.args.log.now ≡ one_refused (verdict_said c.in_err-table.field-0.0)
    go (Ok t) q = let h = rw q at c.in_err-table.ensures.cases in absurd (ok_not_err (sym h))
    go (Err e) q =
        let h = rw q at c.in_err-table.ensures.cases in
        let why : c.in_err-table.field-0.0 ≡ Table e = search rules in
        table_refused _ _ _ (answer_refused _ c.read_table.result c.read_table.ensures.read e q) ∙ ap (λ w. one_refused (verdict_said w)) (sym why)

pub returns-in_err-table-clause-refused : goal.returns-in_err-table-clause-refused
returns-in_err-table-clause-refused c =
    let p = err_from_is_err_and c.from_residual.result c.from_residual.ensures.1 in
    rw (p.1, p.2) (table_said (goal.at.returns-in_err-table-clause-refused c).In_err-table)

pub returns-in_err-table-clause-whole : goal.returns-in_err-table-clause-whole
returns-in_err-table-clause-whole c =
    let p = err_from_is_err_and c.from_residual.result c.from_residual.ensures.1 in
    rw (p.1, p.2) (told_refused _ _ _ (table_said (goal.at.returns-in_err-table-clause-whole c).In_err-table))

-- the table was taken
table_was : (c : In_ok-table) → c.read_table.result ≡ Ok c.in_ok-table.table
table_was c = go c.read_table.result refl
  where
    go : (r : Result HeldTable HeldRefusal) → c.read_table.result ≡ r → c.read_table.result ≡ Ok c.in_ok-table.table
    go (Ok t) q = let h = rw q at c.in_ok-table.ensures.cases in q ∙ ap Ok (sym (ok_once h))
    go (Err e) q = let h = rw q at c.in_ok-table.ensures.cases in absurd h

table_taken : (c : In_ok-table) → TableTaken c.args.table.now c.in_ok-table.table
table_taken c = answer_taken _ c.read_table.result c.read_table.ensures.read c.in_ok-table.table (table_was c)

fit : (c : In_ok-table) → FitTable c.in_ok-table.table
fit c = let h = rw (table_was c) at c.read_table.ensures.fit in h

lines_were : (c : In_ok-table) → read_table c.args.table.now ≡ taken (lines_held c.in_ok-table.table)
lines_were c = lines_taken c.args.table.now c.args.log.now c.in_ok-table.table (table_taken c) (fit c)

-- the log was refused so
log_said : (c : In_err-answer) → read_table c.args.table.now ≡ taken (lines_held c.in_ok-table.table) → read_files c.args.table.now c.args.log.now ≡ one_refused (verdict_said c.in_err-answer.field-0.0)
unfolding verdict_said
log_said c lines = go c.read_log.result refl
  where
    go : (r : Result LogAnswer HeldRefusal) → c.read_log.result ≡ r → read_files c.args.table.now c.args.log.now ≡ one_refused (verdict_said c.in_err-answer.field-0.0)
    go (Ok a) q = let h = rw q at c.in_err-answer.ensures.cases in absurd (ok_not_err (sym h))
    go (Err e) q =
        let h = rw q at c.in_err-answer.ensures.cases in
        let why : c.in_err-answer.field-0.0 ≡ Log e = search rules in
        log_refused _ _ _ _ lines (log_declined _ _ c.read_log.result c.read_log.ensures e q) ∙ ap (λ w. one_refused (verdict_said w)) (sym why)

pub returns-in_err-answer-clause-refused : goal.returns-in_err-answer-clause-refused
returns-in_err-answer-clause-refused c =
    let at = goal.at.returns-in_err-answer-clause-refused c in
    let p = err_from_is_err_and c.from_residual-in_err-answer.result c.from_residual-in_err-answer.ensures.1 in
    rw (p.1, p.2) (log_said at.In_err-answer (lines_were at.In_ok-table))

pub returns-in_err-answer-clause-whole : goal.returns-in_err-answer-clause-whole
returns-in_err-answer-clause-whole c =
    let at = goal.at.returns-in_err-answer-clause-whole c in
    let p = err_from_is_err_and c.from_residual-in_err-answer.result c.from_residual-in_err-answer.ensures.1 in
    rw (p.1, p.2) (told_refused _ _ _ (log_said at.In_err-answer (lines_were at.In_ok-table)))

-- both were taken
files_were : (c : In_ok-answer) → TableTaken c.args.table.now c.in_ok-table.table → FitTable c.in_ok-table.table
    → FilesTaken c.args.table.now c.args.log.now (record { table = c.in_ok-table.table; horizon = c.in_ok-answer.answer.horizon })
files_were c took fits = go c.read_log.result refl
  where
    go : (r : Result LogAnswer HeldRefusal) → c.read_log.result ≡ r → FilesTaken c.args.table.now c.args.log.now (record { table = c.in_ok-table.table; horizon = c.in_ok-answer.answer.horizon })
    go (Ok a) q =
        let h = rw q at c.in_ok-answer.ensures.cases in
        taken_so c.args.table.now c.args.log.now c.in_ok-table.table took fits c.in_ok-answer.answer
        (log_taken (lines_held c.in_ok-table.table) c.args.log.now c.read_log.result c.read_log.ensures c.in_ok-answer.answer (q ∙ ap Ok (sym (ok_once h))))
    go (Err e) q = let h = rw q at c.in_ok-answer.ensures.cases in absurd h

pub returns-clause-taken : goal.returns-clause-taken
returns-clause-taken c =
    let at = goal.at.returns-clause-taken c in
    files_were at.In_ok-answer (table_taken at.In_ok-table) (fit at.In_ok-table)

pub returns-clause-whole : goal.returns-clause-whole
returns-clause-whole c =
    let at = goal.at.returns-clause-whole c in
    told_taken _ _ _ (files_were at.In_ok-answer (table_taken at.In_ok-table) (fit at.In_ok-table))
