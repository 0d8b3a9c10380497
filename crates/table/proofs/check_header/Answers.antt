-- `table::check_header` meets its contract: the file's head, then whether a booth follows. Assumes nothing.
use Rattle.std.proofs.Common.{◌≡◌, sym, ◌∙◌, arith}
use Rattle.std.proofs.lemmas.Result.{err_from_is_err_and}
use mathlib.Core.Option.{none, some}
use borrow.Author.Tests.{eq-eqb, ne_eqb}
use Rattle.base.specs.Refusals.{refusal, refuse_if, first_fault, fault_in, said, number_of}
use Rattle.base.proofs.Checks.{first_run, second_run}
use Rattle.rules.specs.FileHead.{head_checks}
use Rattle.rules.specs.BoothTable.{table_n, header_checks}
use Rattle.rules.proofs.WholeFile.{head_whole}
use Rattle.table.proofs.check_header.Goals as goal

pub returns-in_err-check_head : goal.returns-in_err-check_head
unfolding header_checks fault_in
returns-in_err-check_head c =
    let p = err_from_is_err_and c.from_residual.result c.from_residual.ensures.1 in
    rw (p.1, p.2) (sym (first_run (head_checks 2 c.args.bytes.now) _ _ (sym c.in_err-check_head.ensures)))

pub returns-then-bytes-eq-FIRST_RECORD : goal.returns-then-bytes-eq-FIRST_RECORD
unfolding header_checks first_fault refuse_if fault_in said number_of
returns-then-bytes-eq-FIRST_RECORD c =
    let bs = c.args.bytes.now in
    let clean : first_fault (head_checks 2 bs) ≡ none = sym c.in_ok-check_head.ensures in
    let none_follows : first_fault (header_checks bs) ≡ some (refusal 4 3) = second_run (head_checks 2 bs) _ clean ∙ rw (eq-eqb (table_n bs) 0 (omega (arith, head_whole 2 bs clean))) in
    rw c.at.ensures (sym none_follows)

pub returns : goal.returns
unfolding header_checks first_fault refuse_if fault_in
returns c =
    let bs = c.args.bytes.now in
    let clean : first_fault (head_checks 2 bs) ≡ none = sym c.in_ok-check_head.ensures in
    sym (second_run (head_checks 2 bs) _ clean ∙ rw (ne_eqb (table_n bs) 0 (λ e. omega (arith, head_whole 2 bs clean))))
