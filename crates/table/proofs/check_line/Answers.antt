-- `table::check_line` meets its contract: each return is the first check that fails. Assumes nothing.
use Rattle.std.proofs.Common.{rules, tests, arith, ◌≡◌, sym, ◌∙◌, true, false, take}
use Rattle.std.proofs.lemmas.Iterator.{YieldsList-from_slice}
use Rattle.std.proofs.lemmas.Iterator.Search.{any_from_yields_List}
use Rattle.std.specs.List.{list_any}
use lib.Dec.{eqb}
use Rattle.std.proofs.lemmas.Grind.{common_steps}
use Rattle.std.proofs.lemmas.Bool.Decides.{nat_tests}
use Rattle.base.specs.Refusals.{refuse_if, first_fault, fault_in, said, number_of}
use Rattle.rules.specs.BoothTable.{line_checks, some_zero}
use Rattle.rules.specs.Values.{line_held}
use Rattle.table.proofs.Lines.{some_zero_any}
use Rattle.table.proofs.check_line.Goals as goal

pub returns-then-not-contains : goal.returns-then-not-contains
unfolding line_checks line_held first_fault refuse_if fault_in said number_of
returns-then-not-contains c = grind (arith, common_steps, nat_tests, c.at.ensures)

pub returns-then-not-contains-2 : goal.returns-then-not-contains-2
unfolding line_checks line_held first_fault refuse_if fault_in said number_of
returns-then-not-contains-2 c = grind (arith, common_steps, nat_tests, c.at-then-not-contains-2.ensures)

pub returns-then-any : goal.returns-then-any
unfolding line_checks line_held first_fault refuse_if fault_in said number_of
returns-then-any c =
    let jobs = take c.args.line.now.tasks c.args.line.now.longest in
    let zero : c.any.result ≡ list_any (λ j. eqb j 0) jobs = any_from_yields_List (λ j. eqb j 0) _ _ c.any.result c.any.ensures.ran (YieldsList-from_slice jobs cc) (λ x b q k. search (rules, tests)) in
    let some : some_zero jobs ≡ true = some_zero_any jobs ∙ sym zero ∙ c.if-any.true in
    grind (arith, common_steps, nat_tests, some, c.at-then-any.ensures)

pub returns : goal.returns
unfolding line_checks line_held first_fault refuse_if fault_in said number_of
returns c =
    let jobs = take c.args.line.now.tasks c.args.line.now.longest in
    let zero : c.any.result ≡ list_any (λ j. eqb j 0) jobs = any_from_yields_List (λ j. eqb j 0) _ _ c.any.result c.any.ensures.ran (YieldsList-from_slice jobs cc) (λ x b q k. search (rules, tests)) in
    let none : some_zero jobs ≡ false = some_zero_any jobs ∙ sym zero ∙ c.if-any.false in
    grind (arith, common_steps, nat_tests, none)
