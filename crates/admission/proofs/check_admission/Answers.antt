-- `admission::check_admission` meets its contract: every booth before i passed. Assumes nothing.
use Rattle.std.proofs.Common.{rules, ◌≡◌, true, false, sym, ◌∙◌, arith, map, get_or, take}
use Rattle.std.proofs.lemmas.List.Elements.{All-take, All-drop}
use Rattle.base.specs.Refusals.{said, number_of, fault_in}
use Rattle.rules.specs.Admission.{passes}
use Rattle.rules.specs.Values.{line_held, lines_held, no_held_line}
use Rattle.rules.specs.Fit.{FitLine}
use Rattle.admission.specs.NotAdmitted.{not_admitted_at}
use Rattle.admission.proofs.Test.{all_fit, from_first, failing_more, failing_here, failing_none}
use Rattle.admission.proofs.check_admission.Goals as goal

pub passes-requires-clause-above : goal.passes-requires-clause-above
passes-requires-clause-above c = search (rules, All-take FitLine, All-drop FitLine, all_fit c.args.table.now c.requires)

pub passes-requires-clause-line : goal.passes-requires-clause-line
passes-requires-clause-line c = all_fit c.args.table.now c.requires c.loop-i.i no_held_line (omega arith)

pub returns-then-not-passes : goal.returns-then-not-passes
unfolding lines_held not_admitted_at fault_in said number_of
returns-then-not-passes c =
    let i = c.loop-i.i in
    let lines = take c.args.table.now.booths c.args.table.now.lines in
    let fails : passes (map line_held (take i lines)) (line_held (get_or lines i no_held_line)) ≡ false = grind (arith, from_first, sym c.passes.ensures ∙ c.if-not-passes.true) in
    simp (c.at.ensures, c.loop-i.invariant ∙ failing_here lines i (omega arith) fails)

pub loop-i-preserved : goal.loop-i-preserved
loop-i-preserved c =
    let lines = take c.args.table.now.booths c.args.table.now.lines in
    let i = c.loop-i.i in
    let passed : passes (map line_held (take i lines)) (line_held (get_or lines i no_held_line)) ≡ true = grind (arith, from_first, sym c.passes.ensures ∙ c.if-not-passes.false) in
    c.loop-i.invariant ∙ failing_more lines i (omega arith) passed

pub returns : goal.returns
unfolding lines_held not_admitted_at fault_in
returns c =
    let lines = take c.args.table.now.booths c.args.table.now.lines in
    simp (c.loop-i.invariant ∙ failing_none lines c.loop-i.i (omega arith))
