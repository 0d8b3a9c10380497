-- `hallanupp_table_verdict` meets its contract. Assumes nothing.
use Rattle.std.proofs.Common.{sym, ap, ◌∙◌}
use Rattle.base.specs.Refusals.{refusal}
use Rattle.rules.specs.Verdicts.{accepted}
use Rattle.table.proofs.TableTaken.{answer_taken, answer_refused}
use Rattle.hallanupp.specs.VerdictInC.{refused_in_c, what_in_c, in_c}
use Rattle.hallanupp.proofs.Said.{table_refused, table_taken}
use Rattle.hallanupp.proofs.hallanupp_table_verdict.Goals as goal

pub returns-in-Ok : goal.returns-in-Ok
unfolding in_c refused_in_c what_in_c accepted refusal
returns-in-Ok c =
    let k = answer_taken c.args.table.now c.read_table.result c.read_table.ensures.read c.in-Ok.field-0 c.in-Ok.is in
    sym (ap in_c (table_taken c.args.table.now k.lines k.read))

pub returns-in-Err : goal.returns-in-Err
returns-in-Err c =
    let refused = answer_refused c.args.table.now c.read_table.result c.read_table.ensures.read c.in-Err.refusal c.in-Err.is in
    c.from.ensures ∙ sym (ap in_c (table_refused c.args.table.now c.in-Err.refusal refused))
