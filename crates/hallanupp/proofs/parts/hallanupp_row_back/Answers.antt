-- `hallanupp_row_back` meets its contract: a row that is not refused starts where no product is too large. Assumes nothing.
use Rattle.std.proofs.Common.{ap, ◌∙◌, arith}
use Rattle.base.specs.Refusals.{refusal}
use Rattle.rules.specs.Verdicts.{accepted, verdict_in}
use Rattle.rows.proofs.HandedRow.{start_small}
use Rattle.hallanupp.specs.VerdictInC.{refused_in_c, what_in_c, in_c}
use Rattle.hallanupp.proofs.InC.{row_at, row_none, row_inside, row_there}
use Rattle.hallanupp.proofs.Said.{refuses}
use Rattle.hallanupp.proofs.parts.hallanupp_row_back.Goals as goal

pub returns-in-Err : goal.returns-in-Err
unfolding verdict_in
returns-in-Err c =
    let none = row_none _ _ _ _ _ c.in-Err.ensures (refuses c.in-Err.why) in
    let row = ap (λ v. row_at v 0 0) c.from.ensures ∙ none.0 in
    record { row = row; part = none.1 }

pub overflow_mul-start : goal.overflow_mul-start
unfolding verdict_in
overflow_mul-start c =
    let h = row_inside _ _ _ _ c.in_default.ensures in
    omega (arith, start_small _ _ h.few h.long)

pub returns : goal.returns
unfolding in_c refused_in_c what_in_c accepted refusal verdict_in
returns c =
    let there = row_there _ _ _ _ c.in_default.ensures in
    record { row = there.0; part = there.1 }
