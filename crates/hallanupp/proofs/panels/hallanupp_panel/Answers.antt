-- `hallanupp_panel` meets its contract: the row in C, and a tick that does not fit is answered as another of its kind. Assumes nothing.
use Rattle.std.proofs.Common.{◌∙◌}
use Rattle.base.specs.Refusals.{refusal}
use Rattle.rules.specs.Verdicts.{accepted, verdict_in}
use Rattle.rules.specs.Panel.{no_share}
use Rattle.hallanupp.specs.VerdictInC.{refused_in_c, what_in_c, in_c}
use Rattle.hallanupp.specs.PanelInC.{reading_in_c}
use Rattle.hallanupp.proofs.InC.{panel_said, panel_refused_so, panel_bare}
use Rattle.hallanupp.proofs.Said.{refuses}
use Rattle.hallanupp.proofs.panels.hallanupp_panel.Goals as goal

pub returns-in-Ok : goal.returns-in-Ok
unfolding in_c refused_in_c what_in_c accepted refusal verdict_in
returns-in-Ok c =
    panel_said _ _ _ _ _ c.held_tick.ensures c.in-Ok.row _ c.in-Ok.ensures.verdict c.in-Ok.ensures.row c.reading_number.ensures

pub returns-in-Err : goal.returns-in-Err
unfolding verdict_in no_share reading_in_c
returns-in-Err c =
    panel_bare c.reading_number-in-Err.ensures c.from.ensures ∙ panel_refused_so _ _ _ _ _ c.held_tick.ensures _ c.in-Err.ensures.verdict (refuses c.in-Err.why)
