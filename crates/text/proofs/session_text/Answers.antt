-- `text::session_text` meets its contract: an accepted session has room for its text. Assumes nothing.
use Rattle.rules.specs.Verdicts.{verdict_in}
use Rattle.text.proofs.Printed.{desk_outcome, answer_fits}
use Rattle.text.proofs.session_text.Goals as goal

pub admitted_text-requires : goal.admitted_text-requires
unfolding desk_outcome verdict_in
admitted_text-requires c =
    let s = c.in-Ok.ensures in
    let fit = answer_fits c.args.table.now c.args.log.now c.in-Ok.answer c.session.new.wall s.verdict s.answer c.session.auto.wall in
    (fit.0, fit.1, fit.2, c.requires)
