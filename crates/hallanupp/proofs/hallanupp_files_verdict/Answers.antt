-- `hallanupp_files_verdict` meets its contract. Assumes nothing.
use Rattle.std.proofs.Common.{sym, ap, ◌∙◌}
use Rattle.base.specs.Refusals.{refusal}
use Rattle.rules.specs.Verdicts.{accepted}
use Rattle.hallanupp.specs.VerdictInC.{refused_in_c, what_in_c, in_c}
use Rattle.hallanupp.proofs.Said.{files_refused, files_taken}
use Rattle.hallanupp.proofs.hallanupp_files_verdict.Goals as goal

pub returns-in-Ok : goal.returns-in-Ok
unfolding in_c refused_in_c what_in_c accepted refusal
returns-in-Ok c = sym (ap in_c (files_taken _ _ _ c.in-Ok.ensures.taken))

pub returns-in-Err : goal.returns-in-Err
returns-in-Err c = c.from.ensures ∙ sym (ap in_c (files_refused _ _ _ c.in-Err.ensures.refused))
