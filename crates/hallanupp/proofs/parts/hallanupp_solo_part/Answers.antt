-- `hallanupp_solo_part` meets its contract: the verdict in C, and the buffer as `solo_part` leaves it. Assumes nothing.
use Rattle.std.proofs.Common.{ap, ◌∙◌}
use Rattle.base.specs.Refusals.{refusal}
use Rattle.rules.specs.Verdicts.{accepted, verdict_in}
use Rattle.hallanupp.specs.VerdictInC.{refused_in_c, what_in_c, in_c}
use Rattle.hallanupp.proofs.parts.hallanupp_solo_part.Goals as goal

pub returns-in-Ok : goal.returns-in-Ok
unfolding in_c refused_in_c what_in_c accepted refusal verdict_in
returns-in-Ok c =
    record {
      verdict = ap in_c c.in-Ok.ensures.verdict;
      buffer = c.in-Ok.ensures.buffer;
    }

pub returns-in-Err : goal.returns-in-Err
unfolding verdict_in
returns-in-Err c =
    record {
      verdict = c.from.ensures ∙ ap in_c c.in-Err.ensures.verdict;
      buffer = c.in-Err.ensures.buffer;
    }
