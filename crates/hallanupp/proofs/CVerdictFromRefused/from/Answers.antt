-- A refusal in C meets its contract: each case has its number. Assumes nothing.
use Rattle.base.specs.Refusals.{refusal, said}
use Rattle.rules.specs.Verdicts.{refused_as, verdict_said}
use Rattle.hallanupp.specs.VerdictInC.{refused_in_c, what_in_c, in_c}
use Rattle.hallanupp.proofs.CVerdictFromRefused.from.Goals as goal
use Rattle.hallanupp.proofs.CVerdictFromRefused.from.Goals.{in-Table, in-Log, in-Call}

pub returns : goal.returns
unfolding in_c refused_in_c what_in_c verdict_said refused_as said refusal
returns c =
    elim c.match-why.branch [
      | in-Table w ↦ rw (c.number.ensures, w.refused-is, w.in-Table.is)
      | in-Log w ↦ rw (c.number.ensures, w.refused-is, w.in-Log.is)
      | in-Call w ↦ rw (c.number.ensures, w.refused-is, w.in-Call.is)
    ]
