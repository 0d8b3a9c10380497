-- `hallanupp_session` meets its contract: the session's answer, field by field, or zeros beside what is refused. Assumes nothing.
use Rattle.base.specs.Refusals.{refusal}
use Rattle.rules.specs.Verdicts.{accepted, verdict_in}
use Rattle.session.proofs.ByCases.{refused_does_nothing}
use Rattle.hallanupp.specs.VerdictInC.{refused_in_c, what_in_c, in_c}
use Rattle.hallanupp.proofs.InC.{session_said, session_none}
use Rattle.hallanupp.proofs.Said.{refuses}
use Rattle.hallanupp.proofs.sessions.hallanupp_session.Goals as goal

pub returns-in-Ok : goal.returns-in-Ok
unfolding in_c refused_in_c what_in_c accepted refusal verdict_in
returns-in-Ok c =
    let q = c.in-Ok.ensures in
    record {
      answer = session_said _ _ q.verdict q.answer;
      wall = q.wall;
      own = c.in-Ok.ensures.own;
    }

pub returns-in-Err : goal.returns-in-Err
unfolding verdict_in
returns-in-Err c =
    let q = c.in-Err.ensures in
    let none = refused_does_nothing _ _ _ _ _ q.verdict (refuses c.in-Err.why) in
    record {
      answer = session_none _ _ _ _ _ c.from.ensures none;
      wall = q.wall;
      own = c.in-Err.ensures.own;
    }
