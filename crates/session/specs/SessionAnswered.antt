-- How the code answers what the rules say of a session that is played: a number for each booth, in arrays of eight, and 0 where the table has no booth.
use Rattle.std.specs.Prelude.{length}
use Rattle.rules.specs.BoothTable.{booths_allowed}
use Rattle.rules.specs.Session.{Outcome}
use Rattle.rules.specs.Values.{padded}
use Rattle.rules.specs.Verdicts.{Answered, answer_with}
use Rattle.session.specs.declared.SessionAnswer.{SessionAnswer}

unfoldable pub answered : Outcome → SessionAnswer
answered o =
    record {
      horizon = o.ticks;
      booths = length o.clocks;
      clocks = padded booths_allowed 0 o.clocks;
      worked = padded booths_allowed 0 o.worked;
      idle = o.idle;
    }

-- the same beside its verdict, and nothing beside one that refuses
unfoldable pub answered_in : Outcome → Answered SessionAnswer
answered_in o = answer_with o.verdict (answered o)
