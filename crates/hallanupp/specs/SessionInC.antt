-- A session's outcome in a C struct: the verdict, then a number for each booth in arrays of eight, with 0 where the table has no booth, and H last.
use Rattle.std.specs.Prelude.{length}
use Rattle.rules.specs.BoothTable.{booths_allowed}
use Rattle.rules.specs.Session.{Outcome}
use Rattle.rules.specs.Values.{padded}
use Rattle.hallanupp.specs.declared.sessions.CSession.{CSession}
use Rattle.hallanupp.specs.VerdictInC.{in_c}

unfoldable pub session_in_c : Outcome → CSession
session_in_c o =
    record {
      verdict = in_c o.verdict;
      booths = length o.clocks;
      clocks = padded booths_allowed 0 o.clocks;
      worked = padded booths_allowed 0 o.worked;
      idle = o.idle;
      wall_ticks = o.ticks;
    }
