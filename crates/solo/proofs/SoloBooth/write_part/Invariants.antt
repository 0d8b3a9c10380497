-- `solo::SoloBooth::write_part` meets its contract: after u turns the part holds the first u own ticks. Assumes nothing.
use mathlib.Core.Path.{◌≡◌}
use Rattle.base.specs.Bytes.{written}
use Rattle.rules.specs.SoloPart.{solo}
use Rattle.rules.specs.Values.{line_held}
use Rattle.solo.specs.Played.{Plays}
use Rattle.arrivals.specs.Places.{waiting_at}
use Rattle.solo.proofs.SoloBooth.write_part.Given as goal

abbrev pub invariant-loop-u : goal.invariant-loop-u
invariant-loop-u l =
    record {
      plays : Plays l.self l.u l.player;
      part : l.part ≡ written 0 (solo (line_held l.self.line) (waiting_at l.self.log.now l.self.number 9) l.u) l.initial.part;
    }
