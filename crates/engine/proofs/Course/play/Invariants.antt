-- `engine::Course::play` meets its contract: the booths before i were asked in vain. Assumes nothing.
use Rattle.engine.specs.Running.{AskedTo}
use Rattle.engine.proofs.Course.play.Given as goal

abbrev pub invariant-loop-i : goal.invariant-loop-i
invariant-loop-i l = AskedTo l.n l.h l.log l.t 0 l.initial.own l.initial.self l.i l.own l.self
