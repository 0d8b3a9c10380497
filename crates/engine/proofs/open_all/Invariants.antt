-- `engine::open_all` meets its contract: the first j booths are open. Assumes nothing.
use Rattle.engine.specs.Running.{OpenedTo}
use Rattle.engine.proofs.open_all.Given as goal

abbrev pub invariant-loop-j : goal.invariant-loop-j
invariant-loop-j l = OpenedTo l.j l.table.lines l.log l.booths
