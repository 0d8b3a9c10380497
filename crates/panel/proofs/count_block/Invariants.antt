-- `panel::count_block` meets its contract. The loop's invariant: the bytes passed are counted, each in its lane, and the lanes behind them are as
-- they were. Assumes nothing.
use Rattle.panel.proofs.Lanes.{Counted}
use Rattle.panel.proofs.count_block.Given as goal

abbrev pub invariant-loop-i : goal.invariant-loop-i
invariant-loop-i l = Counted l.booth l.initial.lanes l.block l.i l.lanes
