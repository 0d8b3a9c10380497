-- `panel::worked_in` meets its contract. The loop's invariant: the blocks passed are counted, at most once in each lane. Assumes nothing.
use Rattle.panel.proofs.Lanes.{Counting}
use Rattle.panel.proofs.worked_in.Given as goal

abbrev pub invariant-loop-block : goal.invariant-loop-block
invariant-loop-block l = Counting l.booth l.part l.block-index l.lanes
