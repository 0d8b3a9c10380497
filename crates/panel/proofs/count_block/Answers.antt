-- `panel::count_block` meets its contract. The loop's invariant: the bytes passed are counted, each in its lane, and the lanes behind them are as
-- they were. Assumes nothing.
use mathlib.Core.Path.{refl}
use native.Mathlib.Omega.{arith}
use Rattle.panel.proofs.Lanes.{none_counted, lane_counts}
use Rattle.panel.proofs.count_block.Goals as goal

pub loop-i-init : goal.loop-i-init
loop-i-init c = none_counted c.args.booth c.args.lanes.now c.args.block.now

pub loop-i-preserved : goal.loop-i-preserved
loop-i-preserved c = lane_counts _ _ _ c.loop-i.invariant (omega (arith, c.requires.1.0)) (omega arith) _ _ refl c.from.ensures
