-- `booth::Booth::catch_up` meets its contract: taking entries one by one, then resting, is document 01's settle. Assumes nothing.
use Prim.Native.Nat.{◌-◌}
use lib.ListN.{length}
use Rattle.booth.proofs.Settling.{Settling}
use Rattle.booth.proofs.Booth.catch_up.Given as goal

abbrev pub invariant-loop-self : goal.invariant-loop-self
invariant-loop-self l = Settling l.log l.t.0 l.initial.self l.initial.row l.self l.row

abbrev pub decreases-loop-self : goal.decreases-loop-self
decreases-loop-self l = length l.log - l.self.at
