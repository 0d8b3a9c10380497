-- `solo::Player::admit` meets its contract: each entry that is passed was reached, and the one it stops at was not. Assumes nothing.
use Prim.Native.Nat.{◌-◌}
use lib.ListN.{length}
use Rattle.solo.specs.Played.{Plays}
use Rattle.solo.proofs.Player.admit.Given as goal

abbrev pub invariant-loop-u : goal.invariant-loop-u
invariant-loop-u l = Plays l.booth l.u.0 l.self

abbrev pub decreases-loop-u : goal.decreases-loop-u
decreases-loop-u l = length l.booth.log.now - l.self.next
