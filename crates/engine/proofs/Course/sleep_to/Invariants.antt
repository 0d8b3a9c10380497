-- `engine::Course::sleep_to` meets its contract: no booth that was looked at wakes before. Assumes nothing.
use Prim.Native.Nat.{ℕ, ◌≤◌, ◌<◌}
use lib.ListN.{get_or}
use Rattle.engine.proofs.Course.sleep_to.Given as goal

abbrev pub invariant-loop-wake : goal.invariant-loop-wake
invariant-loop-wake l = (j : ℕ) → j < l.wake-index → l.soonest ≤ get_or l.self.wakes j 0
