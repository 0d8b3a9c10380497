-- `arrivals::check_entries` meets its contract: the reader stands where entries are still to be checked. Assumes nothing.
use mathlib.Core.List.{map}
use Prim.Native.Nat.{◌-◌}
use lib.ListN.{length}
use Rattle.rules.specs.Values.{line_held}
use Rattle.arrivals.proofs.LogReading.{Standing}
use Rattle.arrivals.proofs.check_entries.Given as goal

abbrev pub invariant-loop-at : goal.invariant-loop-at
invariant-loop-at l = Standing (map line_held l.lines) l.h l.bytes l.before.0 l.at

abbrev pub decreases-loop-at : goal.decreases-loop-at
decreases-loop-at l = length l.bytes - l.at
