-- `table::read_records` meets its contract: the reader stands where the rules still have to read. Assumes nothing.
use Prim.Native.Nat.{◌-◌}
use lib.ListN.{length}
use Rattle.table.proofs.Reading.{Standing}
use Rattle.table.proofs.read_records.Given as goal

abbrev pub invariant-loop-at : goal.invariant-loop-at
invariant-loop-at l = Standing l.bytes l.records.table.lines l.records.starts l.booths l.at

abbrev pub decreases-loop-at : goal.decreases-loop-at
decreases-loop-at l = length l.bytes - l.at
