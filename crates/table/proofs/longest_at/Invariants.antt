-- `table::longest_at` meets its contract: the array holds the first k jobs. Assumes nothing.
use mathlib.Core.Path.{◌≡◌}
use Rattle.rules.specs.BoothTable.{jobs_at}
use Rattle.rules.specs.Values.{padded}
use Rattle.table.proofs.longest_at.Given as goal

abbrev pub invariant-loop-k : goal.invariant-loop-k
invariant-loop-k l = l.longest ≡ padded 8 0 (jobs_at l.k l.bytes l.at)
