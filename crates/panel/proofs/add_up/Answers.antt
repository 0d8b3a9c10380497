-- `panel::add_up` meets its contract: 128 bytes add up to less than 2 ^ 16. Assumes nothing.
use Rattle.std.proofs.Common.{rules}
use Rattle.std.proofs.iter.runs.Sources.{sums}
use Rattle.panel.proofs.add_up.Goals as goal

pub sum-worked-requires-clause-fits : goal.sum-worked-requires-clause-fits
sum-worked-requires-clause-fits c = search (rules, sums)
