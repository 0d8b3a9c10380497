-- `table::line_at` meets its contract. Assumes nothing.
use Rattle.rules.specs.BoothTable.{line_at, record_l}
use Rattle.rules.specs.Values.{held_line}
use Rattle.rules.proofs.Records.{length_jobs}
use Rattle.table.proofs.line_at.Goals as goal

pub returns : goal.returns
unfolding line_at record_l held_line
returns c = simp (c.number-period.ensures.0, c.number-allowance.ensures.0, c.longest_at-longest.ensures, c.requires.1, length_jobs)
