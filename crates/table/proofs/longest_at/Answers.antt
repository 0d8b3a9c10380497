-- `table::longest_at` meets its contract: the array holds the first k jobs. Assumes nothing.
use mathlib.Core.Path.{refl}
use native.Mathlib.Omega.{arith}
use Rattle.rules.specs.BoothTable.{jobs_at}
use Rattle.rules.specs.Values.{padded}
use Rattle.table.proofs.Lines.{job_stored}
use Rattle.table.proofs.longest_at.Goals as goal

pub loop-k-init : goal.loop-k-init
unfolding padded jobs_at
loop-k-init c = refl

pub loop-k-preserved : goal.loop-k-preserved
loop-k-preserved c =
    let now = c.loop-k in
    job_stored now.longest now.k c.args.bytes.now c.args.at c.number.result now.invariant (omega arith) c.number.ensures.0
