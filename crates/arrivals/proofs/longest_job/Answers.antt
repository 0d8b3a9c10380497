-- `arrivals::longest_job` meets its contract: a line's jobs are what its slice of them holds. Assumes nothing.
use native.Mathlib.Omega.{arith}
use Rattle.std.proofs.lemmas.Grind.{common_steps}
use Rattle.std.proofs.lemmas.Option.{gets}
use Rattle.rules.specs.Values.{no_held_line}
use Rattle.arrivals.proofs.EntryChecks.{own_jobs}
use Rattle.arrivals.proofs.longest_job.Goals as goal

pub returns-in_err-longest-clause-job : goal.returns-in_err-longest-clause-job
returns-in_err-longest-clause-job c =
    let line = c.in_ok-line.ensures.lookup.3.1 no_held_line in
    rw (own_jobs c.args.lines.now c.args.booth, ← line) (grind (arith, common_steps, gets))

pub returns-clause-job : goal.returns-clause-job
returns-clause-job c =
    let line = c.in_ok-line.ensures.lookup.3.1 no_held_line in
    rw (own_jobs c.args.lines.now c.args.booth, ← line) (grind (arith, common_steps, gets))
