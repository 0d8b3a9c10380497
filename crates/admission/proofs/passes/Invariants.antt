-- `admission::passes` meets its contract: no R below r passes. Assumes nothing.
use Rattle.std.proofs.Common.{◌-◌, ◌<◌, suc, map}
use Rattle.rules.specs.Values.{line_held}
use Rattle.laws.specs.Statements.{NoneBelow}
use Rattle.admission.proofs.passes.Given as goal

abbrev pub invariant-loop-r : goal.invariant-loop-r
invariant-loop-r l = record { first : 0 < l.r; none : NoneBelow (map line_held l.above) l.allowance l.r }

-- what falls: how many R are left from r up to the period, since r was too small and grows to what it asked
abbrev pub decreases-loop-r : goal.decreases-loop-r
decreases-loop-r l = suc l.period - l.r
