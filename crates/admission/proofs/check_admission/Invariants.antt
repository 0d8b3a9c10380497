-- `admission::check_admission` meets its contract: every booth before i passed. Assumes nothing.
use Rattle.std.proofs.Common.{◌≡◌, [], map}
use Rattle.rules.specs.Admission.{first_failing}
use Rattle.rules.specs.Values.{line_held}
use Rattle.admission.proofs.Test.{failing_from}
use Rattle.admission.proofs.check_admission.Given as goal

abbrev pub invariant-loop-i : goal.invariant-loop-i
invariant-loop-i l = first_failing 0 [] (map line_held l.lines) ≡ failing_from l.lines l.i
