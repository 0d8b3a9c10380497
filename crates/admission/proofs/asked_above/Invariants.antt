-- `admission::asked_above` meets its contract: so far, what the booths passed over ask. Assumes nothing.
use Rattle.std.proofs.Common.{◌≡◌, ◌*◌, ◌≤◌, take, map}
use Rattle.rules.specs.Admission.{asked_above}
use Rattle.rules.specs.Values.{line_held}
use Rattle.admission.proofs.asked_above.Given as goal

abbrev pub invariant-loop-line : goal.invariant-loop-line
invariant-loop-line l = record { held : l.asked ≡ asked_above (map line_held (take l.line-index l.above)) l.r; small : l.asked ≤ l.line-index * 200000000 }
