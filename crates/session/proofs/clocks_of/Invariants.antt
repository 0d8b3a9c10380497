-- `session::clocks_of` meets its contract: the first i clocks are noted. Assumes nothing.
use mathlib.Core.Path.{◌≡◌}
use mathlib.Core.List.{map}
use lib.ListN.{take}
use Rattle.rules.specs.Values.{padded}
use Rattle.session.proofs.clocks_of.Given as goal

abbrev pub invariant-loop-i : goal.invariant-loop-i
invariant-loop-i l = l.clocks ≡ padded 8 0 (map (λ h. h.clock.0) (take l.i l.booths))
