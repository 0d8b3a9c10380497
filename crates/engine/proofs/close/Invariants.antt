-- `engine::close` meets its contract: the booths before i are settled at H. Assumes nothing.
use mathlib.Core.Path.{◌≡◌}
use lib.ListN.{length}
use Rattle.engine.specs.Running.{Ending, Ended}
use Rattle.engine.proofs.close.Given as goal

abbrev pub invariant-loop-i : goal.invariant-loop-i
invariant-loop-i l =
    (length l.own ≡ length l.initial.own) × ((e : Ended l.n l.h l.initial.booths l.log l.initial.own) → Ending e.lines l.h l.log e.wall₀ e.own₀ l.i l.booths l.own)
