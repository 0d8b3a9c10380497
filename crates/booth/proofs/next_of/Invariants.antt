-- `booth::next_of` meets its contract: every entry passed is another booth's. Assumes nothing.
use mathlib.Core.Path.{◌≡◌}
use Prim.Native.Nat.{◌≤◌}
use Rattle.arrivals.specs.Places.{waiting_at, Place}
use Rattle.booth.proofs.next_of.Given as goal

abbrev pub invariant-loop-at : goal.invariant-loop-at
invariant-loop-at l = record { place : Place l.log l.at; later : l.from ≤ l.at; same : waiting_at l.log l.number l.at ≡ waiting_at l.log l.number l.from }
