-- Entries in the log's order.
use Rattle.std.specs.Prelude.{List, [], ◌∷◌, ℕ, ◌≤◌}
use Rattle.rules.specs.ArrivalLog.{Entry}

-- every tick is at least t
abbrev pub From : ℕ → List Entry → Type 0
From t [] = Unit {0}
From t (e ∷ es) = (t ≤ e.tick) × From t es

-- ticks never fall
abbrev pub Sorted : List Entry → Type 0
Sorted [] = Unit {0}
Sorted (e ∷ es) = From e.tick es × Sorted es
