-- Lanes that count side by side: how far each may still count.
use Rattle.std.specs.Prelude.{◌≡◌, List, ℕ, ◌+◌, ◌≤◌, ◌<◌, length, get_or}

-- all 128 lanes, each below n
abbrev pub EachBelow : ℕ → List ℕ → Type 0
EachBelow n lanes = (length lanes ≡ 128) × ((i : ℕ) → get_or lanes i 0 < n)

-- as many lanes, and none has grown by more than 1
abbrev pub OneMore : List ℕ → List ℕ → Type 0
OneMore before after = (length after ≡ length before) × ((i : ℕ) → get_or after i 0 ≤ get_or before i 0 + 1)
