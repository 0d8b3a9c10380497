-- "Where t is a power of two, got times t is worked exactly."
use Rattle.std.specs.Prelude.{◌≡◌, false, List, ℕ, ◌^◌, pos, Float, take}
use Rattle.std.specs.Float.{binary64}
use Rattle.std.specs.Float.Ieee.{mul, of_int}
use Rattle.std.specs.Float.Ieee.Exact.{HasValue}
use Rattle.rules.specs.Verdicts.{accepted}
use Rattle.rules.specs.Session.{count}
use Rattle.rules.specs.Panel.{share, panel}

-- a double that is a share of a whole, with nothing rounded away
pub record ExactShare (part whole : ℕ) (got : Float) : Type 0 where
  -- it is finite and its value is the part over the whole
  pub value : HasValue got false part whole
  -- so times the whole it is the part, in doubles too
  pub times : mul binary64 got (of_int binary64 (pos whole)) ≡ of_int binary64 (pos part)

-- the share is exact where the whole is a power of two
abbrev pub ExactAtPowers : ℕ → ℕ → Float → Type 0
ExactAtPowers part whole got = (k : ℕ) → whole ≡ 2 ^ k → ExactShare part whole got

-- so of every panel row that is not a refusal
abbrev pub ExactPanel : Type 0
ExactPanel =
    (table wall : List ℕ) (booth t : ℕ) → (panel table wall booth t).verdict ≡ accepted
    → ExactAtPowers (count booth (take t wall)) t (panel table wall booth t).got

-- why the product alone would not say it: a third times three rounds to one, though no double is a third
pub record AThird : Type 0 where
  pub times : mul binary64 (share 1 3) (of_int binary64 (pos 3)) ≡ of_int binary64 (pos 1)
  pub no_value : ¬ (HasValue (share 1 3) false 1 3)
