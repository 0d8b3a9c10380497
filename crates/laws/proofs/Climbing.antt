-- The climb to the smallest R that passes: from an R that is too small straight to the amount it asked for. Assumes nothing.
use mathlib.Core.Path.{◌≡◌, refl}
use mathlib.Core.Bool.{Bool, true, false}
use mathlib.Core.List.{List, [], ◌∷◌}
use Prim.Native.Nat.{ℕ, zero, suc, ◌+◌, ◌-◌, ◌/◌, ◌≤◌, ◌<◌}
use native.Mathlib.Nat.{div-zero, mul-le-mul_left, mul-le-mul_right}
use native.Mathlib.Decide.{dec_lt}
use native.Mathlib.Omega.{arith}
use lib.Ieee.Nearest.{div_mono}
use Rattle.rules.specs.BoothTable.{Line}
use Rattle.rules.specs.Admission.{rounded_up, asked_above, passes}
use Rattle.laws.specs.Statements.{NoneBelow, Climb}
use Rattle.laws.proofs.Admitted.{passes_means}

div_grows : (n k m : ℕ) → n ≤ k → n / m ≤ k / m
div_grows n k zero h = omega (arith, div-zero n)
div_grows n k (suc m) h = div_mono n (suc m) k (suc m) (omega arith) (omega arith) (mul-le-mul_right (suc m) h)

asked_grows : (above : List Line) (R S : ℕ) → R ≤ S → asked_above above R ≤ asked_above above S
unfolding asked_above rounded_up
asked_grows [] R S h = omega arith
asked_grows (l ∷ ls) R S h =
    let m = l.promise.period in
    omega (arith, asked_grows ls R S h, mul-le-mul_left l.promise.allowance (div_grows (R + (m - 1)) (S + (m - 1)) m (omega arith)))

-- an R below r does not pass by what is known of r; from r on what it asks is no less than what r asks, which is above it
none_below : (above : List Line) (B r : ℕ) → NoneBelow above B r → NoneBelow above B (B + asked_above above r)
none_below above B r none R a b p = go (dec_lt R r)
  where
    go : Dec (R < r) → ⊥
    go (yes k) = none R a k p
    go (no k) = absurd (omega (arith, asked_grows above r R (omega arith)))

pub climb : Climb
climb = record { never_falls = asked_grows; climbs = none_below }

-- a climb that leaves the period has found that the booth fails
pub none_passes : (above : List Line) (l : Line) (r : ℕ) → NoneBelow above l.promise.allowance r → l.promise.period < r → passes above l ≡ false
none_passes above l r none h = go (passes above l) refl
  where
    go : (c : Bool) → passes above l ≡ c → passes above l ≡ false
    go false q = q
    go true q = let (R, a, b, c) = passes_means above l q in absurd (none R a (omega arith) c)
