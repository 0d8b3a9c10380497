-- The first task that passes a test, and what is known of it. Assumes nothing.
use mathlib.Core.Path.{◌≡◌, refl, sym, ap, ◌∙◌}
use mathlib.Core.Logic.{◌⊎◌, inl, inr}
use mathlib.Core.Bool.{Bool, true, false}
use Prim.Native.Nat.{ℕ, zero, suc, ◌+◌, ◌<◌}
use native.Mathlib.Omega.{arith}
use Rattle.rules.specs.Moves.{nobody}
use Rattle.rules.specs.SoloPart.{first_that}

module _ (test : ℕ → Bool) where
  pub hit : (m k : ℕ) → test k ≡ true → first_that test (suc m) k ≡ k
  unfolding first_that
  hit m k q = rw (q, first_that)

  pub miss : (m k : ℕ) → test k ≡ false → first_that test (suc m) k ≡ first_that test m (suc k)
  unfolding first_that
  miss m k q = rw (q, first_that)

  -- no task, or one that passes
  pub found : (m k : ℕ) → (first_that test m k ≡ nobody) ⊎ ((first_that test m k < k + m) × (test (first_that test m k) ≡ true))
  unfolding first_that
  found zero k = inl refl
  found (suc m) k = go (test k) refl (found m (suc k))
    where
      go : (b : Bool) → test k ≡ b → (first_that test m (suc k) ≡ nobody) ⊎ ((first_that test m (suc k) < suc k + m) × (test (first_that test m (suc k)) ≡ true))
          → (first_that test (suc m) k ≡ nobody) ⊎ ((first_that test (suc m) k < k + suc m) × (test (first_that test (suc m) k) ≡ true))
      go true q r = let e : first_that test (suc m) k ≡ k = hit m k q in inr (omega arith, ap test e ∙ q)
      go false q (inl z) = inl (miss m k q ∙ z)
      go false q (inr z) =
          let e : first_that test (suc m) k ≡ first_that test m (suc k) = miss m k q in
          inr (omega (arith, z.0), ap test e ∙ z.1)

-- tests that agree on the tasks find the same
pub alike : (f g : ℕ → Bool) (m k : ℕ) → ((i : ℕ) → i < k + m → f i ≡ g i) → first_that f m k ≡ first_that g m k
unfolding first_that
alike f g zero k h = refl
alike f g (suc m) k h = go (g k) refl (alike f g m (suc k) (λ i l. h i (omega arith)))
  where
    go : (b : Bool) → g k ≡ b → first_that f m (suc k) ≡ first_that g m (suc k) → first_that f (suc m) k ≡ first_that g (suc m) k
    go true q ih = hit f m k (h k (omega arith) ∙ q) ∙ sym (hit g m k q)
    go false q ih = miss f m k (h k (omega arith) ∙ q) ∙ ih ∙ sym (miss g m k q)
