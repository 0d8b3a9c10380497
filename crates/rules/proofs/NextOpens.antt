-- Where the own tick behind one lies: one tick on, or at the start of the next period. Assumes nothing.
use mathlib.Core.Path.{◌≡◌, ap, ◌∙◌}
use Prim.Native.Nat.{ℕ, suc, ◌+◌, ◌-◌, ◌*◌, ◌/◌, ◌%◌, ◌<◌}
use native.Mathlib.Nat.{mod-lt, div-add-mod'}
use native.Mathlib.Omega.{arith}
use lib.Arith.{digits_div, digits_mod}
use Rattle.rules.specs.declared.Promise.{Promise}
use Rattle.rules.specs.declared.Opens.{Opens}
use Rattle.rules.specs.Due.{playable_from}
use Rattle.rules.specs.Opens.{opens_at}
use Rattle.rules.specs.InRange.{Sound}

abbrev lies : ℕ → ℕ → Opens
lies from into = record { from = record { 0 = from }; into = into }

module _ (p : Promise) (sound : Sound p) (u : ℕ) where
  abbrev T : ℕ
  T = p.period

  abbrev B : ℕ
  B = p.allowance

  short : u % B < B
  short = mod-lt u sound.allowance

  split : u / B * B + u % B ≡ u
  split = div-add-mod' u B

  -- the digits of u + 1 say where it lies
  by_digits : (q r : ℕ) → r < B → suc u ≡ q * B + r → lies (q * T + r) r ≡ opens_at p (suc u)
  unfolding opens_at playable_from
  by_digits q r h e =
      let quotient : suc u / B ≡ q = ap (λ x. x / B) e ∙ digits_div q h in
      let remainder : suc u % B ≡ r = ap (λ x. x % B) e ∙ digits_mod q h in
      rw (quotient, remainder)

  module _ (o : Opens) (is : o ≡ opens_at p u) where
    into : o.into ≡ u % B
    unfolding opens_at
    into = ap (λ (x : Opens). x.into) is

    from : o.from.0 ≡ u / B * T + u % B
    unfolding opens_at playable_from
    from = ap (λ (x : Opens). x.from.0) is

    pub lies_in : o.into < B
    lies_in = omega (arith, into, short)

    -- the allowance is used up
    pub next_anew : o.into + 1 ≡ B → lies (o.from.0 + (T - o.into)) 0 ≡ opens_at p (suc u)
    next_anew last =
        let period : (u / B + 1) * T ≡ u / B * T + T = omega arith in
        let whole : (u / B + 1) * B ≡ u / B * B + B = omega arith in
        let there : o.from.0 + (T - o.into) ≡ (u / B + 1) * T + 0 = omega (arith, from, into, sound.within, period) in
        ap (λ n. lies n 0) there ∙ by_digits (u / B + 1) 0 sound.allowance (omega (arith, split, into, whole))

    -- it is not
    pub next_within : o.into + 1 < B → lies (o.from.0 + 1) (o.into + 1) ≡ opens_at p (suc u)
    next_within more =
        let there : o.from.0 + 1 ≡ u / B * T + (u % B + 1) = omega (arith, from) in
        let beside : o.into + 1 ≡ u % B + 1 = omega (arith, into) in
        ap (λ n. lies n (o.into + 1)) there ∙ ap (λ n. lies (u / B * T + (u % B + 1)) n) beside ∙ by_digits (u / B) (u % B + 1) (omega (arith, into)) (omega (arith, split))
