-- A share of a power of two loses nothing: it has the value of the fraction, and times the divisor it is the dividend again. Assumes nothing.
use mathlib.Core.Path.{◌≡◌, refl, sym, ap, ◌∙◌, subst}
use mathlib.Core.Bool.{Bool, true, false, cond, true≢false}
use Prim.Native.Nat.{ℕ, suc, ◌+◌, ◌-◌, ◌*◌, ◌^◌, ◌≤◌, ◌<◌}
use native.Mathlib.Nat.{mul-one, mul_assoc, mul_comm, mul-pos, mul-mul-mul_comm, le_trans, lt_of_lt_of_le, le_of_lt, zero-lt-suc, lt_irrefl}
use native.Mathlib.Omega.{arith}
use lib.IntN.{pos, negsuc}
use borrow.Author.Tests.{ltb-true, ltb-false}
use lib.Dec.{T, ltb, eqb, eqb→eq, not_T, lit≤}
use lib.Pow.{pow-add, pow_pos, pow_mono, shl_lt}
use lib.Ieee.{Float, nan, inf, fin, Format, binary32, binary64, prec, emax, low, up, down, round, mul, div, of_int}
use lib.Ieee.Digits.{back}
use lib.Ieee.Fits.{down_pos, reach}
use lib.Ieee.Bits.{cond_no}
use lib.Ieee.Positive.{first_pos}
use lib.Ieee.Exact.{HasValue, round_exact}
use lib.Ieee.Back.{round_whole}
use lib.Ieee.Scale.{round_same}
use Rattle.rules.specs.Panel.{share}
use Rattle.panel.specs.Exact.{ExactAtPowers, AThird}

-- ---- an operation on two values that are not below 0 rounds the fraction that it makes of any two fractions equal to them

module _ (f : Format) where
  product : (x y : Float) (a c b d : ℕ) → 0 < c → 0 < d → HasValue x false a c → HasValue y false b d → mul f x y ≡ round f false (a * b) (c * d)
  unfolding mul
  product nan y a c b d C D v w = absurd v
  product (inf s) y a c b d C D v w = absurd v
  product (fin s m e) nan a c b d C D v w = absurd w
  product (fin s m e) (inf t) a c b d C D v w = absurd w
  product (fin true m e) (fin t n g) a c b d C D v w = absurd (true≢false v.0)
  product (fin false m e) (fin true n g) a c b d C D v w = absurd (true≢false w.0)
  product (fin false m e) (fin false n g) a c b d C D v w =
      round_same f false (m * up e * (n * up g)) (down e * down g) (a * b) (c * d) (mul-pos (down_pos e) (down_pos g)) (mul-pos C D)
      (mul-mul-mul_comm (m * up e) (n * up g) c d ∙ ap (λ z. z * (n * up g * d)) v.1 ∙ ap (λ z. a * down e * z) w.1 ∙ mul-mul-mul_comm a (down e) b (down g))

  quotient : (x y : Float) (a c b d : ℕ) → 0 < c → 0 < d → 0 < b → HasValue x false a c → HasValue y false b d → div f x y ≡ round f false (a * d) (b * c)
  unfolding div
  quotient nan y a c b d C D B v w = absurd v
  quotient (inf s) y a c b d C D B v w = absurd v
  quotient (fin s m e) nan a c b d C D B v w = absurd w
  quotient (fin s m e) (inf t) a c b d C D B v w = absurd w
  quotient (fin true m e) (fin t n g) a c b d C D B v w = absurd (true≢false v.0)
  quotient (fin false m e) (fin true n g) a c b d C D B v w = absurd (true≢false w.0)
  quotient (fin false m e) (fin false n g) a c b d C D B v w =
      let N : 0 < n * up g * d = subst (λ z. 0 < z) (sym w.1) (mul-pos B (down_pos g)) in
      let P : 0 < n * up g = first_pos (n * up g) d N in
      let whole : T (eqb n 0) → ⊥ = λ z. lt_irrefl 0 (subst (λ y. 0 < y) (eqb→eq n 0 z) (first_pos n (up g) P)) in
      cond_no (eqb n 0) (cond (eqb m 0) nan (inf false)) (round f false (m * up e * down g) (n * up g * down e)) (not_T (eqb n 0) whole)
      ∙ round_same f false (m * up e * down g) (n * up g * down e) (a * d) (b * c) (mul-pos P (down_pos e)) (mul-pos B C)
      (ap (λ z. m * up e * down g * z) (mul_comm b c)
      ∙ mul-mul-mul_comm (m * up e) (down g) c b
      ∙ ap (λ z. z * (down g * b)) v.1
      ∙ ap (λ z. a * down e * z) (mul_comm (down g) b ∙ sym w.1 ∙ mul_comm (n * up g) d)
      ∙ mul-mul-mul_comm a (down e) d (n * up g)
      ∙ ap (λ z. a * d * z) (mul_comm (down e) (n * up g)))

-- ---- a power of two divides with no rounding

-- a format reaches further below 1 than it has digits
deep : (f : Format) → prec f ≤ low f
deep binary32 = lit≤ tt
deep binary64 = lit≤ tt

divided : (f : Format) (k part : ℕ) → k ≤ prec f → part < 2 ^ prec f → HasValue (round f false part (2 ^ k)) false part (2 ^ k)
divided f k part K P =
    round_exact f false part (2 ^ k) part (low f - k) (pow_pos k) P
    (lt_of_lt_of_le (shl_lt (prec f) (low f - k) P) (pow_mono (room (prec f) (low f) (suc (emax f)) k (reach f))))
    (ap (λ z. part * z) (ap (λ z. 2 ^ z) (sym (back (low f) k (le_trans K (deep f)))) ∙ pow-add 2 (low f - k) k) ∙ sym (mul_assoc part (2 ^ (low f - k)) (2 ^ k)))
  where
    room : (p l e k : ℕ) → p ≤ e → p + (l - k) ≤ l + e
    room p l e k h = omega arith

-- the law, at any format: a part with no more digits than the format keeps, over 2 ^ k, keeps its value
power_value : (f : Format) (k part : ℕ) → k ≤ prec f → part < 2 ^ prec f → HasValue (div f (of_int f (pos part)) (of_int f (pos (2 ^ k)))) false part (2 ^ k)
unfolding of_int
power_value f k part K P =
    let d = 2 ^ k in
    let x = round f false part 1 in
    let y = round f false d 1 in
    let one : 0 < 1 = zero-lt-suc 0 in
    let q : div f x y ≡ round f false part d =
    quotient f x y part 1 d 1 one one (pow_pos k) (round_whole f false part (le_of_lt P)) (round_whole f false d (pow_mono K))
    ∙ ap (λ z. round f false z (d * 1)) (mul-one part)
    ∙ ap (λ z. round f false part z) (mul-one d) in
    subst (λ z. HasValue z false part d) (sym q) (divided f k part K P)

-- and what has the value of a share is, times the whole, the part
times_back : (f : Format) (got : Float) (part whole : ℕ) → 0 < whole → whole ≤ 2 ^ prec f → HasValue got false part whole
    → mul f got (of_int f (pos whole)) ≡ of_int f (pos part)
unfolding of_int
times_back f got part d D W v =
    let one : 0 < 1 = zero-lt-suc 0 in
    product f got (round f false d 1) part d d 1 D one v (round_whole f false d W)
    ∙ round_same f false (part * d) (d * 1) part 1 (mul-pos D one) one (mul_assoc part d 1)

-- ---- the law of a share

-- a power of two below 2 ^ m is one of the first m
small_power : (k m : ℕ) → 2 ^ k < 2 ^ m → k ≤ m
small_power k m h = go (ltb m k) refl
  where
    go : (b : Bool) → ltb m k ≡ b → k ≤ m
    go true q = absurd (lt_irrefl (2 ^ k) (lt_of_lt_of_le h (pow_mono (le_of_lt (ltb-true m k q)))))
    go false q = ltb-false m k q

pub share_exact : (part whole : ℕ) → part < 2 ^ 53 → whole < 2 ^ 53 → ExactAtPowers part whole (share part whole)
unfolding share
share_exact part whole P W k e =
    let K : k ≤ 53 = small_power k 53 (subst (λ z. z < 2 ^ 53) e W) in
    let D : 0 < whole = subst (λ z. 0 < z) (sym e) (pow_pos k) in
    let v : HasValue (share part whole) false part whole =
    subst (λ z. HasValue (div binary64 (of_int binary64 (pos part)) (of_int binary64 (pos z))) false part z) (sym e) (power_value binary64 k part K P) in
    record { value = v; times = times_back binary64 (share part whole) part whole D (le_of_lt W) v }

-- ---- a third, computed

-- the double nearest to a third: an odd number over 2 ^ 54
abbrev third : Float
third = fin false 6004799503160661 (negsuc 53)

third_is : share 1 3 ≡ third
unfolding share div of_int round
third_is = refl

whole_is : (of_int binary64 (pos 1) ≡ fin false 1 (pos 0)) × (of_int binary64 (pos 3) ≡ fin false 3 (pos 0))
unfolding of_int round
whole_is = (refl, refl)

back_to_one : mul binary64 third (fin false 3 (pos 0)) ≡ fin false 1 (pos 0)
unfolding mul round
back_to_one = refl

pub a_third : AThird
a_third = record {
  times = ap (λ x. mul binary64 x (of_int binary64 (pos 3))) third_is ∙ ap (mul binary64 third) whole_is.1 ∙ back_to_one ∙ sym whole_is.0;
  no_value = λ v. no (subst (λ x. HasValue x false 1 3) third_is v).1;
}
  where
    no : 6004799503160661 * 1 * 3 ≡ 1 * 2 ^ 54 → ⊥
    no e = omega (arith, e)
