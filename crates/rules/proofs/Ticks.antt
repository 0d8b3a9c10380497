-- What comparing two ticks tells of their numbers. Assumes nothing.
use Rattle.std.proofs.Common.{rules}
use mathlib.Core.Path.{◌≡◌, sym, ◌∙◌}
use mathlib.Core.Bool.{Bool, true, false}
use Prim.Native.Nat.{ℕ, ◌≤◌, ◌<◌}
use lib.Dec.{leb, ltb}
use borrow.Author.Tests.{ltb-true, ltb-false, leb-true, leb-false}
use Rattle.std.specs.Ordering.{nat_cmp, is_lt, is_le}

pub lt_told : (a b : ℕ) → is_lt (nat_cmp a b) ≡ ltb a b
lt_told a b = search rules

pub le_told : (a b : ℕ) → is_le (nat_cmp a b) ≡ leb a b
le_told a b = search rules

module _ {a b : ℕ} {told : Bool} where
  pub below : told ≡ is_lt (nat_cmp a b) → told ≡ true → a < b
  below e is = ltb-true a b (sym (lt_told a b) ∙ sym e ∙ is)

  pub not_below : told ≡ is_lt (nat_cmp a b) → told ≡ false → b ≤ a
  not_below e is = ltb-false a b (sym (lt_told a b) ∙ sym e ∙ is)

  pub by_then : told ≡ is_le (nat_cmp a b) → told ≡ true → a ≤ b
  by_then e is = leb-true a b (sym (le_told a b) ∙ sym e ∙ is)

  pub past : told ≡ is_le (nat_cmp a b) → told ≡ false → b < a
  past e is = leb-false a b (sym (le_told a b) ∙ sym e ∙ is)
