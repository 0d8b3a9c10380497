-- A row handed back: what its checks tell, and what it is. Assumes nothing.
use mathlib.Core.Path.{◌≡◌}
use mathlib.Core.List.{List, []}
use mathlib.Core.Option.{none, some}
use Prim.Native.Nat.{ℕ, ◌+◌, ◌*◌, ◌≤◌, ◌<◌}
use native.Mathlib.Nat.{mul-le-mul_left, mul-le-mul_right}
use native.Mathlib.Omega.{arith}
use borrow.Author.Tests.{leb-false, ltb-false}
use lib.ListN.{length, take, drop}
use Rattle.base.specs.Refusals.{Refusal, first_fault}
use Rattle.rules.specs.Verdicts.{TheCall, accepted, refused_as}
use Rattle.rules.specs.RowBack.{row_checks, row_back}
use Rattle.base.proofs.Checks.{passed}

-- booth 7 of the longest session starts at 7,000,000
pub start_small : (booth H : ℕ) → booth < 8 → H ≤ 1000000 → booth * H ≤ 7000000
start_small booth H b h =
    let seven : booth ≤ 7 = omega arith in
    omega (arith, mul-le-mul_left booth h, mul-le-mul_right 1000000 seven)

module _ (own : List ℕ) (H booth n : ℕ) where
  pub row_refused : (r : Refusal) → first_fault (row_checks own H booth n) ≡ some r → row_back own H booth n ≡ record { verdict = refused_as TheCall r; part = [] }
  unfolding row_back
  row_refused r e = rw (e, row_back)

  pub row_given : first_fault (row_checks own H booth n) ≡ none → row_back own H booth n ≡ record { verdict = accepted; part = take n (drop (booth * H) own) }
  unfolding row_back
  row_given e = rw (e, row_back)

  -- a row that passes its checks lies within the record, and no number on the way to it is large
  pub record Within : Type 0 where
    pub few : booth < 8
    pub long : H ≤ 1000000
    pub count : n ≤ H
    pub end : booth * H + n ≤ length own

  pub row_within : first_fault (row_checks own H booth n) ≡ none → Within
  unfolding row_checks
  row_within e =
      let a = passed _ _ _ _ e in
      let b = passed _ _ _ _ a.1 in
      let d = passed _ _ _ _ b.1 in
      let f = passed _ _ _ _ d.1 in
      record { few = leb-false _ _ a.0; long = ltb-false _ _ b.0; count = ltb-false _ _ d.0; end = ltb-false _ _ f.0 }
