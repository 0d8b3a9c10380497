-- A file whose head passes its checks is as long as its N says. Assumes nothing.
use mathlib.Core.Path.{◌≡◌}
use mathlib.Core.List.{List}
use mathlib.Core.Option.{none}
use Prim.Native.Nat.{ℕ, ◌+◌}
use native.Mathlib.Omega.{arith}
use borrow.Author.Tests.{ltb-false}
use lib.ListN.{length}
use Rattle.base.specs.Refusals.{first_fault}
use Rattle.base.proofs.Checks.{passed}
use Rattle.rules.specs.FileHead.{head_n, head_end, head_checks}

pub head_whole : (width : ℕ) (bs : List ℕ) → first_fault (head_checks width bs) ≡ none → length bs ≡ head_end width + head_n width bs
unfolding head_checks
head_whole width bs e =
    let a = passed _ _ _ _ e in
    let b = passed _ _ _ _ a.1 in
    let c = passed _ _ _ _ b.1 in
    let d = passed _ _ _ _ c.1 in
    let f = passed _ _ _ _ d.1 in
    omega (arith, ltb-false (length bs) (head_end width + head_n width bs) d.0, ltb-false (head_end width + head_n width bs) (length bs) f.0)
