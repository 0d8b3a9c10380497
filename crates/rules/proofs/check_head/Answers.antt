-- `rules::check_head` meets its contract: each return is the first check that fails. Assumes nothing.
use Prim.Native.Nat.{◌+◌}
use native.Mathlib.Omega.{arith}
use borrow.Author.Tests.{eq-eqb, ne_eqb, lt-ltb, le-ltb}
use lib.ListN.{length}
use Rattle.base.specs.Refusals.{refuse_if, first_fault, said, fault_in, number_of}
use Rattle.base.specs.Bytes.{number_at}
use Rattle.rules.specs.FileHead.{head_n, head_checks}
use Rattle.rules.proofs.check_head.Goals as goal

pub returns-then-len-eq0 : goal.returns-then-len-eq0
unfolding head_checks first_fault refuse_if fault_in said number_of
returns-then-len-eq0 g c = simp (c.at.ensures, eq-eqb _ _ c.if-len-eq0.true)

pub returns-then-bytes-ne-VERSION : goal.returns-then-bytes-ne-VERSION
unfolding head_checks first_fault refuse_if fault_in said number_of
returns-then-bytes-ne-VERSION g c = simp (c.at-then-bytes-ne-VERSION.ensures, ne_eqb _ _ c.if-len-eq0.false, ne_eqb _ _ c.if-bytes-ne-VERSION.true)

pub returns-then-len : goal.returns-then-len
unfolding head_checks first_fault refuse_if fault_in said number_of
returns-then-len g c = simp (c.at-then-len.ensures, ne_eqb _ _ c.if-len-eq0.false, eq-eqb _ _ c.if-bytes-ne-VERSION.false, lt-ltb _ _ c.if-len.true)

pub returns-then-len-end : goal.returns-then-len-end
unfolding head_checks first_fault refuse_if fault_in said number_of head_n
returns-then-len-end g c =
    let W = g.row.WIDTH in
    let bs = c.args.bytes.now in
    let end = 1 + W + number_at W bs 1 in
    simp (c.at-then-len-end.ensures, ne_eqb _ _ c.if-len-eq0.false, eq-eqb _ _ c.if-bytes-ne-VERSION.false, le-ltb _ _ c.if-len.false, lt-ltb (length bs) end (omega (arith, c.number.ensures.0)))

pub returns-then-end-len : goal.returns-then-end-len
unfolding head_checks first_fault refuse_if fault_in said number_of head_n
returns-then-end-len g c =
    let W = g.row.WIDTH in
    let bs = c.args.bytes.now in
    let end = 1 + W + number_at W bs 1 in
    simp (c.at-then-end-len.ensures, ne_eqb _ _ c.if-len-eq0.false, eq-eqb _ _ c.if-bytes-ne-VERSION.false, le-ltb _ _ c.if-len.false, le-ltb (length bs) end (omega (arith, c.number.ensures.0)), lt-ltb end (length bs) (omega (arith, c.number.ensures.0)), c.number.ensures.0)

pub returns : goal.returns
unfolding head_checks first_fault refuse_if fault_in head_n
returns g c =
    let W = g.row.WIDTH in
    let bs = c.args.bytes.now in
    let end = 1 + W + number_at W bs 1 in
    simp (ne_eqb _ _ c.if-len-eq0.false, eq-eqb _ _ c.if-bytes-ne-VERSION.false, le-ltb _ _ c.if-len.false, le-ltb (length bs) end (omega (arith, c.number.ensures.0)), le-ltb end (length bs) (omega (arith, c.number.ensures.0)))
