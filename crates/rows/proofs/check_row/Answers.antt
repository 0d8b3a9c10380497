-- `rows::check_row` meets its contract: each return is the first check that fails. Assumes nothing.
use native.Mathlib.Omega.{arith}
use borrow.Author.Tests.{le-leb, lt-leb, lt-ltb, le-ltb}
use Rattle.base.specs.Refusals.{refuse_if, first_fault, fault_in, said, number_of}
use Rattle.rules.specs.RowBack.{row_checks}
use Rattle.rows.proofs.HandedRow.{start_small}
use Rattle.rows.proofs.check_row.Goals as goal

pub returns-then-booth-ge-BOOTHS_ALLOWED : goal.returns-then-booth-ge-BOOTHS_ALLOWED
unfolding row_checks first_fault refuse_if fault_in said number_of
returns-then-booth-ge-BOOTHS_ALLOWED c = simp (c.at.ensures, le-leb _ _ c.if-booth-ge-BOOTHS_ALLOWED.true)

pub returns-then-h-gt-LONGEST_ROW : goal.returns-then-h-gt-LONGEST_ROW
unfolding row_checks first_fault refuse_if fault_in said number_of
returns-then-h-gt-LONGEST_ROW c = simp (c.at-then-h-gt-LONGEST_ROW.ensures, lt-leb _ _ c.if-booth-ge-BOOTHS_ALLOWED.false, lt-ltb _ _ c.if-h-gt-LONGEST_ROW.true)

pub returns-then-h-count : goal.returns-then-h-count
unfolding row_checks first_fault refuse_if fault_in said number_of
returns-then-h-count c = simp (c.at-then-h-count.ensures, lt-leb _ _ c.if-booth-ge-BOOTHS_ALLOWED.false, le-ltb _ _ c.if-h-gt-LONGEST_ROW.false, lt-ltb _ _ c.if-h-count.true)

pub overflow_mul-booth : goal.overflow_mul-booth
overflow_mul-booth c = omega (arith, start_small _ _ c.if-booth-ge-BOOTHS_ALLOWED.false c.if-h-gt-LONGEST_ROW.false)

pub overflow_add-booth : goal.overflow_add-booth
overflow_add-booth c = omega (arith, start_small _ _ c.if-booth-ge-BOOTHS_ALLOWED.false c.if-h-gt-LONGEST_ROW.false)

pub returns-then-own-booth : goal.returns-then-own-booth
unfolding row_checks first_fault refuse_if fault_in said number_of
returns-then-own-booth c = simp (c.at-then-own-booth.ensures, lt-leb _ _ c.if-booth-ge-BOOTHS_ALLOWED.false, le-ltb _ _ c.if-h-gt-LONGEST_ROW.false, le-ltb _ _ c.if-h-count.false, lt-ltb _ _ c.if-own-booth.true)

pub returns : goal.returns
unfolding row_checks first_fault refuse_if fault_in said number_of
returns c = simp (lt-leb _ _ c.if-booth-ge-BOOTHS_ALLOWED.false, le-ltb _ _ c.if-h-gt-LONGEST_ROW.false, le-ltb _ _ c.if-h-count.false, le-ltb _ _ c.if-own-booth.false)
