-- `rows::row_back` meets its contract: the part from booth times H, or the empty part. Assumes nothing.
use Rattle.std.proofs.Common.{◌≡◌, refl, sym, ap, ◌∙◌, ◌+◌, ◌-◌, ◌*◌, [], true, false, take, drop, arith, Result, Ok, Err}
use mathlib.Core.Bool.{true≢false}
use mathlib.Core.Option.{none}
use Rattle.std.specs.Result.{is_err}
use Rattle.base.specs.declared.Refusal.{Refusal as HeldRefusal}
use Rattle.base.specs.Refusals.{first_fault}
use Rattle.base.proofs.Checks.{nothing_found, fault_found}
use Rattle.rules.specs.RowBack.{row_checks, row_back}
use Rattle.rows.proofs.HandedRow.{start_small, row_refused, row_given, row_within, Within}
use Rattle.rows.proofs.row_back.Goals as goal
use Rattle.rows.proofs.row_back.Goals.{Else-is_err}

pub returns-then-is_err : goal.returns-then-is_err
returns-then-is_err c = go c.check_row.result refl (sym c.is_err.ensures.value ∙ c.if-is_err.true)
  where
    go : (r : Result (Unit {0}) HeldRefusal) → c.check_row.result ≡ r → is_err c.check_row.result ≡ true → [] ≡ (row_back c.args.own.now c.args.h c.args.booth c.args.count).part
    go (Ok u) q t = absurd (true≢false (sym t ∙ ap is_err q))
    go (Err e) q t = sym (ap (λ a. a.part) (row_refused _ _ _ _ _ (fault_found c.check_row.result e _ c.check_row.ensures q)))

-- past the test nothing is found
fine : (c : Else-is_err) → first_fault (row_checks c.args.own.now c.args.h c.args.booth c.args.count) ≡ none
fine c = go c.check_row.result refl (sym c.is_err.ensures.value ∙ c.if-is_err.false)
  where
    go : (r : Result (Unit {0}) HeldRefusal) → c.check_row.result ≡ r → is_err c.check_row.result ≡ false → first_fault (row_checks c.args.own.now c.args.h c.args.booth c.args.count) ≡ none
    go (Ok u) q t = nothing_found c.check_row.result u _ c.check_row.ensures q
    go (Err e) q t = absurd (true≢false (sym (ap is_err q) ∙ t))

within : (c : Else-is_err) → Within c.args.own.now c.args.h c.args.booth c.args.count
within c = row_within _ _ _ _ (fine c)

pub overflow_mul-start : goal.overflow_mul-start
overflow_mul-start c = let h = within (goal.at.overflow_mul-start c).Else-is_err in omega (arith, start_small _ _ h.few h.long)

pub overflow_add-end : goal.overflow_add-end
overflow_add-end c = let h = within (goal.at.overflow_add-end c).Else-is_err in omega (arith, start_small _ _ h.few h.long)

pub slice_bounds-result-end-2 : goal.slice_bounds-result-end-2
slice_bounds-result-end-2 c = omega (arith, (within (goal.at.slice_bounds-result-end-2 c).Else-is_err).end)

pub returns : goal.returns
returns c =
    let a = c.args in
    let n : a.booth * a.h + a.count - a.booth * a.h ≡ a.count = omega arith in
    ap (λ m. take m (drop (a.booth * a.h) a.own.now)) n ∙ sym (ap (λ x. x.part) (row_given _ _ _ _ (fine (goal.at.returns c).Else-is_err)))
