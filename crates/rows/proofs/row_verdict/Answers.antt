-- `rows::row_verdict` meets its contract: the fault found is the verdict's. Assumes nothing.
use Rattle.std.proofs.Common.{rules, ◌≡◌, refl, sym, ap, ◌∙◌, Result, Ok, Err}
use Rattle.base.specs.declared.Refusal.{Refusal as HeldRefusal}
use Rattle.base.proofs.Checks.{nothing_found, fault_found}
use Rattle.rules.specs.Verdicts.{verdict_said, verdict_in}
use Rattle.rules.specs.RowBack.{row_back}
use Rattle.rules.specs.declared.Refused.TheVariants.{Call}
use Rattle.rows.proofs.HandedRow.{row_refused, row_given}
use Rattle.rows.proofs.row_verdict.Goals as goal

pub returns : goal.returns
unfolding verdict_in verdict_said
returns c = go c.check_row.result refl
  where
    go : (r : Result (Unit {0}) HeldRefusal) → c.check_row.result ≡ r → verdict_in c.map_err.result ≡ (row_back c.args.own.now c.args.h c.args.booth c.args.count).verdict
    go (Ok u) q =
        let h = rw q at c.map_err.ensures.cases in
        ap verdict_in h ∙ sym (ap (λ a. a.verdict) (row_given _ _ _ _ (nothing_found c.check_row.result u _ c.check_row.ensures q)))
    go (Err e) q =
        let h = rw q at c.map_err.ensures.cases in
        let is : c.map_err.result ≡ Err (Call e) = search rules in
        ap verdict_in is ∙ sym (ap (λ a. a.verdict) (row_refused _ _ _ _ _ (fault_found c.check_row.result e _ c.check_row.ensures q)))
