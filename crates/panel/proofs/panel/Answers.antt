-- `panel::panel` meets its contract: each return is the case of the rules' panel that the tests before it name. Assumes nothing.
use Rattle.std.proofs.Common.{rules, ◌≡◌, ◌<◌, ◌≤◌, refl, sym, ap, ◌∙◌, arith, length, take, get_or, Result, Ok, Err}
use Rattle.std.proofs.lemmas.Result.{err_from_is_err_and}
use Rattle.base.specs.declared.Refusal.{Refusal as HeldRefusal}
use Rattle.base.specs.declared.Reason.TheVariants.{NoSuchBoothOrTask, DoesNotFit}
use Rattle.base.specs.Refusals.{said, number_of}
use Rattle.base.proofs.Checks.{ok_once, ok_not_err}
use Rattle.rules.specs.declared.Refused.TheVariants.{Table, Call}
use Rattle.rules.specs.declared.Table.{Table as HeldTable}
use Rattle.rules.specs.Fit.{FitTable}
use Rattle.rules.specs.Panel as page
use Rattle.rules.specs.Session.{count}
use Rattle.rules.specs.Values.{no_held_line}
use Rattle.rules.specs.Verdicts.{Verdict, verdict_said, verdict_in}
use Rattle.rules.proofs.Fitting.{fit_sound}
use Rattle.rules.proofs.OneAnswer.{answered_so}
use Rattle.table.proofs.TableTaken.{TableTaken, answer_taken, answer_refused, taken_booths, taken_promise}
use Rattle.panel.specs.Shown.{shown_row, shown_answer}
use Rattle.panel.proofs.Cases.{panel_bad_table, panel_absent, panel_past, panel_long, panel_read, row_accepted}
use Rattle.panel.proofs.panel.Goals as goal
use Rattle.panel.proofs.panel.Goals.{In_ok-held, In_err-held}

-- the table was refused so
table_said : (c : In_err-held) → verdict_said c.in_err-held.field-0.0 ≡ (page.panel c.args.table.now c.args.wall.now c.args.booth c.args.t.0).verdict
unfolding verdict_said page.no_panel
table_said c = go c.read_table.result refl
  where
    go : (r : Result HeldTable HeldRefusal) → c.read_table.result ≡ r
        → verdict_said c.in_err-held.field-0.0 ≡ (page.panel c.args.table.now c.args.wall.now c.args.booth c.args.t.0).verdict
    go (Ok t) q = let h = rw q at c.in_err-held.ensures.cases in absurd (ok_not_err (sym h))
    go (Err e) q =
        let h = rw q at c.in_err-held.ensures.cases in
        let why : c.in_err-held.field-0.0 ≡ Table e = search rules in
        ap verdict_said why ∙ sym (ap (λ p. p.verdict) (panel_bad_table _ _ _ _ _ (answer_refused _ c.read_table.result c.read_table.ensures.read e q)))

pub returns-in_err-held-clause-verdict : goal.returns-in_err-held-clause-verdict
unfolding verdict_in
returns-in_err-held-clause-verdict c =
    let p = err_from_is_err_and c.from_residual.result c.from_residual.ensures.1 in
    rw (p.1, p.2) (table_said (goal.at.returns-in_err-held-clause-verdict c).In_err-held)

pub returns-in_err-held-clause-whole : goal.returns-in_err-held-clause-whole
unfolding verdict_in shown_answer
returns-in_err-held-clause-whole c =
    let p = err_from_is_err_and c.from_residual.result c.from_residual.ensures.1 in
    rw (p.1, p.2) (answered_so (Err _) _ _ (table_said (goal.at.returns-in_err-held-clause-whole c).In_err-held) tt)

-- the table was taken
module _ (c : In_ok-held) where
  table_was : c.read_table.result ≡ Ok c.in_ok-held.held
  table_was = go c.read_table.result refl
    where
      go : (r : Result HeldTable HeldRefusal) → c.read_table.result ≡ r → c.read_table.result ≡ Ok c.in_ok-held.held
      go (Ok t) q = let h = rw q at c.in_ok-held.ensures.cases in q ∙ ap Ok (sym (ok_once h))
      go (Err e) q = let h = rw q at c.in_ok-held.ensures.cases in absurd h

  table_taken : TableTaken c.args.table.now c.in_ok-held.held
  table_taken = answer_taken _ c.read_table.result c.read_table.ensures.read c.in_ok-held.held table_was

  absent : c.in_ok-held.held.booths ≤ c.args.booth → length table_taken.lines ≤ c.args.booth
  absent h = omega (arith, taken_booths _ _ table_taken, h)

  there : c.args.booth < c.in_ok-held.held.booths → c.args.booth < length table_taken.lines
  there h = omega (arith, taken_booths _ _ table_taken, h)

-- the three refusals of the call, each with what was answered for it
module _ (c : In_ok-held) where
  abbrev asked : Verdict
  asked = (page.panel c.args.table.now c.args.wall.now c.args.booth c.args.t.0).verdict

  absent_said : (r : HeldRefusal) → r ≡ record { reason = NoSuchBoothOrTask; place = 0 } → c.in_ok-held.held.booths ≤ c.args.booth → verdict_said (Call r) ≡ asked
  unfolding verdict_said said number_of page.no_panel
  absent_said r is h = ap (λ x. verdict_said (Call x)) is ∙ sym (ap (λ p. p.verdict) (panel_absent _ c.args.wall.now _ c.args.t.0 (table_taken c).lines (table_taken c).read (absent c h)))

  past_said : (r : HeldRefusal) → r ≡ record { reason = DoesNotFit; place = 0 } → c.args.booth < c.in_ok-held.held.booths → length c.args.wall.now < c.args.t.0 → verdict_said (Call r) ≡ asked
  unfolding verdict_said said number_of page.no_panel
  past_said r is h past = ap (λ x. verdict_said (Call x)) is ∙ sym (ap (λ p. p.verdict) (panel_past _ _ _ _ (table_taken c).lines (table_taken c).read (there c h) past))

  long_said : (r : HeldRefusal) → r ≡ record { reason = DoesNotFit; place = 0 } → c.args.booth < c.in_ok-held.held.booths → c.args.t.0 ≤ length c.args.wall.now → 1000000 < c.args.t.0
      → verdict_said (Call r) ≡ asked
  unfolding verdict_said said number_of page.no_panel
  long_said r is h short long = ap (λ x. verdict_said (Call x)) is ∙ sym (ap (λ p. p.verdict) (panel_long _ _ _ _ (table_taken c).lines (table_taken c).read (there c h) short long))

pub returns-then-held-booth-clause-verdict : goal.returns-then-held-booth-clause-verdict
unfolding verdict_in
returns-then-held-booth-clause-verdict c = absent_said (goal.at.returns-then-held-booth-clause-verdict c).In_ok-held _ c.at.ensures c.if-held-booth.true

pub returns-then-held-booth-clause-whole : goal.returns-then-held-booth-clause-whole
unfolding shown_answer
returns-then-held-booth-clause-whole c = answered_so (Err _) _ _ (returns-then-held-booth-clause-verdict c) tt

pub returns-then-wall-t-clause-verdict : goal.returns-then-wall-t-clause-verdict
unfolding verdict_in
returns-then-wall-t-clause-verdict c = past_said (goal.at.returns-then-wall-t-clause-verdict c).In_ok-held _ c.at-then-wall-t.ensures c.if-held-booth.false c.if-wall-t.true

pub returns-then-wall-t-clause-whole : goal.returns-then-wall-t-clause-whole
unfolding shown_answer
returns-then-wall-t-clause-whole c = answered_so (Err _) _ _ (returns-then-wall-t-clause-verdict c) tt

pub returns-then-t-gt-LONGEST_SESSION-clause-verdict : goal.returns-then-t-gt-LONGEST_SESSION-clause-verdict
unfolding verdict_in
returns-then-t-gt-LONGEST_SESSION-clause-verdict c =
    long_said (goal.at.returns-then-t-gt-LONGEST_SESSION-clause-verdict c).In_ok-held _ c.at-then-t-gt-LONGEST_SESSION.ensures c.if-held-booth.false c.if-wall-t.false c.if-t-gt-LONGEST_SESSION.true

pub returns-then-t-gt-LONGEST_SESSION-clause-whole : goal.returns-then-t-gt-LONGEST_SESSION-clause-whole
unfolding shown_answer
returns-then-t-gt-LONGEST_SESSION-clause-whole c = answered_so (Err _) _ _ (returns-then-t-gt-LONGEST_SESSION-clause-verdict c) tt

pub panel_row-requires : goal.panel_row-requires
panel_row-requires c =
    let fit : FitTable c.in_ok-held.held = rw (table_was (goal.at.panel_row-requires c).In_ok-held) at c.read_table.ensures.fit in
    fit_sound _ (fit.lines.line _ c.if-held-booth.false)

pub returns-clause-verdict : goal.returns-clause-verdict
unfolding verdict_in
returns-clause-verdict c =
    let k = (goal.at.returns-clause-verdict c).In_ok-held in
    sym (ap (λ p. p.verdict) (panel_read _ _ _ _ (table_taken k).lines (table_taken k).read (there k c.if-held-booth.false) c.if-wall-t.false c.if-t-gt-LONGEST_SESSION.false) ∙ row_accepted _ _ _)

pub returns-clause-row : goal.returns-clause-row
returns-clause-row c =
    let a = c.args in
    let k = (goal.at.returns-clause-row c).In_ok-held in
    let here = there k c.if-held-booth.false in
    let promise = (get_or c.in_ok-held.held.lines a.booth no_held_line).promise in
    c.panel_row.ensures
    ∙ ap (λ n. shown_row (page.panel_row promise n a.t.0)) c.worked_ticks.ensures
    ∙ ap (λ p. shown_row (page.panel_row p (count a.booth (take a.t.0 a.wall.now)) a.t.0)) (taken_promise _ _ (table_taken k) a.booth here)
    ∙ sym (ap shown_row (panel_read _ _ _ _ (table_taken k).lines (table_taken k).read here c.if-wall-t.false c.if-t-gt-LONGEST_SESSION.false))

pub returns-clause-whole : goal.returns-clause-whole
unfolding shown_answer
returns-clause-whole c = answered_so (Ok _) _ _ (returns-clause-verdict c) (returns-clause-row c)
