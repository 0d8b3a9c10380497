-- `session::session` meets its contract: the files, then the records, then the play, in the rules' order. Assumes nothing.
use mathlib.Core.Path.{sym, ap, ◌∙◌}
use Rattle.std.proofs.Common.{Ok, Err}
use Prim.Native.Nat.{◌*◌}
use native.Mathlib.Omega.{arith}
use native.Mathlib.Nat.{mul-le-mul_right}
use Rattle.std.proofs.lemmas.Result.{err_from_is_err_and}
use Rattle.base.specs.Refusals.{refusal, said, number_of}
use Rattle.rules.specs.Verdicts.{verdict_said, verdict_in}
use Rattle.rules.specs.Session as page
use Rattle.rules.proofs.Fitting.{lines_in}
use Rattle.arrivals.specs.Places.{log_of}
use Rattle.rules.proofs.OneAnswer.{answered_so}
use Rattle.session.specs.SessionAnswered.{answered, answered_in}
use Rattle.session.proofs.ByCases.{files_refused, wall_short, own_short}
use Rattle.session.proofs.Played.{refused_all, playable, plays_it}
use Rattle.session.proofs.session.Goals as goal

pub returns-in_err-files : goal.returns-in_err-files
unfolding verdict_in answered_in
returns-in_err-files c =
    let st = c.args in
    let p = err_from_is_err_and c.from_residual.result c.from_residual.ensures.1 in
    let all = refused_all (page.session st.table.now st.log.now st.wall.now st.own.now) _ st.wall.now st.own.now
    (files_refused st.table.now st.log.now st.wall.now st.own.now _ c.in_err-files.ensures.refused) in
    rw (p.1, p.2) (record { whole = answered_so (Err _) _ _ all.0 tt; verdict = all.0; answer = tt; wall = all.1.0; own = all.1.1 })

pub returns-then-wall-h : goal.returns-then-wall-h
unfolding refusal log_of verdict_in answered_in verdict_said said number_of
returns-then-wall-h c =
    let st = c.args in
    let all = refused_all (page.session st.table.now st.log.now st.wall.now st.own.now) _ st.wall.now st.own.now
    (wall_short st.table.now st.log.now st.wall.now st.own.now _ _ c.in_ok-files.ensures.taken.read c.if-wall-h.true) in
    record { whole = answered_so (Err _) _ _ (rw c.at.ensures all.0) tt; verdict = rw c.at.ensures all.0; answer = tt; wall = all.1.0; own = all.1.1 }

pub overflow_mul-files : goal.overflow_mul-files
overflow_mul-files c =
    let k = c.in_ok-files.ensures.taken in
    omega (arith, mul-le-mul_right c.in_ok-files.files.horizon k.fit.lines.few, k.short)

pub returns-then-own-files : goal.returns-then-own-files
unfolding refusal log_of verdict_in answered_in verdict_said said number_of
returns-then-own-files c =
    let st = c.args in
    let f = c.in_ok-files.files in
    let k = c.in_ok-files.ensures.taken in
    let all = refused_all (page.session st.table.now st.log.now st.wall.now st.own.now) _ st.wall.now st.own.now
    (own_short st.table.now st.log.now st.wall.now st.own.now _ _ k.read c.if-wall-h.false
    (omega (arith, ap (λ m. m * f.horizon) (lines_in f.table k.fit), c.if-own-files.true))) in
    record { whole = answered_so (Err _) _ _ (rw c.at-then-own-files.ensures all.0) tt; verdict = rw c.at-then-own-files.ensures all.0; answer = tt; wall = all.1.0; own = all.1.1 }

pub play_all-requires : goal.play_all-requires
play_all-requires c = playable _ _ _ _ _ c.in_ok-files.ensures.taken c.if-wall-h.false c.if-own-files.false

pub returns : goal.returns
unfolding verdict_in answered_in page.played
returns c =
    let st = c.args in
    let whole = plays_it st.table.now st.log.now st.wall.now st.own.now _ c.in_ok-files.ensures.taken c.if-wall-h.false c.if-own-files.false in
    let q = c.play_all.ensures in
    let accepted = sym (ap (λ o. o.verdict) whole) in
    let given = q.answer ∙ sym (ap answered whole) in
    record {
      whole = answered_so (Ok _) _ _ accepted given;
      verdict = accepted;
      answer = given;
      wall = q.wall ∙ sym (ap (λ o. o.wall) whole);
      own = q.own ∙ sym (ap (λ o. o.own) whole);
    }
