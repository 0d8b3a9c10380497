-- `booth::Booth::ask` meets its contract: the booth settles and, if its answer is a task, works. Assumes nothing.
use mathlib.Core.Path.{◌≡◌, refl, sym, ◌∙◌, subst}
use mathlib.Core.Bool.{true, false, true≢false}
use mathlib.Core.List.{[]}
use Prim.Native.Nat.{suc, ◌≤◌}
use native.Mathlib.Omega.{arith}
use Rattle.rules.specs.BoothTable.{Line}
use Rattle.rules.specs.Due.{due}
use Rattle.rules.specs.Moves.{settle, may_work, work}
use Rattle.laws.proofs.DueLaws.{laws_of_due, due_step, due_at_most}
use Rattle.std.specs.Prelude.{Some}
use Rattle.booth.specs.BoothHeld.{shown, settled_answer, asked}
use Rattle.booth.proofs.RowWritten.{agree_later}
use Rattle.booth.proofs.OneTurn.{chosen_first, asked_rests, asked_works}
use Rattle.booth.proofs.Working.{opens_from}
use Rattle.booth.proofs.Booth.ask.Goals as goal

pub wakes-wakes-requires : goal.wakes-wakes-requires
wakes-wakes-requires c = c.settle-self.ensures.fit.fit.steady

pub returns-in_default : goal.returns-in_default
returns-in_default c =
    let bs = c.args.log.now in
    let t = c.args.t.0 in
    let p = c.args.self.promise in
    let s = c.settle-self in
    let grows = due_step p c.requires.1.steady.sound t in
    let row' = s.new.row in
    let turn : (l : Line) → l.promise ≡ p
    → (shown l bs s.result row' ≡ asked t (shown l bs c.args.self c.args.row.now))
    × (false ≡ may_work t (settle t (shown l bs c.args.self c.args.row.now))) = λ l q.
    asked_rests t (shown l bs c.args.self c.args.row.now) (shown l bs s.result row') (s.ensures.state l q)
    (sym (c.choose.ensures l bs row' (q ∙ sym s.ensures.fit.stays.promise)) ∙ c.in_default.is) in record {
      fit = record {
        fit = s.ensures.fit.fit;
        stays = s.ensures.fit.stays;
        grown = s.ensures.fit.grown;
        cap = omega (arith, s.ensures.fit.cap, grows);
        rests = λ e. s.ensures.fit.cap;
        wakes = c.wakes-wakes.ensures;
      };
      state = λ l q. (turn l q).0;
      worked = λ l q. (turn l q).1;
      row = s.ensures.row;
    }

pub play-self-requires : goal.play-self-requires
play-self-requires c =
    let t = c.args.t.0 in
    let p = c.args.self.promise in
    let s = c.settle-self in
    let l : Line = record { promise = s.result.promise; longest = [] } in
    let told = sym (c.choose.ensures l c.args.log.now s.new.row refl) ∙ c.in-Some.is in
    let first = chosen_first l c.args.log.now t s.result s.new.row c.in-Some.k s.ensures.fit.fit.steady refl told in
    let most = due_at_most p c.requires.1.steady.sound t in
    let steady = s.ensures.fit.fit.steady in
    let soon = (laws_of_due.playable s.result.promise steady.sound s.result.clock.0 t).0 first.2 in
    record {
      steady = steady;
      few = first.0;
      first = first.1;
      inside = omega (arith, s.ensures.fit.cap, most, s.auto.row);
      short = omega (arith, s.auto.row);
      opens = omega (arith, soon, opens_from s.result steady);
    }

pub wakes-wakes-requires-2 : goal.wakes-wakes-requires-2
wakes-wakes-requires-2 c = c.play-self.ensures.fit.steady

pub returns : goal.returns
returns c =
    let bs = c.args.log.now in
    let t = c.args.t.0 in
    let p = c.args.self.promise in
    let s = c.settle-self in
    let row' = s.new.row in
    let k = c.in-Some.k in
    let told : (l : Line) → l.promise ≡ s.result.promise → settled_answer t (shown l bs s.result row') ≡ Some k = λ l q. sym (c.choose.ensures l bs row' q) ∙ c.in-Some.is in
    let settled : Line = record { promise = s.result.promise; longest = [] } in
    let first = chosen_first settled bs t s.result row' k s.ensures.fit.fit.steady refl (told settled refl) in
    let play = c.play-self in
    let after = play.ensures.fit in
    let same = s.ensures.fit.stays in
    let turn : (l : Line) → l.promise ≡ p
    → (work (shown l bs s.result row') ≡ asked t (shown l bs c.args.self c.args.row.now))
    × (true ≡ may_work t (settle t (shown l bs c.args.self c.args.row.now))) = λ l q.
    asked_works t (shown l bs c.args.self c.args.row.now) (shown l bs s.result row') k (s.ensures.state l q) (told l (q ∙ sym same.promise)) in record {
      fit = record {
        fit = after.fit bs s.ensures.fit.fit;
        stays = record { number = after.stays.number ∙ same.number; promise = after.stays.promise ∙ same.promise; tasks = after.stays.tasks ∙ same.tasks };
        grown = omega (arith, after.clock, s.ensures.fit.grown);
        cap = subst (λ x. play.result.clock.0 ≤ due x (suc t)) same.promise (omega (arith, after.clock, first.2));
        rests = λ e. absurd (true≢false e);
        wakes = c.wakes-wakes-2.ensures;
      };
      state = λ l q. play.ensures.state l bs ∙ (turn l q).0;
      worked = λ l q. (turn l q).1;
      row = play.ensures.row ∙ agree_later row' c.args.row.now s.result.clock.0 play.result.clock.0 (omega (arith, after.clock)) s.ensures.row;
    }
