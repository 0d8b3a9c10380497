-- `engine::run` meets its contract: each wall tick is one step of the session. Assumes nothing.
use mathlib.Core.Path.{◌≡◌, refl, subst}
use Prim.Native.Nat.{◌+◌, ◌-◌, ◌<◌}
use native.Mathlib.Omega.{arith}
use Rattle.std.proofs.lemmas.Grind.{common_steps}
use Rattle.engine.specs.Running.{SleepTo, Running, Ready, Going}
use Rattle.engine.proofs.Engine.{midway, going_worked, going_asleep, going_nobody, going_idle, worked_fits}
use Rattle.engine.proofs.run.Goals as goal
use Rattle.engine.proofs.run.Goals.{then-soonest-t+in_default, else-soonest-t}

pub overflow_add-worked : goal.overflow_add-worked
overflow_add-worked c =
    let fits = worked_fits (c.loop-t.invariant.2 c.requires) c.in-Some.i c.in-Some.ensures.0 in
    record { fits = grind (arith, common_steps, fits) }

pub loop-t-preserved-in-Some : goal.loop-t-preserved-in-Some
loop-t-preserved-in-Some c =
    let l = c.loop-t in (
      omega (arith, l.invariant.0),
      λ ahead. absurd (omega (arith, c.if-soonest-t.true)),
      λ e. going_worked (going_idle (c.in-Some.ensures.1 (midway l.course (l.invariant.2 e))) (omega (arith, l.invariant.0))) (grind (arith, common_steps)),
    )

pub loop-t-preserved : goal.loop-t-preserved
loop-t-preserved c =
    let l = c.loop-t in
    let j = c.if-soonest-t in
    let in_vain : (e : Ready c.args.n c.args.h c.args.start c.args.log.now c.args.wall.now c.args.own.now)
    → Going e.lines c.args.n c.args.h c.args.log.now c.args.wall.now c.args.own.now l.t c.args.n j.course.booths j.course.wakes l.worked (l.t - l.sung) l.wall j.own =
    λ e. elim j.branch [
      | then-soonest-t+in_default w ↦ rw (w.course-is, w.own-is) (w.in_default.ensures (midway l.course (l.invariant.2 e)))
      | else-soonest-t w ↦ rw (w.course-is, w.own-is) (going_asleep (l.invariant.2 e) (λ k m. omega (arith, w.if-soonest-t.false, l.invariant.1 (omega (arith, w.if-soonest-t.false)) k m)) c.args.n (omega arith))
    ] in
    let sleep : l.t + 1 < j.soonest → SleepTo j.course.wakes c.args.n j.soonest =
    λ ahead. elim j.branch [
      | then-soonest-t+in_default w ↦ rw (w.course-is, w.soonest-is) w.sleep_to-soonest.ensures
      | else-soonest-t w ↦ rw (w.course-is, w.soonest-is) (l.invariant.1 (omega (arith, w.if-soonest-t.false)))
    ] in
    (omega (arith, l.invariant.0), sleep, λ e. going_idle (going_nobody (in_vain e) refl c.loop-t-test.true) (omega (arith, l.invariant.0)))

pub returns : goal.returns
returns c = λ e.
    let l = c.loop-t in
    let g = l.invariant.2 e in
    let done : l.t ≡ c.args.h = omega (arith, g.early, c.loop-t-test.false) in
    record {
      asked = 0;
      wakes = l.course.wakes;
      running =
          (subst (λ t. Running e.lines c.args.h c.args.log.now c.args.wall.now c.args.own.now t 0 l.course.booths l.course.wakes l.worked (t - l.sung) l.wall l.own) done g.running);
    }
