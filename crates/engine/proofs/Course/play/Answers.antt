-- `engine::Course::play` meets its contract: the booths before i were asked in vain. Assumes nothing.
use native.Mathlib.Omega.{arith}
use Rattle.engine.proofs.Engine.{midway, going_sleeps}
use Rattle.engine.proofs.Course.play.Goals as goal
use Rattle.engine.proofs.Course.play.Goals.{else-self-i-via-then-self-i+else-turn, else-self-i-via-else-self-i}

pub returns-then-turn : goal.returns-then-turn
returns-then-turn c = (c.loop-i-test.true, λ e. c.turn.ensures.worked c.if-turn.true (midway c.loop-i.self (c.loop-i.invariant e)))

pub loop-i-preserved : goal.loop-i-preserved
loop-i-preserved c = λ e.
    let l = c.loop-i in
    elim c.else-self-i.branch [
      | else-self-i-via-then-self-i+else-turn w ↦ rw (w.self-is, w.own-is) (w.turn.ensures.rested w.if-turn.false (midway l.self (l.invariant e)))
      | else-self-i-via-else-self-i w ↦ rw (w.self-is, w.own-is) (going_sleeps (l.invariant e) c.loop-i-test.true (omega (arith, w.if-self-i.false)))
    ]
