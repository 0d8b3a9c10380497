-- `solo::Player::play` meets its contract: the first task with something left is the one the solo part plays. Assumes nothing.
use mathlib.Core.Path.{sym, ap, ◌∙◌, subst}
use Prim.Native.Nat.{◌+◌}
use native.Mathlib.Omega.{arith}
use lib.ListN.{set}
use Rattle.solo.specs.Played.{Plays}
use Rattle.solo.proofs.Playing.{picked, task_left, task_plays, nobody_plays}
use Rattle.solo.proofs.Player.play.Goals as goal
use Rattle.solo.proofs.Player.play.Goals.{in-Some, in-None}

pub overflow_sub-self : goal.overflow_sub-self
overflow_sub-self c = omega (arith, task_left _ _ _ c.admit-self.ensures _ c.in-Some.ensures.number c.in-Some.ensures.within)

pub returns-clause-plays : goal.returns-clause-plays
returns-clause-plays c =
    elim c.match-first_task.branch [
      | in-Some w ↦
          let found = w.in-Some.ensures in
          subst (Plays c.args.booth.now (c.args.u.0 + 1)) (sym w.self-is) (task_plays _ _ _ c.admit-self.ensures _ found.number found.within)
      | in-None w ↦ subst (Plays c.args.booth.now (c.args.u.0 + 1)) (sym w.self-is) (nobody_plays _ _ _ c.admit-self.ensures w.in-None.ensures.number)
    ]

pub returns-clause-byte : goal.returns-clause-byte
returns-clause-byte c =
    ap (set c.args.part.now c.args.u.0)
    (elim c.match-first_task.branch [
      | in-Some w ↦ w.part-is ∙ w.in-Some.ensures.number ∙ picked _ _ _ c.admit-self.ensures
      | in-None w ↦ w.part-is ∙ w.in-None.ensures.number ∙ picked _ _ _ c.admit-self.ensures
    ])
