-- `solo::Player::admit` meets its contract: each entry that is passed was reached, and the one it stops at was not. Assumes nothing.
use Rattle.std.specs.Prelude.{IsSomeAnd, ◌≤◌}
use Rattle.std.proofs.Common.{rules}
use Rattle.solo.proofs.Playing.{there, plays_on}
use Rattle.solo.proofs.Player.admit.Goals as goal

pub loop-u-preserved : goal.loop-u-preserved
loop-u-preserved c =
    let reached : IsSomeAnd c.loop-u.self.point (λ point. point.0 ≤ c.args.u.0) = search rules in
    plays_on _ _ _ _ c.loop-u.invariant reached (there _ _ _ c.loop-u.invariant reached) c.pass-self.ensures
