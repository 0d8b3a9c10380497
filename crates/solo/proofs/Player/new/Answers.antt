-- `solo::Player::new` meets its contract: nothing is played, so all that the entries ask still waits. Assumes nothing.
use mathlib.Core.Path.{refl}
use Rattle.rules.proofs.Held.{zeros}
use Rattle.solo.proofs.Playing.{starts}
use Rattle.solo.proofs.Player.new.Goals as goal

pub returns : goal.returns
returns c = starts _ _ _ c.point_of.ensures refl (zeros 8)
