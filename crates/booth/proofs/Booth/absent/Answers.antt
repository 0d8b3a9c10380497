-- `Booth::absent` meets its contract. Assumes nothing.
use mathlib.Core.Path.{refl}
use Rattle.booth.specs.BoothHeld.{absent_booth}
use Rattle.booth.proofs.Booth.absent.Goals as goal

pub returns : goal.returns
unfolding absent_booth
returns c = refl
