-- `solo::SoloBooth::write_part` meets its contract: after u turns the part holds the first u own ticks. Assumes nothing.
use mathlib.Core.Path.{◌∙◌}
use native.Mathlib.Omega.{arith}
use Rattle.solo.proofs.Playing.{none_written, written_more}
use Rattle.solo.proofs.SoloBooth.write_part.Goals as goal

pub loop-u-init : goal.loop-u-init
loop-u-init c = record { plays = c.new-player.ensures; part = none_written _ _ _ }

pub loop-u-preserved : goal.loop-u-preserved
loop-u-preserved c =
    record {
      plays = c.play-player.ensures.plays;
      part = c.play-player.ensures.byte ∙ written_more _ _ _ _ _ (omega (arith, c.requires)) c.loop-u.invariant.part;
    }
