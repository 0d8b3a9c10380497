-- `session::clocks_of` meets its contract: the first i clocks are noted. Assumes nothing.
use mathlib.Core.Path.{◌≡◌, refl, ap, ◌∙◌}
use mathlib.Core.List.{map}
use native.Mathlib.Omega.{arith}
use lib.ListN.{take}
use Rattle.rules.specs.Values.{padded}
use Rattle.engine.proofs.Engine.{one_clock}
use Rattle.session.proofs.clocks_of.Goals as goal

pub loop-i-init : goal.loop-i-init
unfolding padded
loop-i-init c = refl

pub loop-i-preserved : goal.loop-i-preserved
loop-i-preserved c =
    let l = c.loop-i in
    one_clock c.args.booths l.i l.clocks l.invariant (omega (arith, c.requires.0)) c.requires.1

pub returns : goal.returns
returns c =
    let l = c.loop-i in
    let all : l.i ≡ c.args.n = omega (arith, c.loop-i-test.false, l.auto) in
    l.invariant ∙ ap (λ k. padded 8 0 (map (λ h. h.clock.0) (take k c.args.booths))) all
