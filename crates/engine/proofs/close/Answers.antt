-- `engine::close` meets its contract: the booths before i are settled at H. Assumes nothing.
use mathlib.Core.Path.{◌≡◌, subst}
use Prim.Native.Nat.{◌+◌, ◌*◌, ◌-◌}
use native.Mathlib.Omega.{arith}
use Rattle.engine.specs.Running.{Ending}
use Rattle.engine.proofs.Engine.{last_asks, last_step, last_length}
use Rattle.engine.proofs.close.Goals as goal

pub settle-requires : goal.settle-requires
settle-requires c =
    let l = c.loop-i in
    last_asks c.args.n c.args.h c.args.played c.args.log.now c.args.own.now l.i l.booths l.own c.requires (l.invariant.1 c.requires)
    c.loop-i-test.true l.invariant.0 (l.i * c.args.h + c.args.h - l.i * c.args.h) (omega arith)

pub loop-i-preserved : goal.loop-i-preserved
loop-i-preserved c =
    let l = c.loop-i in
    let s = c.settle in
    let w = l.i * c.args.h + c.args.h - l.i * c.args.h in (
      last_length c.args.n c.args.h c.args.played c.args.log.now c.args.own.now l.i l.booths l.own c.requires (l.invariant.1 c.requires)
          c.loop-i-test.true l.invariant.0 w (omega arith) s.new.row s.auto.row,
      λ e. last_step c.args.n c.args.h c.args.played c.args.log.now c.args.own.now l.i l.booths l.own e (l.invariant.1 e)
          c.loop-i-test.true l.invariant.0 w (omega arith) s.result s.new.row s.ensures.fit s.ensures.state s.ensures.row s.auto.row,
    )

pub returns : goal.returns
returns c =
    let l = c.loop-i in
    let all : l.i ≡ c.args.n = omega (arith, c.loop-i-test.false, l.auto) in
    λ e. subst (λ k. Ending e.lines c.args.h c.args.log.now e.wall₀ e.own₀ k l.booths l.own) all (l.invariant.1 e)
