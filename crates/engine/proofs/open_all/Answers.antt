-- `engine::open_all` meets its contract: the first j booths are open. Assumes nothing.
use native.Mathlib.Omega.{arith}
use Rattle.engine.proofs.Engine.{one_opened}
use Rattle.engine.proofs.open_all.Goals as goal

pub loop-j-preserved : goal.loop-j-preserved
loop-j-preserved c =
    let l = c.loop-j in
    let o = c.open in
    one_opened l.j c.args.table.lines c.args.log.now l.booths l.invariant (omega (arith, c.requires.fit.lines.few)) o.result o.ensures.fit.0 o.ensures.fit.1 o.ensures.fit.2 o.ensures.state
