-- `engine::Course::turn` meets its contract: the booth goes on, or is asked. Assumes nothing.
use mathlib.Core.Path.{sym, ◌∙◌}
use Prim.Native.Nat.{◌+◌, ◌*◌, ◌-◌}
use native.Mathlib.Omega.{arith}
use lib.ListN.{get_or, take, drop}
use Rattle.booth.proofs.OneTurn.{goes_on_asks}
use Rattle.engine.specs.Running.{nowhere}
use Rattle.engine.proofs.Engine.{turn_asks, going_passed, going_plays, going_on_plays}
use Rattle.engine.proofs.Course.turn.Goals as goal

pub play_on-played-requires : goal.play_on-played-requires
play_on-played-requires c =
    let a = c.args.i * c.args.h in
    let w = a + c.args.h - a in
    let asks = turn_asks c.requires.2.going c.requires.0 c.requires.1 w (omega arith) in
    goes_on_asks c.args.log.now c.args.t (get_or c.args.self.now.booths c.args.i nowhere) (take w (drop a c.args.own.now)) c.in-Some.k asks.1 asks.2 asks.3 asks.4 (sym c.goes_on.ensures ∙ c.in-Some.is)

pub returns-in-Some-clause-worked : goal.returns-in-Some-clause-worked
returns-in-Some-clause-worked c = λ _ e.
    let a = c.args.i * c.args.h in
    let plays = c.play_on-played in
    going_on_plays e.going c.requires.0 c.requires.1 (a + c.args.h - a) (omega arith) c.in-Some.k (sym c.goes_on.ensures ∙ c.in-Some.is) plays.result plays.new.row plays.ensures.state plays.ensures.row

pub returns-clause-worked : goal.returns-clause-worked
returns-clause-worked c = λ did e.
    let a = c.args.i * c.args.h in
    let ask = c.ask-asked in
    going_plays e.going c.requires.0 c.requires.1 (a + c.args.h - a) (omega arith) ask.result ask.new.row ask.ensures.fit ask.ensures.state ask.ensures.worked ask.ensures.row ask.auto.row did

pub returns-clause-rested : goal.returns-clause-rested
returns-clause-rested c = λ rested e.
    let a = c.args.i * c.args.h in
    let ask = c.ask-asked in
    going_passed e.going c.requires.0 c.requires.1 (a + c.args.h - a) (omega arith) ask.result ask.new.row ask.ensures.fit ask.ensures.state ask.ensures.worked ask.ensures.row ask.auto.row rested
