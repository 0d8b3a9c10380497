-- `rules::opens_next` meets its contract. Assumes nothing.
use native.Mathlib.Omega.{arith}
use Rattle.rules.proofs.NextOpens.{next_anew, next_within}
use Rattle.rules.proofs.opens_next.Goals as goal

pub returns-then-into-promise : goal.returns-then-into-promise
returns-then-into-promise c = λ u e.
    next_anew c.args.promise c.requires.0 u c.args.opens e c.if-into-promise.true

pub returns : goal.returns
returns c = λ u e.
    next_within c.args.promise c.requires.0 u c.args.opens e (omega (arith, c.requires.1, c.if-into-promise.false))
