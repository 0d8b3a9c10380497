-- `booth::Booth::takes` meets its contract: the tests of the code are those of the rule, in its order. Assumes nothing.
use borrow.Author.Tests.{lt-leb, le-leb}
use Rattle.booth.specs.BoothHeld.{takes_next}
use Rattle.booth.proofs.Demand.{none_told}
use Rattle.rules.proofs.Ticks.{le_told, below, not_below}
use Rattle.booth.proofs.Booth.takes.Goals as goal

pub returns-then-lt : goal.returns-then-lt
unfolding takes_next
returns-then-lt c = rw (lt-leb _ _ (below c.lt.ensures c.if-lt.true), takes_next)

pub returns-then-is_none : goal.returns-then-is_none
unfolding takes_next
returns-then-is_none c = rw (le-leb _ _ (not_below c.lt.ensures c.if-lt.false), none_told _ _ _ c.is_none.ensures c.if-is_none.true, takes_next)

pub returns : goal.returns
unfolding takes_next
returns c = rw (le-leb _ _ (not_below c.lt.ensures c.if-lt.false), none_told _ _ _ c.is_none.ensures c.if-is_none.false, c.le.ensures, le_told, takes_next)
