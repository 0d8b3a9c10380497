-- `booth::Booth::wakes` meets its contract. Assumes nothing.
use Rattle.booth.specs.BoothHeld.{wakes_at}
use Rattle.booth.proofs.Working.{opens_from}
use Rattle.booth.proofs.Demand.{none_told}
use Rattle.booth.proofs.Booth.wakes.Goals as goal

pub returns-then-is_none : goal.returns-then-is_none
unfolding wakes_at
returns-then-is_none c = rw (none_told _ _ _ c.is_none.ensures c.if-is_none.true, wakes_at)

pub returns : goal.returns
unfolding wakes_at
returns c = rw (none_told _ _ _ c.is_none.ensures c.if-is_none.false, wakes_at) (opens_from c.args.self c.requires)
