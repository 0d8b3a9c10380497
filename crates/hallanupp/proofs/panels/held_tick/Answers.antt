-- `held_tick` meets its contract: the test tells whether the tick fits. Assumes nothing.
use mathlib.Core.Path.{sym}
use Rattle.hallanupp.proofs.HeldTick.{held_within, held_above}
use Rattle.hallanupp.proofs.panels.held_tick.Goals as goal

pub returns-then-t-gt-LONGEST_TICK : goal.returns-then-t-gt-LONGEST_TICK
returns-then-t-gt-LONGEST_TICK c = sym (held_above _ c.if-t-gt-LONGEST_TICK.true)

pub returns : goal.returns
returns c = sym (held_within _ c.if-t-gt-LONGEST_TICK.false)
