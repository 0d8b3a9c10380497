-- `reading_number` meets its contract: each arm is a case of the definition. Assumes nothing.
use mathlib.Core.Path.{sym, ap}
use Rattle.hallanupp.specs.PanelInC.{reading_in_c}
use Rattle.hallanupp.proofs.panels.reading_number.Goals as goal

pub returns-in-NoneYet : goal.returns-in-NoneYet
unfolding reading_in_c
returns-in-NoneYet c = sym (ap reading_in_c c.in-NoneYet.is)

pub returns-in-Below : goal.returns-in-Below
unfolding reading_in_c
returns-in-Below c = sym (ap reading_in_c c.in-Below.is)

pub returns-in-AtCeiling : goal.returns-in-AtCeiling
unfolding reading_in_c
returns-in-AtCeiling c = sym (ap reading_in_c c.in-AtCeiling.is)

pub returns-in-Over : goal.returns-in-Over
unfolding reading_in_c
returns-in-Over c = sym (ap reading_in_c c.in-Over.is)
