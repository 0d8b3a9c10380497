-- `text::print_refusal` meets its contract: what is said of the refusal is its reason's number. Assumes nothing.
use mathlib.Core.Path.{sym}
use Rattle.base.specs.Refusals.{said}
use Rattle.text.proofs.print_refusal.Goals as goal

pub returns : goal.returns
unfolding said
returns c = rw (sym c.number.ensures) c.refused_line.ensures
