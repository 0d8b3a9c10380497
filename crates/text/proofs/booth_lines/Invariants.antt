-- The lines of the booths so far are printed.
use Rattle.rules.specs.Desk as page
use Rattle.printing.specs.Printed.{Printed}
use Rattle.text.proofs.booth_lines.Given as goal

abbrev pub invariant-loop-booth : goal.invariant-loop-booth
invariant-loop-booth l = Printed (page.booth_lines l.booth l.h l.answer.clocks l.answer.worked l.own) l.initial.paper l.paper
