-- The booth, its own clock, its worked ticks, then its row. Assumes nothing.
use Rattle.rules.specs.Desk as page
use Rattle.printing.proofs.Pieces.{printed_then}
use Rattle.printing.proofs.Paper.booth_line.Goals as goal

pub returns : goal.returns
unfolding page.booth_line
returns c = printed_then c.put_labelled.ensures (printed_then c.put_labelled-2.ensures (printed_then c.put_labelled-3.ensures c.record_line.ensures))
