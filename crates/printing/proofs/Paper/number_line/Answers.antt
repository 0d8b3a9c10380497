-- Word and number, then the end of the line. Assumes nothing.
use Rattle.rules.specs.Desk as page
use Rattle.printing.proofs.Pieces.{printed_then}
use Rattle.printing.proofs.Paper.number_line.Goals as goal

pub returns : goal.returns
unfolding page.number_line
returns c = printed_then c.put_labelled.ensures c.put.ensures
