-- The word, the letters, then the end of the line. Assumes nothing.
use Rattle.rules.specs.Desk as page
use Rattle.printing.proofs.Pieces.{printed_then}
use Rattle.printing.proofs.Paper.record_line.Goals as goal

pub returns : goal.returns
unfolding page.record_line
returns c = printed_then c.put.ensures (printed_then c.put_letters.ensures c.put-2.ensures)
