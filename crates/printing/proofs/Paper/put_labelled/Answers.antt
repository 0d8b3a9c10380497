-- The word, then its number. Assumes nothing.
use Rattle.rules.specs.Desk as page
use Rattle.printing.proofs.Pieces.{printed_then}
use Rattle.printing.proofs.Paper.put_labelled.Goals as goal

pub returns : goal.returns
unfolding page.labelled
returns c = printed_then c.put.ensures c.put_number.ensures
