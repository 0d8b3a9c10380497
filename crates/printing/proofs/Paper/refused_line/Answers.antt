-- What is refused with its number, then where. Assumes nothing.
use Rattle.base.specs.Refusals.{refusal}
use Rattle.rules.specs.Desk as page
use Rattle.printing.proofs.Pieces.{printed_then}
use Rattle.printing.proofs.Paper.refused_line.Goals as goal

pub returns : goal.returns
unfolding page.refused_line refusal
returns c = printed_then c.put.ensures (printed_then c.put_labelled.ensures c.number_line.ensures)
