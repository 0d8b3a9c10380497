-- The bytes stand behind what was printed. Assumes nothing.
use Rattle.std.proofs.Common.{refl}
use Rattle.printing.proofs.Pieces.{piece_printed}
use Rattle.printing.proofs.Paper.put.Goals as goal

pub returns : goal.returns
returns c = piece_printed c.requires refl c.lay_over.ensures refl refl refl
