-- `text::admitted_text` meets its contract: admitted, wall, the booths, idle. Assumes nothing.
use native.Mathlib.Omega.{arith}
use lib.Seq.{length-take-le}
use lib.ListN.{take}
use Rattle.printing.proofs.Pieces.{printed_then}
use Rattle.printing.proofs.LineLengths.{number_line_length, record_line_length}
use Rattle.rules.specs.Desk as page
use Rattle.text.specs.TextAnswered.{answer_text}
use Rattle.text.proofs.BoothLines.{booth_lines_length}
use Rattle.text.proofs.admitted_text.Goals as goal

pub record_line-requires : goal.record_line-requires
record_line-requires c = omega (arith, c.requires, length-take-le c.args.h c.args.wall.now c.requires.2, number_line_length page.word_admitted c.args.answer.booths)

pub booth_lines-requires : goal.booth_lines-requires
booth_lines-requires c =
    let wall = take c.args.h c.args.wall.now in (
      c.requires.0,
      c.requires.1,
      omega (
        arith,
        c.requires,
        length-take-le c.args.h c.args.wall.now c.requires.2,
        number_line_length page.word_admitted c.args.answer.booths,
        record_line_length page.word_wall wall,
      ),
    )

pub number_line-requires-2 : goal.number_line-requires-2
number_line-requires-2 c =
    let a = c.args.answer in
    let wall = take c.args.h c.args.wall.now in
    omega (
      arith,
      c.requires,
      length-take-le c.args.h c.args.wall.now c.requires.2,
      number_line_length page.word_admitted a.booths,
      record_line_length page.word_wall wall,
      booth_lines_length a.booths c.args.h a.clocks a.worked c.args.own.now c.requires.1,
    )

pub returns : goal.returns
unfolding answer_text
returns c = printed_then c.number_line.ensures (printed_then c.record_line.ensures (printed_then c.booth_lines.ensures c.number_line-2.ensures))
