-- The desk's text of what the session answers in arrays of eight, and what a lent buffer holds afterwards.
use Rattle.std.specs.Prelude.{true, false, List, ◌++◌, ℕ, ltb, length, take}
use Rattle.base.specs.Bytes.{written}
use Rattle.rules.specs.Desk.{number_line, record_line, booth_lines, word_admitted, word_wall, word_idle, desk_text}
use Rattle.session.specs.declared.SessionAnswer.{SessionAnswer}

unfoldable pub answer_text : ℕ → SessionAnswer → List ℕ → List ℕ → List ℕ
answer_text H a wall own =
    number_line word_admitted a.booths
    ++ (record_line word_wall (take H wall) ++ (booth_lines a.booths H a.clocks a.worked own ++ number_line word_idle a.idle))

-- a booth's line with the longest row
abbrev pub booth_line_room : ℕ
booth_line_room = 2_081

-- 2,000 wall ticks of eight booths, each number at its longest: no text is longer
abbrev pub text_room : ℕ
text_room = 18_710

-- how many bytes of text there are, 0 where the buffer is short
unfoldable pub text_length : List ℕ → List ℕ → ℕ
text_length input lent = elim (ltb (length lent) text_room) [ true ↦ 0 | false ↦ length (desk_text input) ]

-- the text stands at the buffer's start and the other bytes keep what they held; nothing is written where the buffer is short
unfoldable pub with_text : List ℕ → List ℕ → List ℕ
with_text input lent = elim (ltb (length lent) text_room) [ true ↦ lent | false ↦ written 0 (desk_text input) lent ]
