-- How many bytes a piece may take.
use Rattle.std.specs.Prelude.{ℕ}

-- a number below 2 ^ 64
abbrev pub most_digits : ℕ
most_digits = 20

-- a refused line beside the word for what is refused: two more words, two numbers and the line's end
abbrev pub refused_room : ℕ
refused_room = 53

-- a booth's line beside its row: three words, three numbers, a space and the line's end
abbrev pub booth_room : ℕ
booth_room = 81
