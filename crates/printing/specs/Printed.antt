-- What it means that a piece was printed on a paper.
use Rattle.std.specs.Prelude.{◌≡◌, List, ℕ, ◌+◌, ◌≤◌, length}
use Rattle.printing.specs.declared.Paper.{Paper}
use Rattle.printing.specs.Put.{Put}

-- behind what is printed the buffer has at least so many bytes more
abbrev pub HasRoom : ℕ → Paper → Type 0
HasRoom n paper = paper.at + n ≤ length paper.out.now

-- the paper is over the buffer that it was over, as long as before, and the piece was put behind what was printed
pub record Printed (piece : List ℕ) (before after : Paper) : Type 0 where
  pub same_buffer : after.out.ghost_name ≡ before.out.ghost_name
  pub same_length : length after.out.now ≡ length before.out.now
  pub put : Put before.at piece before.out.now after.out.now after.at
