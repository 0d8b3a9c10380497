-- How long a line may be. Assumes nothing.
use mathlib.Core.Path.{◌≡◌}
use mathlib.Core.List.{List, ◌++◌, map}
use Prim.Native.Nat.{ℕ, ◌+◌, ◌≤◌}
use native.Mathlib.Omega.{arith}
use lib.ListN.{length, length-append, length-map}
use Rattle.rules.specs.Desk as page
use Rattle.printing.specs.Room.{most_digits}
use Rattle.printing.proofs.Digits.{labelled_length}

pub number_line_length : (word : List ℕ) (n : ℕ) → length (page.number_line word n) ≤ length word + most_digits + 1
unfolding page.number_line
number_line_length word n = omega (arith, length-append (page.labelled word n) page.line_end, labelled_length word n)

pub record_line_length : (word bytes : List ℕ) → length (page.record_line word bytes) ≡ length word + length bytes + 1
unfolding page.record_line
record_line_length word bytes =
    omega (arith, length-append word (map page.letter bytes ++ page.line_end), length-append (map page.letter bytes) page.line_end, length-map bytes page.letter)
