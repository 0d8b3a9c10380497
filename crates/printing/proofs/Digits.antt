-- The digits of a number, as the library prints them, and how many there may be. Assumes nothing.
use mathlib.Core.Path.{◌≡◌, refl, sym}
use mathlib.Core.Bool.{Bool, true, false}
use mathlib.Core.List.{List, [], ◌∷◌}
use Prim.Native.Nat.{ℕ, zero, suc, ◌+◌, ◌/◌, ◌%◌, ◌≤◌, ◌<◌, ◌^◌}
use native.Mathlib.Omega.{arith}
use lib.Dec.{ltb}
use lib.ListN.{length, length-append}
use borrow.Author.Tests.{lt-ltb, le-ltb}
use Rattle.std.proofs.lemmas.Fmt.{AppendsLastDigit, decimal_from_appends, length-decimal-le}
use Rattle.std.specs.Fmt as library
use Rattle.rules.specs.Desk.{digits, decimal, labelled}
use Rattle.printing.specs.Room.{most_digits}

-- the library prints the last digit last too
appends_last : AppendsLastDigit digits
unfolding digits
appends_last =
    record {
      one = λ k n h. rw (lt-ltb n 10 h, digits);
      more = λ k n h. rw (le-ltb n 10 h, digits);
    }

pub few_digits : (most n : ℕ) → length (digits most n) ≤ most
unfolding digits
few_digits zero n = omega arith
few_digits (suc most) n = go (few_digits most (n / 10)) (ltb n 10) refl
  where
    go : length (digits most (n / 10)) ≤ most → (b : Bool) → ltb n 10 ≡ b → length (digits (suc most) n) ≤ suc most
    go few true e = rw (e, digits) (omega arith)
    go few false e = rw (e, digits) (omega (arith, length-append (digits most (n / 10)) ((48 + n % 10) ∷ []), few))

pub labelled_length : (word : List ℕ) (n : ℕ) → length (labelled word n) ≤ length word + most_digits
unfolding labelled decimal
labelled_length word n = omega (arith, length-append word (digits most_digits n), few_digits most_digits n)

-- a number as the library prints it
pub decimal_is : (n : ℕ) → n < 2 ^ 64 → library.decimal n ≡ decimal n
unfolding decimal
decimal_is n h = sym (decimal_from_appends digits appends_last most_digits n h (length-decimal-le most_digits n (omega arith) (omega arith) h))
