-- Statement 8: a printed number reads back as itself. Assumes nothing.
use mathlib.Core.Path.{◌≡◌, refl, sym, ◌∙◌}
use mathlib.Core.Bool.{Bool, true, false}
use mathlib.Core.List.{List, [], ◌∷◌, ◌++◌}
use Prim.Native.Nat.{ℕ, zero, suc, ◌+◌, ◌-◌, ◌*◌, ◌/◌, ◌%◌, ◌^◌, ◌<◌}
use native.Mathlib.Nat.{pow-zero, pow-suc}
use native.Mathlib.Omega.{arith}
use lib.Dec.{ltb}
use lib.ListN.{length, get_or, length-append, get_or-append}
use borrow.Author.Tests.{ltb-false, lt-ltb}
use Rattle.rules.specs.Desk.{digits, decimal}
use Rattle.laws.specs.Statements.{spelled, PrintedNumbers}

spelled_last : (n : ℕ) (ds : List ℕ) (d : ℕ) → spelled n (ds ++ (d ∷ [])) ≡ spelled n ds * 10 + (d - 48)
unfolding spelled
spelled_last n [] d = refl
spelled_last n (e ∷ ds) d = spelled_last (n * 10 + (e - 48)) ds d

ten_more : (most n : ℕ) → n < 10 ^ suc most → n / 10 < 10 ^ most
ten_more most n h = omega (arith, h, pow-suc 10 most)

read_back : (most n : ℕ) → n < 10 ^ most → spelled 0 (digits most n) ≡ n
unfolding digits spelled
read_back zero n h = omega (arith, h, pow-zero 10)
read_back (suc most) n h = go (read_back most (n / 10) (ten_more most n h)) (ltb n 10) refl
  where
    go : spelled 0 (digits most (n / 10)) ≡ n / 10 → (b : Bool) → ltb n 10 ≡ b → spelled 0 (digits (suc most) n) ≡ n
    go ih true e = rw (e, digits) (omega arith)
    go ih false e = rw (e, digits) (omega (arith, ih, spelled_last 0 (digits most (n / 10)) (48 + n % 10)))

some_digit : (most n : ℕ) → 0 < length (digits (suc most) n)
unfolding digits
some_digit most n = go (ltb n 10) refl
  where
    go : (b : Bool) → ltb n 10 ≡ b → 0 < length (digits (suc most) n)
    go true e = rw (e, digits) (omega arith)
    go false e = rw (e, digits) (omega (arith, length-append (digits most (n / 10)) ((48 + n % 10) ∷ [])))

first_zero : (most n : ℕ) → n < 10 ^ most → get_or (digits most n) 0 0 ≡ 48 → n ≡ 0
unfolding digits
first_zero zero n h z = omega (arith, h, pow-zero 10)
first_zero (suc zero) n h z = omega (arith, rw (lt-ltb n 10 (omega (arith, h)), digits) at z)
first_zero (suc (suc most)) n h z = go (first_zero (suc most) (n / 10) (ten_more (suc most) n h)) (ltb n 10) refl
  where
    go : (get_or (digits (suc most) (n / 10)) 0 0 ≡ 48 → n / 10 ≡ 0) → (b : Bool) → ltb n 10 ≡ b → n ≡ 0
    go ih true e = omega (arith, rw (e, digits) at z)
    go ih false e =
        let first : get_or (digits (suc most) (n / 10)) 0 0 ≡ 48 = sym (get_or-append (digits (suc most) (n / 10)) ((48 + n % 10) ∷ []) 0 0 (some_digit most (n / 10))) ∙ (rw (e, digits) at z) in
        omega (arith, ih first, ltb-false n 10 e)

pub printed_numbers : PrintedNumbers
unfolding decimal
printed_numbers =
    record { reads_back = λ n h. read_back 20 n (omega (arith, h)); no_zero_first = λ n h z. first_zero 20 n (omega (arith, h)) z }
