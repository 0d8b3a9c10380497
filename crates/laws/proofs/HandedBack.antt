-- Each booth's row is handed back whole. Assumes nothing.
use mathlib.Core.Path.{◌≡◌, ap}
use mathlib.Core.List.{List}
use Prim.Native.Nat.{ℕ, ◌+◌, ◌*◌, ◌≤◌, ◌<◌}
use native.Mathlib.Nat.{mul-le-mul_right}
use native.Mathlib.Omega.{arith}
use lib.ListN.{length, take, drop}
use borrow.Author.Tests.{le-ltb, lt-leb}
use Rattle.base.specs.Refusals.{refuse_if, first_fault}
use Rattle.rules.specs.Verdicts.{accepted}
use Rattle.rules.specs.RowBack.{row_checks, row_back}
use Rattle.laws.specs.Statements.{Accepted, HandedBack, outcome, booths, ticks, line_of, clock_of, row_of}
use Rattle.laws.proofs.DueLaws.{due_at_most}
use Rattle.laws.proofs.Theorems.{what_is_accepted, no_lag, counted_once, untouched}
use Rattle.laws.proofs.Answered.{row_is}

-- a row that ends within the session and within the record is handed back
in_the_record : (own : List ℕ) (H i n : ℕ) → i < 8 → H ≤ 1000000 → n ≤ H → i * H + n ≤ length own → row_back own H i n ≡ record { verdict = accepted; part = take n (drop (i * H) own) }
unfolding row_back row_checks refuse_if first_fault
in_the_record own H i n a b c d = rw (lt-leb 8 i a, row_back) (rw (le-ltb 1000000 H b) (rw (le-ltb H n c) (rw (le-ltb (length own) (i * H + n) d))))

module _ (s : Accepted) (i : ℕ) (h : i < booths s) where
  -- no clock is past H
  clock_short : clock_of s i ≤ ticks s
  clock_short =
      omega (
        arith,
        counted_once.row_length s i h,
        ap length (row_is s i h),
        (no_lag.at_tick s i h (ticks s)).0,
        due_at_most (line_of s i).promise (what_is_accepted.lines s i h).sound (ticks s),
      )

  inside : i * ticks s + clock_of s i ≤ length (outcome s).own
  inside = omega (arith, clock_short, mul-le-mul_right (ticks s) h, (what_is_accepted.room s).1, (untouched.lengths s).1)

  handed : row_back (outcome s).own (ticks s) i (clock_of s i) ≡ record { verdict = accepted; part = row_of s i }
  handed =
      in_the_record (outcome s).own (ticks s) i (clock_of s i) (omega (arith, h, (what_is_accepted.few_booths s).1)) (what_is_accepted.few_ticks s).0 clock_short inside

pub handed_back : HandedBack
handed_back = record { row = handed }
