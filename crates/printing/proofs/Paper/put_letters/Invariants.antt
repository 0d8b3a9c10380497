-- What is copied turns into its letters, byte by byte.
use Rattle.std.proofs.Common.{◌≡◌, ℕ, ◌<◌, ◌≤◌, get_or}
use Rattle.rules.specs.Desk as page
use Rattle.printing.proofs.Paper.put_letters.Given as goal

abbrev pub invariant-loop-byte : goal.invariant-loop-byte
invariant-loop-byte l =
    record {
      done : (k : ℕ) → k < l.byte-index → get_or l.part k 0 ≡ page.letter (get_or l.kept k 0);
      left : (k : ℕ) → l.byte-index ≤ k → get_or l.part k 0 ≡ get_or l.kept k 0;
    }
