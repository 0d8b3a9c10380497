-- What it means that a piece was put into a lent buffer.
use Rattle.std.specs.Prelude.{◌≡◌, List, ℕ, ◌+◌, ◌≤◌, length}
use Rattle.base.specs.Bytes.{written}

-- the piece stands from `at` on, every other byte is as before, and the next piece goes behind it
pub record Put (at : ℕ) (piece before after : List ℕ) (next : ℕ) : Type 0 where
  pub inside : at ≤ length before
  pub now_holds : after ≡ written at piece before
  pub behind : next ≡ at + length piece
