-- What admission finds, as a refusal.
use Rattle.std.specs.Prelude.{List, ℕ, get_or}
use Rattle.std.proofs.Math.Option.{Option, none, some}
use Rattle.base.specs.Refusals.{Refusal, refusal, not_admitted}

-- 7 at the record start of the first booth that fails
unfoldable pub not_admitted_at : List ℕ → Option ℕ → Option Refusal
not_admitted_at starts none = none
not_admitted_at starts (some i) = some (refusal not_admitted (get_or starts i 0))
