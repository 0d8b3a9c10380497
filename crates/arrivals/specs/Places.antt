-- The log's bytes by place: where entries stand, and which of them are a booth's from there on.
use Rattle.std.specs.Prelude.{◌≡◌, List, [], ◌∷◌, ℕ, zero, suc, ◌+◌, ◌-◌, ◌/◌, ◌%◌, ◌≤◌, ◌<◌, length}
use Rattle.rules.specs.ArrivalLog.{Entry, Log, entry_at}
use Rattle.rules.specs.Session.{own_entries}
use Rattle.laws.specs.Ordered.{Sorted}

-- the n entries that stand one after the other from a place of the log
unfoldable pub entries_from : ℕ → List ℕ → ℕ → List Entry
entries_from zero bs at = []
entries_from (suc n) bs at = entry_at bs at ∷ entries_from n bs (at + 9)

-- the booth's entries from a place on
unfoldable pub waiting_at : List ℕ → ℕ → ℕ → List Entry
waiting_at bs number at = own_entries number (entries_from ((length bs - at) / 9) bs at)

-- all entries of a log, and the log with its wall ticks
unfoldable pub entries_of : List ℕ → List Entry
entries_of bs = entries_from ((length bs - 9) / 9) bs 9

unfoldable pub log_of : ℕ → List ℕ → Log
log_of H bs = record { horizon = H; entries = entries_of bs }

-- where an entry starts, or the log ends
pub record Place (bs : List ℕ) (at : ℕ) : Type 0 where
  pub from : 9 ≤ at
  pub inside : at ≤ length bs
  pub whole : (length bs - at) % 9 ≡ 0

-- 9 bytes and then whole entries, at most 4,096, each with some demand, whose ticks never fall
pub record WholeLog (bs : List ℕ) : Type 0 where
  pub header : 9 ≤ length bs
  pub short : length bs ≤ 36873
  pub whole : (length bs - 9) % 9 ≡ 0
  pub demands : (at : ℕ) → Place bs at → at < length bs → 0 < (entry_at bs at).demand
  pub sorted : Sorted (entries_from ((length bs - 9) / 9) bs 9)
