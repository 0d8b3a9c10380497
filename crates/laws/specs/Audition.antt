-- 9. Not empty talk: the audition of document 01 is an accepted session, and what the statements say of it.
use Rattle.std.specs.Prelude.{◌≡◌, refl, List, [], ◌∷◌, ℕ, length}
use Rattle.rules.specs.BoothTable.{Line}
use Rattle.rules.specs.ArrivalLog.{Entry}
use Rattle.rules.specs.MarkedCases
use Rattle.rules.specs.MarkedCases.{audition, audition_log, other_log, lent}
use Rattle.laws.specs.Statements.{Accepted, row_of, settled_of, ThereAt}
use Rattle.laws.specs.Computing.{computing}

unfoldable pub lines : List Line
lines =
    record { promise = record { period = 5; allowance = 2 }; longest = 2 ∷ [] }
    ∷ record { promise = record { period = 10; allowance = 4 }; longest = 3 ∷ 4 ∷ [] }
    ∷ []

unfoldable pub entry : ℕ → ℕ → ℕ → ℕ → Entry
entry tick booth task demand = record { tick = tick; booth = booth; task = task; demand = demand }

-- the sessions of M1, the audition, and M2, the same without booth 0's entry
unfoldable pub sessions : Accepted × Accepted
unfolding computing lines entry MarkedCases.table_with audition MarkedCases.log_of MarkedCases.entry_of audition_log other_log lent
sessions = (
  record {
    table_bytes = audition;
    log_bytes = audition_log;
    wall_lent = lent 13;
    own_lent = lent 25;
    accepts = refl;
    table = lines;
    log = record { horizon = 12; entries = entry 0 1 1 3 ∷ entry 1 0 0 2 ∷ entry 2 1 0 1 ∷ [] };
    table_read = refl;
    log_read = refl;
  },
  record {
    table_bytes = audition;
    log_bytes = other_log;
    wall_lent = lent 12;
    own_lent = lent 24;
    accepts = refl;
    table = lines;
    log = record { horizon = 12; entries = entry 0 1 1 3 ∷ entry 2 1 0 1 ∷ [] };
    table_read = refl;
    log_read = refl;
  },
)

abbrev pub m1 : Accepted
m1 = sessions.0

abbrev pub m2 : Accepted
m2 = sessions.1

pub record TheAudition : Type 0 where
  -- no lag: at wall tick 10, one whole period of booth 1, its row is 4 own ticks long
  pub one_period : length (settled_of m1 10 1).row ≡ 4
  -- and these are the first 4 bytes of the row that is answered
  pub there_then : ThereAt m1 1 10 4
  -- opening: it is the first 4 of its solo part, 1101
  pub first_four : (settled_of m1 10 1).row ≡ 1 ∷ 1 ∷ 0 ∷ 1 ∷ []
  -- opening at the end: the row that is answered is 1101..
  pub whole_row : row_of m1 1 ≡ 1 ∷ 1 ∷ 0 ∷ 1 ∷ 255 ∷ 255 ∷ []
  -- agreement: without booth 0's entry row 1 is still the same
  pub same_row : row_of m1 1 ≡ row_of m2 1
