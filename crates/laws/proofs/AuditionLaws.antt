-- The audition as an instance of opening, agreement and no lag. Assumes nothing.
use mathlib.Core.Path.{◌≡◌, refl, sym, ap, ◌∙◌}
use mathlib.Core.List.{[], ◌∷◌}
use Prim.Native.Nat.{◌<◌, min}
use native.Mathlib.Omega.{arith}
use lib.ListN.{length}
use lib.Seq.{take_all}
use Rattle.rules.specs.Due
use Rattle.rules.specs.Session
use Rattle.rules.specs.SoloPart
use Rattle.rules.specs.SoloPart.{solo}
use Rattle.rules.specs.MarkedCases
use Rattle.laws.specs.Statements.{booths, line_of, entries_of, clock_of, row_of, settled_of, ThereAt}
use Rattle.laws.specs.Computing.{computing}
use Rattle.laws.specs.Audition.{lines, entry, sessions, m1, m2, TheAudition}
use Rattle.laws.proofs.Opening.{length_solo}
use Rattle.laws.proofs.Theorems.{rows_open, rows_agree, no_lag, counted_once}

-- the final own clocks that are answered for booth 1
clocks : (clock_of m1 1 ≡ 6) × (clock_of m2 1 ≡ 6)
unfolding computing sessions lines entry MarkedCases.table_with MarkedCases.audition MarkedCases.log_of MarkedCases.entry_of MarkedCases.audition_log MarkedCases.other_log MarkedCases.lent
clocks = (refl, refl)

there : (1 < booths m1) × (1 < booths m2)
unfolding sessions lines
there = (omega arith, omega arith)

one_period : length (settled_of m1 10 1).row ≡ 4
unfolding sessions lines
one_period = no_lag.whole_periods m1 1 there.0 1

there_then : ThereAt m1 1 10 4
unfolding sessions lines
there_then = no_lag.bytes_at_periods m1 1 there.0 1 (omega arith)

first_four : (settled_of m1 10 1).row ≡ 1 ∷ 1 ∷ 0 ∷ 1 ∷ []
unfolding sessions lines entry Due.due Due.release_point Session.own_entries Session.count SoloPart.asked SoloPart.first_that solo
first_four =
    let opens = rows_open.at_tick m1 1 there.0 10 in
    let u : (settled_of m1 10 1).u ≡ 4 = sym (ap length opens ∙ length_solo (line_of m1 1) (entries_of m1 1) (settled_of m1 10 1).u) ∙ one_period in
    opens ∙ ap (solo (line_of m1 1) (entries_of m1 1)) u

whole_row : row_of m1 1 ≡ 1 ∷ 1 ∷ 0 ∷ 1 ∷ 255 ∷ 255 ∷ []
unfolding sessions lines entry Due.due Due.release_point Session.own_entries Session.count SoloPart.asked SoloPart.first_that solo
whole_row = rows_open.row m1 1 there.0 ∙ ap (solo (line_of m1 1) (entries_of m1 1)) clocks.0

same_row : row_of m1 1 ≡ row_of m2 1
unfolding sessions lines entry Session.own_entries
same_row =
    let n = min (clock_of m1 1) (clock_of m2 1) in
    sym (take_all n (row_of m1 1) (omega (arith, clocks, counted_once.row_length m1 1 there.0)))
    ∙ rows_agree.rows m1 m2 1 1 there.0 there.1 refl refl
    ∙ take_all n (row_of m2 1) (omega (arith, clocks, counted_once.row_length m2 1 there.1))

pub the_audition : TheAudition
the_audition = record { one_period = one_period; there_then = there_then; first_four = first_four; whole_row = whole_row; same_row = same_row }
