-- `table::no_records` meets its contract. Assumes nothing.
use Rattle.std.proofs.Common.{ap, [], ◌∷◌}
use Rattle.rules.specs.Values.{padded, held_table}
use Rattle.table.specs.TableAnswered.{records_held}
use Rattle.table.proofs.no_records.Goals as goal

pub returns : goal.returns
unfolding records_held held_table padded
returns c = ap (λ l. record { table = record { booths = 0; lines = l ∷ l ∷ l ∷ l ∷ l ∷ l ∷ l ∷ l ∷ [] }; starts = 0 ∷ 0 ∷ 0 ∷ 0 ∷ 0 ∷ 0 ∷ 0 ∷ 0 ∷ [] }) c.no_line.ensures
