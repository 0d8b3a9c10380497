-- How a row handed back stands in a C struct: where it begins in the caller's own record, and how long it is.
use Rattle.std.specs.Prelude.{ℕ, ◌*◌}
use Rattle.rules.specs.Verdicts.{Refused, Nothing, TheTable, TheLog, TheCall, Verdict}
use Rattle.hallanupp.specs.declared.parts.CRow.{CRow}
use Rattle.hallanupp.specs.VerdictInC.{in_c}

-- the number itself where nothing is refused, and else 0
unfoldable pub unless_refused : Refused → ℕ → ℕ
unless_refused Nothing n = n
unless_refused TheTable n = 0
unless_refused TheLog n = 0
unless_refused TheCall n = 0

-- n bytes from booth times H
unfoldable pub row_in_c : ℕ → ℕ → ℕ → Verdict → CRow
row_in_c H booth n v = record { verdict = in_c v; start = unless_refused v.refused (booth * H); count = unless_refused v.refused n }
