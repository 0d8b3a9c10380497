-- The verdict on a table, and how a verdict stands in a C struct.
use Rattle.std.specs.Prelude.{List, ℕ}
use Rattle.base.specs.Refusals.{Refusal, taken, refused}
use Rattle.rules.specs.Verdicts.{Refused, Nothing, TheTable, TheLog, TheCall, Verdict, accepted, refused_as}
use Rattle.rules.specs.Admission.{read_table}
use Rattle.hallanupp.specs.declared.CVerdict.{CVerdict}

unfoldable pub table_verdict : List ℕ → Verdict
table_verdict table_bytes = elim (read_table table_bytes) [ refused r ↦ refused_as TheTable r | taken ls ↦ accepted ]

unfoldable pub refused_in_c : ℕ → Refusal → CVerdict
refused_in_c what r = record { refused = what; number = r.number; place = r.place }

-- 0 nothing, 1 the booth table, 2 the arrival log, 3 the call itself
unfoldable pub what_in_c : Refused → ℕ
what_in_c Nothing = 0
what_in_c TheTable = 1
what_in_c TheLog = 2
what_in_c TheCall = 3

unfoldable pub in_c : Verdict → CVerdict
in_c v = refused_in_c (what_in_c v.refused) v.refusal
