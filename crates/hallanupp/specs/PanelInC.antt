-- How a panel row stands in a C struct.
use Rattle.std.specs.Prelude.{true, false, ℕ, ltb}
use Rattle.rules.specs.ArrivalLog.{longest_session}
use Rattle.rules.specs.Panel as page
use Rattle.panel.specs.declared.Reading.{Reading}
use Rattle.panel.specs.declared.Reading.TheVariants.{NoneYet, Below, AtCeiling, Over}
use Rattle.panel.specs.Shown.{shown_reading}
use Rattle.hallanupp.specs.declared.panels.CPanelRow.{CPanelRow}
use Rattle.hallanupp.specs.VerdictInC.{in_c}

-- the share that a reading carries is the row's own
unfoldable pub reading_in_c : Reading → ℕ
reading_in_c NoneYet = 0
reading_in_c (Below got) = 1
reading_in_c (AtCeiling got) = 2
reading_in_c (Over got) = 3

unfoldable pub panel_in_c : page.PanelRow → CPanelRow
panel_in_c p = record { verdict = in_c p.verdict; promised = p.promised; got = p.got; reading = reading_in_c (shown_reading p.reading) }

-- a tick that fits 32 bits, and is answered as t is
unfoldable pub held_tick : ℕ → ℕ
held_tick t = elim (ltb longest_session t) [ true ↦ 1000001 | false ↦ t ]
