-- What the code's panel row says: the rules' row, case by case.
use Rattle.rules.specs.Panel as page
use Rattle.rules.specs.Panel.{none_yet, below, at_ceiling, over}
use Rattle.rules.specs.Verdicts.{Answered, answer_with}
use Rattle.panel.specs.declared.Reading.{Reading}
use Rattle.panel.specs.declared.Reading.TheVariants.{NoneYet, Below, AtCeiling, Over}
use Rattle.panel.specs.declared.PanelRow.{PanelRow}

-- none yet is bare; below, at the ceiling and over each carry their share
unfoldable pub shown_reading : page.Reading → Reading
shown_reading none_yet = NoneYet
shown_reading (below got) = Below got
shown_reading (at_ceiling got) = AtCeiling got
shown_reading (over got) = Over got

-- the two shares and the reading; the verdict is said beside it
unfoldable pub shown_row : page.PanelRow → PanelRow
shown_row p = record { promised = p.promised; got = p.got; reading = shown_reading p.reading }

-- the row beside its verdict, and none beside one that refuses
unfoldable pub shown_answer : page.PanelRow → Answered PanelRow
shown_answer p = answer_with p.verdict (shown_row p)
