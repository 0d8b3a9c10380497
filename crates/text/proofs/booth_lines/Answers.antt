-- `text::booth_lines` meets its contract: one booth more. Assumes nothing.
use mathlib.Core.Path.{sym, subst}
use native.Mathlib.Omega.{arith}
use Prim.Native.Nat.{◌≤◌}
use lib.ListN.{length, get_or}
use Rattle.rules.specs.Desk as page
use Rattle.printing.specs.Printed.{Printed}
use Rattle.printing.proofs.Pieces.{printed_then}
use Rattle.text.proofs.BoothLines.{row_short, booth_lines_length, booth_lines_more}
use Rattle.text.proofs.booth_lines.Goals as goal

pub booth_line-requires : goal.booth_line-requires
booth_line-requires c =
    let at = c.loop-booth in
    let a = c.args.answer in
    let row : length c.row_back-row.result.now ≤ c.args.h =
    subst (λ l. length l ≤ c.args.h) (sym c.row_back-row.ensures) (row_short _ _ _ _) in
    omega (arith, c.requires, at.invariant.put.behind, booth_lines_length at.booth c.args.h a.clocks a.worked c.args.own.now c.requires.1)

pub loop-booth-preserved : goal.loop-booth-preserved
loop-booth-preserved c =
    let at = c.loop-booth in
    let a = c.args.answer in
    let line : Printed (page.booth_line at.booth (get_or a.clocks at.booth 0) (get_or a.worked at.booth 0) c.row_back-row.result.now) at.paper c.booth_line.new.self = c.booth_line.ensures in
    subst (λ l. Printed l c.args.paper.now c.booth_line.new.self) (sym (booth_lines_more at.booth c.args.h a.clocks a.worked c.args.own.now))
    (printed_then at.invariant (subst (λ l. Printed (page.booth_line at.booth (get_or a.clocks at.booth 0) (get_or a.worked at.booth 0) l) at.paper c.booth_line.new.self) c.row_back-row.ensures line))
