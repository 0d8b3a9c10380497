-- `booth::Booth::settle` meets its contract: where nothing is to be added and demand is left, settle changes nothing. Assumes nothing.
use mathlib.Core.Path.{refl, sym, ap, ◌∙◌}
use mathlib.Core.Bool.{not}
use native.Mathlib.Omega.{arith}
use Rattle.booth.proofs.Settling.{settles_first, due_fits, settled_busy}
use Rattle.booth.proofs.Booth.settle.Goals as goal

pub returns-then-is_some : goal.returns-then-is_some
returns-then-is_some c =
    let bs = c.args.log.now in
    let t = c.args.t.0 in
    let h = c.args.self in
    let row = c.args.row.now in
    let s = settles_first bs t h row c.requires.fit c.requires.cap in
    let fits = due_fits bs t h row h row s c.requires.room in
    let test = sym c.takes.ensures ∙ c.if-takes.false in record {
      fit = record { fit = s.fit; stays = s.stays; grown = omega arith; cap = c.requires.cap };
      state = λ l q. settled_busy bs t h row h row s fits.0 c.requires.log c.requires.fit c.requires.cap test l q (ap not (sym c.is_some.ensures ∙ c.if-is_some.true));
      row = refl;
    }
