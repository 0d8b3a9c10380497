-- `Booth::owed` meets its contract. Assumes nothing.
use mathlib.Core.Path.{sym, ap, ◌∙◌}
use native.Mathlib.Omega.{arith}
use lib.ListN.{set}
use lib.Seq.{set_out}
use Rattle.booth.specs.BoothHeld.{first_number, owed}
use Rattle.booth.proofs.Booth.owed.Goals as goal

pub returns-in-Some : goal.returns-in-Some
unfolding owed
returns-in-Some c =
    let h = c.args.self in
    ap (λ o. set h.demand (first_number o) h.left) (sym c.in-Some.is)

pub returns-in_default : goal.returns-in_default
unfolding owed
returns-in_default c =
    let h = c.args.self in
    sym (set_out h.demand 255 h.left (omega (arith, c.requires.eight))) ∙ ap (λ o. set h.demand (first_number o) h.left) (sym c.in_default.is)
