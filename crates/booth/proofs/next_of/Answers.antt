-- `booth::next_of` meets its contract: every entry passed is another booth's. Assumes nothing.
use mathlib.Core.Path.{◌≡◌, refl, sym, ◌∙◌, subst}
use mathlib.Core.List.{List}
use Prim.Native.Nat.{ℕ, ◌+◌, ◌≤◌}
use native.Mathlib.Omega.{arith}
use lib.ListN.{length}
use Rattle.arrivals.specs.Places.{waiting_at, Place}
use Rattle.arrivals.proofs.PlaceLaws.{whole_entry, waiting_other}
use Rattle.booth.specs.BoothHeld.{Found}
use Rattle.booth.proofs.next_of.Goals as goal

-- no entry of the booth's stands before the log's end
found_none : (bs : List ℕ) (number from at : ℕ) → Place bs at → from ≤ at → waiting_at bs number at ≡ waiting_at bs number from → length bs ≤ at → Found bs number from (length bs)
found_none bs number from at place later same ends =
    let e : at ≡ length bs = omega (arith, place.inside) in
    subst (Found bs number from) e (record { place = place; later = later; same = same; here = λ h. absurd (omega arith) })

pub loop-at-init : goal.loop-at-init
loop-at-init c = record { place = c.requires; later = omega arith; same = refl }

pub at-entry-requires : goal.at-entry-requires
at-entry-requires c = (whole_entry c.args.log.now c.loop-at.at c.loop-at.invariant.place c.loop-at-test.true).0

pub returns-then-entry-number : goal.returns-then-entry-number
returns-then-entry-number c =
    let inv = c.loop-at.invariant in
    record { place = inv.place; later = inv.later; same = inv.same; here = λ h. sym c.at-entry.ensures.booth ∙ c.if-entry-number.true }

pub loop-at-preserved : goal.loop-at-preserved
loop-at-preserved c =
    let bs = c.args.log.now in
    let at = c.loop-at.at in
    let inv = c.loop-at.invariant in
    let inside = c.loop-at-test.true in
    record {
      place = (whole_entry bs at inv.place inside).1;
      later = omega arith;
      same = sym (waiting_other bs c.args.number at inv.place inside (λ e. c.if-entry-number.false (c.at-entry.ensures.booth ∙ e))) ∙ inv.same;
    }

pub returns : goal.returns
returns c =
    let inv = c.loop-at.invariant in
    found_none c.args.log.now c.args.number c.args.from c.loop-at.at inv.place inv.later inv.same (omega arith)

pub returns-else-entry-number : goal.returns-else-entry-number
returns-else-entry-number c =
    let bs = c.args.log.now in
    let at = c.loop-at.at in
    let inv = c.loop-at.invariant in
    let inside = c.loop-at-test.true in
    let next = whole_entry bs at inv.place inside in
    let other = sym (waiting_other bs c.args.number at inv.place inside (λ e. c.if-entry-number.false (c.at-entry.ensures.booth ∙ e))) in
    found_none bs c.args.number c.args.from (at + 9) next.1 (omega (arith, inv.later)) (other ∙ inv.same) (omega arith)
