-- `panel::worked_ticks` meets its contract. The loop's invariant: what is counted, with what the parts left hold, is how often the booth stands in
-- the first `t` bytes. Assumes nothing.
use Rattle.std.proofs.Common.{◌≡◌, ◌<◌, take, rules, sym, ap, ◌∙◌, arith}
use Rattle.std.specs.Slice.Iter.{chunks_rest}
use Rattle.std.proofs.lemmas.List.{nil_from_length}
use Rattle.rules.specs.Session.{count}
use Rattle.rules.proofs.Counting.{count_nil}
use Rattle.panel.proofs.Cases.{count_above, part_more, worked_le}
use Rattle.panel.proofs.worked_ticks.Goals as goal

pub returns-in_default : goal.returns-in_default
returns-in_default c =
    let a = c.args in
    let large : a.booth < 256 → ⊥ = c.in_default.ensures in
    sym (count_above a.booth a.t a.wall.now (λ i. omega (arith, c.type_inv.wall i, large)))

pub overflow_add-worked : goal.overflow_add-worked
overflow_add-worked c =
    let k = c.in-Ok.number in
    let more = part_more k c.in-Some.part.now (chunks_rest c.next.new.self) c.in-Some.ensures.steps.1.0 c.loop-part.worked c.loop-part.invariant.together in
    omega (arith, more, c.worked_in-worked.ensures, worked_le k c.args.t c.args.wall.now)

pub loop-part-preserved : goal.loop-part-preserved
loop-part-preserved c =
    let k = c.in-Ok.number in
    let held = c.loop-part.invariant in
    let steps = c.in-Some.ensures.steps in
    let more = part_more k c.in-Some.part.now (chunks_rest c.next.new.self) steps.1.0 c.loop-part.worked held.together in
    record {
      can_next = search rules;
      finite = tt;
      size = steps.0 ∙ held.size;
      together = omega (arith, c.worked_in-worked.ensures, more, worked_le k c.args.t c.args.wall.now);
    }

pub returns : goal.returns
returns c =
    let bytes = take c.args.t c.args.wall.now in
    let none = nil_from_length _ c.in-None.ensures.steps.1.0 in
    let same : c.in-Ok.number ≡ c.args.booth = c.in-Ok.ensures.1 in
    omega (arith, c.loop-part.invariant.together, ap (count c.in-Ok.number) none, count_nil c.in-Ok.number, ap (λ k. count k bytes) same)
