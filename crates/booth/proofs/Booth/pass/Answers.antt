-- `booth::Booth::pass` meets its contract. Assumes nothing.
use mathlib.Core.Path.{◌≡◌, sym, ap, ◌∙◌}
use Prim.Native.Nat.{◌+◌, ◌-◌}
use native.Mathlib.Omega.{arith}
use lib.ListN.{replicate}
use borrow.Rule.Slice.PartMut.{mid_len}
use Rattle.rules.specs.Opens.{opens_at}
use Rattle.booth.specs.declared.Booth.{Booth}
use Rattle.booth.specs.BoothHeld.{clock_at, lengthened}
use Rattle.booth.proofs.RowWritten.{written_none, part_silenced}
use Rattle.booth.proofs.Booth.pass.Goals as goal

-- a clock that stands where it stood
stands : (h : Booth) → h.opens ≡ opens_at h.promise h.clock.0 → h ≡ clock_at h h.clock.0
unfolding clock_at
stands h lies = ap (λ o. record { number = h.number; tasks = h.tasks; demand = h.demand; first = h.first; left = h.left; at = h.at; promise = h.promise; clock = h.clock; opens = o; tick = h.tick; point = h.point }) lies

pub returns-then-end-from : goal.returns-then-end-from
unfolding clock_at
returns-then-end-from c =
    let u = c.args.self.clock.0 in
    let v = c.args.to.0 in
    let row = c.args.row.now in
    let none : v - u ≡ 0 = omega arith in
    let stays : u + (v - u) ≡ u = omega arith in record {
      state = stands c.args.self c.requires.allowance_nonzero.1 ∙ ap (clock_at c.args.self) (sym stays);
      row = sym (ap (λ n. lengthened row u (replicate n 255)) none ∙ written_none row u);
    }

pub opens_at-self-requires : goal.opens_at-self-requires
opens_at-self-requires c = (c.requires.allowance_nonzero.0, c.requires.allowance_nonzero.2)

pub returns : goal.returns
unfolding clock_at
returns c =
    let h = c.args.self in
    let u = c.args.self.clock.0 in
    let v = c.args.to.0 in
    let row = c.args.row.now in
    let there : u + (v - u) ≡ v = omega (arith, c.if-end-from.false) in record {
      state = ap (λ o. record { number = h.number; tasks = h.tasks; demand = h.demand; first = h.first; left = h.left; at = h.at; promise = h.promise; clock = record { 0 = v }; opens = o; tick = h.tick; point = h.point }) c.opens_at-self.ensures ∙ ap (clock_at h) (sym there);
      row = part_silenced row u (v - u) _ (c.fill.ensures.after (λ y e. e) ∙ ap (λ n. replicate n 255) (mid_len u v row c.requires.clock_in_bounds.1));
    }
