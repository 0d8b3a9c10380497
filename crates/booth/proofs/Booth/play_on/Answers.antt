-- `Booth::play_on` meets its contract. Assumes nothing.
use mathlib.Core.Path.{◌≡◌, refl, sym, ap, ◌∙◌}
use Prim.Native.Nat.{ℕ, ◌+◌, ◌-◌, ◌<◌}
use native.Mathlib.Numerals.{add-one}
use native.Mathlib.Omega.{arith}
use Rattle.std.specs.Prelude.{Some}
use Rattle.rules.specs.Opens.{opens_at}
use Rattle.rules.proofs.NextOpens.{lies_in}
use Rattle.booth.specs.declared.Booth.{Booth}
use Rattle.booth.specs.BoothHeld.{Steady, played_on}
use Rattle.booth.proofs.Demand.{owed_first, owed_eight}
use Rattle.booth.proofs.Working.{held_first, busy_with}
use Rattle.booth.proofs.Booth.play_on.Goals as goal

-- the first task has some left
some_left : (h : Booth) (k : ℕ) → Steady h → h.first ≡ Some k → 0 < h.left
some_left h k s is =
    let f = held_first h s (busy_with h k is) in
    omega (arith, f.some, owed_first h (omega (arith, f.there, owed_eight h)))

pub overflow_sub-self : goal.overflow_sub-self
overflow_sub-self c = some_left c.args.self c.args.k c.requires.steady c.requires.first

pub opens_next-self-requires : goal.opens_next-self-requires
opens_next-self-requires c =
    let h = c.args.self in
    let s = c.requires.steady in
    (s.sound, lies_in h.promise s.sound h.clock.0 h.opens s.opens, omega (arith, s.short, c.requires.opens))

pub returns : goal.returns
unfolding played_on
returns c =
    let h = c.args.self in
    let lies = c.opens_next-self.ensures h.clock.0 c.requires.steady.opens ∙ ap (opens_at h.promise) (sym (add-one h.clock.0)) in
    record {
      state = ap (λ o. record { number = h.number; tasks = h.tasks; demand = h.demand; first = h.first; left = h.left - 1; at = h.at; promise = h.promise; clock = record { 0 = h.clock.0 + 1 }; opens = o; tick = h.tick; point = h.point }) lies;
      row = refl;
    }
