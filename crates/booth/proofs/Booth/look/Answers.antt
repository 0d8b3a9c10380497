-- `booth::Booth::look` meets its contract. Assumes nothing.
use mathlib.Core.Path.{refl, ap, ◌∙◌}
use native.Mathlib.Omega.{arith}
use Rattle.rules.specs.Due.{due}
use Rattle.booth.specs.BoothHeld.{looking_at}
use Rattle.booth.proofs.Booth.look.Goals as goal

pub returns-then-log-at : goal.returns-then-log-at
unfolding looking_at
returns-then-log-at c =
    let found = c.next_of-at.ensures in
    record {
      is = refl;
      waits = record { place = found.place; none = λ h. refl; next = λ h. absurd (omega (arith, c.if-log-at.true)) };
      later = found.later;
      same = found.same;
    }

pub returns : goal.returns
unfolding looking_at
returns c =
    let found = c.next_of-at.ensures in
    let tick = c.at-entry.ensures.tick in
    record {
      is = refl;
      waits = record {
        place = found.place;
        none = λ h. absurd (omega (arith, c.if-log-at.false));
        next = λ h. record { booth = found.here h; tick = tick; point = c.due-self.ensures ∙ ap (due c.args.self.promise) tick };
      };
      later = found.later;
      same = found.same;
    }
