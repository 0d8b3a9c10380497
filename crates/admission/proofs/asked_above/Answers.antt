-- `admission::asked_above` meets its contract: so far, what the booths passed over ask. Assumes nothing.
use Rattle.std.proofs.Common.{◌*◌, ◌≤◌, get_or, refl, arith}
use Rattle.rules.specs.Admission.{asked_above}
use Rattle.rules.specs.Values.{no_held_line}
use Rattle.rules.proofs.Fitting.{fit_sound, fit_short}
use Rattle.admission.proofs.Test.{asked_more, asked_small}
use Rattle.admission.proofs.asked_above.Goals as goal
use Rattle.admission.proofs.asked_above.Goals.{After-rounded_up}

pub loop-line-init : goal.loop-line-init
unfolding asked_above
loop-line-init c = record { held = refl; small = omega arith }

pub rounded_up-requires : goal.rounded_up-requires
rounded_up-requires c =
    let fit = c.requires.fit c.loop-line.line-index no_held_line (omega arith) in
    (c.requires.r.0, c.requires.r.1, (fit_sound _ fit).period, fit_short _ fit)

-- what the next booth asks is far below 2^32
small : (c : After-rounded_up) → (get_or c.args.above.now c.loop-line.line-index no_held_line).promise.allowance * c.rounded_up.result ≤ 200000000
small c = asked_small _ c.rounded_up.result (c.requires.fit c.loop-line.line-index no_held_line (omega arith)) c.rounded_up.ensures.1

pub overflow_mul-asked : goal.overflow_mul-asked
overflow_mul-asked c = omega (arith, small (goal.at.overflow_mul-asked c).After-rounded_up)

pub overflow_add-asked : goal.overflow_add-asked
overflow_add-asked c = omega (arith, small (goal.at.overflow_add-asked c).After-rounded_up)

pub loop-line-preserved : goal.loop-line-preserved
loop-line-preserved c =
    let now = c.loop-line in
    let more = asked_more c.args.above.now now.line-index c.args.r (omega arith) in
    record {
      held = cc (c.rounded_up.ensures.0, more, now.invariant.held);
      small = omega (arith, small (goal.at.loop-line-preserved c).After-rounded_up);
    }
