-- `admission::passes` meets its contract: no R below r passes. Assumes nothing.
use Rattle.std.proofs.Common.{◌+◌, map, sym, subst, arith}
use Rattle.rules.specs.Values.{line_held}
use Rattle.rules.proofs.Fitting.{fit_sound, fit_short}
use Rattle.laws.specs.Statements.{NoneBelow}
use Rattle.laws.proofs.Admitted.{means_passes}
use Rattle.laws.proofs.Climbing.{climb, none_passes}
use Rattle.admission.proofs.passes.Goals as goal

pub loop-r-init : goal.loop-r-init
loop-r-init c =
    let sound = fit_sound _ c.requires.line in
    record { first = omega (arith, sound.allowance); none = λ R a b p. omega arith }

pub asked_above-requires-clause-r : goal.asked_above-requires-clause-r
asked_above-requires-clause-r c = (c.loop-r.invariant.first, omega (arith, fit_short _ c.requires.line))

pub overflow_add-asked : goal.overflow_add-asked
overflow_add-asked c = omega (arith, fit_sound _ c.requires.line, fit_short _ c.requires.line)

pub returns-then-asked-r : goal.returns-then-asked-r
unfolding line_held
returns-then-asked-r c =
    let now = c.loop-r in
    sym (means_passes _ (line_held c.args.line.now) (now.r, now.invariant.first, omega arith, omega arith))

pub loop-r-preserved : goal.loop-r-preserved
loop-r-preserved c =
    let now = c.loop-r in
    let B = c.args.line.now.promise.allowance in
    let above = map line_held c.args.above.now in
    record {
      first = omega arith;
      none = subst (λ a. NoneBelow above B (B + a)) (sym c.asked_above.ensures.asked) (climb.climbs above B now.r now.invariant.none);
    }

pub returns : goal.returns
unfolding line_held
returns c =
    let now = c.loop-r in
    sym (none_passes _ (line_held c.args.line.now) now.r now.invariant.none (omega arith))
