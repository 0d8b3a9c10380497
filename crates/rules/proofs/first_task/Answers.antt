-- `rules::first_task` meets its contract: the first place with demand is the rules' first task. Assumes nothing.
use Rattle.std.proofs.Common.{arith, rules, tests, ◌≡◌, ap, ◌∙◌, unwrap_or, nat_lt, position}
use Rattle.std.proofs.lemmas.Iterator.{YieldsList-from_slice}
use Rattle.std.proofs.lemmas.Iterator.Search.{position_from_yields_List}
use Rattle.std.proofs.lemmas.Grind.{common_steps}
use Rattle.rules.specs.Moves.{nobody, first_task}
use Rattle.rules.proofs.FirstDemand.{place_of_first}
use Rattle.rules.proofs.first_task.Goals as goal

pub returns-clause-number : goal.returns-clause-number
returns-clause-number c =
    let first : c.position.result ≡ position (λ left. nat_lt 0 left) c.args.demand.now =
    position_from_yields_List (λ left. nat_lt 0 left) _ _ c.position.result c.position.ensures.ran (YieldsList-from_slice c.args.demand.now cc) (λ x b q k. search (rules, tests)) in
    let place : unwrap_or c.position.result nobody ≡ first_task 0 c.args.demand.now = ap (λ o. unwrap_or o nobody) first ∙ place_of_first c.args.demand.now in
    grind (arith, common_steps, place)
