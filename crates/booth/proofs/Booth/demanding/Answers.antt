-- `Booth::demanding` meets its contract. Assumes nothing.
use Rattle.std.proofs.Common.{sym, ap, ◌∙◌, List, ℕ, arith, get_or, Option, None}
use lib.ListN.{get_or-eq_default}
use Rattle.booth.specs.declared.Booth.{Booth}
use Rattle.booth.specs.BoothHeld.{first_number, demanding}
use Rattle.booth.proofs.Demand.{first_found}
use Rattle.booth.proofs.Booth.demanding.Goals as goal

-- the booth with this demand, first task and rest of it
abbrev to_play : Booth → List ℕ → Option ℕ → ℕ → Booth
to_play h all first left =
    record { number = h.number; tasks = h.tasks; demand = all; first = first; left = left; at = h.at; promise = h.promise; clock = h.clock; opens = h.opens; tick = h.tick; point = h.point }

pub returns-in-Some : goal.returns-in-Some
unfolding demanding
returns-in-Some c =
    let h = c.args.self in
    let all = c.args.all in
    let found = c.first_task-self in
    let is = first_found all found.result (omega (arith, c.requires)) found.ensures.number found.ensures.within in
    ap (λ first. to_play h all first (get_or all c.in-Some.k 0)) c.in-Some.is
    ∙ ap (λ first. to_play h all first (get_or all (first_number first) 0)) (sym c.in-Some.is ∙ is)

pub returns-in-None : goal.returns-in-None
unfolding demanding
returns-in-None c =
    let h = c.args.self in
    let all = c.args.all in
    let found = c.first_task-self in
    let is = first_found all found.result (omega (arith, c.requires)) found.ensures.number found.ensures.within in
    ap (λ first. to_play h all first 0) c.in-None.is
    ∙ ap (to_play h all None) (sym (get_or-eq_default all 0 (omega (arith, c.requires))))
    ∙ ap (λ first. to_play h all first (get_or all (first_number first) 0)) (sym c.in-None.is ∙ is)
