-- `booth::Booth::add` meets its contract. Assumes nothing.
use mathlib.Core.Path.{ap, ◌∙◌}
use Prim.Native.Nat.{◌+◌}
use native.Mathlib.Omega.{arith}
use lib.ListN.{length, get_or, set, length-set}
use Rattle.booth.specs.BoothHeld.{demanding}
use Rattle.booth.proofs.Demand.{owed_eight}
use Rattle.booth.proofs.Booth.add.Goals as goal

pub bounds-all-k : goal.bounds-all-k
bounds-all-k c = omega (arith, c.requires)

pub overflow_add-all : goal.overflow_add-all
overflow_add-all c = omega (arith, ap (λ ds. get_or ds c.args.k 0) c.owed-all.ensures, c.requires)

pub bounds-all-k-2 : goal.bounds-all-k-2
bounds-all-k-2 c = omega (arith, c.requires)

pub demanding-requires : goal.demanding-requires
demanding-requires c =
    let ds = c.owed-all.result in
    length-set ds c.args.k (get_or ds c.args.k 0 + c.args.d) ∙ ap length c.owed-all.ensures ∙ owed_eight c.args.self ∙ c.requires.1.eight

pub returns : goal.returns
returns c =
    c.demanding.ensures ∙ ap (λ ds. demanding c.args.self (set ds c.args.k (get_or ds c.args.k 0 + c.args.d))) c.owed-all.ensures
