-- `rules::opens_at` meets its contract. Assumes nothing.
use mathlib.Core.Path.{ap}
use Prim.Native.Nat.{◌%◌}
use Rattle.rules.specs.Opens.{opens_at}
use Rattle.rules.proofs.opens_at.Goals as goal

pub returns : goal.returns
unfolding opens_at
returns c =
    ap (λ n. record { from = record { 0 = n }; into = c.args.u.0 % c.args.promise.allowance }) c.playable_from-from.ensures
