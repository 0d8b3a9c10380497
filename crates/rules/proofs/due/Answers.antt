-- `rules::due` meets its contract: B is at most T, so what is due is at most t, and nothing on the way is too large.
-- Assumes nothing.
use Prim.Native.Nat.{ℕ, ◌+◌, ◌*◌, ◌/◌, ◌%◌, ◌≤◌}
use native.Mathlib.Omega.{arith}
use native.Mathlib.Nat.{div-add-mod', mul-le-mul_left}
use borrow.Author.Rules.{rules}
use Rattle.rules.specs.Due
use Rattle.rules.proofs.due.Goals as goal

-- whole periods count their allowances, which are no more than their ticks
within : (T B t : ℕ) → B ≤ T → t / T * B + t % T ≤ t
within T B t h = omega (arith, mul-le-mul_left (t / T) h, div-add-mod' t T)

pub overflow_mul-result : goal.overflow_mul-result
overflow_mul-result c =
    omega (arith, within c.args.promise.period c.args.promise.allowance c.args.t.0 c.requires.within)

pub overflow_add-result : goal.overflow_add-result
overflow_add-result c =
    omega (arith, within c.args.promise.period c.args.promise.allowance c.args.t.0 c.requires.within)

pub returns : goal.returns
unfolding Due.due
returns c = search rules
