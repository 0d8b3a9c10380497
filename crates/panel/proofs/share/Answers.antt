-- `panel::share` meets its contract; its exact case is the law of powers of two. Assumes nothing.
use Rattle.std.proofs.Common.{◌≡◌, sym, subst, arith}
use Rattle.std.specs.Float.{binary64}
use Rattle.std.specs.Float.Ieee.{div}
use Rattle.rules.specs.Panel.{share}
use Rattle.panel.specs.Exact.{ExactAtPowers}
use Rattle.panel.proofs.ExactShare.{share_exact}
use Rattle.panel.proofs.share.Goals as goal

pub returns : goal.returns
unfolding share
returns c =
    let a = c.args in
    let once : div binary64 c.from.result c.from-2.result ≡ share a.part a.whole = simp (c.from.ensures, c.from-2.ensures) in
    record { once = once; exact = subst (ExactAtPowers a.part a.whole) (sym once) (share_exact a.part a.whole (omega arith) (omega arith)) }
