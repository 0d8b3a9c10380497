-- `rules::check_head_of` meets its contract: a width that is not two is four. Assumes nothing.
use Rattle.std.proofs.Common.{◌≡◌, sym, ap, ◌∙◌, ℕ}
use mathlib.Core.Logic.{◌⊎◌, inl, inr}
use Rattle.base.specs.Refusals.{first_fault}
use Rattle.rules.specs.FileHead.{head_checks}
use Rattle.rules.proofs.check_head_of.Goals as goal

-- the other of the two widths
four : (width : ℕ) → (width ≡ 2) ⊎ (width ≡ 4) → (width ≡ 2 → ⊥) → width ≡ 4
four width (inl e) other = absurd (other e)
four width (inr e) other = e

pub returns-then-width-eq2 : goal.returns-then-width-eq2
returns-then-width-eq2 c = c.check_head.ensures ∙ ap (λ w. first_fault (head_checks w c.args.bytes.now)) (sym c.if-width-eq2.true)

pub returns : goal.returns
returns c = c.check_head-2.ensures ∙ ap (λ w. first_fault (head_checks w c.args.bytes.now)) (sym (four c.args.width c.requires c.if-width-eq2.false))
