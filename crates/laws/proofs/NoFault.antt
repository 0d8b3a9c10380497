-- Checks made in order: what it says of each of them that none fails. Assumes nothing.
use mathlib.Core.Path.{◌≡◌, refl}
use mathlib.Core.Bool.{Bool, true, false}
use mathlib.Core.List.{List, [], ◌∷◌}
use mathlib.Core.Option.{none, some}
use Prim.Native.Nat.{ℕ}
use native.Mathlib.Omega.{arith}
use Rattle.base.specs.Refusals.{Refusal, Taken, taken, refused, Check, first_fault}

pub taken_or_refused : {A : Type 0} (a : A) (r : Refusal) → refused r ≡ taken a → ⊥
taken_or_refused a r e = let z : ◌≡◌ {A = ℕ} 0 1 = cc in omega arith

pub taken_once : {A : Type 0} (a b : A) → taken a ≡ taken b → a ≡ b
taken_once a b e = cc

pub refused_once : {A : Type 0} (r s : Refusal) → ◌≡◌ {A = Taken A} (refused r) (refused s) → r ≡ s
refused_once r s e = cc

pub some_not_none : {A : Type 0} (a : A) → some a ≡ none → ⊥
some_not_none a e = let z : ◌≡◌ {A = ℕ} 0 1 = cc in omega arith

pub some_once : {A : Type 0} (a b : A) → some a ≡ some b → a ≡ b
some_once a b e = cc

-- none of the checks fails
abbrev pub AllPass : List Check → Type 0
AllPass [] = Unit {0}
AllPass (c ∷ cs) = (c.fails ≡ false) × AllPass cs

pub no_fault : (cs : List Check) → first_fault cs ≡ none → AllPass cs
unfolding first_fault
no_fault [] h = tt
no_fault (c ∷ cs) h = go c.fails refl (λ e. no_fault cs e)
  where
    go : (f : Bool) → c.fails ≡ f → (first_fault cs ≡ none → AllPass cs) → (c.fails ≡ false) × AllPass cs
    go true q ih = absurd (some_not_none _ (rw (q, first_fault) at h))
    go false q ih = (q, ih (rw (q, first_fault) at h))
