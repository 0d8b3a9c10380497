-- What the bytes of a solo part, and so of a row, can be. Assumes nothing.
use mathlib.Core.Path.{◌≡◌, refl, sym, ap, ◌∙◌, subst}
use mathlib.Core.Logic.{◌⊎◌, inl, inr, ⊎_elim}
use mathlib.Core.Bool.{Bool, true, false}
use mathlib.Core.List.{List, [], ◌∷◌, ◌++◌}
use Prim.Native.Nat.{ℕ, zero, suc, ◌<◌}
use native.Mathlib.Omega.{arith}
use lib.Dec.{ltb}
use lib.ListN.{length, get_or, get_or-append}
use lib.Seq.{get_or-append_seam}
use borrow.Author.Tests.{ltb-true, ltb-false}
use Rattle.rules.specs.BoothTable.{Line}
use Rattle.rules.specs.ArrivalLog.{Entry}
use Rattle.rules.specs.Moves.{nobody}
use Rattle.rules.specs.Session.{count}
use Rattle.rules.specs.SoloPart.{asked, first_that, solo}
use Rattle.rules.proofs.FirstThat.{found}
use Rattle.laws.proofs.Opening.{length_solo}

pub solo_bytes : (l : Line) (es : List Entry) (n j : ℕ) → j < n → (get_or (solo l es n) j 0 < length l.longest) ⊎ (get_or (solo l es n) j 0 ≡ nobody)
unfolding solo
solo_bytes l es zero j h = absurd (omega (arith, h))
solo_bytes l es (suc n) j h = go (λ k. solo_bytes l es n j k) (ltb j n) refl
  where
    InRow : ℕ → Type 0
    InRow x = (x < length l.longest) ⊎ (x ≡ nobody)

    test : ℕ → Bool
    test k = ltb (count k (solo l es n)) (asked l es n k)

    next : ℕ
    next = first_that test (length l.longest) 0

    go : (j < n → InRow (get_or (solo l es n) j 0)) → (b : Bool) → ltb j n ≡ b → InRow (get_or (solo l es n ++ (next ∷ [])) j 0)
    go before true e =
        let early = ltb-true j n e in
        subst InRow (sym (get_or-append (solo l es n) (next ∷ []) 0 j (omega (arith, early, length_solo l es n)))) (before early)
    go before false e =
        let last : j ≡ length (solo l es n) = omega (arith, h, ltb-false j n e, length_solo l es n) in
        subst InRow (sym (ap (λ k. get_or (solo l es n ++ (next ∷ [])) k 0) last ∙ get_or-append_seam (solo l es n) next [] 0))
        (⊎_elim (λ z. inr z) (λ z. inl (omega (arith, z.0))) (found test (length l.longest) 0))
