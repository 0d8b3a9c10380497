-- A solo part is decided by what the booth is promised, how many tasks it has, and what its entries ask. Assumes nothing.
use mathlib.Core.Path.{◌≡◌, refl, sym, ap, ◌∙◌}
use mathlib.Core.Logic.{◌⊎◌, inl, inr}
use mathlib.Core.Bool.{Bool, true, false, ◌&&◌}
use mathlib.Core.List.{List, [], ◌∷◌}
use Prim.Native.Nat.{ℕ, zero, suc, ◌≤◌, ◌<◌}
use native.Mathlib.Nat.{eq-or-lt_of_le}
use native.Mathlib.Omega.{arith}
use lib.Dec.{leb, eqb}
use lib.ListN.{take}
use lib.Seq.{take-append-le, take_all}
use Rattle.rules.specs.BoothTable.{Line}
use Rattle.rules.specs.ArrivalLog.{Entry}
use Rattle.rules.specs.Due.{due, release_point}
use Rattle.rules.specs.SoloPart.{asked, solo}
use Rattle.laws.specs.Statements.{asks}
use Rattle.laws.proofs.Opening.{length_solo}

asked_alike : (l : Line) (es fs : List Entry) → asks es ≡ asks fs → (n k : ℕ) → asked l es n k ≡ asked l fs n k
unfolding asked release_point
asked_alike l [] [] h n k = refl
asked_alike l [] (f ∷ fs) h n k = absurd (let z : ◌≡◌ {A = ℕ} 0 1 = cc in omega arith)
asked_alike l (e ∷ es) [] h n k = absurd (let z : ◌≡◌ {A = ℕ} 0 1 = cc in omega arith)
asked_alike l (e ∷ es) (f ∷ fs) h n k = go (eqb e.task k && leb (release_point l e) n) refl (asked_alike l es fs (cc) n k)
  where
    first : ◌≡◌ {A = ℕ × ℕ × ℕ} (e.tick, e.task, e.demand) (f.tick, f.task, f.demand)
    first = cc

    test : (eqb f.task k && leb (release_point l f) n) ≡ (eqb e.task k && leb (release_point l e) n)
    test = ap (λ x. eqb x.1 k && leb (due l.promise x.0) n) (sym first)

    go : (c : Bool) → (eqb e.task k && leb (release_point l e) n) ≡ c → asked l es n k ≡ asked l fs n k → asked l (e ∷ es) n k ≡ asked l (f ∷ fs) n k
    go true q ih = rw (q, test ∙ q, asked) (omega (arith, ap (λ x. x.2) first))
    go false q ih = rw (q, test ∙ q, asked) ih

pub solo_alike : (l : Line) (es fs : List Entry) → asks es ≡ asks fs → (n : ℕ) → solo l es n ≡ solo l fs n
unfolding solo
solo_alike l es fs h zero = refl
solo_alike l es fs h (suc n) = rw (solo_alike l es fs h n) (simp (asked_alike l es fs h n))

-- the first m own ticks of n are the first m
pub take_solo : (l : Line) (es : List Entry) (m n : ℕ) → m ≤ n → take m (solo l es n) ≡ solo l es m
unfolding solo
take_solo l es m zero h =
    let e : 0 ≡ m = omega arith in
    take_all m [] (omega arith) ∙ ap (solo l es) e
take_solo l es m (suc n) h = go (eq-or-lt_of_le h) (λ k. take_solo l es m n k)
  where
    go : (m ≡ suc n) ⊎ (m < suc n) → (m ≤ n → take m (solo l es n) ≡ solo l es m) → take m (solo l es (suc n)) ≡ solo l es m
    go (inl e) ih = take_all m (solo l es (suc n)) (omega (arith, length_solo l es (suc n))) ∙ ap (solo l es) (sym e)
    go (inr k) ih = take-append-le m (solo l es n) _ (omega (arith, length_solo l es n)) ∙ ih (omega arith)
