-- The first task with demand, and that there is none. Assumes nothing.
use mathlib.Core.Path.{◌≡◌, refl, sym, ap, ◌∙◌, subst}
use mathlib.Core.Bool.{Bool, true, false, true≢false}
use mathlib.Core.List.{List, [], ◌∷◌}
use Prim.Native.Nat.{ℕ, zero, suc, ◌+◌, ◌≤◌, suc-le-suc, ◌<◌}
use native.Mathlib.Decide.{dec_le}
use native.Mathlib.Nat.{not-suc-le-zero, le_of_suc-le-suc, add-zero, add-suc, suc-add, zero-add}
use native.Mathlib.Omega.{arith}
use lib.Dec.{ltb}
use lib.ListN.{length, get_or, get_or-eq_default}
use borrow.Author.Tests.{lt-ltb}
use Rattle.std.proofs.Common.{unwrap_or, nat_lt, position}
use Rattle.std.specs.List.{position_from}
use Rattle.std.proofs.lemmas.Iterator.Adapters.{position_from-zero}
use Rattle.rules.specs.Moves.{nobody, no_demand, first_task}
use Rattle.rules.specs.SoloPart.{first_that}
use Rattle.rules.proofs.FirstThat.{hit, miss}

-- task k is the first with demand
pub record First (ds : List ℕ) (k : ℕ) : Type 0 where
  pub there : k < length ds
  pub some : 0 < get_or ds k 0
  pub before : (j : ℕ) → j < k → get_or ds j 0 ≡ 0

first_from : (i : ℕ) (ds : List ℕ) (k : ℕ) → First ds k → (no_demand ds ≡ false) × (first_task i ds ≡ i + k)
unfolding no_demand first_task
first_from i [] k f = absurd (not-suc-le-zero f.there)
first_from i (zero ∷ ds) zero f = absurd (omega (arith, f.some))
first_from i (zero ∷ ds) (suc k) f =
    let r = first_from (suc i) ds k (record { there = le_of_suc-le-suc f.there; some = f.some; before = λ j h. f.before (suc j) (omega arith) }) in
    (r.0, omega (arith, r.1))
first_from i (suc d ∷ ds) zero f = (refl, omega arith)
first_from i (suc d ∷ ds) (suc k) f = absurd (omega (arith, f.before 0 (omega arith)))

pub first_here : (ds : List ℕ) (k : ℕ) → First ds k → (no_demand ds ≡ false) × (first_task 0 ds ≡ k)
first_here ds k f = let r = first_from 0 ds k f in (r.0, r.1 ∙ zero-add k)

pub no_demand_lem : (ds : List ℕ) → ((j : ℕ) → j < length ds → get_or ds j 0 ≡ 0) → no_demand ds ≡ true
unfolding no_demand
no_demand_lem [] h = refl
no_demand_lem (zero ∷ ds) h = no_demand_lem ds (λ j k. h (suc j) (omega arith))
no_demand_lem (suc d ∷ ds) h = absurd (omega (arith, h 0 (omega arith)))

none_from : (i : ℕ) (ds : List ℕ) → no_demand ds ≡ true → first_task i ds ≡ nobody
unfolding no_demand first_task
none_from i [] e = refl
none_from i (zero ∷ ds) e = none_from (suc i) ds e
none_from i (suc d ∷ ds) e = absurd (true≢false (sym e))

pub none_first : (ds : List ℕ) → no_demand ds ≡ true → first_task 0 ds ≡ nobody
none_first ds e = none_from 0 ds e

-- and back: what having demand, and having none, says
first_cons : (ds : List ℕ) (k : ℕ) → First ds k → First (0 ∷ ds) (suc k)
first_cons ds k f = record { there = suc-le-suc f.there; some = f.some; before = go }
  where
    go : (j : ℕ) → j < suc k → get_or (0 ∷ ds) j 0 ≡ 0
    go zero h = refl
    go (suc j) h = f.before j (le_of_suc-le-suc h)

found_from : (i : ℕ) (ds : List ℕ) → no_demand ds ≡ false → (k : ℕ) × ((i + k ≡ first_task i ds) × First ds k)
unfolding no_demand first_task
found_from i [] e = absurd (true≢false e)
found_from i (zero ∷ ds) e =
    let r = found_from (suc i) ds e in
    (suc r.0, (omega (arith, r.1.0), first_cons ds r.0 r.1.1))
found_from i (suc d ∷ ds) e = (0, (add-zero i, record { there = omega arith; some = omega arith; before = λ j h. absurd (not-suc-le-zero h) }))

pub found_first : (ds : List ℕ) → no_demand ds ≡ false → First ds (first_task 0 ds)
found_first ds e = let r = found_from 0 ds e in subst (First ds) (sym (zero-add r.0) ∙ r.1.0) r.1.1

-- a task with demand before which there is none is the first
pub is_first : (ds : List ℕ) (k : ℕ) → 0 < get_or ds k 0 → ((j : ℕ) → j < k → get_or ds j 0 ≡ 0) → First ds k
is_first ds k some before = record { there = there (dec_le (length ds) k); some = some; before = before }
  where
    there : Dec (length ds ≤ k) → k < length ds
    there (yes h) = absurd (omega (arith, get_or-eq_default ds 0 {n = k} h))
    there (no h) = omega arith

-- with no demand from task m on, the first task with demand is the first of m tasks that passes the test for it
that_from : (test : ℕ → Bool) (m i : ℕ) (ds : List ℕ) → ((k : ℕ) → test (i + k) ≡ ltb 0 (get_or ds k 0)) → ((k : ℕ) → m ≤ k → get_or ds k 0 ≡ 0) → first_task i ds ≡ first_that test m i
unfolding first_task first_that
that_from test zero i ds t z = none_from i ds (no_demand_lem ds (λ j h. z j (omega arith)))
that_from test (suc m) i [] t z =
    that_from test m (suc i) [] (λ k. ap test (suc-add i k ∙ sym (add-suc i k)) ∙ t (suc k)) (λ k h. refl)
    ∙ sym (miss test m i (ap test (sym (add-zero i)) ∙ t 0))
that_from test (suc m) i (zero ∷ ds) t z =
    that_from test m (suc i) ds (λ k. ap test (suc-add i k ∙ sym (add-suc i k)) ∙ t (suc k)) (λ k h. z (suc k) (suc-le-suc h))
    ∙ sym (miss test m i (ap test (sym (add-zero i)) ∙ t 0))
that_from test (suc m) i (suc d ∷ ds) t z = sym (hit test m i (ap test (sym (add-zero i)) ∙ t 0 ∙ lt-ltb 0 (suc d) (omega arith)))

pub first_that_lem : (m : ℕ) (ds : List ℕ) → ((k : ℕ) → m ≤ k → get_or ds k 0 ≡ 0) → first_task 0 ds ≡ first_that (λ k. ltb 0 (get_or ds k 0)) m 0
first_that_lem m ds z = that_from (λ k. ltb 0 (get_or ds k 0)) m 0 ds (λ k. ap (λ j. ltb 0 (get_or ds j 0)) (zero-add k)) z

-- the first place with demand, as the library finds it
place_from : (i : ℕ) (ds : List ℕ) → unwrap_or (position_from (λ d. nat_lt 0 d) i ds) nobody ≡ first_task i ds
unfolding first_task
place_from i [] = refl
place_from i (zero ∷ ds) = place_from (i + 1) ds ∙ ap (λ k. first_task k ds) (omega arith)
place_from i (suc d ∷ ds) = rw (lt-ltb 0 (suc d) (omega arith))

pub place_of_first : (ds : List ℕ) → unwrap_or (position (λ d. nat_lt 0 d) ds) nobody ≡ first_task 0 ds
place_of_first ds = ap (λ o. unwrap_or o nobody) (position_from-zero (λ d. nat_lt 0 d) ds) ∙ place_from 0 ds
