-- Demand by task in an array, and the first task that has some. Assumes nothing.
use mathlib.Core.Path.{◌≡◌, refl, sym, ap, ◌∙◌}
use mathlib.Core.Logic.{◌⊎◌, inl, inr, ⊎_elim}
use mathlib.Core.Bool.{Bool, true, false, not, true≢false}
use mathlib.Core.List.{List, [], ◌∷◌}
use Prim.Native.Nat.{ℕ, zero, suc, ◌+◌, ◌-◌, ◌≤◌, ◌<◌}
use native.Mathlib.Decide.{ℕ_discrete, dec_le}
use native.Mathlib.Nat.{not-suc-le-zero, le_of_suc-le-suc}
use native.Mathlib.Omega.{arith}
use lib.ListN.{length, get_or, take, set, length-set, length-take}
use lib.Seq.{get_or-set_same, get_or-set_other, get_or-take, take-set-lt, set-get_or, set-set}
use Rattle.rules.specs.Moves.{nobody, no_demand, first_task, add_demand, lose_one}
use Rattle.booth.specs.declared.Booth.{Booth as HeldBooth}
use Rattle.std.specs.Prelude.{Option, Some, None, IfSome, is_some, is_none}
use Rattle.booth.specs.BoothHeld.{first_number, first_with, OneOfEight, owed, demanding, clock_at, played_on}
use Rattle.rules.proofs.FirstDemand.{First, first_here, no_demand_lem, none_first, found_first, is_first}
use Rattle.laws.proofs.Tasks.{no_demand_zero}

-- either no task has demand, or one is the first that has
pub demand_or_none : (ds : List ℕ) → ((no_demand ds ≡ true) × (first_task 0 ds ≡ nobody)) ⊎ ((no_demand ds ≡ false) × First ds (first_task 0 ds))
demand_or_none ds = go (no_demand ds) refl
  where
    go : (c : Bool) → no_demand ds ≡ c → ((no_demand ds ≡ true) × (first_task 0 ds ≡ nobody)) ⊎ ((no_demand ds ≡ false) × First ds (first_task 0 ds))
    go true q = inl (q, none_first ds q)
    go false q = inr (q, found_first ds q)

-- the first task, or none where none has demand
pub with_none : (ds : List ℕ) → no_demand ds ≡ true → first_with ds ≡ None
unfolding first_with
with_none ds q = rw (q, first_with)

pub with_some : (ds : List ℕ) → no_demand ds ≡ false → first_with ds ≡ Some (first_task 0 ds)
unfolding first_with
with_some ds q = rw (q, first_with)

pub with_first : (ds : List ℕ) (k : ℕ) → First ds k → first_with ds ≡ Some k
with_first ds k f = let here = first_here ds k f in with_some ds here.0 ∙ ap Some here.1

pub with_is_none : (ds : List ℕ) → is_none (first_with ds) ≡ no_demand ds
with_is_none ds = go (no_demand ds) refl
  where
    go : (c : Bool) → no_demand ds ≡ c → is_none (first_with ds) ≡ no_demand ds
    go true q = ap is_none (with_none ds q) ∙ sym q
    go false q = ap is_none (with_some ds q) ∙ sym q

-- as the code finds it: its number is the page's, and it is one of the tasks
pub first_found : (ds : List ℕ) (first : Option ℕ) → length ds ≤ nobody → first_number first ≡ first_task 0 ds → IfSome first (λ k. k < length ds) → first ≡ first_with ds
first_found ds None short same within = ⊎_elim (λ w. sym (with_none ds w.0)) (λ w. absurd (omega (arith, w.1.there))) (demand_or_none ds)
first_found ds (Some k) short same within = ⊎_elim (λ w. absurd (omega (arith, w.1))) (λ w. ap Some same ∙ sym (with_some ds w.0)) (demand_or_none ds)

-- what `is_none` tells
pub none_told : (first : Option ℕ) (told b : Bool) → is_some first ≡ not told → told ≡ b → is_none first ≡ b
none_told first true b e q = ap not e ∙ q
none_told first false b e q = ap not e ∙ q

pub is_nothing : (first : Option ℕ) → is_none first ≡ true → first ≡ None
is_nothing None q = refl
is_nothing (Some k) q = absurd (true≢false (sym q))

pub is_number : (first : Option ℕ) → is_none first ≡ false → first ≡ Some (first_number first)
is_number None q = absurd (true≢false q)
is_number (Some k) q = refl

-- ---- one task's demand changes

-- the first task, or one behind it, has some: the first stays the first
pub first_same : (ds : List ℕ) (f k x : ℕ) → First ds f → k < length ds → 0 < x → f ≤ k → First (set ds k x) f
first_same ds f k x first there some h = is_first (set ds k x) f (at_first (ℕ_discrete f k)) (λ j l. get_or-set_other ds k j x 0 (λ e. absurd (omega arith)) ∙ first.before j l)
  where
    at_first : Dec (f ≡ k) → 0 < get_or (set ds k x) f 0
    at_first (yes e) = rw (e, get_or-set_same ds k x 0 there) some
    at_first (no ne) = rw (get_or-set_other ds k f x 0 ne) first.some

pub add_set : (k d : ℕ) (ds : List ℕ) → k < length ds → add_demand k d ds ≡ set ds k (get_or ds k 0 + d)
unfolding add_demand
add_set k d [] h = absurd (not-suc-le-zero h)
add_set zero d (x ∷ ds) h = refl
add_set (suc k) d (x ∷ ds) h = ap (λ (r : List ℕ). x ∷ r) (add_set k d ds (le_of_suc-le-suc h))

pub lose_set : (ds : List ℕ) (k : ℕ) → First ds k → lose_one ds ≡ set ds k (get_or ds k 0 - 1)
unfolding lose_one
lose_set [] k f = absurd (not-suc-le-zero f.there)
lose_set (zero ∷ ds) zero f = absurd (omega (arith, f.some))
lose_set (zero ∷ ds) (suc k) f =
    ap (λ (r : List ℕ). 0 ∷ r)
    (lose_set ds k (record { there = le_of_suc-le-suc f.there; some = f.some; before = λ j h. f.before (suc j) (omega arith) }))
lose_set (suc d ∷ ds) zero f = ap (λ (x : ℕ). x ∷ ds) (omega arith)
lose_set (suc d ∷ ds) (suc k) f = absurd (omega (arith, f.before 0 (omega arith)))

-- ---- an array whose tasks from n on have none, and its first n tasks

module _ (n : ℕ) (ds : List ℕ) (zeros : (k : ℕ) → n ≤ k → get_or ds k 0 ≡ 0) where
  inside : (k : ℕ) → 0 < get_or ds k 0 → k < n
  inside k some = go (dec_le n k)
    where
      go : Dec (n ≤ k) → k < n
      go (yes h) = absurd (omega (arith, zeros k h))
      go (no h) = omega arith

  pub first_taken : (k : ℕ) → First ds k → First (take n ds) k
  first_taken k f =
      let h : k < n = inside k f.some in
      is_first (take n ds) k (rw (get_or-take n ds k 0 h) f.some) (λ j l. get_or-take n ds j 0 (omega arith) ∙ f.before j l)

  pub none_taken : no_demand (take n ds) ≡ no_demand ds
  none_taken =
      ⊎_elim (λ w. no_demand_lem (take n ds) (λ j l. get_or-take n ds j 0 (omega (arith, length-take n ds)) ∙ no_demand_zero ds w.0 j) ∙ sym w.0)
      (λ w. (first_here (take n ds) (first_task 0 ds) (first_taken (first_task 0 ds) w.1)).0 ∙ sym w.0) (demand_or_none ds)

  pub lose_taken : (k : ℕ) → First ds k → lose_one (take n ds) ≡ take n (set ds k (get_or ds k 0 - 1))
  lose_taken k f =
      let h : k < n = inside k f.some in
      lose_set (take n ds) k (first_taken k f) ∙ ap (λ x. set (take n ds) k (x - 1)) (get_or-take n ds k 0 h) ∙ sym (take-set-lt n ds k (get_or ds k 0 - 1) h)

pub add_taken : (n k d : ℕ) (ds : List ℕ) → k < n → k < length ds → add_demand k d (take n ds) ≡ take n (set ds k (get_or ds k 0 + d))
add_taken n k d ds h there =
    add_set k d (take n ds) (omega (arith, length-take n ds))
    ∙ ap (λ x. set (take n ds) k (x + d)) (get_or-take n ds k 0 h)
    ∙ sym (take-set-lt n ds k (get_or ds k 0 + d) h)

-- ---- the first task's demand apart

pub owed_eight : (h : HeldBooth) → length (owed h) ≡ length h.demand
unfolding owed
owed_eight h = length-set h.demand (first_number h.first) h.left

-- what the first task has left
pub owed_first : (h : HeldBooth) → (first_number h.first) < length h.demand → get_or (owed h) (first_number h.first) 0 ≡ h.left
unfolding owed
owed_first h there = get_or-set_same h.demand (first_number h.first) h.left 0 there

pub owed_demanding : (h : HeldBooth) (ds : List ℕ) → owed (demanding h ds) ≡ ds
unfolding owed demanding
owed_demanding h ds = set-get_or ds (first_number (first_with ds)) 0

pub owed_played : (h : HeldBooth) → (first_number h.first) < length h.demand → owed (played_on h) ≡ set (owed h) (first_number h.first) (get_or (owed h) (first_number h.first) 0 - 1)
unfolding owed played_on
owed_played h there =
    ap (λ x. set h.demand (first_number h.first) (x - 1)) (sym (get_or-set_same h.demand (first_number h.first) h.left 0 there))
    ∙ sym (set-set h.demand (first_number h.first) h.left (get_or (set h.demand (first_number h.first) h.left) (first_number h.first) 0 - 1))

-- no move of the clock and no tick played changes which task is first
pub eight_moved : (h : HeldBooth) (u : ℕ) → OneOfEight h → OneOfEight (clock_at h u)
unfolding clock_at
eight_moved h u o = record { eight = o.eight; first = o.first }

pub eight_played : (h : HeldBooth) → OneOfEight h → OneOfEight (played_on h)
unfolding played_on
eight_played h o = record { eight = o.eight; first = o.first }
