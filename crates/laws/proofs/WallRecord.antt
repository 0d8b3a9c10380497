-- The wall record: a byte for each tick, each a booth's number or 255; worked and idle ticks are all of them. Assumes nothing.
use mathlib.Core.Path.{◌≡◌, refl, sym, ap, ◌∙◌, subst}
use mathlib.Core.Logic.{◌⊎◌, inl, inr}
use mathlib.Core.List.{List, [], ◌∷◌, ◌++◌}
use Prim.Native.Nat.{ℕ, zero, suc, ◌+◌, ◌≤◌, ◌<◌}
use native.Mathlib.Nat.{not-suc-le-zero, le_of_suc-le-suc}
use native.Mathlib.Decide.{ℕ_discrete}
use native.Mathlib.Omega.{arith}
use lib.ListN.{length, get_or, length-append}
use Rattle.rules.specs.BoothTable.{Line}
use Rattle.rules.specs.ArrivalLog.{Entry}
use Rattle.rules.specs.Moves.{nobody}
use Rattle.rules.specs.Session.{count, worked_from, settled_at}
use Rattle.laws.specs.Statements.{total}
use Rattle.laws.proofs.Turns.{worker_range}
use Rattle.laws.proofs.Run.{wall_at, wall_start, wall_step, length_booths}
use Rattle.rules.proofs.Counting.{count_same, count_other, count_nil}

-- every byte is one of n booths' numbers or 255
abbrev pub InRange : ℕ → List ℕ → Type 0
InRange n [] = Unit {0}
InRange n (x ∷ xs) = ((x < n) ⊎ (x ≡ nobody)) × InRange n xs

in_range_append : (n : ℕ) (xs ys : List ℕ) → InRange n xs → InRange n ys → InRange n (xs ++ ys)
in_range_append n [] ys r s = s
in_range_append n (x ∷ xs) ys r s = (r.0, in_range_append n xs ys r.1 s)

pub in_range_at : (n : ℕ) (xs : List ℕ) → InRange n xs → (i : ℕ) → i < length xs → (get_or xs i 0 < n) ⊎ (get_or xs i 0 ≡ nobody)
in_range_at n [] r i h = absurd (not-suc-le-zero h)
in_range_at n (x ∷ xs) r zero h = r.0
in_range_at n (x ∷ xs) r (suc i) h = in_range_at n xs r.1 i (le_of_suc-le-suc h)

-- ---- worked ticks of n booths from k, with one byte more

total_nil : (k n : ℕ) → total (worked_from k n []) ≡ 0
unfolding worked_from total
total_nil k zero = refl
total_nil k (suc n) = omega (arith, total_nil (suc k) n, count_nil k)

total_out : (k n x : ℕ) (xs : List ℕ) → (x < k) ⊎ (k + n ≤ x) → total (worked_from k n (x ∷ xs)) ≡ total (worked_from k n xs)
unfolding worked_from total
total_out k zero x xs h = refl
total_out k (suc n) x xs (inl h) = omega (arith, count_other k x xs (omega arith), total_out (suc k) n x xs (inl (omega arith)))
total_out k (suc n) x xs (inr h) = omega (arith, count_other k x xs (omega arith), total_out (suc k) n x xs (inr (omega arith)))

total_in : (k n x : ℕ) (xs : List ℕ) → k ≤ x → x < k + n → total (worked_from k n (x ∷ xs)) ≡ suc (total (worked_from k n xs))
unfolding worked_from total
total_in k zero x xs h i = absurd (omega arith)
total_in k (suc n) x xs h i = go (ℕ_discrete x k) (λ a. total_in (suc k) n x xs a (omega arith))
  where
    go : Dec (x ≡ k) → (suc k ≤ x → total (worked_from (suc k) n (x ∷ xs)) ≡ suc (total (worked_from (suc k) n xs)))
        → total (worked_from k (suc n) (x ∷ xs)) ≡ suc (total (worked_from k (suc n) xs))
    go (yes e) ih = omega (arith, count_same k x xs e, total_out (suc k) n x xs (inl (omega arith)))
    go (no e) ih = omega (arith, count_other k x xs e, ih (omega arith))

-- worked and idle ticks are all the bytes
pub all_counted : (n : ℕ) (xs : List ℕ) → n ≤ nobody → InRange n xs → total (worked_from 0 n xs) + count nobody xs ≡ length xs
all_counted n [] h r = omega (arith, total_nil 0 n, count_nil nobody)
all_counted n (x ∷ xs) h r = go r.0 (all_counted n xs h r.1)
  where
    go : (x < n) ⊎ (x ≡ nobody) → total (worked_from 0 n xs) + count nobody xs ≡ length xs → total (worked_from 0 n (x ∷ xs)) + count nobody (x ∷ xs) ≡ suc (length xs)
    go (inl l) ih = omega (arith, total_in 0 n x xs (omega arith) (omega arith), count_other nobody x xs (omega arith))
    go (inr e) ih = omega (arith, total_out 0 n x xs (inr (omega arith)), count_same nobody x xs e)

pub worked_at : (k n : ℕ) (wall : List ℕ) (i : ℕ) → i < n → get_or (worked_from k n wall) i 0 ≡ count (k + i) wall
unfolding worked_from
worked_at k zero wall i h = absurd (not-suc-le-zero h)
worked_at k (suc n) wall zero h = ap (λ x. count x wall) (omega arith)
worked_at k (suc n) wall (suc i) h = worked_at (suc k) n wall i (le_of_suc-le-suc h) ∙ ap (λ x. count x wall) (omega arith)

pub length_worked : (k n : ℕ) (wall : List ℕ) → length (worked_from k n wall) ≡ n
unfolding worked_from
length_worked k zero wall = refl
length_worked k (suc n) wall = ap suc (length_worked (suc k) n wall)

-- ---- the run's record

module _ (ls : List Line) (es : List Entry) where
  pub length_wall : (t : ℕ) → length (settled_at t ls es).wall ≡ t
  length_wall zero = ap length (wall_start ls es)
  length_wall (suc t) = ap length (wall_step ls es t) ∙ length-append (settled_at t ls es).wall (wall_at ls es t ∷ []) ∙ omega (arith, length_wall t)

  pub wall_in_range : (t : ℕ) → InRange (length ls) (settled_at t ls es).wall
  wall_in_range zero = subst (InRange (length ls)) (sym (wall_start ls es)) tt
  wall_in_range (suc t) =
      subst (InRange (length ls)) (sym (wall_step ls es t))
      (in_range_append (length ls) (settled_at t ls es).wall (wall_at ls es t ∷ []) (wall_in_range t) (go (worker_range t 0 (settled_at t ls es).booths), tt))
    where
      go : (wall_at ls es t < 0 + length (settled_at t ls es).booths) ⊎ (wall_at ls es t ≡ nobody) → (wall_at ls es t < length ls) ⊎ (wall_at ls es t ≡ nobody)
      go (inl h) = inl (omega (arith, length_booths ls es t))
      go (inr h) = inr h
