-- What lanes counted together, as one lane after the other counts on. Assumes nothing.
use mathlib.Core.Path.{◌≡◌, refl, sym, ap, ◌∙◌}
use mathlib.Core.Bool.{Bool, true, false, cond}
use mathlib.Core.List.{List, []}
use Prim.Native.Nat.{ℕ, zero, suc, ◌+◌, ◌*◌, ◌≤◌, ◌<◌}
use native.Mathlib.Omega.{arith}
use mir.Val.{bool_byte}
use lib.Dec.{eqb}
use lib.ListN.{length, take, drop, set, get_or, replicate, length-set, take-append-drop}
use lib.Seq.{take-add, get_or-set_other}
use Rattle.std.specs.List.{sum}
use Rattle.std.specs.Simd.{first_chunks}
use Rattle.std.proofs.lemmas.List.{drop-drop}
use Rattle.std.proofs.lemmas.List.Sums.{sum_by-set}
use Rattle.std.proofs.lemmas.List.Folds.{sum_by-replicate}
use Rattle.rules.specs.Session.{count}
use Rattle.panel.specs.Lanes.{OneMore}
use Rattle.rules.proofs.Counting.{count_nil, count_append}
use Rattle.rules.proofs.Held.{at_set}
use Rattle.panel.proofs.Cases.{count_more}

-- a test as a number
hit_or_not : (b : Bool) → bool_byte b ≡ cond b 1 0
hit_or_not true = refl
hit_or_not false = refl

one_at_most : (b : Bool) {hit : ℕ} → hit ≡ bool_byte b → hit ≤ 1
one_at_most true h = omega (arith, h)
one_at_most false h = omega (arith, h)

-- the first i bytes of the block are counted, each in its lane; the lanes behind them are as they were
pub record Counted (k : ℕ) (before block : List ℕ) (i : ℕ) (lanes : List ℕ) : Type 0 where
  pub together : sum lanes ≡ sum before + count k (take i block)
  pub each : OneMore before lanes
  pub behind : (j : ℕ) → i ≤ j → get_or lanes j 0 ≡ get_or before j 0

module _ (k : ℕ) (before block : List ℕ) where
  pub none_counted : Counted k before block 0 before
  none_counted = record { together = omega (arith, count_nil k); each = (refl, λ i. omega arith); behind = λ j h. refl }

  -- the next lane counts on, by 1 where the booth stands there
  pub lane_counts : {i : ℕ} {lanes : List ℕ} → Counted k before block i lanes → i < length before → i < length block → (v hit : ℕ) → v ≡ get_or lanes i 0 + hit
      → hit ≡ bool_byte (eqb (get_or block i 0) k) → Counted k before block (i + 1) (set lanes i v)
  lane_counts {i} {lanes} d room more v hit is counts =
      record {
        together = omega (arith, sum_by-set (λ x. x) lanes i v 0 here, d.together, is, hits, count_more k block i more);
        each = (length-set lanes i v ∙ d.each.0, λ j. at_set lanes i j v 0 (λ x. x ≤ get_or before j 0 + 1) here (mine j) (λ q. d.each.1 j));
        behind = λ j h. get_or-set_other lanes i j v 0 (λ q. omega arith) ∙ d.behind j (omega arith);
      }
    where
      here : i < length lanes
      here = omega (arith, d.each.0)

      hits : hit ≡ cond (eqb (get_or block i 0) k) 1 0
      hits = counts ∙ hit_or_not (eqb (get_or block i 0) k)

      mine : (j : ℕ) → j ≡ i → v ≤ get_or before j 0 + 1
      mine j q = omega (arith, is, one_at_most _ counts, d.behind i (omega arith), ap (λ n. get_or before n 0) q)

-- the part's first n blocks are counted, no more of them in a lane than there are
pub record Counting (k : ℕ) (part : List ℕ) (n : ℕ) (lanes : List ℕ) : Type 0 where
  pub whole : length lanes ≡ 128
  pub each : (i : ℕ) → get_or lanes i 0 ≤ n
  pub together : sum lanes ≡ count k (take (n * 128) part)

-- block i of a part that is cut into blocks
block_at : (m i : ℕ) (part : List ℕ) → i < m → get_or (first_chunks 128 m part) i [] ≡ take 128 (drop (i * 128) part)
block_at zero i part h = absurd (omega (arith, h))
block_at (suc m) zero part h = refl
block_at (suc m) (suc i) part h = block_at m i (drop 128 part) (omega arith) ∙ ap (take 128) (drop-drop (i * 128) 128 part ∙ ap (λ n. drop n part) (omega arith))

pub block_is : (m : ℕ) (part : List ℕ) {blocks : List (List ℕ)} → blocks ≡ first_chunks 128 m part → (i : ℕ) → i < m → get_or blocks i [] ≡ take 128 (drop (i * 128) part)
block_is m part e i h = ap (λ bs. get_or bs i []) e ∙ block_at m i part h

module _ (k : ℕ) (part : List ℕ) where
  pub none_yet : Counting k part 0 (replicate 128 0)
  none_yet = record { whole = refl; each = λ i. omega (arith, zero_at 128 i); together = sum_by-replicate (λ x. x) 128 0 ∙ sym (count_nil k) }
    where
      zero_at : (n i : ℕ) → ◌≡◌ {A = ℕ} (get_or (replicate n 0) i 0) 0
      zero_at zero i = refl
      zero_at (suc n) zero = refl
      zero_at (suc n) (suc i) = zero_at n i

  module _ {n : ℕ} {lanes : List ℕ} (d : Counting k part n lanes) where
    pub next_block : (block : List ℕ) → block ≡ take 128 (drop (n * 128) part) → (after : List ℕ) → OneMore lanes after → sum after ≡ sum lanes + count k block
        → Counting k part (n + 1) after
    next_block block is after grown added =
        let split = ap (count k) (take-add (n * 128) 128 part) ∙ count_append k (take (n * 128) part) (take 128 (drop (n * 128) part)) in
        let end : n * 128 + 128 ≡ (n + 1) * 128 = omega arith in
        record {
          whole = grown.0 ∙ d.whole;
          each = λ i. omega (arith, grown.1 i, d.each i);
          together = omega (arith, added, ap (count k) is, d.together, split, ap (λ m. count k (take m part)) end);
        }

    pub part_counted : (rest : List ℕ) → rest ≡ drop (n * 128) part → (after : List ℕ) → sum after ≡ sum lanes + count k rest → sum after ≡ count k part
    part_counted rest is after added =
        omega (arith, added, ap (count k) is, d.together, count_append k (take (n * 128) part) (drop (n * 128) part), ap (count k) (take-append-drop (n * 128) part))
