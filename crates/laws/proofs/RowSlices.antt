-- Rows of booths inside the lent own record: one row lengthened in its slice of H bytes is that booth's row written anew. Assumes nothing.
use mathlib.Core.Path.{◌≡◌, refl, sym, ap, ◌∙◌}
use mathlib.Core.Logic.{◌⊎◌, inl, inr}
use mathlib.Core.List.{List, [], ◌∷◌, ◌++◌, append_assoc}
use Prim.Native.Nat.{ℕ, zero, suc, ◌+◌, ◌-◌, ◌*◌, ◌≤◌, ◌<◌}
use native.Mathlib.Nat.{add-zero, zero-add, add-suc, suc-add, not-suc-le-zero, le_of_suc-le-suc, mul-le-mul_right}
use native.Mathlib.Decide.{dec_le}
use native.Mathlib.Omega.{arith}
use lib.ListN.{length, get_or, take, drop, set, length-take, length-drop, take-append-drop, get_or-append}
use lib.Seq.{get_or-append-add, length-take-le, drop-append-le, drop-drop, take-take, ext_get_or}
use Rattle.base.specs.Bytes.{written}
use Rattle.rules.specs.BoothTable.{Line}
use Rattle.rules.specs.ArrivalLog.{Entry}
use Rattle.rules.specs.Moves.{Booth}
use Rattle.rules.specs.Session.{fresh_booth, open_booths, write_rows}
use Rattle.laws.proofs.LentRows.{length_written, kept_outside, row_back_lem, length_rows}
use Rattle.laws.specs.Courses.{ShortRows}

-- ---- bytes written twice

-- a place lies outside what is written, or inside
abbrev Out : ℕ → ℕ → ℕ → Type 0
Out at n i = (i < at) ⊎ (at + n ≤ i)

abbrev In : ℕ → ℕ → ℕ → Type 0
In at n i = (at ≤ i) × (i < at + n)

side : (at n i : ℕ) → Out at n i ⊎ In at n i
side at n i = go (dec_le at i) (dec_le (at + n) i)
  where
    go : Dec (at ≤ i) → Dec (at + n ≤ i) → Out at n i ⊎ In at n i
    go (no a) b = inl (inl (omega arith))
    go (yes a) (yes b) = inl (inr b)
    go (yes a) (no b) = inr (a, omega arith)

-- inside stands what was written
written_inside : (at : ℕ) (bytes lent : List ℕ) (i : ℕ) → at ≤ length lent → In at (length bytes) i → get_or (written at bytes lent) i 0 ≡ get_or bytes (i - at) 0
unfolding written
written_inside at bytes lent i h k =
    let l : length (take at lent) ≡ at = length-take-le at lent h in
    let e : i ≡ length (take at lent) + (i - at) = omega arith in
    ap (λ x. get_or (take at lent ++ (bytes ++ drop (at + length bytes) lent)) x 0) e
    ∙ get_or-append-add (take at lent) (bytes ++ drop (at + length bytes) lent) (i - at) 0
    ∙ get_or-append bytes (drop (at + length bytes) lent) 0 (i - at) (omega arith)

-- what is written over something no longer leaves nothing of it
written_over : (at : ℕ) (new old lent : List ℕ) → at + length new ≤ length lent → length old ≤ length new → written at new (written at old lent) ≡ written at new lent
written_over at new old lent h k = ext_get_or 0 (written at new (written at old lent)) (written at new lent) lengths (λ i _. go i (side at (length new) i))
  where
    under : length (written at old lent) ≡ length lent
    under = length_written at old lent (omega arith)

    lengths : length (written at new (written at old lent)) ≡ length (written at new lent)
    lengths = length_written at new (written at old lent) (omega (arith, under)) ∙ under ∙ sym (length_written at new lent h)

    smaller : (i : ℕ) → Out at (length new) i → Out at (length old) i
    smaller i (inl o) = inl o
    smaller i (inr o) = inr (omega arith)

    go : (i : ℕ) → Out at (length new) i ⊎ In at (length new) i → get_or (written at new (written at old lent)) i 0 ≡ get_or (written at new lent) i 0
    go i (inl o) =
        kept_outside at new (written at old lent) i (omega (arith, under)) o
        ∙ kept_outside at old lent i (omega arith) (smaller i o)
        ∙ sym (kept_outside at new lent i h o)
    go i (inr n) = written_inside at new (written at old lent) i (omega (arith, under)) n ∙ sym (written_inside at new lent i (omega arith) n)

-- bytes written apart may be written in either order
written_apart : (at place : ℕ) (xs ys lent : List ℕ) → at + length xs ≤ place → place + length ys ≤ length lent
    → written at xs (written place ys lent) ≡ written place ys (written at xs lent)
written_apart at place xs ys lent h k =
    ext_get_or 0 (written at xs (written place ys lent)) (written place ys (written at xs lent)) (one ∙ sym other) (λ i _. go i (side at (length xs) i) (side place (length ys) i))
  where
    first : length (written at xs lent) ≡ length lent
    first = length_written at xs lent (omega arith)

    second : length (written place ys lent) ≡ length lent
    second = length_written place ys lent k

    one : length (written at xs (written place ys lent)) ≡ length lent
    one = length_written at xs (written place ys lent) (omega (arith, second)) ∙ second

    other : length (written place ys (written at xs lent)) ≡ length lent
    other = length_written place ys (written at xs lent) (omega (arith, first)) ∙ first

    go : (i : ℕ) → Out at (length xs) i ⊎ In at (length xs) i → Out place (length ys) i ⊎ In place (length ys) i
        → get_or (written at xs (written place ys lent)) i 0 ≡ get_or (written place ys (written at xs lent)) i 0
    go i (inl o) (inl p) =
        kept_outside at xs (written place ys lent) i (omega (arith, second)) o
        ∙ kept_outside place ys lent i k p
        ∙ sym (kept_outside at xs lent i (omega arith) o)
        ∙ sym (kept_outside place ys (written at xs lent) i (omega (arith, first)) p)
    go i (inl o) (inr p) =
        kept_outside at xs (written place ys lent) i (omega (arith, second)) o
        ∙ written_inside place ys lent i (omega arith) p
        ∙ sym (written_inside place ys (written at xs lent) i (omega (arith, first)) p)
    go i (inr o) (inl p) =
        written_inside at xs (written place ys lent) i (omega (arith, second)) o
        ∙ sym (written_inside at xs lent i (omega arith) o)
        ∙ sym (kept_outside place ys (written at xs lent) i (omega (arith, first)) p)
    go i (inr o) (inr p) = absurd (omega arith)

-- nothing written changes nothing
written_none : (at : ℕ) (lent : List ℕ) → written at [] lent ≡ lent
unfolding written
written_none at lent = rw (add-zero at) (take-append-drop at lent)

-- ---- rows that are empty

-- rows that are all empty leave the own record as it was
pub rows_none : (H i : ℕ) (bs : List Booth) (own : List ℕ) (d : Booth) → ((j : ℕ) → j < length bs → (get_or bs j d).row ≡ []) → write_rows H i bs own ≡ own
unfolding write_rows
rows_none H i [] own d none = refl
rows_none H i (b ∷ bs) own d none =
    let first : written (i * H) b.row own ≡ own = ap (λ r. written (i * H) r own) (none 0 (omega arith)) ∙ written_none (i * H) own in
    ap (write_rows H (suc i) bs) first ∙ rows_none H (suc i) bs own d (λ j h. none (suc j) (omega arith))

-- so do those of the booths at the start
pub rows_open : (H i k : ℕ) (ls : List Line) (es : List Entry) (own : List ℕ) → write_rows H i (open_booths k ls es) own ≡ own
unfolding write_rows open_booths fresh_booth
rows_open H i k [] es own = refl
rows_open H i k (l ∷ ls) es own = ap (write_rows H (suc i) (open_booths (suc k) ls es)) (written_none (i * H) own) ∙ rows_open H (suc i) (suc k) ls es own

-- ---- rows that are short

-- a booth with a short row in place of another leaves all rows short
pub short_set : (H : ℕ) (bs : List Booth) (b : Booth) (i : ℕ) → ShortRows H bs → length b.row ≤ H → ShortRows H (set bs i b)
short_set H [] b i r h = tt
short_set H (c ∷ bs) b zero r h = (h, r.1)
short_set H (c ∷ bs) b (suc i) r h = (r.0, short_set H bs b i r.1 h)

-- every booth's row is short
pub short_at : (H : ℕ) (bs : List Booth) (d : Booth) (i : ℕ) → ShortRows H bs → i < length bs → length (get_or bs i d).row ≤ H
short_at H [] d i r h = absurd (not-suc-le-zero h)
short_at H (b ∷ bs) d zero r h = r.0
short_at H (b ∷ bs) d (suc i) r h = short_at H bs d i r.1 (le_of_suc-le-suc h)

module _ (H : ℕ) where
  slice_fits : (k i n : ℕ) (bs : List Booth) → (k + length bs) * H ≤ n → i < length bs → (k + i) * H + H ≤ n
  slice_fits k i n bs h l =
      let m : suc (k + i) ≤ k + length bs = omega arith in
      omega (arith, mul-le-mul_right H m)

  -- what is written before the rows may be written before or after them
  rows_apart : (at k : ℕ) (xs : List ℕ) (bs : List Booth) (own : List ℕ) → ShortRows H bs → (k + length bs) * H ≤ length own → at + length xs ≤ k * H
      → written at xs (write_rows H k bs own) ≡ write_rows H k bs (written at xs own)
  unfolding write_rows
  rows_apart at k xs [] own r h l = refl
  rows_apart at k xs (b ∷ bs) own r h l =
      let fits : (k + 0) * H + H ≤ length own = slice_fits k 0 (length own) (b ∷ bs) h (omega arith) in
      let here : k * H + length b.row ≤ length own = omega (arith, r.0) in
      let kept : length (written (k * H) b.row own) ≡ length own = length_written (k * H) b.row own here in
      rows_apart at (suc k) xs bs (written (k * H) b.row own) r.1 (omega arith) (omega arith)
      ∙ ap (write_rows H (suc k) bs) (written_apart at (k * H) xs b.row own l here)

  -- a row written over the one that stood there, no longer, is that booth's row written anew
  row_over : (k : ℕ) (bs : List Booth) (own : List ℕ) (d b : Booth) (i : ℕ) → ShortRows H bs → length b.row ≤ H → i < length bs → (k + length bs) * H ≤ length own
      → length (get_or bs i d).row ≤ length b.row → written ((k + i) * H) b.row (write_rows H k bs own) ≡ write_rows H k (set bs i b) own
  unfolding write_rows
  row_over k [] own d b i r s l h g = absurd (not-suc-le-zero l)
  row_over k (c ∷ bs) own d b zero r s l h g =
      let fits : (k + 0) * H + H ≤ length own = slice_fits k 0 (length own) (c ∷ bs) h (omega arith) in
      let kept : length (written (k * H) c.row own) ≡ length own = length_written (k * H) c.row own (omega (arith, r.0)) in
      ap (λ x. written (x * H) b.row (write_rows H (suc k) bs (written (k * H) c.row own))) (add-zero k)
      ∙ rows_apart (k * H) (suc k) b.row bs (written (k * H) c.row own) r.1 (omega arith) (omega arith)
      ∙ ap (write_rows H (suc k) bs) (written_over (k * H) b.row c.row own (omega arith) g)
  row_over k (c ∷ bs) own d b (suc i) r s l h g =
      let fits : (k + 0) * H + H ≤ length own = slice_fits k 0 (length own) (c ∷ bs) h (omega arith) in
      let kept : length (written (k * H) c.row own) ≡ length own = length_written (k * H) c.row own (omega (arith, r.0)) in
      ap (λ x. written (x * H) b.row (write_rows H (suc k) bs (written (k * H) c.row own))) (add-suc k i ∙ sym (suc-add k i))
      ∙ row_over (suc k) bs (written (k * H) c.row own) d b i r.1 s (le_of_suc-le-suc l) (omega arith) g

  -- bytes written into the slice of H bytes from a place are bytes written at that place
  slice_written : (at : ℕ) (xs lent : List ℕ) → length xs ≤ H → at + H ≤ length lent
      → take at lent ++ ((xs ++ drop (length xs) (take H (drop at lent))) ++ drop H (drop at lent)) ≡ written at xs lent
  unfolding written
  slice_written at xs lent s h =
      let n : length (drop at lent) ≡ length lent - at = length-drop at lent in
      let m : length (take H (drop at lent)) ≡ H = length-take-le H (drop at lent) (omega arith) in
      let tail : drop (length xs) (take H (drop at lent)) ++ drop H (drop at lent) ≡ drop (at + length xs) lent =
      sym (drop-append-le (length xs) (take H (drop at lent)) (drop H (drop at lent)) (omega arith))
      ∙ ap (drop (length xs)) (take-append-drop H (drop at lent))
      ∙ drop-drop (length xs) at lent in
      ap (λ (r : List ℕ). take at lent ++ r)
      (append_assoc xs (drop (length xs) (take H (drop at lent))) (drop H (drop at lent)) ∙ ap (λ (r : List ℕ). xs ++ r) tail)

-- the row of booth i lengthened in place inside its slice of H bytes
pub row_moved : (H : ℕ) (bs : List Booth) (own : List ℕ) (d b : Booth) (i : ℕ) → ShortRows H bs → length b.row ≤ H → i < length bs → length bs * H ≤ length own
    → take (length (get_or bs i d).row) b.row ≡ (get_or bs i d).row
    → take (i * H) (write_rows H 0 bs own)
    ++ ((b.row ++ drop (length b.row) (take H (drop (i * H) (write_rows H 0 bs own)))) ++ drop H (drop (i * H) (write_rows H 0 bs own)))
    ≡ write_rows H 0 (set bs i b) own
row_moved H bs own d b i r s l h g =
    let h' : (0 + length bs) * H ≤ length own = rw (zero-add (length bs)) h in
    let kept : length (write_rows H 0 bs own) ≡ length own = length_rows H 0 bs own r h' in
    let fits : (0 + i) * H + H ≤ length own = slice_fits H 0 i (length own) bs h' l in
    let longer : length (get_or bs i d).row ≤ length b.row = omega (arith, ap length g, length-take (length (get_or bs i d).row) b.row) in
    slice_written H (i * H) b.row (write_rows H 0 bs own) s (omega arith)
    ∙ ap (λ x. written (x * H) b.row (write_rows H 0 bs own)) (sym (zero-add i))
    ∙ row_over H 0 bs own d b i r s l h' longer

-- a booth's slice of H bytes begins with its row
pub slice_of : (H : ℕ) (bs : List Booth) (own : List ℕ) (d : Booth) (i : ℕ) → ShortRows H bs → i < length bs → length bs * H ≤ length own
    → take (length (get_or bs i d).row) (take H (drop (i * H) (write_rows H 0 bs own))) ≡ (get_or bs i d).row
slice_of H bs own d i r l h =
    take-take (length (get_or bs i d).row) H (drop (i * H) (write_rows H 0 bs own)) (short_at H bs d i r l)
    ∙ ap (λ x. take (length (get_or bs i d).row) (drop (x * H) (write_rows H 0 bs own))) (sym (zero-add i))
    ∙ row_back_lem H 0 bs own d i r (rw (zero-add (length bs)) h) l
