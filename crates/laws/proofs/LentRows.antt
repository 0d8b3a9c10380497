-- Rows written into the lent own record, one behind the other, are read back as they were. Assumes nothing.
use mathlib.Core.Path.{◌≡◌, refl, sym, ap, ◌∙◌, subst}
use mathlib.Core.Logic.{◌⊎◌, inl, inr}
use mathlib.Core.List.{List, [], ◌∷◌, ◌++◌}
use Prim.Native.Nat.{ℕ, zero, suc, ◌+◌, ◌-◌, ◌*◌, ◌≤◌, ◌<◌}
use native.Mathlib.Nat.{add-zero, add-suc, suc-add, not-suc-le-zero, le_of_suc-le-suc, mul-le-mul_right}
use native.Mathlib.Omega.{arith}
use lib.ListN.{length, get_or, take, drop, length-append, length-take, length-drop, take-append-drop, get_or-append}
use lib.Seq.{get_or-take, get_or-drop, get_or-append-add, length-take-le, take-append-le, drop-append-le, take-append_seam, drop_at}
use Rattle.base.specs.Bytes.{written}
use Rattle.rules.specs.Moves.{Booth}
use Rattle.rules.specs.Session.{write_rows}
use Rattle.laws.specs.Courses.{ShortRows}

pub length_written : (at : ℕ) (bytes lent : List ℕ) → at + length bytes ≤ length lent → length (written at bytes lent) ≡ length lent
unfolding written
length_written at bytes lent h = simp (length-append, length-take, length-drop) (omega arith)

-- what is written stands there ..
pub read_back : (at : ℕ) (bytes lent : List ℕ) → at ≤ length lent → take (length bytes) (drop at (written at bytes lent)) ≡ bytes
unfolding written
read_back at bytes lent h =
    ap (take (length bytes)) (drop_at (take at lent) (bytes ++ drop (at + length bytes) lent) at (length-take-le at lent h))
    ∙ take-append_seam bytes (drop (at + length bytes) lent)

first_part : (n at : ℕ) (xs ys : List ℕ) → at + n ≤ length xs → take n (drop at (xs ++ ys)) ≡ take n (drop at xs)
first_part n at xs ys h =
    ap (take n) (drop-append-le at xs ys (omega arith)) ∙ take-append-le n (drop at xs) ys (simp length-drop (omega arith))

-- .. and what stands before keeps what it held
kept_before : (n at place : ℕ) (bytes lent : List ℕ) → at + n ≤ place → place ≤ length lent → take n (drop at (written place bytes lent)) ≡ take n (drop at lent)
unfolding written
kept_before n at place bytes lent h k =
    let l : length (take place lent) ≡ place = length-take-le place lent k in
    first_part n at (take place lent) (bytes ++ drop (place + length bytes) lent) (omega arith)
    ∙ sym (first_part n at (take place lent) (drop place lent) (omega arith))
    ∙ ap (λ x. take n (drop at x)) (take-append-drop place lent)

-- so does what stands behind
pub kept_outside : (at : ℕ) (bytes lent : List ℕ) (n : ℕ) → at + length bytes ≤ length lent → (n < at) ⊎ (at + length bytes ≤ n)
    → get_or (written at bytes lent) n 0 ≡ get_or lent n 0
unfolding written
kept_outside at bytes lent n f (inl h) =
    let l : length (take at lent) ≡ at = length-take-le at lent (omega arith) in
    get_or-append (take at lent) (bytes ++ drop (at + length bytes) lent) 0 n (omega arith) ∙ get_or-take at lent n 0 h
kept_outside at bytes lent n f (inr h) =
    let l : length (take at lent) ≡ at = length-take-le at lent (omega arith) in
    let m = n - (at + length bytes) in
    let e : n ≡ length (take at lent) + (length bytes + m) = omega arith in
    let e' : at + length bytes + m ≡ n = omega arith in
    ap (λ x. get_or (take at lent ++ (bytes ++ drop (at + length bytes) lent)) x 0) e
    ∙ get_or-append-add (take at lent) (bytes ++ drop (at + length bytes) lent) (length bytes + m) 0
    ∙ get_or-append-add bytes (drop (at + length bytes) lent) m 0
    ∙ get_or-drop (at + length bytes) lent m 0
    ∙ ap (λ x. get_or lent x 0) e'

-- the place n lies in none of the rows that are written from row i on
abbrev pub Outside : ℕ → ℕ → List Booth → ℕ → Type 0
Outside H i [] n = Unit {0}
Outside H i (b ∷ bs) n = ((n < i * H) ⊎ (i * H + length b.row ≤ n)) × Outside H (suc i) bs n

module _ (H : ℕ) where
  -- the first row fits, and the others after it
  first_fits : (i : ℕ) (b : Booth) (bs : List Booth) (own : List ℕ) → length b.row ≤ H → (i + suc (length bs)) * H ≤ length own
      → i * H + length b.row ≤ length own
  first_fits i b bs own h k =
      let m : suc i ≤ i + suc (length bs) = omega arith in
      omega (arith, mul-le-mul_right H m)

  rest_fits : (i : ℕ) (b : Booth) (bs : List Booth) (own : List ℕ) → length b.row ≤ H → (i + suc (length bs)) * H ≤ length own
      → (suc i + length bs) * H ≤ length (written (i * H) b.row own)
  rest_fits i b bs own h k =
      let same : i + suc (length bs) ≡ suc i + length bs = omega arith in
      rw (length_written (i * H) b.row own (first_fits i b bs own h k)) (subst (λ x. x * H ≤ length own) same k)

  -- rows written later leave the earlier ones
  rows_before : (i : ℕ) (bs : List Booth) (own : List ℕ) (n j : ℕ) → ShortRows H bs → (i + length bs) * H ≤ length own → n ≤ H → j < i
      → take n (drop (j * H) (write_rows H i bs own)) ≡ take n (drop (j * H) own)
  unfolding write_rows
  rows_before i [] own n j r k h l = refl
  rows_before i (b ∷ bs) own n j r k h l =
      let m : suc j * H ≤ i * H = mul-le-mul_right H l in
      rows_before (suc i) bs (written (i * H) b.row own) n j r.1 (rest_fits i b bs own r.0 k) h (omega arith)
      ∙ kept_before n (j * H) (i * H) b.row own (omega arith) (omega (arith, first_fits i b bs own r.0 k))

  pub row_back_lem : (i : ℕ) (bs : List Booth) (own : List ℕ) (d : Booth) (j : ℕ) → ShortRows H bs → (i + length bs) * H ≤ length own → j < length bs
      → take (length (get_or bs j d).row) (drop ((i + j) * H) (write_rows H i bs own)) ≡ (get_or bs j d).row
  unfolding write_rows
  row_back_lem i [] own d j r k h = absurd (not-suc-le-zero h)
  row_back_lem i (b ∷ bs) own d zero r k h =
      ap (λ x. take (length b.row) (drop (x * H) (write_rows H (suc i) bs (written (i * H) b.row own)))) (add-zero i)
      ∙ rows_before (suc i) bs (written (i * H) b.row own) (length b.row) i r.1 (rest_fits i b bs own r.0 k) r.0 (omega arith)
      ∙ read_back (i * H) b.row own (omega (arith, first_fits i b bs own r.0 k))
  row_back_lem i (b ∷ bs) own d (suc j) r k h =
      ap (λ x. take (length (get_or bs j d).row) (drop (x * H) (write_rows H (suc i) bs (written (i * H) b.row own)))) (add-suc i j ∙ sym (suc-add i j))
      ∙ row_back_lem (suc i) bs (written (i * H) b.row own) d j r.1 (rest_fits i b bs own r.0 k) (le_of_suc-le-suc h)

  pub rows_outside : (i : ℕ) (bs : List Booth) (own : List ℕ) (n : ℕ) → ShortRows H bs → (i + length bs) * H ≤ length own → Outside H i bs n
      → get_or (write_rows H i bs own) n 0 ≡ get_or own n 0
  unfolding write_rows
  rows_outside i [] own n r k o = refl
  rows_outside i (b ∷ bs) own n r k o =
      rows_outside (suc i) bs (written (i * H) b.row own) n r.1 (rest_fits i b bs own r.0 k) o.1
      ∙ kept_outside (i * H) b.row own n (first_fits i b bs own r.0 k) o.0

  pub length_rows : (i : ℕ) (bs : List Booth) (own : List ℕ) → ShortRows H bs → (i + length bs) * H ≤ length own → length (write_rows H i bs own) ≡ length own
  unfolding write_rows
  length_rows i [] own r k = refl
  length_rows i (b ∷ bs) own r k =
      length_rows (suc i) bs (written (i * H) b.row own) r.1 (rest_fits i b bs own r.0 k)
      ∙ length_written (i * H) b.row own (first_fits i b bs own r.0 k)

  -- a place behind the rows is in none of them ..
  pub behind_rows : (i : ℕ) (bs : List Booth) (n : ℕ) → ShortRows H bs → (i + length bs) * H ≤ n → Outside H i bs n
  behind_rows i [] n r k = tt
  behind_rows i (b ∷ bs) n r k =
      let m : suc i ≤ i + suc (length bs) = omega arith in
      let same : i + suc (length bs) ≡ suc i + length bs = omega arith in
      (inr (omega (arith, r.0, mul-le-mul_right H m)), behind_rows (suc i) bs n r.1 (subst (λ x. x * H ≤ n) same k))

  -- .. nor is one before them ..
  before_rows : (i : ℕ) (bs : List Booth) (n : ℕ) → n < i * H → Outside H i bs n
  before_rows i [] n k = tt
  before_rows i (b ∷ bs) n k = (inl k, before_rows (suc i) bs n (omega arith))

  -- .. nor one that lies behind row j and before the next
  pub between_rows : (i : ℕ) (bs : List Booth) (d : Booth) (j n : ℕ) → ShortRows H bs → j < length bs → length (get_or bs j d).row ≤ n → n < H
      → Outside H i bs ((i + j) * H + n)
  between_rows i [] d j n r h a c = absurd (not-suc-le-zero h)
  between_rows i (b ∷ bs) d zero n r h a c =
      rw (add-zero i) (inr (omega arith), before_rows (suc i) bs (i * H + n) (omega arith))
  between_rows i (b ∷ bs) d (suc j) n r h a c =
      let m : suc i ≤ i + suc j = omega arith in
      let same : suc i + j ≡ i + suc j = omega arith in (
        inr (omega (arith, r.0, mul-le-mul_right H m)),
        subst (λ x. Outside H (suc i) bs (x * H + n)) same (between_rows (suc i) bs d j n r.1 (le_of_suc-le-suc h) a c),
      )
