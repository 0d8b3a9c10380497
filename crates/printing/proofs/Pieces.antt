-- Pieces put one behind the other. Assumes nothing.
use mathlib.Core.Path.{◌≡◌, refl, sym, ap, ◌∙◌}
use mathlib.Core.List.{List, [], ◌++◌, append_assoc}
use Prim.Native.Nat.{ℕ, ◌+◌, ◌-◌, ◌≤◌}
use native.Mathlib.Nat.{add-zero}
use native.Mathlib.Omega.{arith}
use lib.ListN.{length, take, drop, length-append, length-take, length-drop, take-append-drop}
use lib.Seq.{take_at, drop_at, drop-drop}
use Rattle.base.specs.Bytes.{written}
use Rattle.printing.specs.declared.Paper.{Paper}
use Rattle.printing.specs.Put.{Put}
use Rattle.printing.specs.Printed.{HasRoom, Printed}
use borrow.Rule.Slice.PartMut.{put_mid, post_of}

-- no byte changes nothing
pub put_nothing : (at : ℕ) (lent : List ℕ) → at ≤ length lent → Put at [] lent lent at
unfolding written
put_nothing at lent h =
    record { inside = h; now_holds = sym (ap (λ k. take at lent ++ drop k lent) (add-zero at) ∙ take-append-drop at lent); behind = sym (add-zero at) }

module _ (at : ℕ) (xs ys lent : List ℕ) (inside : at ≤ length lent) where
  head_length : length (take at lent ++ xs) ≡ at + length xs
  head_length = simp (length-append, length-take) (omega arith)

  -- a piece behind a piece is one piece
  written_on : written (at + length xs) ys (written at xs lent) ≡ written at (xs ++ ys) lent
  unfolding written
  written_on =
      let before = take at lent in
      let rest = drop (at + length xs) lent in
      let n = at + length xs in
      let grouped : before ++ (xs ++ rest) ≡ (before ++ xs) ++ rest = sym (append_assoc before xs rest) in
      let whole : n + length ys ≡ at + length (xs ++ ys) = omega (arith, length-append xs ys) in
      let tail : drop (n + length ys) (before ++ (xs ++ rest)) ≡ drop (at + length (xs ++ ys)) lent =
      ap (drop (n + length ys)) grouped
      ∙ sym (drop-drop (length ys) n ((before ++ xs) ++ rest))
      ∙ ap (drop (length ys)) (drop_at (before ++ xs) rest n head_length)
      ∙ drop-drop (length ys) n lent
      ∙ ap (λ k. drop k lent) whole in
      ap (λ l. take n l ++ (ys ++ drop (n + length ys) (before ++ (xs ++ rest)))) grouped
      ∙ ap (λ l. l ++ (ys ++ drop (n + length ys) (before ++ (xs ++ rest)))) (take_at (before ++ xs) rest n head_length)
      ∙ ap (λ l. (before ++ xs) ++ (ys ++ l)) tail
      ∙ append_assoc before xs (ys ++ drop (at + length (xs ++ ys)) lent)
      ∙ ap (λ l. before ++ l) (sym (append_assoc xs ys (drop (at + length (xs ++ ys)) lent)))

pub then : {at m n : ℕ} {xs ys a b c : List ℕ} → Put at xs a b m → Put m ys b c n → Put at (xs ++ ys) a c n
then {at} {m} {n} {xs} {ys} {a} {b} {c} p q =
    record {
      inside = p.inside;
      now_holds = q.now_holds ∙ ap (λ l. written m ys l) p.now_holds ∙ ap (λ k. written k ys (written at xs a)) p.behind ∙ written_on at xs ys a p.inside;
      behind = omega (arith, p.behind, q.behind, length-append xs ys);
    }

-- a part of a paper's buffer, behind what is printed, that now holds a piece
pub piece_printed : {n : ℕ} {part piece : List ℕ} {p q : Paper} → HasRoom n p → n ≡ length piece → part ≡ piece
    → q.out.ghost_name ≡ p.out.ghost_name → q.out.now ≡ put_mid p.at (p.at + n - p.at) p.out.now part → q.at ≡ p.at + n → Printed piece p q
unfolding written
piece_printed {n} {part} {piece} {p} {q} room count holds same now behind =
    let lent = p.out.now in
    let rest : post_of p.at (p.at + n - p.at) lent ≡ drop (p.at + length piece) lent =
    drop-drop (p.at + n - p.at) p.at lent ∙ ap (λ k. drop k lent) (omega (arith, room, count)) in
    let all : q.out.now ≡ written p.at piece lent =
    now ∙ ap (λ l. take p.at lent ++ (l ++ post_of p.at (p.at + n - p.at) lent)) holds ∙ ap (λ l. take p.at lent ++ (piece ++ l)) rest in
    record {
      same_buffer = same;
      same_length = ap length all ∙ simp (length-append, length-take, length-drop) (omega (arith, room, count));
      put = record { inside = omega (arith, room); now_holds = all; behind = omega (arith, behind, count) };
    }

-- the same on a paper
pub printed_nothing : (p : Paper) → Printed [] p p
printed_nothing p = record { same_buffer = refl; same_length = refl; put = put_nothing p.at p.out.now (omega (arith, p.inside)) }

pub printed_then : {xs ys : List ℕ} {a b c : Paper} → Printed xs a b → Printed ys b c → Printed (xs ++ ys) a c
printed_then p q = record { same_buffer = q.same_buffer ∙ p.same_buffer; same_length = q.same_length ∙ p.same_length; put = then p.put q.put }
