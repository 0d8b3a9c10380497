-- A row whose next own ticks are written. Assumes nothing.
use mathlib.Core.Path.{◌≡◌, sym, ap, ◌∙◌}
use mathlib.Core.List.{List, [], ◌++◌, append_assoc}
use Prim.Native.Nat.{ℕ, ◌+◌, ◌-◌, ◌≤◌}
use native.Mathlib.Nat.{add-zero}
use native.Mathlib.Omega.{arith}
use lib.ListN.{length, take, drop, replicate, length-append, length-replicate, take-append-drop}
use lib.Seq.{take_at, drop_at, drop-drop, length-take-le}
use Rattle.booth.specs.BoothHeld.{lengthened}

-- with no tick written a row stays
pub written_none : (row : List ℕ) (u : ℕ) → lengthened row u [] ≡ row
unfolding lengthened
written_none row u = rw (add-zero u) (take-append-drop u row)

-- a part of the row from u on, all 255 as it comes back
pub part_silenced : (row : List ℕ) (u n : ℕ) (part : List ℕ) → part ≡ replicate n 255 → take u row ++ (part ++ drop n (drop u row)) ≡ lengthened row u (replicate n 255)
unfolding lengthened
part_silenced row u n part e =
    let after : drop n (drop u row) ≡ drop (u + length (replicate {A = ℕ} n 255)) row = drop-drop n u row ∙ ap (λ k. drop (u + k) row) (sym (length-replicate {A = ℕ} n 255)) in
    rw (e, after)

module _ (row : List ℕ) (u : ℕ) (ticks : List ℕ) (inside : u ≤ length row) where
  seam : length (take u row ++ ticks) ≡ u + length ticks
  seam = length-append (take u row) ticks ∙ ap (λ n. n + length ticks) (length-take-le u row inside)

  -- the ticks stand after the first u, and what lies behind them is as it was
  pub written_front : take (u + length ticks) (lengthened row u ticks) ≡ take u row ++ ticks
  unfolding lengthened
  written_front = rw (← (append_assoc (take u row) ticks (drop (u + length ticks) row))) (take_at (take u row ++ ticks) (drop (u + length ticks) row) (u + length ticks) seam)

  pub written_behind : drop (u + length ticks) (lengthened row u ticks) ≡ drop (u + length ticks) row
  unfolding lengthened
  written_behind = rw (← (append_assoc (take u row) ticks (drop (u + length ticks) row))) (drop_at (take u row ++ ticks) (drop (u + length ticks) row) (u + length ticks) seam)

-- two rows that agree from u on agree from any later tick on
pub agree_later : (row other : List ℕ) (u v : ℕ) → u ≤ v → drop u row ≡ drop u other → drop v row ≡ drop v other
agree_later row other u v h e =
    let there : u + (v - u) ≡ v = omega arith in
    ap (λ k. drop k row) (sym there) ∙ sym (drop-drop (v - u) u row) ∙ ap (drop (v - u)) e ∙ drop-drop (v - u) u other ∙ ap (λ k. drop k other) there
