-- The lines of the booths: how long each may be, and one booth more. Assumes nothing.
use mathlib.Core.Path.{◌≡◌, refl, ap}
use mathlib.Core.List.{List, ◌++◌}
use mathlib.Core.Option.{Option, none, some}
use Prim.Native.Nat.{ℕ, zero, suc, ◌+◌, ◌*◌, ◌≤◌}
use native.Mathlib.Numerals.{add-one}
use native.Mathlib.Omega.{arith}
use lib.ListN.{length, get_or, drop, length-append, length-take}
use borrow.Author.Tests.{ltb-false}
use Rattle.base.specs.Refusals.{Refusal, refuse_if, first_fault}
use Rattle.rules.specs.RowBack.{row_checks, row_back}
use Rattle.rules.specs.Desk as page
use Rattle.laws.proofs.NoFault.{no_fault}
use Rattle.text.specs.TextAnswered.{booth_line_room}
use Rattle.printing.proofs.Digits.{labelled_length}
use Rattle.printing.proofs.LineLengths.{record_line_length}

-- a row handed back is no longer than the session
pub row_short : (own : List ℕ) (H i u : ℕ) → length (row_back own H i u).part ≤ H
unfolding row_back row_checks refuse_if
row_short own H i u = go (first_fault (row_checks own H i u)) refl
  where
    go : (f : Option Refusal) → first_fault (row_checks own H i u) ≡ f → length (row_back own H i u).part ≤ H
    go (some r) q = rw (q, row_back) (omega arith)
    go none q =
        let fits = ltb-false H u (no_fault (row_checks own H i u) q).1.1.0 in
        rw (q, row_back) (omega (arith, length-take u (drop (i * H) own), fits))

pub booth_line_length : (own : List ℕ) (H i u worked : ℕ) → H ≤ page.most_ticks → length (page.booth_line i u worked (row_back own H i u).part) ≤ booth_line_room
unfolding page.booth_line
booth_line_length own H i u worked h =
    let row = (row_back own H i u).part in
    let last = page.record_line page.space row in
    let third = page.labelled page.word_worked worked ++ last in
    let second = page.labelled page.word_own u ++ third in
    omega (
      arith,
      h,
      row_short own H i u,
      record_line_length page.space row,
      length-append (page.labelled page.word_booth i) second,
      length-append (page.labelled page.word_own u) third,
      length-append (page.labelled page.word_worked worked) last,
      labelled_length page.word_booth i,
      labelled_length page.word_own u,
      labelled_length page.word_worked worked,
    )

pub booth_lines_length : (n H : ℕ) (clocks worked own : List ℕ) → H ≤ page.most_ticks → length (page.booth_lines n H clocks worked own) ≤ n * booth_line_room
unfolding page.booth_lines
booth_lines_length zero H clocks worked own h = omega arith
booth_lines_length (suc i) H clocks worked own h =
    let u = get_or clocks i 0 in
    omega (
      arith,
      length-append (page.booth_lines i H clocks worked own) (page.booth_line i u (get_or worked i 0) (row_back own H i u).part),
      booth_lines_length i H clocks worked own h,
      booth_line_length own H i u (get_or worked i 0) h,
    )

pub booth_lines_more : (i H : ℕ) (clocks worked own : List ℕ)
    → page.booth_lines (i + 1) H clocks worked own ≡ page.booth_lines i H clocks worked own ++ page.booth_line i (get_or clocks i 0) (get_or worked i 0) (row_back own H i (get_or clocks i 0)).part
unfolding page.booth_lines
booth_lines_more i H clocks worked own = ap (λ k. page.booth_lines k H clocks worked own) (add-one i)
