-- Lines and tables that fit, as the code holds them. Assumes nothing.
use mathlib.Core.Path.{◌≡◌, refl, ap, ◌∙◌}
use mathlib.Core.List.{List, [], ◌∷◌, map}
use Prim.Native.Nat.{ℕ, zero, suc, ◌≤◌, ◌<◌}
use native.Mathlib.Omega.{arith}
use lib.ListN.{length, take, get_or, length-map, get_or-map}
use lib.Seq.{take-take, get_or-take, length-take-le}
use Rattle.rules.specs.declared.Line.{Line as HeldLine}
use Rattle.rules.specs.declared.Table.{Table}
use Rattle.rules.specs.BoothTable.{no_line}
use Rattle.rules.specs.InRange.{Sound}
use Rattle.rules.specs.Values.{line_held, lines_held, no_held_line}
use Rattle.rules.specs.Fit.{FitLine, FitTable}

-- the first i of the lines that are held, and line i of them
take_map : (n : ℕ) (xs : List HeldLine) → take n (map line_held xs) ≡ map line_held (take n xs)
take_map zero xs = refl
take_map (suc n) [] = refl
take_map (suc n) (x ∷ xs) = ap (λ ys. line_held x ∷ ys) (take_map n xs)

pub held_take : (lines : List HeldLine) (n i : ℕ) → i ≤ n → take i (map line_held (take n lines)) ≡ map line_held (take i lines)
held_take lines n i h = take_map i (take n lines) ∙ ap (map line_held) (take-take i n lines h)

pub held_at : (lines : List HeldLine) (n i : ℕ) → i < n → get_or (map line_held (take n lines)) i (line_held no_held_line) ≡ line_held (get_or lines i no_held_line)
held_at lines n i h = get_or-map line_held (take n lines) i no_held_line ∙ ap line_held (get_or-take n lines i no_held_line h)

pub held_length : (lines : List HeldLine) (n : ℕ) → n ≤ length lines → length (map line_held (take n lines)) ≡ n
held_length lines n h = length-map (take n lines) line_held ∙ length-take-le n lines h

-- the lines of a table as the code holds it
pub lines_in : (t : Table) → FitTable t → length (lines_held t) ≡ t.booths
unfolding lines_held
lines_in t f = held_length t.lines t.booths (omega (arith, f.lines.few, f.lines.eight))

pub line_in : (t : Table) (j : ℕ) → j < t.booths → get_or (lines_held t) j no_line ≡ line_held (get_or t.lines j no_held_line)
unfolding lines_held line_held no_line
line_in t j h = held_at t.lines t.booths j h

-- the promise of a line that fits
pub fit_sound : (l : HeldLine) → FitLine l → Sound l.promise
unfolding line_held
fit_sound l f = f.good.sound

pub fit_short : (l : HeldLine) → FitLine l → l.promise.period ≤ 10000
unfolding line_held
fit_short l f = f.good.short
