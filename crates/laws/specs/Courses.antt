-- What the engine's contracts say of a session on its way: entries in order, a booth with its first entry added, and the course of an
-- engine that asks the booths of a wall tick one by one and leaves a sleeping booth alone.
use Rattle.std.specs.Prelude.{◌≡◌, false, List, [], ◌∷◌, ◌++◌, ℕ, ◌+◌, ◌-◌, ◌≤◌, ◌<◌, length, get_or, replicate}
use Rattle.base.specs.Bytes.{written}
use Rattle.rules.specs.BoothTable.{Line, no_line}
use Rattle.rules.specs.ArrivalLog.{Entry}
use Rattle.rules.specs.Due.{due, release_point}
use Rattle.rules.specs.Moves.{Booth, nobody, add_demand, settle, may_work}
use Rattle.rules.specs.Session.{fresh_booth, settled_at, count, write_rows}
use Rattle.rules.specs.InRange.{Sound}
use Rattle.laws.specs.Statements.{booth_at}
use Rattle.laws.specs.Ordered.{Sorted}

-- ---- a booth with its first waiting entry added

-- the own clock moves on to v, if it is not there yet; own ticks passed over are 255
unfoldable pub forward : ℕ → Booth → Booth
forward v b =
    record { line = b.line; u = b.u + (v - b.u); left = b.left; waiting = b.waiting; row = b.row ++ replicate (v - b.u) nobody }

-- e, the first waiting entry, is added to its task, and es wait
unfoldable pub add_first : Entry → List Entry → Booth → Booth
add_first e es b = record { line = b.line; u = b.u; left = add_demand e.task e.demand b.left; waiting = es; row = b.row }

-- e added at its point
abbrev pub after_first : Entry → List Entry → Booth → Booth
after_first e es b = add_first e es (forward (release_point b.line e) b)

-- its promise is sound, its clock is not past due(t), and its entries are in order
pub record InOrder (t : ℕ) (b : Booth) : Type 0 where
  pub sound : Sound b.line.promise
  pub cap : b.u ≤ due b.line.promise t
  pub sorted : Sorted b.waiting

-- ---- the course of the engine

-- a table and its entries as the readers leave them
pub record AsRead (ls : List Line) (es : List Entry) : Type 0 where
  pub few : length ls ≤ nobody
  pub sound : (j : ℕ) → j < length ls → Sound (get_or ls j no_line).promise
  pub tasks : (j : ℕ) → j < length ls → length (get_or ls j no_line).longest ≤ nobody
  pub sorted : Sorted es

-- every row is at most H long
abbrev pub ShortRows : ℕ → List Booth → Type 0
ShortRows H [] = Unit {0}
ShortRows H (b ∷ bs) = (length b.row ≤ H) × ShortRows H bs

-- stands past the end of a list of booths
abbrev pub nobooth : Booth
nobooth = fresh_booth no_line []

module _ (ls : List Line) (es : List Entry) where
  -- booth j as the engine keeps it at t: settled later it is the session's, and it cannot work before w
  pub record Kept (t j : ℕ) (b : Booth) (w : ℕ) : Type 0 where
    pub order : InOrder t b
    pub size : length b.row ≡ b.u
    pub alike : settle t b ≡ booth_at ls es t j
    pub asleep : (s : ℕ) → t ≤ s → s < w → may_work s (settle s b) ≡ false

  module _ (H : ℕ) (wall₀ own₀ : List ℕ) where
    -- t wall ticks are played, and of the booths at t the first i were asked in vain
    pub record Course (t i : ℕ) (bs : List Booth) (wakes worked : List ℕ) (idle : ℕ) (wall own : List ℕ) : Type 0 where
      pub few : length bs ≡ length ls
      pub booth : (j : ℕ) → j < length ls → Kept t j (get_or bs j nobooth) (get_or wakes j 0)
      pub asked : (j : ℕ) → j < i → may_work t (booth_at ls es t j) ≡ false
      pub short : ShortRows H bs
      pub rows : own ≡ write_rows H 0 bs own₀
      pub wall_is : wall ≡ written 0 (settled_at t ls es).wall wall₀
      pub worked_is : (j : ℕ) → j < length ls → get_or worked j 0 ≡ count j (settled_at t ls es).wall
      pub idle_is : idle ≡ count nobody (settled_at t ls es).wall

    -- all booths before i are settled at H, the others are still to settle
    pub record Closing (i : ℕ) (bs : List Booth) (own : List ℕ) : Type 0 where
      pub few : length bs ≡ length ls
      pub done : (j : ℕ) → j < i → get_or bs j nobooth ≡ booth_at ls es H j
      pub left : (j : ℕ) → i ≤ j → j < length ls → Kept H j (get_or bs j nobooth) 0
      pub short : ShortRows H bs
      pub rows : own ≡ write_rows H 0 bs own₀
