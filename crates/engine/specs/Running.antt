-- What the engine's inner functions ask and give: the booths that the code keeps are the booths of the rules, and the course is the session's.
use Rattle.std.specs.Prelude.{◌≡◌, None, List, [], map, ℕ, ◌+◌, ◌*◌, ◌≤◌, ◌<◌, length, get_or, set, take, replicate}
use Rattle.rules.specs.declared.Line.{Line as HeldLine}
use Rattle.rules.specs.declared.Table.{Table}
use Rattle.rules.specs.BoothTable.{Line}
use Rattle.rules.specs.ArrivalLog.{entry_at}
use Rattle.rules.specs.Moves.{Booth}
use Rattle.rules.specs.Session.{own_entries, fresh_booth}
use Rattle.rules.specs.Values.{padded, line_held, lines_held, no_held_line}
use Rattle.rules.specs.Fit.{FitTable}
use Rattle.arrivals.specs.Places.{waiting_at, Place, WholeLog, entries_of}
use Rattle.laws.specs.Courses.{AsRead, nobooth, Course, Closing}
use Rattle.booth.specs.declared.Booth.{Booth as HeldBooth}
use Rattle.booth.specs.BoothHeld.{owed, shown, Fit}
use Rattle.engine.specs.declared.Course.{Course as HeldCourse}
use Rattle.engine.specs.declared.Stage.{Stage}

-- stands past the end of an array of booths, where nothing is read
abbrev pub nowhere : HeldBooth
nowhere =
    record {
      number = 0;
      tasks = 0;
      demand = [];
      first = None;
      left = 0;
      at = 0;
      promise = record { period = 0; allowance = 0 };
      clock = record { 0 = 0 };
      opens = record { from = record { 0 = 0 }; into = 0 };
      tick = record { 0 = 0 };
      point = record { 0 = 0 };
    }

-- a held booth is a booth of the rules, but for its longest jobs, which the table has, and its row, which lies in the own record
pub record Same (bs : List ℕ) (h : HeldBooth) (b : Booth) : Type 0 where
  pub promise : b.line.promise ≡ h.promise
  pub clock : b.u ≡ h.clock.0
  pub left : b.left ≡ take h.tasks (owed h)
  pub waiting : b.waiting ≡ waiting_at bs h.number h.at

pub record Alike (bs : List ℕ) (n : ℕ) (hs : List HeldBooth) (booths : List Booth) : Type 0 where
  pub size : length hs ≡ 8
  pub fit : (j : ℕ) → j < n → Fit bs (get_or hs j nowhere)
  pub number : (j : ℕ) → j < n → (get_or hs j nowhere).number ≡ j
  pub same : (j : ℕ) → j < n → Same bs (get_or hs j nowhere) (get_or booths j nobooth)

-- t wall ticks are played, and of the booths at t the first i were asked in vain
pub record Running (ls : List Line) (H : ℕ) (bs wall₀ own₀ : List ℕ) (t i : ℕ) (hs : List HeldBooth) (wakes worked : List ℕ) (idle : ℕ) (wall own : List ℕ) : Type 0 where
  pub booths : List Booth
  pub course : Course ls (entries_of bs) H wall₀ own₀ t i booths wakes worked idle wall own
  pub alike : Alike bs (length ls) hs booths
  pub wakes_eight : length wakes ≡ 8
  pub worked_eight : length worked ≡ 8
  pub others : (j : ℕ) → length ls ≤ j → get_or worked j 0 ≡ 0

-- what every function of the engine is asked
pub record Set (ls : List Line) (n H : ℕ) (bs own : List ℕ) : Type 0 where
  pub count : length ls ≡ n
  pub few : n ≤ 8
  pub ticks : H ≤ 1000000
  pub log : WholeLog bs
  pub room : n * H ≤ length own
  pub as_read : AsRead ls (entries_of bs)

pub record ToOpen (table : Table) (bs : List ℕ) : Type 0 where
  pub fit : FitTable table
  pub log : WholeLog bs
  pub own : (j at : ℕ) → j < table.booths → Place bs at → at < length bs → (entry_at bs at).booth ≡ j → (entry_at bs at).task < (get_or table.lines j no_held_line).tasks

-- the first j booths as document 01 opens them
pub record OpenedTo (j : ℕ) (lines : List HeldLine) (bs : List ℕ) (hs : List HeldBooth) : Type 0 where
  pub size : length hs ≡ 8
  pub fit : (k : ℕ) → k < j → Fit bs (get_or hs k nowhere)
  pub number : (k : ℕ) → k < j → (get_or hs k nowhere).number ≡ k
  pub promise : (k : ℕ) → k < j → (get_or hs k nowhere).promise ≡ (get_or lines k no_held_line).promise
  pub fresh : (k : ℕ) → k < j → (row : List ℕ)
      → shown (line_held (get_or lines k no_held_line)) bs (get_or hs k nowhere) row ≡ fresh_booth (line_held (get_or lines k no_held_line)) (own_entries k (entries_of bs))

abbrev pub Opened : Table → List ℕ → List HeldBooth → Type 0
Opened table bs hs = OpenedTo table.booths table.lines bs hs

pub record Ready (n H : ℕ) (start : List HeldBooth) (bs wall own : List ℕ) : Type 0 where
  pub lines : List Line
  pub set : Set lines n H bs own
  pub wall_room : H ≤ length wall
  pub running : Running lines H bs wall own 0 0 start (replicate 8 0) (replicate 8 0) 0 wall own

-- no booth wakes before this wall tick
abbrev pub SleepTo : List ℕ → ℕ → ℕ → Type 0
SleepTo wakes n soonest = (j : ℕ) → j < n → soonest ≤ get_or wakes j 0

-- the session is on its way: t wall ticks are played, the first i booths were asked at t in vain, and every record has its room
pub record Going (ls : List Line) (n H : ℕ) (bs wall₀ own₀ : List ℕ) (t i : ℕ) (hs : List HeldBooth) (wakes worked : List ℕ) (idle : ℕ) (wall own : List ℕ) : Type 0 where
  pub early : t ≤ H
  pub within : i ≤ n
  pub few : n ≤ 8
  pub ticks : H ≤ 1000000
  pub wall_room : H ≤ length wall
  pub own_room : n * H ≤ length own
  pub wall_length : length wall ≡ length wall₀
  pub own_length : length own ≡ length own₀
  pub set : Set ls n H bs own₀
  pub running : Running ls H bs wall₀ own₀ t i hs wakes worked idle wall own
  pub idle_small : idle ≤ t

-- the booths and the own record are those of some session on its way
pub record Midway (n H : ℕ) (bs : List ℕ) (t i : ℕ) (own : List ℕ) (c : HeldCourse) : Type 0 where
  pub lines : List Line
  pub wall₀ : List ℕ
  pub own₀ : List ℕ
  pub worked : List ℕ
  pub idle : ℕ
  pub wall : List ℕ
  pub going : Going lines n H bs wall₀ own₀ t i c.booths c.wakes worked idle wall own

-- whatever session it was with the first i booths asked at t, now the first k were asked, all in vain
abbrev pub AskedTo : ℕ → ℕ → List ℕ → ℕ → ℕ → List ℕ → HeldCourse → ℕ → List ℕ → HeldCourse → Type 0
AskedTo n H bs t i own c k own' c' = (e : Midway n H bs t i own c) → Going e.lines n H bs e.wall₀ e.own₀ t k c'.booths c'.wakes e.worked e.idle e.wall own'

-- whatever session it was, booth k worked at t: once that is written to the wall record and counted, the next wall tick comes
abbrev pub Worked : ℕ → ℕ → List ℕ → ℕ → ℕ → List ℕ → HeldCourse → ℕ → List ℕ → HeldCourse → Type 0
Worked n H bs t i own c k own' c' =
    (e : Midway n H bs t i own c)
    → Going e.lines n H bs e.wall₀ e.own₀ (t + 1) 0 c'.booths c'.wakes (set e.worked k (get_or e.worked k 0 + 1)) e.idle (set e.wall t k) own'

-- all H wall ticks are played
pub record Through (ls : List Line) (H : ℕ) (bs wall₀ own₀ : List ℕ) (s : Stage) (wall own : List ℕ) : Type 0 where
  pub asked : ℕ
  pub wakes : List ℕ
  pub running : Running ls H bs wall₀ own₀ H asked s.booths wakes s.worked s.idle wall own

-- whatever session the booths were ready for, it is played
abbrev pub Ran : ℕ → ℕ → List HeldBooth → List ℕ → List ℕ → List ℕ → Stage → List ℕ → List ℕ → Type 0
Ran n H start bs wall₀ own₀ s wall own = (e : Ready n H start bs wall₀ own₀) → Through e.lines H bs wall₀ own₀ s wall own

-- the booths before i are settled at H; own₀ is the own record as it was lent
pub record Ending (ls : List Line) (H : ℕ) (bs wall₀ own₀ : List ℕ) (i : ℕ) (hs : List HeldBooth) (own : List ℕ) : Type 0 where
  pub booths : List Booth
  pub closing : Closing ls (entries_of bs) H wall₀ own₀ i booths own
  pub alike : Alike bs (length ls) hs booths

pub record Ended (n H : ℕ) (played : List HeldBooth) (bs own : List ℕ) : Type 0 where
  pub lines : List Line
  pub wall₀ : List ℕ
  pub own₀ : List ℕ
  pub set : Set lines n H bs own₀
  pub wall_room : H ≤ length wall₀
  pub same_length : length own ≡ length own₀
  pub ending : Ending lines H bs wall₀ own₀ 0 played own

-- whatever session the booths were played in, they are its booths settled at H
abbrev pub Closed : ℕ → ℕ → List HeldBooth → List ℕ → List ℕ → List HeldBooth → List ℕ → Type 0
Closed n H played bs own hs after = (e : Ended n H played bs own) → Ending e.lines H bs e.wall₀ e.own₀ n hs after

abbrev pub Clocks : ℕ → List HeldBooth → List ℕ → Type 0
Clocks n hs clocks = clocks ≡ padded 8 0 (map (λ h. h.clock.0) (take n hs))

-- table and log were taken, and the records have room
pub record Playable (table : Table) (bs wall own : List ℕ) (H : ℕ) : Type 0 where
  pub opening : ToOpen table bs
  pub as_read : AsRead (lines_held table) (entries_of bs)
  pub ticks : H ≤ 1000000
  pub wall_room : H ≤ length wall
  pub own_room : table.booths * H ≤ length own
