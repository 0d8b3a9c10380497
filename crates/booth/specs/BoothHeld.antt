-- What a booth as the code holds it is to the rules: the booth of document 01, with its entries still in the log and its row in the lent record.
use Rattle.std.specs.Prelude.{◌≡◌, Option, Some, None, is_none, unwrap_or, Bool, true, false, not, ◌&&◌, ◌||◌, List, [], ◌∷◌, ◌++◌, ℕ, suc, ◌+◌, ◌-◌, ◌*◌, ◌≤◌, ◌<◌, leb, ltb, length, get_or, take, drop, set, replicate}
use Rattle.rules.specs.BoothTable.{Line, longest_period}
use Rattle.rules.specs.ArrivalLog.{entry_at}
use Rattle.rules.specs.Due.{due, playable_from}
use Rattle.rules.specs.Opens.{opens_at}
use Rattle.rules.specs.Moves.{Booth, nobody, no_demand, first_task, settle, may_work, work}
use Rattle.rules.specs.InRange.{Sound}
use Rattle.arrivals.specs.Places.{waiting_at, Place, WholeLog}
use Rattle.laws.specs.Courses.{after_first}
use Rattle.booth.specs.declared.Booth.{Booth as HeldBooth}
use Rattle.booth.specs.declared.Asked.{Asked}

abbrev pub never : ℕ
never = 4294967295

-- stands in an array of booths where the table has none
unfoldable pub absent_booth : HeldBooth
absent_booth =
    record {
      number = 0;
      tasks = 0;
      demand = replicate 8 0;
      first = None;
      left = 0;
      at = 0;
      promise = record { period = 0; allowance = 0 };
      clock = record { 0 = 0 };
      opens = record { from = record { 0 = 0 }; into = 0 };
      tick = record { 0 = never };
      point = record { 0 = 0 };
    }

-- the page's number of a first task that may be none
abbrev pub first_number : Option ℕ → ℕ
first_number first = unwrap_or first nobody

-- the first task with demand, or none
unfoldable pub first_with : List ℕ → Option ℕ
first_with ds = elim (no_demand ds) [ true ↦ None | false ↦ Some (first_task 0 ds) ]

-- unplayed demand for each task: what the first has left stands in its place
unfoldable pub owed : HeldBooth → List ℕ
owed h = set h.demand (first_number h.first) h.left

-- the booth of document 01 that a held booth of line l, the log and the booth's part of the own record show
unfoldable pub shown : Line → List ℕ → HeldBooth → List ℕ → Booth
shown l bs h row =
    record {
      line = l;
      u = h.clock.0;
      left = take h.tasks (owed h);
      waiting = waiting_at bs h.number h.at;
      row = take h.clock.0 row;
    }

-- a settled booth's answer: its first task with demand, if it may work
unfoldable pub settled_answer : ℕ → Booth → Option ℕ
settled_answer t b = elim (may_work t b) [ true ↦ Some (first_task 0 b.left) | false ↦ None ]

-- asked at t, a booth settles, and works if it then may
unfoldable pub asked : ℕ → Booth → Booth
asked t b = elim (may_work t (settle t b)) [ true ↦ work (settle t b) | false ↦ settle t b ]

-- the booth with its first waiting entry added at its point
unfoldable pub taken_next : Booth → Booth
taken_next b = elim b.waiting [ [] ↦ b | e ∷ es ↦ after_first e es b ]

unfoldable pub takes_next : ℕ → HeldBooth → Bool
takes_next t h = leb h.tick.0 t && (is_none h.first || leb h.point.0 h.clock.0)

-- at t the booth has a task with more than one tick left, may play it, and has no entry to add
unfoldable pub goes_on : ℕ → HeldBooth → Bool
goes_on t h = not (is_none h.first) && (leb h.opens.from.0 t && (ltb 1 h.left && not (takes_next t h)))

-- the task that it then goes on with
unfoldable pub goes_with : ℕ → HeldBooth → Option ℕ
goes_with t h = elim (goes_on t h) [ true ↦ h.first | false ↦ None ]

-- ---- what holds of a held booth

-- demand for eight tasks, of which the first with some is one
pub record OneOfEight (h : HeldBooth) : Type 0 where
  pub eight : length h.demand ≡ 8
  pub first : (k : ℕ) → h.first ≡ Some k → k < 8

-- the booth's entries from one place on are those from another, where the first of them stands
pub record Found (bs : List ℕ) (number from at : ℕ) : Type 0 where
  pub place : Place bs at
  pub later : from ≤ at
  pub same : waiting_at bs number at ≡ waiting_at bs number from
  pub here : at < length bs → (entry_at bs at).booth ≡ number

-- a booth's first waiting entry is the one at its place, with its tick and its release point; past the last the tick never comes
pub record Next (bs : List ℕ) (h : HeldBooth) : Type 0 where
  pub booth : (entry_at bs h.at).booth ≡ h.number
  pub tick : h.tick.0 ≡ (entry_at bs h.at).tick
  pub point : h.point.0 ≡ due h.promise (entry_at bs h.at).tick

pub record Waits (bs : List ℕ) (h : HeldBooth) : Type 0 where
  pub place : Place bs h.at
  pub none : length bs ≤ h.at → h.tick.0 ≡ never
  pub next : h.at < length bs → Next bs h

-- what holds of a booth's promise, its demand, the first task with some, and where its clock lies
pub record Steady (h : HeldBooth) : Type 0 where
  pub sound : Sound h.promise
  pub short : h.promise.period ≤ longest_period
  pub tasks : h.tasks ≤ 8
  pub eight : length h.demand ≡ 8
  pub rest : (k : ℕ) → h.tasks ≤ k → get_or (owed h) k 0 ≡ 0
  pub first : h.first ≡ first_with (owed h)
  pub opens : h.opens ≡ opens_at h.promise h.clock.0

-- what holds of a booth between two moves: also of its place in the log, its tasks there, and that no sum of demand grows too large
pub record Fit (bs : List ℕ) (h : HeldBooth) : Type 0 where
  pub steady : Steady h
  pub waits : Waits bs h
  pub own : (at : ℕ) → Place bs at → at < length bs → (entry_at bs at).booth ≡ h.number → (entry_at bs at).task < h.tasks
  pub room : (k : ℕ) → get_or (owed h) k 0 * 9 + 65535 * (length bs - h.at) ≤ 65535 * 36873

-- ---- what holds of a booth after a move

-- what no move changes
pub record Stays (h r : HeldBooth) : Type 0 where
  pub number : r.number ≡ h.number
  pub promise : r.promise ≡ h.promise
  pub tasks : r.tasks ≡ h.tasks

-- the own ticks of a row from u on are as they were
abbrev pub KeptFrom : ℕ → List ℕ → List ℕ → Type 0
KeptFrom u before after = drop u after ≡ drop u before

-- with every line of its promise, what a booth and its row show after a move is what the rules make of what they showed before
abbrev pub ShownBy : (Booth → Booth) → List ℕ → HeldBooth → List ℕ → HeldBooth → List ℕ → Type 0
ShownBy rule bs h before r after = (l : Line) → l.promise ≡ h.promise → shown l bs r after ≡ rule (shown l bs h before)

-- what settling at t asks: t lies within a session, the row has t own ticks, and the clock is not past due(t)
pub record ToSettle (bs : List ℕ) (t : ℕ) (h : HeldBooth) (row : List ℕ) : Type 0 where
  pub log : WholeLog bs
  pub fit : Fit bs h
  pub early : t < 1000001
  pub room : t ≤ length row
  pub cap : h.clock.0 ≤ due h.promise t

-- settled at t: its clock has not gone back and is not past due(t)
pub record AfterSettle (bs : List ℕ) (t : ℕ) (h r : HeldBooth) : Type 0 where
  pub fit : Fit bs r
  pub stays : Stays h r
  pub grown : h.clock.0 ≤ r.clock.0
  pub cap : r.clock.0 ≤ due h.promise t

-- settled at t, it shows what document 01's settle leaves, and no own tick is written from its clock on
pub record Settled (bs : List ℕ) (t : ℕ) (h : HeldBooth) (before : List ℕ) (r : HeldBooth) (after : List ℕ) : Type 0 where
  pub fit : AfterSettle bs t h r
  pub state : ShownBy (settle t) bs h before r after
  pub row : KeptFrom r.clock.0 before after

-- what playing task k asks: it is the first with demand, the clock lies within the row, the row and the tick where the clock opens within a session
pub record ToPlay (h : HeldBooth) (k : ℕ) (row : List ℕ) : Type 0 where
  pub steady : Steady h
  pub few : k < 8
  pub first : h.first ≡ Some k
  pub inside : h.clock.0 < length row
  pub short : length row < 1000001
  pub opens : h.opens.from.0 < 1000001

-- worked: its clock has grown by 1, no demand has grown, and what waits is as it was, so it fits every log that it fitted
pub record AfterPlay (h r : HeldBooth) : Type 0 where
  pub steady : Steady r
  pub fit : (bs : List ℕ) → Fit bs h → Fit bs r
  pub stays : Stays h r
  pub at : r.at ≡ h.at
  pub tick : r.tick ≡ h.tick
  pub point : r.point ≡ h.point
  pub clock : r.clock.0 ≡ h.clock.0 + 1
  pub falls : (k : ℕ) → get_or (owed r) k 0 ≤ get_or (owed h) k 0

-- the wall tick before which a settled booth cannot work: its next entry's, or the one from which its own clock's tick may be played
unfoldable pub wakes_at : HeldBooth → ℕ
wakes_at h = elim (is_none h.first) [ true ↦ h.tick.0 | false ↦ playable_from h.promise h.clock.0 ]

-- asked at t: its clock has not gone back, and is not past due(t), or due(t + 1) where it worked; before `wakes` it need not be asked
pub record AfterAsk (bs : List ℕ) (t : ℕ) (h : HeldBooth) (r : Asked) : Type 0 where
  pub fit : Fit bs r.booth
  pub stays : Stays h r.booth
  pub grown : h.clock.0 ≤ r.booth.clock.0
  pub cap : r.booth.clock.0 ≤ due h.promise (suc t)
  pub rests : r.worked ≡ false → r.booth.clock.0 ≤ due h.promise t
  pub wakes : r.wakes.0 ≡ wakes_at r.booth

-- ---- the changes that a move makes to a held booth

unfoldable pub looking_at : HeldBooth → ℕ → ℕ → ℕ → HeldBooth
looking_at h at tick point =
    record {
      number = h.number;
      tasks = h.tasks;
      demand = h.demand;
      first = h.first;
      left = h.left;
      at = at;
      promise = h.promise;
      clock = h.clock;
      opens = h.opens;
      tick = record { 0 = tick };
      point = record { 0 = point };
    }

pub record Looked (bs : List ℕ) (h : HeldBooth) (from : ℕ) (r : HeldBooth) : Type 0 where
  pub is : r ≡ looking_at h r.at r.tick.0 r.point.0
  pub waits : Waits bs r
  pub later : from ≤ r.at
  pub same : waiting_at bs h.number r.at ≡ waiting_at bs h.number from

-- with this demand
unfoldable pub demanding : HeldBooth → List ℕ → HeldBooth
demanding h ds =
    record {
      number = h.number;
      tasks = h.tasks;
      demand = ds;
      first = first_with ds;
      left = get_or ds (first_number (first_with ds)) 0;
      at = h.at;
      promise = h.promise;
      clock = h.clock;
      opens = h.opens;
      tick = h.tick;
      point = h.point;
    }

-- with its clock here
unfoldable pub clock_at : HeldBooth → ℕ → HeldBooth
clock_at h u =
    record {
      number = h.number;
      tasks = h.tasks;
      demand = h.demand;
      first = h.first;
      left = h.left;
      at = h.at;
      promise = h.promise;
      clock = record { 0 = u };
      opens = opens_at h.promise u;
      tick = h.tick;
      point = h.point;
    }

-- its first task played once
unfoldable pub played_on : HeldBooth → HeldBooth
played_on h =
    record {
      number = h.number;
      tasks = h.tasks;
      demand = h.demand;
      first = h.first;
      left = h.left - 1;
      at = h.at;
      promise = h.promise;
      clock = record { 0 = h.clock.0 + 1 };
      opens = opens_at h.promise (h.clock.0 + 1);
      tick = h.tick;
      point = h.point;
    }

-- a row with ticks written after its first u
unfoldable pub lengthened : List ℕ → ℕ → List ℕ → List ℕ
lengthened row u ticks = take u row ++ (ticks ++ drop (u + length ticks) row)
