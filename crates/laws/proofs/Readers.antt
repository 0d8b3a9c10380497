-- What the readers guarantee of what they take. Assumes nothing.
use mathlib.Core.Path.{◌≡◌, refl, ap, ◌∙◌, subst}
use mathlib.Core.Bool.{Bool, true, false}
use mathlib.Core.List.{List, [], ◌∷◌, ◌++◌}
use mathlib.Core.Option.{Option, none, some}
use Prim.Native.Nat.{ℕ, zero, suc, ◌+◌, ◌*◌, ◌≤◌, ◌<◌}
use native.Mathlib.Nat.{not-suc-le-zero, le_of_suc-le-suc}
use native.Mathlib.Omega.{arith}
use lib.Dec.{leb, ltb, eqb}
use lib.ListN.{length, get_or}
use borrow.Author.Tests.{ltb-false, leb-true, leb-false, eqb-false}
use Rattle.base.specs.Refusals.{Refusal, Taken, taken, refused, refuse_if, first_fault}
use Rattle.rules.specs.FileHead.{head_checks}
use Rattle.rules.specs.BoothTable.{Line, Placed, lines_of, booths_allowed, table_n, header_checks, record_end, placed_at, record_checks, with_placed, read_records, read_lines}
use Rattle.rules.specs.ArrivalLog.{Entry, Log, longest_session, entries_allowed, entry_bytes, log_n, log_h, log_head_checks, horizon_checks, entry_at, longest_jobs, entry_checks, with_entry, read_entries, with_horizon, read_log}
use Rattle.base.proofs.Checks.{neither}
use Rattle.rules.proofs.Records.{positive, record_passed}
use Rattle.rules.specs.InRange.{GoodLine}
use Rattle.laws.specs.Statements.{GoodEntry, no_entry}
use Rattle.laws.specs.Ordered.{From, Sorted}
use Rattle.laws.proofs.NoFault.{taken_or_refused, taken_once, no_fault}

-- each of a list
abbrev pub All : {A : Type 0} → (A → Type 0) → List A → Type 0
All P [] = Unit {0}
All P (x ∷ xs) = P x × All P xs

pub all_at : {A : Type 0} (P : A → Type 0) (xs : List A) (d : A) → All P xs → (i : ℕ) → i < length xs → P (get_or xs i d)
all_at P [] d a i h = absurd (not-suc-le-zero h)
all_at P (x ∷ xs) d a zero h = a.0
all_at P (x ∷ xs) d a (suc i) h = all_at P xs d a.1 i (le_of_suc-le-suc h)

-- ---- the table

with_placed_lem : (p : Placed) (t : Taken (List Placed)) (ps : List Placed) → with_placed p t ≡ taken ps → (qs : List Placed) × (t ≡ taken qs) × (p ∷ qs ≡ ps)
unfolding with_placed
with_placed_lem p (taken qs) ps e = (qs, refl, taken_once (p ∷ qs) ps e)
with_placed_lem p (refused r) ps e = absurd (taken_or_refused ps r e)

-- records read from a place, with room for so many
record Records (room : ℕ) (bs : List ℕ) (at : ℕ) (ps : List Placed) : Type 0 where
  some : at < length bs → 1 ≤ length (lines_of ps)
  few : length (lines_of ps) ≤ room
  good : All GoodLine (lines_of ps)

no_records_lem : (room : ℕ) (bs : List ℕ) (at : ℕ) → leb (length bs) at ≡ true → Records room bs at []
no_records_lem room bs at q = record { some = λ h. absurd (omega (arith, leb-true (length bs) at q)); few = omega arith; good = tt }

read_records_lem : (room : ℕ) (bs : List ℕ) (at : ℕ) (ps : List Placed) → read_records room bs at ≡ taken ps → Records room bs at ps
unfolding read_records placed_at
read_records_lem zero bs at ps h = go (leb (length bs) at) refl
  where
    go : (c : Bool) → leb (length bs) at ≡ c → Records 0 bs at ps
    go true q = subst (Records 0 bs at) (taken_once [] ps (rw (q, read_records) at h)) (no_records_lem 0 bs at q)
    go false q = absurd (taken_or_refused ps _ (rw (q, read_records) at h))
read_records_lem (suc room) bs at ps h = go (λ qs e. read_records_lem room bs (record_end bs at) qs e) (leb (length bs) at) refl (first_fault (record_checks bs at)) refl
  where
    more : ((qs : List Placed) → read_records room bs (record_end bs at) ≡ taken qs → Records room bs (record_end bs at) qs) → first_fault (record_checks bs at) ≡ none
        → (qs : List Placed) × (read_records room bs (record_end bs at) ≡ taken qs) × (placed_at bs at ∷ qs ≡ ps) → Records (suc room) bs at ps
    more ih f (qs, e, x) =
        let r = ih qs e in
        subst (Records (suc room) bs at) x (record { some = λ k. omega arith; few = omega (arith, r.few); good = ((record_passed bs at f).good, r.good) })

    go : ((qs : List Placed) → read_records room bs (record_end bs at) ≡ taken qs → Records room bs (record_end bs at) qs) → (c : Bool) → leb (length bs) at ≡ c
        → (f : Option Refusal) → first_fault (record_checks bs at) ≡ f → Records (suc room) bs at ps
    go ih true q f p = subst (Records (suc room) bs at) (taken_once [] ps (rw (q, read_records) at h)) (no_records_lem (suc room) bs at q)
    go ih false q (some r) p = absurd (taken_or_refused ps r (rw p at (rw (q, read_records) at h)))
    go ih false q none p = more ih p (with_placed_lem (placed_at bs at) (read_records room bs (record_end bs at)) ps (rw p at (rw (q, read_records) at h)))

-- the lines of a table: 1 to 8 booths, each in range
pub record Lines (ls : List Line) : Type 0 where
  pub some_booth : 1 ≤ length ls
  pub few_booths : length ls ≤ booths_allowed
  pub good : All GoodLine ls

header_length : (bs : List ℕ) → first_fault (header_checks bs) ≡ none → 3 < length bs
unfolding header_checks head_checks refuse_if
header_length bs h =
    let p = no_fault (header_checks bs) h in
    omega (
      arith,
      ltb-false (length bs) (3 + table_n bs) p.1.1.1.0,
      positive (table_n bs) (eqb-false (table_n bs) 0 p.1.1.1.1.1.0),
    )

pub read_lines_lem : (bs : List ℕ) (ps : List Placed) → read_lines bs ≡ taken ps → Lines (lines_of ps)
unfolding read_lines
read_lines_lem bs ps h = go (first_fault (header_checks bs)) refl
  where
    go : (f : Option Refusal) → first_fault (header_checks bs) ≡ f → Lines (lines_of ps)
    go (some r) q = absurd (taken_or_refused ps r (rw (q, read_lines) at h))
    go none q =
        let r = read_records_lem booths_allowed bs 3 ps (rw (q, read_lines) at h) in
        record { some_booth = r.some (header_length bs q); few_booths = r.few; good = r.good }

-- ---- the log

-- an entry that passes its checks: all its bytes are there, it is in range, and not earlier than the one before
pub record EntryPassed (ls : List Line) (H before : ℕ) (bs : List ℕ) (at : ℕ) : Type 0 where
  pub whole : at + entry_bytes ≤ length bs
  pub good : GoodEntry ls H (entry_at bs at)
  pub later : before ≤ (entry_at bs at).tick

pub entry_passed : (ls : List Line) (H before : ℕ) (bs : List ℕ) (at : ℕ) → first_fault (entry_checks ls H before bs at) ≡ none → EntryPassed ls H before bs at
unfolding entry_checks refuse_if
entry_passed ls H before bs at h =
    let p = no_fault (entry_checks ls H before bs at) h in
    let e = entry_at bs at in
    let jobs = longest_jobs ls e.booth in
    let (late, early) = neither (leb H e.tick) (ltb e.tick before) p.1.1.0 in
    let (no_demand_lem, much) = neither (eqb e.demand 0) (ltb (get_or jobs e.task 0) e.demand) p.1.1.1.1.1.0 in
    record {
      whole = ltb-false (length bs) (at + entry_bytes) p.1.0;
      good = record {
        tick = leb-false H e.tick late;
        booth = leb-false (length ls) e.booth p.1.1.1.0;
        task = leb-false (length jobs) e.task p.1.1.1.1.0;
        some_demand = positive e.demand (eqb-false e.demand 0 no_demand_lem);
        demand = ltb-false (get_or jobs e.task 0) e.demand much;
      };
      later = ltb-false e.tick before early;
    }

with_entry_lem : (e : Entry) (t : Taken (List Entry)) (es : List Entry) → with_entry e t ≡ taken es → (fs : List Entry) × (t ≡ taken fs) × (e ∷ fs ≡ es)
unfolding with_entry
with_entry_lem e (taken fs) es h = (fs, refl, taken_once (e ∷ fs) es h)
with_entry_lem e (refused r) es h = absurd (taken_or_refused es r h)

-- entries read from a place on after one at the tick `before`, with room for so many: they lie there one behind the other to the last byte
pub record Entries (room : ℕ) (ls : List Line) (H before : ℕ) (bs : List ℕ) (at : ℕ) (es : List Entry) : Type 0 where
  pub few : length es ≤ room
  pub good : All (GoodEntry ls H) es
  pub after : From before es
  pub sorted : Sorted es
  pub whole : length bs ≡ at + entry_bytes * length es
  pub each : (i : ℕ) → i < length es → get_or es i no_entry ≡ entry_at bs (at + entry_bytes * i)

no_entries : (room : ℕ) (ls : List Line) (H before : ℕ) (bs : List ℕ) (at : ℕ) → length bs ≡ at → Entries room ls H before bs at []
no_entries room ls H before bs at e =
    record { few = omega arith; good = tt; after = tt; sorted = tt; whole = omega arith; each = λ i h. absurd (not-suc-le-zero h) }

from_earlier : (s t : ℕ) (es : List Entry) → s ≤ t → From t es → From s es
from_earlier s t [] h f = tt
from_earlier s t (e ∷ es) h f = (omega (arith, f.0), from_earlier s t es h f.1)

-- one entry before those
one_more : (room : ℕ) (ls : List Line) (H before : ℕ) (bs : List ℕ) (at : ℕ) (es : List Entry) → EntryPassed ls H before bs at
    → Entries room ls H (entry_at bs at).tick bs (at + entry_bytes) es → Entries (suc room) ls H before bs at (entry_at bs at ∷ es)
one_more room ls H before bs at es p r =
    record {
      few = omega (arith, r.few);
      good = (p.good, r.good);
      after = (p.later, from_earlier before (entry_at bs at).tick es p.later r.after);
      sorted = (r.after, r.sorted);
      whole = omega (arith, r.whole);
      each = each;
    }
  where
    each : (i : ℕ) → i < suc (length es) → get_or (entry_at bs at ∷ es) i no_entry ≡ entry_at bs (at + entry_bytes * i)
    each zero h = ap (entry_at bs) (omega arith)
    each (suc i) h = r.each i (le_of_suc-le-suc h) ∙ ap (entry_at bs) (omega arith)

read_entries_lem : (room : ℕ) (ls : List Line) (H before : ℕ) (bs : List ℕ) (at : ℕ) (es : List Entry) → at ≤ length bs → read_entries room ls H before bs at ≡ taken es
    → Entries room ls H before bs at es
unfolding read_entries
read_entries_lem zero ls H before bs at es inside h = go (leb (length bs) at) refl
  where
    go : (c : Bool) → leb (length bs) at ≡ c → Entries 0 ls H before bs at es
    go true q = subst (Entries 0 ls H before bs at) (taken_once [] es (rw (q, read_entries) at h)) (no_entries 0 ls H before bs at (omega (arith, leb-true (length bs) at q)))
    go false q = absurd (taken_or_refused es _ (rw (q, read_entries) at h))
read_entries_lem (suc room) ls H before bs at es inside h =
    go (λ fs. read_entries_lem room ls H e.tick bs (at + entry_bytes) fs) (leb (length bs) at) refl (first_fault (entry_checks ls H before bs at)) refl
  where
    e : Entry
    e = entry_at bs at

    rest : Taken (List Entry)
    rest = read_entries room ls H e.tick bs (at + entry_bytes)

    Rest : Type 0
    Rest = (fs : List Entry) → at + entry_bytes ≤ length bs → rest ≡ taken fs → Entries room ls H e.tick bs (at + entry_bytes) fs

    more : Rest → first_fault (entry_checks ls H before bs at) ≡ none → (fs : List Entry) × (rest ≡ taken fs) × (e ∷ fs ≡ es) → Entries (suc room) ls H before bs at es
    more ih f (fs, x, y) =
        let p = entry_passed ls H before bs at f in
        subst (Entries (suc room) ls H before bs at) y (one_more room ls H before bs at fs p (ih fs p.whole x))

    go : Rest → (c : Bool) → leb (length bs) at ≡ c → (f : Option Refusal) → first_fault (entry_checks ls H before bs at) ≡ f → Entries (suc room) ls H before bs at es
    go ih true q f p =
        subst (Entries (suc room) ls H before bs at) (taken_once [] es (rw (q, read_entries) at h))
        (no_entries (suc room) ls H before bs at (omega (arith, leb-true (length bs) at q)))
    go ih false q (some r) p = absurd (taken_or_refused es r (rw p at (rw (q, read_entries) at h)))
    go ih false q none p = more ih p (with_entry_lem e rest es (rw p at (rw (q, read_entries) at h)))

-- a log over the lines of its table: H up to 1,000,000, at most 4,096 entries in order, each in range, as they lie in the log's bytes
pub record LogRead (ls : List Line) (bs : List ℕ) (log : Log) : Type 0 where
  pub ticks : log.horizon ≡ log_h bs
  pub short : log.horizon ≤ longest_session
  pub few_entries : length log.entries ≤ entries_allowed
  pub good : All (GoodEntry ls log.horizon) log.entries
  pub sorted : Sorted log.entries
  pub whole : length bs ≡ 9 + entry_bytes * length log.entries
  pub each : (i : ℕ) → i < length log.entries → get_or log.entries i no_entry ≡ entry_at bs (9 + entry_bytes * i)

header_passed : (bs : List ℕ) → first_fault (log_head_checks bs ++ horizon_checks bs) ≡ none → (9 ≤ length bs) × (log_h bs ≤ longest_session)
unfolding head_checks horizon_checks refuse_if
header_passed bs h =
    let p = no_fault (log_head_checks bs ++ horizon_checks bs) h in (
      omega (arith, ltb-false (length bs) (5 + log_n bs) p.1.1.1.0, ltb-false (log_n bs) 4 p.1.1.1.1.1.0),
      ltb-false longest_session (log_h bs) p.1.1.1.1.1.1.1.0,
    )

pub read_log_lem : (ls : List Line) (bs : List ℕ) (log : Log) → read_log ls bs ≡ taken log → LogRead ls bs log
unfolding read_log with_horizon
read_log_lem ls bs log h = go (first_fault (log_head_checks bs ++ horizon_checks bs)) refl (read_entries entries_allowed ls (log_h bs) 0 bs 9) refl
  where
    go : (f : Option Refusal) → first_fault (log_head_checks bs ++ horizon_checks bs) ≡ f → (t : Taken (List Entry)) → read_entries entries_allowed ls (log_h bs) 0 bs 9 ≡ t → LogRead ls bs log
    go (some r) q t p = absurd (taken_or_refused log r (rw (q, read_log) at h))
    go none q (refused r) p = absurd (taken_or_refused log r (rw p at (rw (q, read_log) at h)))
    go none q (taken es) p =
        let r = read_entries_lem entries_allowed ls (log_h bs) 0 bs 9 es (header_passed bs q).0 p in
        subst (LogRead ls bs) (taken_once (record { horizon = log_h bs; entries = es }) log (rw p at (rw (q, read_log) at h)))
        (record {
          ticks = refl;
          short = (header_passed bs q).1;
          few_entries = r.few;
          good = r.good;
          sorted = r.sorted;
          whole = r.whole;
          each = r.each;
        })
