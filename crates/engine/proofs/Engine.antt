-- The engine's steps: what its loops keep. Assumes nothing.
use mathlib.Core.Path.{◌≡◌, refl, sym, ap, ◌∙◌, subst}
use mathlib.Core.Bool.{true, false}
use mathlib.Core.List.{List, ◌++◌, map}
use Prim.Native.Nat.{ℕ, zero, suc, ◌+◌, ◌-◌, ◌*◌, ◌≤◌, ◌<◌}
use native.Mathlib.Decide.{ℕ_discrete, dec_le}
use native.Mathlib.Nat.{zero-add, mul-le-mul_right}
use native.Mathlib.Numerals.{add-one}
use native.Mathlib.Nat.{add-zero}
use native.Mathlib.Omega.{arith}
use lib.ListN.{length-append, length, get_or, take, drop, set, replicate, length-set, length-take, length-drop, length-map, take-append-drop}
use lib.Seq.{drop-set-lt, get_or-set_same, get_or-set_other, length-take-le, ext_get_or, get_or-take, get_or-append-add}
use Rattle.rules.specs.BoothTable.{Line}
use Rattle.rules.specs.Due.{due}
use Rattle.rules.specs.Moves.{Booth, settle, may_work, work}
use Rattle.rules.specs.declared.Line.{Line as HeldLine}
use Rattle.rules.specs.Session.{own_entries, fresh_booth, settled_at, write_rows, count, worked_from}
use Rattle.rules.specs.Values.{padded, line_held, no_held_line}
use Rattle.rules.proofs.Counting.{count_most}
use Rattle.rules.proofs.Held.{zeros, map_take, length_padded, get_or_padded, set_padded}
use Rattle.laws.specs.Courses.{AsRead, ShortRows, nobooth, Kept}
use Rattle.laws.proofs.WallRecord.{worked_at, length_worked, length_wall}
use Rattle.laws.proofs.DueLaws.{due_mono, due_at_most}
use Rattle.laws.proofs.Run.{get_d_map}
use Rattle.laws.proofs.RowSlices.{slice_of}
use Rattle.rules.proofs.Held.{at_set}
use Rattle.laws.proofs.Course.{nobody_works, sleeps, passed_over, plays, closes_one}
use Rattle.arrivals.specs.Places.{waiting_at, WholeLog}
use Rattle.std.specs.Prelude.{Some}
use Rattle.booth.specs.declared.Asked.{Asked}
use Rattle.booth.specs.declared.Booth.{Booth as HeldBooth}
use Rattle.booth.specs.BoothHeld.{owed, ToSettle, AfterSettle, AfterAsk, first_number, goes_with, played_on, shown, asked, wakes_at, Fit}
use Rattle.booth.proofs.Working.{asleep_until}
use Rattle.booth.proofs.OneTurn.{played_clock, goes_with_first, goes_on_asks, goes_on_after, goes_on_shown, goes_on_works}
use Rattle.arrivals.specs.Places.{entries_of}
use Rattle.engine.specs.declared.Course.{Course as HeldCourse}
use Rattle.engine.specs.Running.{nowhere, Same, Alike, Running, Going, Midway, Ending, Ended, OpenedTo}

-- ---- what a held booth shows

same_shown : (bs : List ℕ) (h : HeldBooth) (b : Booth) (part : List ℕ) → Same bs h b → b.row ≡ take h.clock.0 part → shown b.line bs h part ≡ b
unfolding shown
same_shown bs h b part s r =
    ap (λ u. record { line = b.line; u = u; left = take h.tasks (owed h); waiting = waiting_at bs h.number h.at; row = take h.clock.0 part }) (sym s.clock)
    ∙ ap (λ x. record { line = b.line; u = b.u; left = x; waiting = waiting_at bs h.number h.at; row = take h.clock.0 part }) (sym s.left)
    ∙ ap (λ x. record { line = b.line; u = b.u; left = b.left; waiting = x; row = take h.clock.0 part }) (sym s.waiting)
    ∙ ap (λ x. record { line = b.line; u = b.u; left = b.left; waiting = b.waiting; row = x }) (sym r)

pub shown_same : (l : Line) (bs : List ℕ) (h : HeldBooth) (b : Booth) (part : List ℕ) → l.promise ≡ h.promise → shown l bs h part ≡ b → Same bs h b × (b.row ≡ take h.clock.0 part)
unfolding shown
shown_same l bs h b part q e = (
  record {
    promise = sym (ap (λ x. x.line.promise) e) ∙ q;
    clock = sym (ap (λ x. x.u) e);
    left = sym (ap (λ x. x.left) e);
    waiting = sym (ap (λ x. x.waiting) e);
  },
  sym (ap (λ x. x.row) e),
)

-- the part of the own record that a move leaves: the booth's row, then what it held
part_is : (l : Line) (bs : List ℕ) (h : HeldBooth) (b : Booth) (part old : List ℕ) → l.promise ≡ h.promise → shown l bs h part ≡ b
    → drop h.clock.0 part ≡ drop h.clock.0 old → h.clock.0 ≤ length part → part ≡ b.row ++ drop (length b.row) old
part_is l bs h b part old q e rest short =
    let row : b.row ≡ take h.clock.0 part = (shown_same l bs h b part q e).1 in
    let size : length b.row ≡ h.clock.0 = ap length row ∙ length-take-le h.clock.0 part short in
    sym (take-append-drop h.clock.0 part)
    ∙ ap (λ x. x ++ drop h.clock.0 part) (sym row)
    ∙ ap (λ x. b.row ++ x) rest
    ∙ ap (λ n. b.row ++ drop n old) (sym size)

-- a booth that was asked sleeps until it wakes
asleep : (l : Line) (bs : List ℕ) (h : HeldBooth) (b : Booth) (part : List ℕ) (t w : ℕ) → l.promise ≡ h.promise → WholeLog bs → Fit bs h → h.clock.0 ≤ due h.promise t → w ≡ wakes_at h
    → shown l bs h part ≡ b → (s : ℕ) → t ≤ s → s < w → may_work s (settle s b) ≡ false
asleep l bs h b part t w q log fit cap is e s le early =
    let later = due_mono h.promise fit.steady.sound t s le in
    ap (λ x. may_work s (settle s x)) (sym e) ∙ asleep_until l bs h part s q log fit (omega arith) (omega arith)

-- ---- one booth changed

alike_set : (bs : List ℕ) (n i : ℕ) (hs : List HeldBooth) (booths : List Booth) (h : HeldBooth) (b : Booth) → Alike bs n hs booths → n ≤ length booths → n ≤ 8 → i < n
    → Fit bs h → h.number ≡ i → Same bs h b → Alike bs n (set hs i h) (set booths i b)
alike_set bs n i hs booths h b a long few there f number same =
    record {
      size = length-set hs i h ∙ a.size;
      fit = λ j l. at_set hs i j h nowhere (Fit bs) (omega (arith, a.size)) (λ e. f) (λ e. a.fit j l);
      number = λ j l. at_set hs i j h nowhere (λ x. x.number ≡ j) (omega (arith, a.size)) (λ e. number ∙ sym e) (λ e. a.number j l);
      same = λ j l. both j l (ℕ_discrete j i);
    }
  where
    both : (j : ℕ) → j < n → Dec (j ≡ i) → Same bs (get_or (set hs i h) j nowhere) (get_or (set booths i b) j nobooth)
    both j l (yes e) =
        subst (λ x. Same bs x (get_or (set booths i b) j nobooth)) (sym (ap (λ k. get_or (set hs i h) k nowhere) e ∙ get_or-set_same hs i h nowhere (omega (arith, a.size))))
        (subst (Same bs h) (sym (ap (λ k. get_or (set booths i b) k nobooth) e ∙ get_or-set_same booths i b nobooth (omega arith))) same)
    both j l (no e) =
        subst (λ x. Same bs x (get_or (set booths i b) j nobooth)) (sym (get_or-set_other hs i j h nowhere e))
        (subst (Same bs (get_or hs j nowhere)) (sym (get_or-set_other booths i j b nobooth e)) (a.same j l))

turn_rests : (t : ℕ) (b : Booth) → may_work t (settle t b) ≡ false → asked t b ≡ settle t b
unfolding asked
turn_rests t b q = rw (q, asked)

turn_works : (t : ℕ) (b : Booth) → may_work t (settle t b) ≡ true → asked t b ≡ work (settle t b)
unfolding asked
turn_works t b q = rw (q, asked)

-- ---- the steps of the engine

module _ (ls : List Line) (H : ℕ) (bs wall₀ own₀ : List ℕ) (as_read : AsRead ls (entries_of bs)) (few : length ls ≤ 8) (wall_room : H ≤ length wall₀)
    (own_room : length ls * H ≤ length own₀) where
  -- the part of the own record that is lent to booth i's moves shows the booth
  lent_part : (i : ℕ) (hs : List HeldBooth) (booths : List Booth) (own : List ℕ) → Alike bs (length ls) hs booths → i < length ls → length booths ≡ length ls
      → length (get_or booths i nobooth).row ≡ (get_or booths i nobooth).u → ShortRows H booths → own ≡ write_rows H 0 booths own₀
      → shown (get_or booths i nobooth).line bs (get_or hs i nowhere) (take H (drop (i * H) own)) ≡ get_or booths i nobooth
  lent_part i hs booths own a there n size short rows =
      let b = get_or booths i nobooth in
      let same = a.same i there in
      same_shown bs (get_or hs i nowhere) b (take H (drop (i * H) own)) same
      (sym (ap (λ o. take (length b.row) (take H (drop (i * H) o))) rows ∙ slice_of H booths own₀ nobooth i short (omega (arith, n)) (rw n own_room))
      ∙ ap (λ m. take m (take H (drop (i * H) own))) (size ∙ same.clock))

  module _ (t i : ℕ) (hs : List HeldBooth) (wakes worked : List ℕ) (idle : ℕ) (wall own : List ℕ) (r : Running ls H bs wall₀ own₀ t i hs wakes worked idle wall own) where
    kept : (j : ℕ) → j < length ls → Kept ls (entries_of bs) t j (get_or r.booths j nobooth) (get_or wakes j 0)
    kept j l = r.course.booth j l

    pub shown_part : i < length ls → shown (get_or r.booths i nobooth).line bs (get_or hs i nowhere) (take H (drop (i * H) own)) ≡ get_or r.booths i nobooth
    shown_part there = lent_part i hs r.booths own r.alike there r.course.few (kept i there).size r.course.short r.course.rows

    -- nobody works at t
    pub run_nobody : i ≡ length ls → t < H → Running ls H bs wall₀ own₀ (suc t) 0 hs wakes worked (suc idle) (set wall t 255) own
    run_nobody all h =
        record {
          booths = r.booths;
          course = nobody_works ls (entries_of bs) as_read H wall₀ own₀ wall_room own_room t i r.booths wakes worked idle wall own r.course all h;
          alike = r.alike;
          wakes_eight = r.wakes_eight;
          worked_eight = r.worked_eight;
          others = r.others;
        }

    -- booth i sleeps
    pub run_sleeps : i < length ls → t < get_or wakes i 0 → Running ls H bs wall₀ own₀ t (suc i) hs wakes worked idle wall own
    run_sleeps there h =
        record {
          booths = r.booths;
          course = sleeps ls (entries_of bs) as_read H wall₀ own₀ wall_room own_room t i r.booths wakes worked idle wall own r.course there h;
          alike = r.alike;
          wakes_eight = r.wakes_eight;
          worked_eight = r.worked_eight;
          others = r.others;
        }

    -- booth i was asked: a and part are what it leaves
    module _ (there : i < length ls) (log : WholeLog bs) (a : Asked) (part : List ℕ) (after : AfterAsk bs t (get_or hs i nowhere) a)
        (state : (l : Line) → l.promise ≡ (get_or hs i nowhere).promise → shown l bs a.booth part ≡ asked t (shown l bs (get_or hs i nowhere) (take H (drop (i * H) own))))
        (may : (l : Line) → l.promise ≡ (get_or hs i nowhere).promise → a.worked ≡ may_work t (settle t (shown l bs (get_or hs i nowhere) (take H (drop (i * H) own)))))
        (rest : drop a.booth.clock.0 part ≡ drop a.booth.clock.0 (take H (drop (i * H) own))) (long : length part ≡ H) (short : a.booth.clock.0 ≤ H) where
      h : HeldBooth
      h = a.booth

      b : Booth
      b = get_or r.booths i nobooth

      promise : (get_or r.booths i nobooth).line.promise ≡ (get_or hs i nowhere).promise
      promise = (r.alike.same i there).promise

      kept_promise : (get_or r.booths i nobooth).line.promise ≡ a.booth.promise
      kept_promise = promise ∙ sym after.stays.promise

      turned : shown (get_or r.booths i nobooth).line bs a.booth part ≡ asked t (get_or r.booths i nobooth)
      turned = state (get_or r.booths i nobooth).line promise ∙ ap (asked t) (shown_part there)

      works : a.worked ≡ may_work t (settle t (get_or r.booths i nobooth))
      works = may (get_or r.booths i nobooth).line promise ∙ ap (λ x. may_work t (settle t x)) (shown_part there)

      number : a.booth.number ≡ i
      number = after.stays.number ∙ r.alike.number i there

      -- in vain
      pub run_passed : t ≤ H → a.worked ≡ false
          → Running ls H bs wall₀ own₀ t (suc i) (set hs i a.booth) (set wakes i a.wakes.0) worked idle wall (take (i * H) own ++ (part ++ drop H (drop (i * H) own)))
      run_passed le rested =
          record {
            booths = set r.booths i (settle t (get_or r.booths i nobooth));
            course =
                passed_over ls (entries_of bs) as_read H wall₀ own₀ wall_room own_room t i r.booths wakes worked idle wall own r.course there le
                (omega (arith, r.wakes_eight)) (settle t (get_or r.booths i nobooth)) refl no a.wakes.0
                (asleep (get_or r.booths i nobooth).line bs a.booth (settle t (get_or r.booths i nobooth)) part t a.wakes.0 kept_promise log after.fit
                (subst (λ p. a.booth.clock.0 ≤ due p t) (sym after.stays.promise) (after.rests rested)) after.wakes now) part
                (part_is (get_or r.booths i nobooth).line bs a.booth (settle t (get_or r.booths i nobooth)) part (take H (drop (i * H) own)) kept_promise now rest (omega (arith, long)));
            alike =
                alike_set bs (length ls) i hs r.booths a.booth (settle t (get_or r.booths i nobooth)) r.alike (omega (arith, r.course.few)) few there after.fit number
                (shown_same (get_or r.booths i nobooth).line bs a.booth (settle t (get_or r.booths i nobooth)) part kept_promise now).0;
            wakes_eight = length-set wakes i a.wakes.0 ∙ r.wakes_eight;
            worked_eight = r.worked_eight;
            others = r.others;
          }
        where
          no : may_work t (settle t (get_or r.booths i nobooth)) ≡ false
          no = sym works ∙ rested

          now : shown (get_or r.booths i nobooth).line bs a.booth part ≡ settle t (get_or r.booths i nobooth)
          now = turned ∙ turn_rests t (get_or r.booths i nobooth) no

      -- and worked
      pub run_plays : t < H → a.worked ≡ true
          → Running ls H bs wall₀ own₀ (suc t) 0 (set hs i a.booth) (set wakes i a.wakes.0) (set worked i (suc (get_or worked i 0))) idle (set wall t i)
          (take (i * H) own ++ (part ++ drop H (drop (i * H) own)))
      run_plays less did =
          record {
            booths = set r.booths i (work (settle t (get_or r.booths i nobooth)));
            course =
                plays ls (entries_of bs) as_read H wall₀ own₀ wall_room own_room t i r.booths wakes worked idle wall own r.course there less
                (omega (arith, r.wakes_eight)) (omega (arith, r.worked_eight)) (settle t (get_or r.booths i nobooth)) refl yes a.wakes.0
                (asleep (get_or r.booths i nobooth).line bs a.booth (work (settle t (get_or r.booths i nobooth))) part (suc t) a.wakes.0 kept_promise log after.fit
                (subst (λ p. a.booth.clock.0 ≤ due p (suc t)) (sym after.stays.promise) after.cap) after.wakes now) part
                (part_is (get_or r.booths i nobooth).line bs a.booth (work (settle t (get_or r.booths i nobooth))) part (take H (drop (i * H) own)) kept_promise now rest (omega (arith, long)));
            alike =
                alike_set bs (length ls) i hs r.booths a.booth (work (settle t (get_or r.booths i nobooth))) r.alike (omega (arith, r.course.few)) few there after.fit number
                (shown_same (get_or r.booths i nobooth).line bs a.booth (work (settle t (get_or r.booths i nobooth))) part kept_promise now).0;
            wakes_eight = length-set wakes i a.wakes.0 ∙ r.wakes_eight;
            worked_eight = length-set worked i (suc (get_or worked i 0)) ∙ r.worked_eight;
            others = λ j l. get_or-set_other worked i j (suc (get_or worked i 0)) 0 (λ e. omega arith) ∙ r.others j l;
          }
        where
          yes : may_work t (settle t (get_or r.booths i nobooth)) ≡ true
          yes = sym works ∙ did

          now : shown (get_or r.booths i nobooth).line bs a.booth part ≡ work (settle t (get_or r.booths i nobooth))
          now = turned ∙ turn_works t (get_or r.booths i nobooth) yes

  -- ---- all booths settle at H

  module _ (i : ℕ) (hs : List HeldBooth) (own : List ℕ) (e : Ending ls H bs wall₀ own₀ i hs own) (there : i < length ls) where
    pub ending_part : shown (get_or e.booths i nobooth).line bs (get_or hs i nowhere) (take H (drop (i * H) own)) ≡ get_or e.booths i nobooth
    ending_part =
        lent_part i hs e.booths own e.alike there e.closing.few (e.closing.left i (omega arith) there).size e.closing.short e.closing.rows

    pub ends_one : (h : HeldBooth) (part : List ℕ) → AfterSettle bs H (get_or hs i nowhere) h → length part ≡ H → h.clock.0 ≤ H
        → ((l : Line) → l.promise ≡ (get_or hs i nowhere).promise → shown l bs h part ≡ settle H (shown l bs (get_or hs i nowhere) (take H (drop (i * H) own))))
        → drop h.clock.0 part ≡ drop h.clock.0 (take H (drop (i * H) own))
        → Ending ls H bs wall₀ own₀ (suc i) (set hs i h) (take (i * H) own ++ (part ++ drop H (drop (i * H) own)))
    ends_one h part after long short state rest =
        record {
          booths = set e.booths i (settle H (get_or e.booths i nobooth));
          closing =
              closes_one ls (entries_of bs) as_read H wall₀ own₀ wall_room own_room i e.booths own e.closing there (settle H (get_or e.booths i nobooth)) refl part
              (part_is (get_or e.booths i nobooth).line bs h (settle H (get_or e.booths i nobooth)) part (take H (drop (i * H) own)) promise now rest (omega (arith, long)));
          alike =
              alike_set bs (length ls) i hs e.booths h (settle H (get_or e.booths i nobooth)) e.alike (omega (arith, e.closing.few)) few there after.fit
              (after.stays.number ∙ e.alike.number i there) (shown_same (get_or e.booths i nobooth).line bs h (settle H (get_or e.booths i nobooth)) part promise now).0;
        }
      where
        same : Same bs (get_or hs i nowhere) (get_or e.booths i nobooth)
        same = e.alike.same i there

        promise : (get_or e.booths i nobooth).line.promise ≡ h.promise
        promise = same.promise ∙ sym after.stays.promise

        now : shown (get_or e.booths i nobooth).line bs h part ≡ settle H (get_or e.booths i nobooth)
        now = state (get_or e.booths i nobooth).line same.promise ∙ ap (settle H) ending_part

-- ---- what is answered

pub clocks_are : (bs : List ℕ) (n : ℕ) (hs : List HeldBooth) (booths : List Booth) → Alike bs n hs booths → n ≤ 8 → length booths ≡ n
    → map (λ h. h.clock.0) (take n hs) ≡ map (λ b. b.u) booths
clocks_are bs n hs booths a few size =
    let short : length (take n hs) ≡ n = length-take-le n hs (omega (arith, a.size)) in
    ext_get_or 0 (map (λ h. h.clock.0) (take n hs)) (map (λ b. b.u) booths)
    (length-map (take n hs) (λ h. h.clock.0) ∙ short ∙ sym (length-map booths (λ b. b.u) ∙ size))
    (λ j l.
    let there : j < n = omega (arith, length-map (take n hs) (λ h. h.clock.0), short) in
    get_d_map (λ h. h.clock.0) (take n hs) j nowhere 0 (omega arith)
    ∙ ap (λ h. h.clock.0) (get_or-take n hs j nowhere there)
    ∙ sym (a.same j there).clock
    ∙ sym (get_d_map (λ b. b.u) booths j nobooth 0 (omega (arith, size))))

padded_past : (xs : List ℕ) (n j : ℕ) → length xs ≤ j → get_or (padded n 0 xs) j 0 ≡ 0
unfolding padded
padded_past xs n j h =
    let e : j ≡ length xs + (j - length xs) = omega arith in
    ap (λ k. get_or (xs ++ replicate (n - length xs) 0) k 0) e ∙ get_or-append-add xs (replicate (n - length xs) 0) (j - length xs) 0 ∙ zeros (n - length xs) (j - length xs)

pub worked_are : (worked wall : List ℕ) (n : ℕ) → n ≤ 8 → length worked ≡ 8 → ((j : ℕ) → j < n → get_or worked j 0 ≡ count j wall) → ((j : ℕ) → n ≤ j → get_or worked j 0 ≡ 0)
    → worked ≡ padded 8 0 (worked_from 0 n wall)
worked_are worked wall n few eight counted others =
    let size : length (worked_from 0 n wall) ≡ n = length_worked 0 n wall in
    ext_get_or 0 worked (padded 8 0 (worked_from 0 n wall)) (eight ∙ sym (length_padded 8 0 (worked_from 0 n wall) (omega arith))) (λ j l. at j (dec_le n j))
  where
    at : (j : ℕ) → Dec (n ≤ j) → get_or worked j 0 ≡ get_or (padded 8 0 (worked_from 0 n wall)) j 0
    at j (yes e) = others j e ∙ sym (padded_past (worked_from 0 n wall) 8 j (omega (arith, length_worked 0 n wall)))
    at j (no e) =
        counted j (omega arith)
        ∙ ap (λ k. count k wall) (sym (zero-add j))
        ∙ sym (worked_at 0 n wall j (omega arith))
        ∙ sym (get_or_padded 8 0 (worked_from 0 n wall) j 0 (omega (arith, length_worked 0 n wall)))

-- ---- the steps of a session on its way

-- booth i's part lies inside the own record
pub row_inside : (i n H : ℕ) → i < n → i * H + H ≤ n * H
row_inside i n H h = omega (arith, mul-le-mul_right H h)

-- an own record with a part written back is as long as it was
length_back : (own part : List ℕ) (a w : ℕ) → a + w ≤ length own → length part ≡ w → length (take a own ++ (part ++ drop w (drop a own))) ≡ length own
length_back own part a w h e = simp (length-append, length-take, length-drop) (omega arith)

module _ {ls : List Line} {n H : ℕ} {bs wall₀ own₀ : List ℕ} {t i : ℕ} {hs : List HeldBooth} {wakes worked : List ℕ} {idle : ℕ} {wall own : List ℕ}
    (g : Going ls n H bs wall₀ own₀ t i hs wakes worked idle wall own) where
  abbrev r : Running ls H bs wall₀ own₀ t i hs wakes worked idle wall own
  r = g.running

  room : length ls * H ≤ length own₀
  room = omega (arith, ap (λ m. m * H) g.set.count, g.own_room, g.own_length)

  lent : H ≤ length wall₀
  lent = omega (arith, g.wall_room, g.wall_length)

  few : length ls ≤ 8
  few = omega (arith, g.set.count, g.few)

  pub going_nobody : i ≡ n → t < H → Going ls n H bs wall₀ own₀ (t + 1) 0 hs wakes worked (idle + 1) (set wall t 255) own
  going_nobody all h =
      record {
        early = omega arith;
        within = omega arith;
        few = g.few;
        ticks = g.ticks;
        wall_room = omega (arith, length-set wall t 255, g.wall_room);
        own_room = g.own_room;
        wall_length = length-set wall t 255 ∙ g.wall_length;
        own_length = g.own_length;
        set = g.set;
        running =
            subst (λ s. Running ls H bs wall₀ own₀ s 0 hs wakes worked (idle + 1) (set wall t 255) own) (sym (add-one t))
            (subst (λ k. Running ls H bs wall₀ own₀ (suc t) 0 hs wakes worked k (set wall t 255) own) (sym (add-one idle))
            (run_nobody ls H bs wall₀ own₀ g.set.as_read few lent room t i hs wakes worked idle wall own r (all ∙ sym g.set.count) h));
        idle_small = omega (arith, g.idle_small);
      }

  there : i < n → i < length ls
  there e = omega (arith, g.set.count)

  pub going_sleeps : i < n → t < get_or wakes i 0 → Going ls n H bs wall₀ own₀ t (i + 1) hs wakes worked idle wall own
  going_sleeps e h =
      record {
        early = g.early;
        within = omega (arith, g.within);
        few = g.few;
        ticks = g.ticks;
        wall_room = g.wall_room;
        own_room = g.own_room;
        wall_length = g.wall_length;
        own_length = g.own_length;
        set = g.set;
        running =
            subst (λ s. Running ls H bs wall₀ own₀ t s hs wakes worked idle wall own) (sym (add-one i))
            (run_sleeps ls H bs wall₀ own₀ g.set.as_read few lent room t i hs wakes worked idle wall own r (there e) h);
        idle_small = g.idle_small;
      }

  part_length : i < n → length (take H (drop (i * H) own)) ≡ H
  part_length e = length-take-le H (drop (i * H) own) (omega (arith, length-drop (i * H) own, row_inside i n H e, g.own_room))

  -- what a booth's turn asks
  pub turn_asks : i < n → t < H → (w : ℕ) → w ≡ H
      → WholeLog bs × Fit bs (get_or hs i nowhere) × (t < length (take w (drop (i * H) own))) × (length (take w (drop (i * H) own)) < 1000001)
      × ((get_or hs i nowhere).clock.0 ≤ due (get_or hs i nowhere).promise t)
  turn_asks e h w q =
      let same = r.alike.same i (there e) in
      let cap = (r.course.booth i (there e)).order.cap in
      let long = ap (λ m. length (take m (drop (i * H) own))) q ∙ part_length e in (
        g.set.log,
        r.alike.fit i (there e),
        omega arith,
        omega (arith, g.ticks),
        subst (λ p. (get_or hs i nowhere).clock.0 ≤ due p t) same.promise (omega (arith, same.clock)),
      )

  pub worked_fits : (k : ℕ) → k < n → get_or worked k 0 + 1 < 4294967296
  worked_fits k l =
      let small : get_or worked k 0 ≤ t =
      omega (arith, r.course.worked_is k (omega (arith, g.set.count)), count_most k (settled_at t ls (entries_of bs)).wall, length_wall ls (entries_of bs) t) in
      omega (arith, g.early, g.ticks)

  module _ (e : i < n) (less : t < H) (w : ℕ) (q : w ≡ H) (a : Asked) (part : List ℕ) (after : AfterAsk bs t (get_or hs i nowhere) a)
      (state : (l : Line) → l.promise ≡ (get_or hs i nowhere).promise → shown l bs a.booth part ≡ asked t (shown l bs (get_or hs i nowhere) (take w (drop (i * H) own))))
      (may : (l : Line) → l.promise ≡ (get_or hs i nowhere).promise → a.worked ≡ may_work t (settle t (shown l bs (get_or hs i nowhere) (take w (drop (i * H) own)))))
      (rest : drop a.booth.clock.0 part ≡ drop a.booth.clock.0 (take w (drop (i * H) own))) (long : length part ≡ length (take w (drop (i * H) own))) where
    state' : (l : Line) → l.promise ≡ (get_or hs i nowhere).promise → shown l bs a.booth part ≡ asked t (shown l bs (get_or hs i nowhere) (take H (drop (i * H) own)))
    state' l p = state l p ∙ ap (λ m. asked t (shown l bs (get_or hs i nowhere) (take m (drop (i * H) own)))) q

    may' : (l : Line) → l.promise ≡ (get_or hs i nowhere).promise → a.worked ≡ may_work t (settle t (shown l bs (get_or hs i nowhere) (take H (drop (i * H) own))))
    may' l p = may l p ∙ ap (λ m. may_work t (settle t (shown l bs (get_or hs i nowhere) (take m (drop (i * H) own))))) q

    rest' : drop a.booth.clock.0 part ≡ drop a.booth.clock.0 (take H (drop (i * H) own))
    rest' = rest ∙ ap (λ m. drop a.booth.clock.0 (take m (drop (i * H) own))) q

    long' : length part ≡ H
    long' = long ∙ ap (λ m. length (take m (drop (i * H) own))) q ∙ part_length e

    short : a.booth.clock.0 ≤ H
    short =
        let s = (r.alike.fit i (there e)).steady.sound in
        omega (arith, after.cap, due_at_most (get_or hs i nowhere).promise s (suc t))

    inside : i * H + H ≤ length own
    inside = omega (arith, row_inside i n H e, g.own_room)

    pub going_passed : a.worked ≡ false
        → Going ls n H bs wall₀ own₀ t (i + 1) (set hs i a.booth) (set wakes i a.wakes.0) worked idle wall (take (i * H) own ++ (part ++ drop w (drop (i * H) own)))
    going_passed rested =
        subst (λ m. Going ls n H bs wall₀ own₀ t (i + 1) (set hs i a.booth) (set wakes i a.wakes.0) worked idle wall (take (i * H) own ++ (part ++ drop m (drop (i * H) own)))) (sym q)
        (record {
          early = g.early;
          within = omega (arith, g.within);
          few = g.few;
          ticks = g.ticks;
          wall_room = g.wall_room;
          own_room = omega (arith, length_back own part (i * H) H inside long', g.own_room);
          wall_length = g.wall_length;
          own_length = length_back own part (i * H) H inside long' ∙ g.own_length;
          set = g.set;
          running =
              subst (λ s. Running ls H bs wall₀ own₀ t s (set hs i a.booth) (set wakes i a.wakes.0) worked idle wall (take (i * H) own ++ (part ++ drop H (drop (i * H) own)))) (sym (add-one i))
              (run_passed ls H bs wall₀ own₀ g.set.as_read few lent room t i hs wakes worked idle wall own r (there e) g.set.log a part after state' may' rest' long' short g.early rested);
          idle_small = g.idle_small;
        })

    pub going_plays : a.worked ≡ true
        → Going ls n H bs wall₀ own₀ (t + 1) 0 (set hs i a.booth) (set wakes i a.wakes.0) (set worked i (get_or worked i 0 + 1)) idle (set wall t i)
        (take (i * H) own ++ (part ++ drop w (drop (i * H) own)))
    going_plays did =
        subst (λ m. Going ls n H bs wall₀ own₀ (t + 1) 0 (set hs i a.booth) (set wakes i a.wakes.0) (set worked i (get_or worked i 0 + 1)) idle (set wall t i) (take (i * H) own ++ (part ++ drop m (drop (i * H) own)))) (sym q)
        (record {
          early = omega arith;
          within = omega arith;
          few = g.few;
          ticks = g.ticks;
          wall_room = omega (arith, length-set wall t i, g.wall_room);
          own_room = omega (arith, length_back own part (i * H) H inside long', g.own_room);
          wall_length = length-set wall t i ∙ g.wall_length;
          own_length = length_back own part (i * H) H inside long' ∙ g.own_length;
          set = g.set;
          running =
              subst (λ s. Running ls H bs wall₀ own₀ s 0 (set hs i a.booth) (set wakes i a.wakes.0) (set worked i (get_or worked i 0 + 1)) idle (set wall t i) (take (i * H) own ++ (part ++ drop H (drop (i * H) own)))) (sym (add-one t))
              (subst (λ m. Running ls H bs wall₀ own₀ (suc t) 0 (set hs i a.booth) (set wakes i a.wakes.0) (set worked i m) idle (set wall t i) (take (i * H) own ++ (part ++ drop H (drop (i * H) own)))) (sym (add-one (get_or worked i 0)))
              (run_plays ls H bs wall₀ own₀ g.set.as_read few lent room t i hs wakes worked idle wall own r (there e) g.set.log a part after state' may' rest' long' short less did));
          idle_small = omega (arith, g.idle_small);
        })

-- ---- the booths that sleep are passed over

-- so many idle ticks, counted another way
pub going_idle : {ls : List Line} {n H : ℕ} {bs wall₀ own₀ : List ℕ} {t i : ℕ} {hs : List HeldBooth} {wakes worked : List ℕ} {idle : ℕ} {wall own : List ℕ}
    → Going ls n H bs wall₀ own₀ t i hs wakes worked idle wall own → {k : ℕ} → idle ≡ k → Going ls n H bs wall₀ own₀ t i hs wakes worked k wall own
going_idle {ls} {n} {H} {bs} {wall₀} {own₀} {t} {i} {hs} {wakes} {worked} {idle} {wall} {own} g {k} e = subst (λ m. Going ls n H bs wall₀ own₀ t i hs wakes worked m wall own) e g

-- so many worked ticks, counted another way
pub going_worked : {ls : List Line} {n H : ℕ} {bs wall₀ own₀ : List ℕ} {t i : ℕ} {hs : List HeldBooth} {wakes worked : List ℕ} {idle : ℕ} {wall own : List ℕ}
    → Going ls n H bs wall₀ own₀ t i hs wakes worked idle wall own → {counts : List ℕ} → worked ≡ counts → Going ls n H bs wall₀ own₀ t i hs wakes counts idle wall own
going_worked {ls} {n} {H} {bs} {wall₀} {own₀} {t} {i} {hs} {wakes} {worked} {idle} {wall} {own} g {counts} e =
    subst (λ m. Going ls n H bs wall₀ own₀ t i hs wakes m idle wall own) e g

-- a booth that goes on plays, and leaves the part with its task written
module _ {ls : List Line} {n H : ℕ} {bs wall₀ own₀ : List ℕ} {t i : ℕ} {hs : List HeldBooth} {wakes worked : List ℕ} {idle : ℕ} {wall own : List ℕ}
    (g : Going ls n H bs wall₀ own₀ t i hs wakes worked idle wall own) (e : i < n) (less : t < H) (w : ℕ) (q : w ≡ H) where
  abbrev singer : HeldBooth
  singer = get_or hs i nowhere

  abbrev part₀ : List ℕ
  part₀ = take w (drop (i * H) own)

  pub going_on_plays : (k : ℕ) → goes_with t singer ≡ Some k → (played : HeldBooth) (part : List ℕ) → played ≡ played_on singer → part ≡ set part₀ singer.clock.0 k
      → Going ls n H bs wall₀ own₀ (t + 1) 0 (set hs i played) (set wakes i played.opens.from.0) (set worked i (get_or worked i 0 + 1)) idle (set wall t i)
      (take (i * H) own ++ (part ++ drop w (drop (i * H) own)))
  going_on_plays k goes played part is written =
      let asks = turn_asks g e less w q in
      let first = goes_with_first t singer k goes in
      let on = first.0 in
      let written_first : part ≡ set part₀ singer.clock.0 (first_number singer.first) = written ∙ ap (set part₀ singer.clock.0) (sym (ap first_number first.1)) in
      let inside = (goes_on_asks bs t singer part₀ k asks.1 asks.2 asks.3 asks.4 goes).inside in
      going_plays g e less w q (record { booth = played; wakes = played.opens.from; worked = true }) part
      (subst (λ (x : HeldBooth). AfterAsk bs t singer (record { booth = x; wakes = x.opens.from; worked = true })) (sym is) (goes_on_after bs t singer part₀ asks.0 asks.1 asks.4 inside on))
      (λ l p. ap (λ x. shown l bs x part) is ∙ ap (shown l bs (played_on singer)) written_first ∙ goes_on_shown bs t singer part₀ asks.0 asks.1 asks.4 inside on l p)
      (λ l p. goes_on_works bs t singer part₀ asks.0 asks.1 asks.4 inside on l p)
      (ap (drop played.clock.0) written ∙ drop-set-lt played.clock.0 part₀ singer.clock.0 k (omega (arith, clock is)))
      (ap length written ∙ length-set part₀ singer.clock.0 k) refl
    where
      clock : played ≡ played_on singer → played.clock.0 ≡ singer.clock.0 + 1
      clock p = ap (λ (x : HeldBooth). x.clock.0) p ∙ played_clock singer

-- booths that sleep are passed over, from any booth on
module _ {ls : List Line} {n H : ℕ} {bs wall₀ own₀ : List ℕ} {t : ℕ} {hs : List HeldBooth} {wakes worked : List ℕ} {idle : ℕ} {wall own : List ℕ} where
  pub going_on : (d i : ℕ) → Going ls n H bs wall₀ own₀ t i hs wakes worked idle wall own → i + d ≤ n → ((j : ℕ) → i ≤ j → j < i + d → t < get_or wakes j 0)
      → Going ls n H bs wall₀ own₀ t (i + d) hs wakes worked idle wall own
  going_on zero i g within asleep = subst (λ k. Going ls n H bs wall₀ own₀ t k hs wakes worked idle wall own) (sym (add-zero i)) g
  going_on (suc d) i g within asleep =
      let e : i + 1 + d ≡ i + suc d = omega arith in
      subst (λ k. Going ls n H bs wall₀ own₀ t k hs wakes worked idle wall own) e
      (going_on d (i + 1) (going_sleeps g (omega arith) (asleep i (omega arith) (omega arith))) (omega arith) (λ j m l. asleep j (omega arith) (omega arith)))

  pub going_asleep : Going ls n H bs wall₀ own₀ t 0 hs wakes worked idle wall own → ((j : ℕ) → j < n → t < get_or wakes j 0) → (k : ℕ) → k ≤ n
      → Going ls n H bs wall₀ own₀ t k hs wakes worked idle wall own
  going_asleep g asleep k l =
      let e : 0 + k ≡ k = omega arith in
      subst (λ m. Going ls n H bs wall₀ own₀ t m hs wakes worked idle wall own) e (going_on k 0 g (omega arith) (λ j m less. asleep j (omega arith)))

-- what the code holds of a session on its way
abbrev pub midway : {ls : List Line} {n H : ℕ} {bs wall₀ own₀ : List ℕ} {t i : ℕ} {worked : List ℕ} {idle : ℕ} {wall own : List ℕ} (c : HeldCourse)
    → Going ls n H bs wall₀ own₀ t i c.booths c.wakes worked idle wall own → Midway n H bs t i own c
midway {ls} {n} {H} {bs} {wall₀} {own₀} {t} {i} {worked} {idle} {wall} {own} c g =
    record { lines = ls; wall₀ = wall₀; own₀ = own₀; worked = worked; idle = idle; wall = wall; going = g }

-- ---- what the last loop keeps

module _ (n H : ℕ) (played : List HeldBooth) (bs own₁ : List ℕ) (i : ℕ) (hs : List HeldBooth) (own : List ℕ) (e : Ended n H played bs own₁)
    (ending : Ending e.lines H bs e.wall₀ e.own₀ i hs own) (less : i < n) (same : length own ≡ length own₁) where
  here : i < length e.lines
  here = omega (arith, e.set.count)

  own_room : n * H ≤ length own
  own_room = omega (arith, e.set.room, e.same_length)

  lines_room : length e.lines * H ≤ length e.own₀
  lines_room = omega (arith, ap (λ m. m * H) e.set.count, e.set.room)

  lines_few : length e.lines ≤ 8
  lines_few = omega (arith, e.set.count, e.set.few)

  last_part : length (take H (drop (i * H) own)) ≡ H
  last_part = length-take-le H (drop (i * H) own) (omega (arith, length-drop (i * H) own, row_inside i n H less, own_room))

  pub last_asks : (w : ℕ) → w ≡ H
      → ToSettle bs H (get_or hs i nowhere) (take w (drop (i * H) own))
  last_asks w q =
      let alike = ending.alike.same i here in
      let cap = (ending.closing.left i (omega arith) here).order.cap in record {
        log = e.set.log;
        fit = ending.alike.fit i here;
        early = omega (arith, e.set.ticks);
        room = omega (arith, ap (λ m. length (take m (drop (i * H) own))) q ∙ last_part);
        cap = subst (λ p. (get_or hs i nowhere).clock.0 ≤ due p H) alike.promise (omega (arith, alike.clock));
      }

  pub last_step : (w : ℕ) → w ≡ H → (h : HeldBooth) (part : List ℕ) → AfterSettle bs H (get_or hs i nowhere) h
      → ((l : Line) → l.promise ≡ (get_or hs i nowhere).promise → shown l bs h part ≡ settle H (shown l bs (get_or hs i nowhere) (take w (drop (i * H) own))))
      → drop h.clock.0 part ≡ drop h.clock.0 (take w (drop (i * H) own)) → length part ≡ length (take w (drop (i * H) own))
      → Ending e.lines H bs e.wall₀ e.own₀ (i + 1) (set hs i h) (take (i * H) own ++ (part ++ drop w (drop (i * H) own)))
  last_step w q h part after state rest long =
      let s = (ending.alike.fit i here).steady.sound in
      let short : h.clock.0 ≤ H = omega (arith, after.cap, due_at_most (get_or hs i nowhere).promise s H) in
      subst (λ m. Ending e.lines H bs e.wall₀ e.own₀ (i + 1) (set hs i h) (take (i * H) own ++ (part ++ drop m (drop (i * H) own)))) (sym q)
      (subst (λ k. Ending e.lines H bs e.wall₀ e.own₀ k (set hs i h) (take (i * H) own ++ (part ++ drop H (drop (i * H) own)))) (sym (add-one i))
      (ends_one e.lines H bs e.wall₀ e.own₀ e.set.as_read lines_few e.wall_room lines_room i hs own ending here h part after
      (long ∙ ap (λ m. length (take m (drop (i * H) own))) q ∙ last_part) short
      (λ l p. state l p ∙ ap (λ m. settle H (shown l bs (get_or hs i nowhere) (take m (drop (i * H) own)))) q) (rest ∙ ap (λ m. drop h.clock.0 (take m (drop (i * H) own))) q)))

  pub last_length : (w : ℕ) → w ≡ H → (part : List ℕ) → length part ≡ length (take w (drop (i * H) own)) → length (take (i * H) own ++ (part ++ drop w (drop (i * H) own))) ≡ length own₁
  last_length w q part long =
      ap (λ m. length (take (i * H) own ++ (part ++ drop m (drop (i * H) own)))) q
      ∙ length_back own part (i * H) H (omega (arith, row_inside i n H less, own_room)) (long ∙ ap (λ m. length (take m (drop (i * H) own))) q ∙ last_part)
      ∙ same

-- ---- the booths opened one after the other, and their clocks noted

waiting_all : (bs : List ℕ) (k : ℕ) → waiting_at bs k 9 ≡ own_entries k (entries_of bs)
unfolding waiting_at entries_of
waiting_all bs k = refl

pub one_opened : (j : ℕ) (lines : List HeldLine) (bs : List ℕ) (hs : List HeldBooth) → OpenedTo j lines bs hs → j < 8 → (h : HeldBooth) → Fit bs h → h.number ≡ j
    → h.promise ≡ (get_or lines j no_held_line).promise → ((row : List ℕ) → shown (line_held (get_or lines j no_held_line)) bs h row ≡ fresh_booth (line_held (get_or lines j no_held_line)) (waiting_at bs j 9)) → OpenedTo (j + 1) lines bs (set hs j h)
one_opened j lines bs hs o room h fit number promise fresh =
    record {
      size = length-set hs j h ∙ o.size;
      fit = λ k l. at_set hs j k h nowhere (Fit bs) inside (λ e. fit) (λ e. o.fit k (omega arith));
      number = λ k l. at_set hs j k h nowhere (λ x. x.number ≡ k) inside (λ e. number ∙ sym e) (λ e. o.number k (omega arith));
      promise = λ k l. at_set hs j k h nowhere (λ x. x.promise ≡ (get_or lines k no_held_line).promise) inside (λ e. promise ∙ ap (λ i. (get_or lines i no_held_line).promise) (sym e)) (λ e. o.promise k (omega arith));
      fresh = λ k l.
          at_set hs j k h nowhere (λ x. (row : List ℕ) → shown (line_held (get_or lines k no_held_line)) bs x row ≡ fresh_booth (line_held (get_or lines k no_held_line)) (own_entries k (entries_of bs))) inside
          (λ e.
          subst (λ i. (row : List ℕ) → shown (line_held (get_or lines i no_held_line)) bs h row ≡ fresh_booth (line_held (get_or lines i no_held_line)) (own_entries i (entries_of bs))) (sym e)
          (λ row. fresh row ∙ ap (fresh_booth (line_held (get_or lines j no_held_line))) (waiting_all bs j)))
          (λ e. o.fresh k (omega arith));
    }
  where
    inside : j < length hs
    inside = omega (arith, o.size)

pub one_clock : (hs : List HeldBooth) (i : ℕ) (clocks : List ℕ) → clocks ≡ padded 8 0 (map (λ h. h.clock.0) (take i hs)) → i < 8 → length hs ≡ 8
    → set clocks i (get_or hs i nowhere).clock.0 ≡ padded 8 0 (map (λ h. h.clock.0) (take (i + 1) hs))
one_clock hs i clocks is few eight =
    let noted = map (λ h. h.clock.0) (take i hs) in
    let size : length noted ≡ i = length-map (take i hs) (λ h. h.clock.0) ∙ length-take-le i hs (omega (arith, eight)) in
    ap (λ xs. set xs i (get_or hs i nowhere).clock.0) is
    ∙ ap (λ k. set (padded 8 0 noted) k (get_or hs i nowhere).clock.0) (sym size)
    ∙ set_padded 8 0 noted (get_or hs i nowhere).clock.0 (omega arith)
    ∙ ap (padded 8 0) (sym (map_take (λ h. h.clock.0) hs i nowhere (omega (arith, eight))))
