-- From an accepted table and log to the answer: how the run begins, and what is left when it has ended. Assumes nothing.
use mathlib.Core.Path.{◌≡◌, refl, sym, ap, ◌∙◌, subst}
use mathlib.Core.List.{List, [], map}
use Prim.Native.Nat.{ℕ, ◌*◌, ◌≤◌, ◌<◌}
use native.Mathlib.Nat.{zero-add}
use native.Mathlib.Omega.{arith}
use lib.ListN.{length, get_or, take, length-map}
use Rattle.rules.specs.declared.Table.{Table}
use Rattle.rules.specs.Verdicts.{Verdict}
use Rattle.base.specs.Refusals.{taken}
use Rattle.rules.specs.BoothTable.{Line, no_line}
use Rattle.rules.specs.ArrivalLog.{Log, read_log}
use Rattle.rules.specs.Moves.{Booth, nobody}
use Rattle.rules.specs.Session.{own_entries, fresh_booth, open_booths, settled_at, count, worked_from, write_rows, played, Outcome, nothing_done, session}
use Rattle.rules.specs.Values.{padded, line_held, lines_held, no_held_line}
use Rattle.rules.proofs.Fitting.{lines_in, line_in}
use Rattle.laws.proofs.Run.{open_at, length_booths}
use Rattle.laws.specs.Courses.{nobooth}
use Rattle.laws.proofs.Course.{begins, closes, closed}
use Rattle.booth.specs.declared.Booth.{Booth as HeldBooth}
use Rattle.rules.specs.Admission.{read_table}
use Rattle.rules.proofs.Held.{zeros}
use Rattle.files.specs.declared.Files.{Files}
use Rattle.files.specs.FilesTaken.{FilesTaken}
use Rattle.rules.proofs.TwoFiles.{read_in_turn}
use Rattle.laws.specs.Statements.{Accepted as Session}
use Rattle.laws.proofs.Answered.{answers, as_read as read_as}
use Rattle.session.specs.SessionAnswered.{answered}
use Rattle.session.proofs.ByCases.{plays}
use Rattle.session.specs.declared.SessionAnswer.{SessionAnswer}
use Rattle.engine.specs.declared.Stage.{Stage}
use Rattle.arrivals.specs.Places.{entries_of, log_of}
use Rattle.engine.specs.Running.{nowhere, Same, Alike, Running, OpenedTo, Ready, Through, Ending, Ended, Playable}
use Rattle.engine.proofs.Engine.{shown_same, clocks_are, worked_are}

-- an answer with these figures
abbrev pub made : ℕ → ℕ → List ℕ → List ℕ → ℕ → SessionAnswer
made H n clocks worked idle =
    record { horizon = H; booths = n; clocks = clocks; worked = worked; idle = idle }

made_same : {n m : ℕ} {c d w v : List ℕ} {i j : ℕ} (H : ℕ) → n ≡ m → c ≡ d → w ≡ v → i ≡ j → made H n c w i ≡ made H m d v j
made_same {n} {m} {c} {d} {w} {v} {i} {j} H p q r s =
    ap (λ x. made H x c w i) p ∙ ap (λ x. made H m x w i) q ∙ ap (λ x. made H m d x i) r ∙ ap (λ x. made H m d v x) s

module _ (table : Table) (bs wall own : List ℕ) (H : ℕ) (p : Playable table bs wall own H) (hs : List HeldBooth) (o : OpenedTo table.booths table.lines bs hs) where
  n : ℕ
  n = table.booths

  pub few : table.booths ≤ 8
  few = p.opening.fit.lines.few

  pub counted : length (lines_held table) ≡ table.booths
  counted = lines_in table p.opening.fit

  pub room : length (lines_held table) * H ≤ length own
  room = omega (arith, ap (λ m. m * H) counted, p.own_room)

  promised : (j : ℕ) → j < table.booths → (line_held (get_or table.lines j no_held_line)).promise ≡ (get_or hs j nowhere).promise
  unfolding line_held
  promised j l = sym (o.promise j l)

  opens : (j : ℕ) → j < table.booths
      → get_or (open_booths 0 (lines_held table) (entries_of bs)) j nobooth ≡ fresh_booth (line_held (get_or table.lines j no_held_line)) (own_entries j (entries_of bs))
  opens j l =
      open_at 0 (lines_held table) (entries_of bs) j (omega (arith, counted))
      ∙ ap (λ k. fresh_booth (get_or (lines_held table) j no_line) (own_entries k (entries_of bs))) (zero-add j)
      ∙ ap (λ x. fresh_booth x (own_entries j (entries_of bs))) (line_in table j l)

  pub same : (j : ℕ) → j < table.booths → Same bs (get_or hs j nowhere) (get_or (open_booths 0 (lines_held table) (entries_of bs)) j nobooth)
  same j l =
      (shown_same (line_held (get_or table.lines j no_held_line)) bs (get_or hs j nowhere) _ [] (promised j l) (o.fresh j l [] ∙ sym (opens j l))).0

  abbrev pub ready : Ready table.booths H hs bs wall own
  ready =
      record {
        lines = lines_held table;
        set = record { count = counted; few = few; ticks = p.ticks; log = p.opening.log; room = p.own_room; as_read = p.as_read };
        wall_room = p.wall_room;
        running = record {
          booths = open_booths 0 (lines_held table) (entries_of bs);
          course = begins (lines_held table) (entries_of bs) p.as_read H wall own p.wall_room room;
          alike = record {
            size = o.size;
            fit = λ j l. o.fit j (omega (arith, counted));
            number = λ j l. o.number j (omega (arith, counted));
            same = λ j l. same j (omega (arith, counted));
          };
          wakes_eight = refl;
          worked_eight = refl;
          others = λ j l. zeros 8 j;
        };
      }

  module _ (s : Stage) (wall₁ own₁ : List ℕ) (ran : Through (lines_held table) H bs wall own s wall₁ own₁) (kept : length own₁ ≡ length own) where
    abbrev running : Running (lines_held table) H bs wall own H ran.asked s.booths ran.wakes s.worked s.idle wall₁ own₁
    running = ran.running

    abbrev pub ended : Ended table.booths H s.booths bs own₁
    ended =
        record {
          lines = lines_held table;
          wall₀ = wall;
          own₀ = own;
          set = ready.set;
          wall_room = p.wall_room;
          same_length = kept;
          ending = record {
            booths = running.booths;
            closing =
                closes (lines_held table) (entries_of bs) p.as_read H wall own p.wall_room room ran.asked running.booths ran.wakes s.worked s.idle wall₁ own₁ running.course;
            alike = running.alike;
          };
        }

    module _ (last : List HeldBooth) (own₂ clocks : List ℕ) (e : Ending (lines_held table) H bs wall own table.booths last own₂)
        (noted : clocks ≡ padded 8 0 (map (λ h. h.clock.0) (take table.booths last))) where
      final : e.booths ≡ (settled_at H (lines_held table) (entries_of bs)).booths
      final =
          closed (lines_held table) (entries_of bs) p.as_read H wall own p.wall_room room table.booths e.booths own₂ e.closing (sym counted)

      size : length e.booths ≡ table.booths
      size = e.closing.few ∙ counted

      clocks_is : clocks ≡ padded 8 0 (map (λ b. b.u) (settled_at H (lines_held table) (entries_of bs)).booths)
      clocks_is =
          noted
          ∙ ap (padded 8 0) (clocks_are bs table.booths last e.booths (subst (λ m. Alike bs m last e.booths) counted e.alike) few size)
          ∙ ap (λ x. padded 8 0 (map (λ b. b.u) x)) final

      worked_is : s.worked ≡ padded 8 0 (worked_from 0 (length (lines_held table)) (settled_at H (lines_held table) (entries_of bs)).wall)
      worked_is =
          worked_are s.worked (settled_at H (lines_held table) (entries_of bs)).wall table.booths few running.worked_eight
          (λ j l. running.course.worked_is j (omega (arith, counted))) (λ j l. running.others j (omega (arith, counted)))
          ∙ ap (λ m. padded 8 0 (worked_from 0 m (settled_at H (lines_held table) (entries_of bs)).wall)) (sym (lines_in table p.opening.fit))

      idle_is : s.idle ≡ count nobody (settled_at H (lines_held table) (entries_of bs)).wall
      idle_is = running.course.idle_is

      booths_is : table.booths ≡ length (map (λ (b : Booth). b.u) (settled_at H (lines_held table) (entries_of bs)).booths)
      booths_is =
          sym (length-map (settled_at H (lines_held table) (entries_of bs)).booths (λ b. b.u) ∙ length_booths (lines_held table) (entries_of bs) H ∙ lines_in table p.opening.fit)

      pub answer_is : made H table.booths clocks s.worked s.idle ≡ answered (played (lines_held table) (log_of H bs) wall own)
      unfolding answered played log_of
      answer_is = made_same H booths_is clocks_is worked_is idle_is

      pub wall_is : wall₁ ≡ (played (lines_held table) (log_of H bs) wall own).wall
      unfolding played log_of
      wall_is = running.course.wall_is

      pub own_is : own₂ ≡ (played (lines_held table) (log_of H bs) wall own).own
      unfolding played log_of
      own_is = e.closing.rows ∙ ap (λ x. write_rows H 0 x own) final

-- ---- the session's own answer

-- a refusal: its verdict, and no lent byte changed
pub refused_all : (o : Outcome) (v : Verdict) (wall own : List ℕ) → o ≡ nothing_done v wall own → (v ≡ o.verdict) × ((wall ≡ o.wall) × (own ≡ o.own))
unfolding nothing_done
refused_all o v wall own e = (sym (ap (λ x. x.verdict) e), (sym (ap (λ x. x.wall) e), sym (ap (λ x. x.own) e)))

module _ (table_bytes log_bytes wall own : List ℕ) (f : Files) (k : FilesTaken table_bytes log_bytes f) where
  abbrev H : ℕ
  H = f.horizon

  abbrev ls : List Line
  ls = lines_held f.table

  log : Log
  log = log_of H log_bytes

  read : (read_table table_bytes ≡ taken ls) × (read_log ls log_bytes ≡ taken log)
  unfolding log
  read = read_in_turn table_bytes log_bytes ls log k.read

  module _ (wall_room : H ≤ length wall) (own_room : f.table.booths * H ≤ length own) where
    own_fits : length ls * H ≤ length own
    own_fits = omega (arith, ap (λ m. m * H) (lines_in f.table k.fit))

    whole : Session
    unfolding log log_of
    whole =
        record {
          table_bytes = table_bytes;
          log_bytes = log_bytes;
          wall_lent = wall;
          own_lent = own;
          accepts = answers table_bytes log_bytes wall own ls log read.0 read.1 wall_room own_fits;
          table = ls;
          log = log;
          table_read = read.0;
          log_read = read.1;
        }

    pub playable : Playable f.table log_bytes wall own H
    unfolding whole log log_of
    playable =
        record {
          opening = record {
            fit = k.fit;
            log = k.whole;
            own = k.tasks;
          };
          as_read = read_as whole;
          ticks = k.short;
          wall_room = wall_room;
          own_room = own_room;
        }

    pub plays_it : session table_bytes log_bytes wall own ≡ played ls (log_of H log_bytes) wall own
    unfolding log_of
    plays_it = plays table_bytes log_bytes wall own ls (log_of H log_bytes) k.read wall_room own_fits
