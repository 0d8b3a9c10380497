-- Which numbers the readers of table and log can say: never 0, and 7 only of admission. Assumes nothing.
use mathlib.Core.List.{List, [], ◌++◌}
use mathlib.Core.Option.{Option, none, some}
use Prim.Native.Nat.{ℕ, zero, suc, ◌+◌, ◌<◌}
use native.Mathlib.Omega.{arith}
use lib.Dec.{leb}
use lib.ListN.{length, get_or}
use Rattle.base.specs.Refusals.{Taken, taken, refused, refuse_if, refusal, not_admitted}
use Rattle.base.proofs.Checks.{Refuses, checks_say, end_says}
use Rattle.rules.specs.FileHead.{head_checks}
use Rattle.rules.specs.BoothTable.{Line, Placed, lines_of, starts_of, booths_allowed, record_end, placed_at, line_checks, record_checks, with_placed, read_records, header_checks, read_lines}
use Rattle.rules.specs.ArrivalLog.{Entry, entry_bytes, entries_allowed, entry_at, entry_checks, log_head_checks, horizon_checks, log_h, with_entry, with_horizon, read_entries, read_log}
use Rattle.rules.specs.Admission.{first_failing, read_table}

-- some number is said
abbrev pub Some : ℕ → Type 0
Some n = 0 < n

-- and it is one of the table's bytes
abbrev pub BeforeAdmission : ℕ → Type 0
BeforeAdmission n = (0 < n) × (n < not_admitted)

-- ---- the table

with_placed_lem : (p : Placed) (t : Taken (List Placed)) → Refuses BeforeAdmission t → Refuses BeforeAdmission (with_placed p t)
unfolding with_placed
with_placed_lem p (taken ps) h = tt
with_placed_lem p (refused r) h = h

records_say : (room : ℕ) (bs : List ℕ) (at : ℕ) → Refuses BeforeAdmission (read_records room bs at)
unfolding read_records
records_say zero bs at = end_says BeforeAdmission (leb (length bs) at) _ (unfold refusal in omega arith)
records_say (suc room) bs at =
    end_says BeforeAdmission (leb (length bs) at) _
    (checks_say BeforeAdmission (record_checks bs at) _ (unfold record_checks line_checks refuse_if refusal in omega arith)
    (with_placed_lem (placed_at bs at) _ (records_say room bs (record_end bs at))))

pub lines_say : (bs : List ℕ) → Refuses BeforeAdmission (read_lines bs)
unfolding read_lines
lines_say bs = checks_say BeforeAdmission (header_checks bs) _ (unfold header_checks head_checks refuse_if refusal in omega arith) (records_say booths_allowed bs 3)

pub table_says : (bs : List ℕ) → Refuses Some (read_table bs)
unfolding read_table refusal
table_says bs = go (read_lines bs) (lines_say bs)
  where
    admission : (ps : List Placed) (f : Option ℕ)
        → Refuses {A = List Line} Some (elim f [ some i ↦ refused (refusal not_admitted (get_or (starts_of ps) i 0)) | none ↦ taken (lines_of ps) ])
    admission ps none = tt
    admission ps (some i) = omega arith

    go : (t : Taken (List Placed)) → Refuses BeforeAdmission t
        → Refuses {A = List Line} Some (elim t [
          | refused r ↦ refused r
          | taken ps ↦ elim (first_failing 0 [] (lines_of ps)) [ some i ↦ refused (refusal not_admitted (get_or (starts_of ps) i 0)) | none ↦ taken (lines_of ps) ]
        ])
    go (refused r) h = h.0
    go (taken ps) h = admission ps (first_failing 0 [] (lines_of ps))

-- ---- the log

with_entry_lem : (e : Entry) (t : Taken (List Entry)) → Refuses Some t → Refuses Some (with_entry e t)
unfolding with_entry
with_entry_lem e (taken es) h = tt
with_entry_lem e (refused r) h = h

with_horizon_lem : (H : ℕ) (t : Taken (List Entry)) → Refuses Some t → Refuses Some (with_horizon H t)
unfolding with_horizon
with_horizon_lem H (taken es) h = tt
with_horizon_lem H (refused r) h = h

module _ (ls : List Line) (bs : List ℕ) where
  entries_say : (room H before at : ℕ) → Refuses Some (read_entries room ls H before bs at)
  unfolding read_entries
  entries_say zero H before at = end_says Some (leb (length bs) at) _ (unfold refusal in omega arith)
  entries_say (suc room) H before at =
      end_says Some (leb (length bs) at) _
      (checks_say Some (entry_checks ls H before bs at) _ (unfold entry_checks refuse_if refusal in omega arith)
      (with_entry_lem (entry_at bs at) _ (entries_say room H (entry_at bs at).tick (at + entry_bytes))))

  pub log_says : Refuses Some (read_log ls bs)
  unfolding read_log
  log_says =
      checks_say Some (log_head_checks bs ++ horizon_checks bs) _ (unfold head_checks horizon_checks refuse_if refusal in omega arith)
      (with_horizon_lem (log_h bs) _ (entries_say entries_allowed (log_h bs) 0 9))
