-- Sessions computed from their bytes: the audition, and those of rule-edits/ on which a wrong rule breaks a law.
use Rattle.std.specs.Prelude.{◌≡◌, List, [], ℕ}
use Rattle.base.specs.Bytes
use Rattle.base.specs.Refusals
use Rattle.base.specs.Refusals.{taken, refused}
use Rattle.rules.specs.Verdicts
use Rattle.rules.specs.Verdicts.{accepted}
use Rattle.rules.specs.FileHead
use Rattle.rules.specs.BoothTable
use Rattle.rules.specs.BoothTable.{Line}
use Rattle.rules.specs.ArrivalLog
use Rattle.rules.specs.ArrivalLog.{Log, read_log}
use Rattle.rules.specs.Admission
use Rattle.rules.specs.Admission.{read_table}
use Rattle.rules.specs.Files
use Rattle.rules.specs.Due
use Rattle.rules.specs.Moves
use Rattle.rules.specs.Session
use Rattle.rules.specs.Session.{session}
use Rattle.rules.specs.SoloPart
use Rattle.laws.specs.Statements.{Accepted}

-- to unfold this is to unfold every definition that a session or a solo part is computed with
unfoldable pub computing : Unit {0}
unfolding
    Bytes.big_endian Bytes.number_at Bytes.written
    Refusals.refusal Refusals.refuse_if Refusals.first_fault Verdicts.accepted Verdicts.refused_as
    FileHead.head_n FileHead.head_checks BoothTable.no_line BoothTable.header_checks BoothTable.jobs_at BoothTable.record_l BoothTable.record_end BoothTable.line_at BoothTable.placed_at
    BoothTable.length_allowed BoothTable.some_zero BoothTable.line_checks BoothTable.record_checks BoothTable.with_placed BoothTable.read_records BoothTable.read_lines
    Admission.rounded_up Admission.asked_above Admission.some_up_to Admission.passes Admission.first_failing Admission.read_table
    ArrivalLog.log_h ArrivalLog.horizon_checks ArrivalLog.entry_at ArrivalLog.longest_jobs ArrivalLog.entry_checks
    ArrivalLog.with_entry ArrivalLog.read_entries ArrivalLog.with_horizon ArrivalLog.read_log Files.read_files
    Due.due Due.release_point
    Moves.no_demand Moves.add_demand Moves.is_ready Moves.add_ready Moves.still_waiting Moves.gather Moves.earlier Moves.earliest_point Moves.move_to
    Moves.settle_rounds Moves.settle Moves.may_work Moves.first_task Moves.lose_one Moves.work Moves.worker Moves.turn Moves.settle_all Moves.play Moves.play_ticks
    Session.own_entries Session.fresh_booth Session.open_booths Session.settled_at Session.count Session.worked_from Session.write_rows Session.nothing_done
    Session.buffer_checks Session.played Session.session
    SoloPart.asked SoloPart.first_that SoloPart.solo
computing = tt

-- the lines and the log that bytes are read as
abbrev pub table_computed : List ℕ → List Line
table_computed table = elim (read_table table) [ taken ls ↦ ls | refused r ↦ [] ]

abbrev pub log_computed : List Line → List ℕ → Log
log_computed ls log = elim (read_log ls log) [ taken l ↦ l | refused r ↦ record { horizon = 0; entries = [] } ]

-- a session by its bytes, where computing shows that it is accepted
unfoldable pub by_bytes : (table log wall own : List ℕ) → (session table log wall own).verdict ≡ accepted → read_table table ≡ taken (table_computed table)
    → read_log (table_computed table) log ≡ taken (log_computed (table_computed table) log) → Accepted
by_bytes table log wall own a t l =
    record {
      table_bytes = table;
      log_bytes = log;
      wall_lent = wall;
      own_lent = own;
      accepts = a;
      table = table_computed table;
      log = log_computed (table_computed table) log;
      table_read = t;
      log_read = l;
    }
