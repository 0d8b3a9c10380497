-- What is known of the bytes of a log that the rules take. Assumes nothing.
use mathlib.Core.Path.{◌≡◌, sym, ap, ◌∙◌, subst}
use mathlib.Core.List.{List}
use Prim.Native.Nat.{ℕ, ◌-◌, ◌/◌, ◌<◌}
use native.Mathlib.Omega.{arith}
use lib.ListN.{length, get_or, length-take}
use lib.Seq.{ext_get_or}
use Rattle.rules.specs.declared.Table.{Table}
use Rattle.base.specs.Refusals.{taken}
use Rattle.rules.specs.BoothTable.{Line}
use Rattle.rules.specs.ArrivalLog.{Log, entry_at, longest_jobs, read_log}
use Rattle.rules.specs.Values.{line_held, lines_held, no_held_line}
use Rattle.laws.specs.Statements.{GoodEntry, no_entry}
use Rattle.laws.specs.Ordered.{Sorted}
use Rattle.laws.proofs.Readers.{all_at, LogRead, read_log_lem}
use Rattle.rules.proofs.Fitting.{line_in}
use Rattle.arrivals.specs.Places.{entries_from, entries_of, log_of, Place, WholeLog}
use Rattle.arrivals.proofs.PlaceLaws.{length_from, from_at, place_index}

module _ (ls : List Line) (bs : List ℕ) (log : Log) (read : read_log ls bs ≡ taken log) where
  known : LogRead ls bs log
  known = read_log_lem ls bs log read

  -- its entries are those that lie in its bytes
  pub entries_are : log.entries ≡ entries_of bs
  unfolding entries_of
  entries_are =
      let n : (length bs - 9) / 9 ≡ length log.entries = omega (arith, known.whole) in
      ext_get_or no_entry log.entries (entries_from ((length bs - 9) / 9) bs 9) (sym (length_from ((length bs - 9) / 9) bs 9 ∙ n))
      (λ i l. known.each i l ∙ sym (from_at ((length bs - 9) / 9) bs 9 i no_entry (omega arith)))

  pub log_is : log ≡ log_of log.horizon bs
  unfolding log_of
  log_is = ap (λ es. record { horizon = log.horizon; entries = es }) entries_are

  pub entry_good : (at : ℕ) → Place bs at → at < length bs → GoodEntry ls log.horizon (entry_at bs at)
  entry_good at p l =
      let (i, q) = place_index bs at (length log.entries) known.whole p l in
      subst (GoodEntry ls log.horizon) (known.each ((at - 9) / 9) i ∙ ap (entry_at bs) q) (all_at (GoodEntry ls log.horizon) log.entries no_entry known.good ((at - 9) / 9) i)

  pub whole_log : WholeLog bs
  unfolding entries_of
  whole_log =
      record {
        header = omega (arith, known.whole);
        short = omega (arith, known.whole, known.few_entries);
        whole = omega (arith, known.whole);
        demands = λ at p l. (entry_good at p l).some_demand;
        sorted = subst Sorted entries_are known.sorted;
      }

-- an entry's task is one of its booth's
pub task_fits : (t : Table) (bs : List ℕ) (log : Log) → read_log (lines_held t) bs ≡ taken log → (j at : ℕ) → j < t.booths → Place bs at → at < length bs
    → (entry_at bs at).booth ≡ j → (entry_at bs at).task < (get_or t.lines j no_held_line).tasks
unfolding longest_jobs line_held
task_fits t bs log read j at h p l e =
    omega (
      arith,
      (entry_good (lines_held t) bs log read at p l).task,
      ap (λ b. length (longest_jobs (lines_held t) b)) e,
      ap (λ x. length x.longest) (line_in t j h),
      length-take (get_or t.lines j no_held_line).tasks (get_or t.lines j no_held_line).longest,
    )
