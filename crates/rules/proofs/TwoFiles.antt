-- The two files by cases: which of them refuses, or what both hold. Assumes nothing.
use mathlib.Core.Path.{◌≡◌, refl, sym, ap, ◌∙◌}
use mathlib.Core.Logic.{◌≢◌}
use mathlib.Core.List.{List}
use Prim.Native.Nat.{ℕ}
use native.Mathlib.Omega.{arith}
use Rattle.base.specs.Refusals.{Refusal, Taken, taken, refused}
use Rattle.rules.specs.Verdicts.{Nothing, TheTable, TheLog, Verdict, refused_as}
use Rattle.rules.specs.BoothTable.{Line}
use Rattle.rules.specs.ArrivalLog.{Log, read_log}
use Rattle.rules.specs.Admission.{read_table}
use Rattle.rules.specs.Files.{TwoFiles, both_taken, one_refused, read_files}

module _ (table_bytes log_bytes : List ℕ) where
  pub table_refused : (r : Refusal) → read_table table_bytes ≡ refused r → read_files table_bytes log_bytes ≡ one_refused (refused_as TheTable r)
  unfolding read_files
  table_refused r e = rw (e, read_files)

  pub log_refused : (ls : List Line) (r : Refusal) → read_table table_bytes ≡ taken ls → read_log ls log_bytes ≡ refused r → read_files table_bytes log_bytes ≡ one_refused (refused_as TheLog r)
  unfolding read_files
  log_refused ls r q e = rw (q, read_files) (rw e)

  pub both_taken_lem : (ls : List Line) (log : Log) → read_table table_bytes ≡ taken ls → read_log ls log_bytes ≡ taken log → read_files table_bytes log_bytes ≡ both_taken ls log
  unfolding read_files
  both_taken_lem ls log q e = rw (q, read_files) (rw e)

  -- what is read, and how it came so
  pub data Came : TwoFiles → Type 0 where
    by_table : (r : Refusal) → read_table table_bytes ≡ refused r → Came (one_refused (refused_as TheTable r))
    by_log : (ls : List Line) (r : Refusal) → read_table table_bytes ≡ taken ls → read_log ls log_bytes ≡ refused r → Came (one_refused (refused_as TheLog r))
    by_both : (ls : List Line) (log : Log) → read_table table_bytes ≡ taken ls → read_log ls log_bytes ≡ taken log → Came (both_taken ls log)

  pub came : Came (read_files table_bytes log_bytes)
  came = the_table (read_table table_bytes) refl
    where
      the_log : (ls : List Line) → read_table table_bytes ≡ taken ls → (t : Taken Log) → read_log ls log_bytes ≡ t → Came (read_files table_bytes log_bytes)
      the_log ls q (refused r) e = rw (log_refused ls r q e) (by_log ls r q e)
      the_log ls q (taken log) e = rw (both_taken_lem ls log q e) (by_both ls log q e)

      the_table : (t : Taken (List Line)) → read_table table_bytes ≡ t → Came (read_files table_bytes log_bytes)
      the_table (refused r) q = rw (table_refused r q) (by_table r q)
      the_table (taken ls) q = the_log ls q (read_log ls log_bytes) refl

-- a verdict that refuses a file is no acceptance
pub one_refused_lem : (table_bytes log_bytes : List ℕ) (v : Verdict) → read_files table_bytes log_bytes ≡ one_refused v → v.refused ≢ Nothing
unfolding refused_as
one_refused_lem table_bytes log_bytes v e n = go (read_files table_bytes log_bytes) e (came table_bytes log_bytes)
  where
    go : (f : TwoFiles) → f ≡ one_refused v → Came table_bytes log_bytes f → ⊥
    go _ q (by_table r x) =
        let same : record { refused = TheTable; refusal = r } ≡ v = cc in
        let z : ◌≡◌ {A = ℕ} 0 1 = cc (ap (λ w. w.refused) same) in omega arith
    go _ q (by_log ls r x y) =
        let same : record { refused = TheLog; refusal = r } ≡ v = cc in
        let z : ◌≡◌ {A = ℕ} 0 1 = cc (ap (λ w. w.refused) same) in omega arith
    go _ q (by_both ls log x y) = let z : ◌≡◌ {A = ℕ} 0 1 = cc in omega arith

-- files that are both taken were read one after the other
pub read_in_turn : (table_bytes log_bytes : List ℕ) (ls : List Line) (log : Log) → read_files table_bytes log_bytes ≡ both_taken ls log
    → (read_table table_bytes ≡ taken ls) × (read_log ls log_bytes ≡ taken log)
read_in_turn table_bytes log_bytes ls log e = go (read_files table_bytes log_bytes) e (came table_bytes log_bytes)
  where
    go : (f : TwoFiles) → f ≡ both_taken ls log → Came table_bytes log_bytes f → (read_table table_bytes ≡ taken ls) × (read_log ls log_bytes ≡ taken log)
    go _ q (by_table r x) = let z : ◌≡◌ {A = ℕ} 0 1 = cc in absurd (omega arith)
    go _ q (by_log ms r x y) = let z : ◌≡◌ {A = ℕ} 0 1 = cc in absurd (omega arith)
    go _ q (by_both ms l x y) =
        let same : ms ≡ ls = cc in
        let logs : l ≡ log = cc in
        (x ∙ ap taken same, ap (λ m. read_log m log_bytes) (sym same) ∙ y ∙ ap taken logs)
