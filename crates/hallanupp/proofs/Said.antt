-- What is said in C, from what the called functions said: of a table, of two files, of a row, of a panel row. Assumes nothing.
use mathlib.Core.Path.{◌≡◌, refl, sym, ap, ◌∙◌}
use mathlib.Core.Logic.{◌≢◌}
use mathlib.Core.List.{List}
use mathlib.Core.Option.{Option, none, some}
use Prim.Native.Nat.{ℕ}
use native.Mathlib.Omega.{arith}
use Rattle.base.specs.declared.Refusal.{Refusal as HeldRefusal}
use Rattle.base.specs.Refusals.{Refusal, Taken, taken, refused, first_fault, said}
use Rattle.rules.specs.declared.Refused.{Refused}
use Rattle.rules.specs.declared.Refused.TheVariants.{Table, Log, Call}
use Rattle.rules.specs.Verdicts.{Verdict, Nothing, accepted, refused_as, verdict_said}
use Rattle.rules.specs.BoothTable.{Line}
use Rattle.rules.specs.Admission.{read_table}
use Rattle.rules.specs.Files.{one_refused, read_files, files_verdict}
use Rattle.rules.specs.Panel.{no_panel, panel_checks, panel}
use Rattle.files.specs.declared.Files.{Files}
use Rattle.files.specs.FilesTaken.{FilesTaken}
use Rattle.panel.proofs.Cases.{panel_bad_table, panel_refused, panel_shown, row_accepted}
use Rattle.hallanupp.specs.VerdictInC.{table_verdict}

module _ (table_bytes : List ℕ) where
  pub table_refused : (r : HeldRefusal) → read_table table_bytes ≡ refused (said r) → table_verdict table_bytes ≡ verdict_said (Table r)
  unfolding table_verdict verdict_said
  table_refused r e = rw (e, table_verdict)

  pub table_taken : (ls : List Line) → read_table table_bytes ≡ taken ls → table_verdict table_bytes ≡ accepted
  unfolding table_verdict
  table_taken ls e = rw (e, table_verdict)

module _ (table_bytes log_bytes : List ℕ) where
  pub files_refused : (v : Verdict) → read_files table_bytes log_bytes ≡ one_refused v → files_verdict table_bytes log_bytes ≡ v
  unfolding files_verdict
  files_refused v e = rw (e, files_verdict)

  pub files_taken : (f : Files) → FilesTaken table_bytes log_bytes f → files_verdict table_bytes log_bytes ≡ accepted
  unfolding files_verdict
  files_taken f k = rw (k.read, files_verdict)

-- what is refused is not nothing
pub refuses : (why : Refused) → (verdict_said why).refused ≢ Nothing
unfolding verdict_said refused_as
refuses (Table r) e = let z : ◌≡◌ {A = ℕ} 0 1 = cc in omega arith
refuses (Log r) e = let z : ◌≡◌ {A = ℕ} 0 1 = cc in omega arith
refuses (Call r) e = let z : ◌≡◌ {A = ℕ} 0 1 = cc in omega arith

-- a panel row with a refusing verdict is the one without shares
pub panel_none : (table wall : List ℕ) (booth t : ℕ) (v : Verdict) → v ≡ (panel table wall booth t).verdict → v.refused ≢ Nothing → panel table wall booth t ≡ no_panel v
unfolding no_panel accepted
panel_none table wall booth t v e bad = go (read_table table) refl
  where
    this : (w : Verdict) → panel table wall booth t ≡ no_panel w → panel table wall booth t ≡ no_panel v
    this w q = q ∙ ap no_panel (sym (e ∙ ap (λ p. p.verdict) q))

    read : (ls : List Line) → read_table table ≡ taken ls → (o : Option Refusal) → first_fault (panel_checks ls wall booth t) ≡ o → panel table wall booth t ≡ no_panel v
    read ls q none f = absurd (bad (ap (λ w. w.refused) (e ∙ ap (λ p. p.verdict) (panel_shown table wall booth t ls q f) ∙ row_accepted _ _ _)))
    read ls q (some r) f = this _ (panel_refused table wall booth t ls q r f)

    go : (a : Taken (List Line)) → read_table table ≡ a → panel table wall booth t ≡ no_panel v
    go (refused r) q = this _ (panel_bad_table table wall booth t r q)
    go (taken ls) q = read ls q (first_fault (panel_checks ls wall booth t)) refl
