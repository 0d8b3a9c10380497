-- What is known of a session that was not refused. Assumes nothing.
use mathlib.Core.Path.{◌≡◌, refl, sym, ap, ◌∙◌}
use mathlib.Core.Bool.{Bool, true, false}
use mathlib.Core.List.{List}
use Prim.Native.Nat.{ℕ, ◌*◌, ◌≤◌}
use native.Mathlib.Omega.{arith}
use lib.Dec.{ltb}
use lib.ListN.{length, length-map}
use borrow.Author.Tests.{ltb-true, ltb-false}
use Rattle.rules.specs.Verdicts.{Refused, Nothing, TheCall, Verdict, refused_as}
use Rattle.base.specs.Refusals.{Refusal}
use Rattle.rules.specs.BoothTable.{Line}
use Rattle.rules.specs.ArrivalLog.{Log}
use Rattle.rules.specs.Files.{TwoFiles, both_taken, one_refused, read_files}
use Rattle.rules.proofs.TwoFiles.{one_refused_lem, read_in_turn}
use Rattle.rules.specs.Session.{Outcome, settled_at, nothing_done, played, session}
use Rattle.laws.proofs.Run.{length_booths}
use Rattle.laws.proofs.Admitted.{table_lines}
use Rattle.session.proofs.ByCases.{files_refused, wall_short, own_short, plays}

-- a session that was not refused fits the wall record, and has at most eight booths
pub record Fits (wall : List ℕ) (o : Outcome) : Type 0 where
  pub short : o.ticks ≤ length wall
  pub few : length o.clocks ≤ 8

module _ (table log wall own : List ℕ) where
  abbrev Given : Refused → Type 0
  Given w = (session table log wall own).verdict.refused ≡ w

  -- what is refused as something is not refused as nothing
  unlike : (v : Verdict) → (v.refused ≡ Nothing → ⊥) → session table log wall own ≡ nothing_done v wall own → Given Nothing → ⊥
  unfolding nothing_done
  unlike v apart e h = apart (sym (ap (λ o. o.verdict.refused) e) ∙ h)

  unlike_call : (r : Refusal) → session table log wall own ≡ nothing_done (refused_as TheCall r) wall own → Given Nothing → ⊥
  unfolding refused_as
  unlike_call r = unlike (refused_as TheCall r) (λ e. let z : ◌≡◌ {A = ℕ} 0 1 = cc in omega arith)

  module _ (h : Given Nothing) where
    Fitting : Type 0
    Fitting = Fits wall (session table log wall own)

    played_fits : (ls : List Line) (l : Log) → read_files table log ≡ both_taken ls l → l.horizon ≤ length wall → length ls * l.horizon ≤ length own → Fitting
    unfolding played Fitting
    played_fits ls l q w o =
        let (t, p) = read_in_turn table log ls l q in
        record {
          short = omega (arith, ap (λ o. o.ticks) (plays table log wall own ls l q w o), w);
          few =
              omega (
                arith,
                ap (λ o. length o.clocks) (plays table log wall own ls l q w o),
                length-map (settled_at l.horizon ls l.entries).booths (λ b. b.u),
                length_booths ls l.entries l.horizon,
                (table_lines table ls t).few_booths,
              );
        }

    pub fits : Fits wall (session table log wall own)
    unfolding Fitting
    fits = go (read_files table log) refl
      where
        the_own : (ls : List Line) (l : Log) → read_files table log ≡ both_taken ls l → l.horizon ≤ length wall → (b : Bool) → ltb (length own) (length ls * l.horizon) ≡ b → Fitting
        the_own ls l q w true e = absurd (unlike_call _ (own_short table log wall own ls l q w (ltb-true (length own) (length ls * l.horizon) e)) h)
        the_own ls l q w false e = played_fits ls l q w (ltb-false (length own) (length ls * l.horizon) e)

        the_wall : (ls : List Line) (l : Log) → read_files table log ≡ both_taken ls l → (b : Bool) → ltb (length wall) l.horizon ≡ b → Fitting
        the_wall ls l q true e = absurd (unlike_call _ (wall_short table log wall own ls l q (ltb-true (length wall) l.horizon e)) h)
        the_wall ls l q false e = the_own ls l q (ltb-false (length wall) l.horizon e) (ltb (length own) (length ls * l.horizon)) refl

        go : (f : TwoFiles) → read_files table log ≡ f → Fitting
        go (one_refused v) q = absurd (unlike v (one_refused_lem table log v q) (files_refused table log wall own v q) h)
        go (both_taken ls l) q = the_wall ls l q (ltb (length wall) l.horizon) refl
