-- The session by cases: which file or lent record refuses it, or that it is played. Assumes nothing.
use mathlib.Core.Path.{◌≡◌, refl, sym, ap, ◌∙◌}
use mathlib.Core.Logic.{◌≢◌}
use mathlib.Core.List.{List}
use mathlib.Core.Option.{Option, none, some}
use Prim.Native.Nat.{ℕ, ◌*◌, ◌≤◌, ◌<◌}
use borrow.Author.Tests.{lt-ltb, le-ltb}
use lib.ListN.{length}
use Rattle.base.specs.Refusals.{Refusal, refusal, refuse_if, first_fault}
use Rattle.rules.specs.Verdicts.{Nothing, TheCall, Verdict, accepted, refused_as}
use Rattle.rules.specs.BoothTable.{Line}
use Rattle.rules.specs.ArrivalLog.{Log}
use Rattle.rules.specs.Files.{TwoFiles, both_taken, one_refused, read_files}
use Rattle.rules.specs.Session.{buffer_checks, nothing_done, played, session}

module _ (table_bytes log_bytes wall own : List ℕ) where
  pub files_refused : (v : Verdict) → read_files table_bytes log_bytes ≡ one_refused v → session table_bytes log_bytes wall own ≡ nothing_done v wall own
  unfolding session
  files_refused v e = rw (e, session)

  module _ (ls : List Line) (log : Log) (q : read_files table_bytes log_bytes ≡ both_taken ls log) where
    buffers : Option Refusal
    buffers = first_fault (buffer_checks (length ls) log.horizon wall own)

    call_refused : (r : Refusal) → buffers ≡ some r → session table_bytes log_bytes wall own ≡ nothing_done (refused_as TheCall r) wall own
    unfolding session buffers
    call_refused r e = rw (q, session) (rw e)

    pub wall_short : length wall < log.horizon → session table_bytes log_bytes wall own ≡ nothing_done (refused_as TheCall (refusal 11 0)) wall own
    unfolding buffers buffer_checks first_fault refuse_if
    wall_short h = call_refused (refusal 11 0) (rw (lt-ltb (length wall) log.horizon h))

    pub own_short : log.horizon ≤ length wall → length own < length ls * log.horizon → session table_bytes log_bytes wall own ≡ nothing_done (refused_as TheCall (refusal 11 0)) wall own
    unfolding buffers buffer_checks first_fault refuse_if
    own_short k h = call_refused (refusal 11 0) (rw (le-ltb (length wall) log.horizon k, lt-ltb (length own) (length ls * log.horizon) h))

    fits : log.horizon ≤ length wall → length ls * log.horizon ≤ length own → buffers ≡ none
    unfolding buffers buffer_checks first_fault refuse_if
    fits k h = rw (le-ltb (length wall) log.horizon k, le-ltb (length own) (length ls * log.horizon) h)

    pub plays : log.horizon ≤ length wall → length ls * log.horizon ≤ length own → session table_bytes log_bytes wall own ≡ played ls log wall own
    unfolding session buffers
    plays k h = rw (q, session) (rw (fits k h))

    -- whatever the buffers' checks find
    by_buffers : (o : Option Refusal) → buffers ≡ o → (v : Verdict) → v ≡ (session table_bytes log_bytes wall own).verdict → v.refused ≢ Nothing → session table_bytes log_bytes wall own ≡ nothing_done v wall own
    unfolding session buffers accepted played nothing_done
    by_buffers none f v e bad =
        let whole : session table_bytes log_bytes wall own ≡ played ls log wall own = rw (q, session) (rw f) in
        absurd (bad (ap (λ w. w.refused) (e ∙ ap (λ o. o.verdict) whole)))
    by_buffers (some r) f v e bad =
        let whole = call_refused r f in
        whole ∙ ap (λ w. nothing_done w wall own) (sym (e ∙ ap (λ o. o.verdict) whole))

  -- a session with a refusing verdict does nothing
  pub refused_does_nothing : (v : Verdict) → v ≡ (session table_bytes log_bytes wall own).verdict → v.refused ≢ Nothing → session table_bytes log_bytes wall own ≡ nothing_done v wall own
  unfolding nothing_done first_fault buffers
  refused_does_nothing v e bad = go (read_files table_bytes log_bytes) refl
    where
      go : (f : TwoFiles) → read_files table_bytes log_bytes ≡ f → session table_bytes log_bytes wall own ≡ nothing_done v wall own
      go (one_refused w) q =
          let whole = files_refused w q in
          whole ∙ ap (λ x. nothing_done x wall own) (sym (e ∙ ap (λ o. o.verdict) whole))
      go (both_taken ls log) q = by_buffers ls log q (first_fault (buffer_checks (length ls) log.horizon wall own)) refl v e bad
