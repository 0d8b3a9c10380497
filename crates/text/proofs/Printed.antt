-- The text of a session case by case, from its arrays, its input and the buffer lent. Assumes nothing.
use mathlib.Core.Path.{◌≡◌, refl, sym, ap, ◌∙◌}
use mathlib.Core.List.{List, [], ◌∷◌, ◌++◌}
use Prim.Native.Nat.{ℕ, zero, suc, ◌*◌, ◌-◌, ◌≤◌}
use native.Mathlib.Omega.{arith}
use lib.ListN.{length, get_or, take, replicate, length-take, length-replicate}
use borrow.Author.Tests.{le-ltb}
use Rattle.rules.specs.Verdicts.{Verdict, accepted, verdict_said, refused_as}
use Rattle.rules.specs.declared.Refused.TheVariants.{Table, Log, Call}
use Rattle.base.specs.Refusals.{said}
use Rattle.base.specs.declared.Refusal.{Refusal as HeldRefusal}
use Rattle.base.specs.Bytes.{written}
use Rattle.rules.specs.BoothTable.{booths_allowed}
use Rattle.rules.specs.Session.{Outcome, session}
use Rattle.rules.specs.RowBack.{row_back}
use Rattle.rules.specs.Values.{padded}
use Rattle.rules.specs.Desk as page
use Rattle.rules.proofs.Held.{zeros}
use Rattle.session.specs.declared.SessionAnswer.{SessionAnswer}
use Rattle.session.specs.SessionAnswered.{answered}
use Rattle.printing.specs.declared.Paper.{Paper}
use Rattle.printing.specs.Printed.{Printed}
use Rattle.text.specs.TextAnswered.{answer_text, text_room, text_length, with_text}
use Rattle.text.proofs.Unrefused.{fits}

-- ---- the arrays of eight print as the lists they hold

get_or_held : (xs : List ℕ) (k i : ℕ) → get_or (xs ++ replicate k 0) i 0 ≡ get_or xs i 0
get_or_held [] k i = zeros k i
get_or_held (x ∷ xs) k zero = refl
get_or_held (x ∷ xs) k (suc i) = get_or_held xs k i

lines_held_lem : (n H : ℕ) (clocks worked own : List ℕ) → page.booth_lines n H (padded 8 0 clocks) (padded 8 0 worked) own ≡ page.booth_lines n H clocks worked own
unfolding page.booth_lines padded
lines_held_lem zero H clocks worked own = refl
lines_held_lem (suc i) H clocks worked own =
    ap (λ l. l ++ page.booth_line i (get_or (padded 8 0 clocks) i 0) (get_or (padded 8 0 worked) i 0) (row_back own H i (get_or (padded 8 0 clocks) i 0)).part) (lines_held_lem i H clocks worked own)
    ∙ ap (λ u. page.booth_lines i H clocks worked own ++ page.booth_line i u (get_or (padded 8 0 worked) i 0) (row_back own H i u).part) (get_or_held clocks (8 - length clocks) i)
    ∙ ap (λ w. page.booth_lines i H clocks worked own ++ page.booth_line i (get_or clocks i 0) w (row_back own H i (get_or clocks i 0)).part) (get_or_held worked (8 - length worked) i)

pub answer_prints : (o : Outcome) → answer_text o.ticks (answered o) o.wall o.own ≡ page.admitted_text o
unfolding answer_text answered page.admitted_text
answer_prints o =
    let H = o.ticks in
    ap (λ l. page.number_line page.word_admitted (length o.clocks) ++ (page.record_line page.word_wall (take H o.wall) ++ (l ++ page.number_line page.word_idle o.idle)))
    (lines_held_lem (length o.clocks) H o.clocks o.worked o.own)

-- ---- the buffer

-- a text on a paper over the whole buffer that was lent
module _ (input lent : List ℕ) (p q : Paper) (room : text_room ≤ length lent) (start : p.at ≡ 0) (over : p.out.now ≡ lent) (text : Printed (page.desk_text input) p q) where
  pub text_counted : length (take q.at q.out.now) ≡ text_length input lent
  unfolding text_length
  text_counted =
      let long : text_length input lent ≡ length (page.desk_text input) = rw (le-ltb (length lent) text_room room, text_length) in
      omega (arith, length-take q.at q.out.now, q.inside, text.put.behind, start, long)

  pub text_held : q.out.now ≡ with_text input lent
  unfolding with_text
  text_held =
      let whole : with_text input lent ≡ written 0 (page.desk_text input) lent = rw (le-ltb (length lent) text_room room, with_text) in
      text.put.now_holds ∙ ap (λ k. written k (page.desk_text input) p.out.now) start ∙ ap (written 0 (page.desk_text input)) over ∙ sym whole

-- ---- the session's answer

-- the session in the desk's own records
unfoldable pub desk_outcome : List ℕ → List ℕ → Outcome
desk_outcome table log = session table log (replicate page.most_ticks 0) (replicate (booths_allowed * page.most_ticks) 0)

module _ (table log : List ℕ) where
  -- what is refused prints the line of its word, with the refusal that the session answered
  refused_prints : (what : List ℕ) (v : Verdict) → v ≡ (desk_outcome table log).verdict → page.outcome_text v.refused (desk_outcome table log) ≡ page.refused_line what (desk_outcome table log).verdict.refusal
      → page.refused_line what v.refusal ≡ page.session_text table log
  unfolding page.session_text desk_outcome
  refused_prints what v e opens =
      let o = desk_outcome table log in
      ap (λ w. page.refused_line what w.refusal) e ∙ sym opens ∙ ap (λ w. page.outcome_text w.refused o) e

  pub table_prints : (r : HeldRefusal) → verdict_said (Table r) ≡ (desk_outcome table log).verdict → page.session_text table log ≡ page.refused_line page.word_table (said r)
  unfolding verdict_said refused_as page.outcome_text
  table_prints r e = sym (refused_prints page.word_table _ e refl)

  pub log_prints : (r : HeldRefusal) → verdict_said (Log r) ≡ (desk_outcome table log).verdict → page.session_text table log ≡ page.refused_line page.word_log (said r)
  unfolding verdict_said refused_as page.outcome_text
  log_prints r e = sym (refused_prints page.word_log _ e refl)

  pub call_prints : (r : HeldRefusal) → verdict_said (Call r) ≡ (desk_outcome table log).verdict → page.session_text table log ≡ page.refused_line page.word_session (said r)
  unfolding verdict_said refused_as page.outcome_text
  call_prints r e = sym (refused_prints page.word_session _ e refl)

  pub session_prints : (a : SessionAnswer) (wall own : List ℕ) → accepted ≡ (desk_outcome table log).verdict → a ≡ answered (desk_outcome table log)
      → wall ≡ (desk_outcome table log).wall → own ≡ (desk_outcome table log).own → page.session_text table log ≡ answer_text a.horizon a wall own
  unfolding answered accepted page.outcome_text page.session_text desk_outcome
  session_prints a wall own v e w r =
      let o = desk_outcome table log in
      ap (λ z. page.outcome_text z.refused o) (sym v)
      ∙ sym (answer_prints o)
      ∙ ap (λ l. answer_text o.ticks (answered o) o.wall l) (sym r)
      ∙ ap (λ l. answer_text o.ticks (answered o) l own) (sym w)
      ∙ ap (λ x. answer_text x.horizon x wall own) (sym e)

  -- what the text of an accepted session asks
  pub answer_fits : (a : SessionAnswer) (wall : List ℕ) → accepted ≡ (desk_outcome table log).verdict → a ≡ answered (desk_outcome table log) → length wall ≡ length {A = ℕ} (replicate page.most_ticks 0)
      → (a.booths ≤ booths_allowed) × (a.horizon ≤ page.most_ticks) × (a.horizon ≤ length wall)
  unfolding answered accepted desk_outcome
  answer_fits a wall v e long =
      let f = fits table log (replicate page.most_ticks 0) (replicate (booths_allowed * page.most_ticks) 0) (ap (λ w. w.refused) (sym v)) in
      let short : a.horizon ≤ page.most_ticks = omega (arith, f.short, ap (λ x. x.horizon) e, length-replicate {A = ℕ} page.most_ticks 0) in
      (omega (arith, f.few, ap (λ x. x.booths) e), short, omega (arith, short, long, length-replicate {A = ℕ} page.most_ticks 0))
