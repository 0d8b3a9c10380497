-- What is known where the reader took a table. Assumes nothing.
use mathlib.Core.Path.{◌≡◌, sym, ap, ◌∙◌}
use mathlib.Core.List.{List}
use Prim.Native.Nat.{ℕ, ◌<◌}
use Rattle.std.proofs.Common.{Result, Ok, Err}
use lib.ListN.{length, get_or}
use Rattle.base.specs.declared.Refusal.{Refusal as HeldRefusal}
use Rattle.base.specs.Refusals.{taken, refused, said, as_read, taken_as}
use Rattle.rules.specs.declared.Table.{Table}
use Rattle.rules.specs.BoothTable.{Line, no_line}
use Rattle.rules.specs.Admission.{read_table}
use Rattle.rules.specs.Values.{held_table, line_held, lines_held, no_held_line}
use Rattle.base.proofs.Checks.{took, declined}
use Rattle.rules.proofs.Held.{lines_held_lem}
use Rattle.rules.proofs.Fitting.{held_at}

-- it holds the lines that the rules take
pub record TableTaken (bs : List ℕ) (t : Table) : Type 0 where
  pub lines : List Line
  pub read : read_table bs ≡ taken lines
  pub held : t ≡ held_table lines

module _ (bs : List ℕ) (r : Result Table HeldRefusal) (is : as_read r ≡ taken_as held_table (read_table bs)) where
  pub answer_taken : (t : Table) → r ≡ Ok t → TableTaken bs t
  answer_taken t e =
      let k = took held_table (read_table bs) r t is e in
      record { lines = k.0; read = k.1.0; held = k.1.1 }

  pub answer_refused : (why : HeldRefusal) → r ≡ Err why → read_table bs ≡ refused (said why)
  answer_refused why e = declined held_table (read_table bs) r why is e

module _ (bs : List ℕ) (t : Table) (k : TableTaken bs t) where
  pub taken_booths : t.booths ≡ length k.lines
  unfolding held_table
  taken_booths = ap (λ h. h.booths) k.held

  -- line j of the table is held at j
  pub taken_line : (j : ℕ) → j < length k.lines → line_held (get_or t.lines j no_held_line) ≡ get_or k.lines j no_line
  unfolding lines_held line_held held_table no_line
  taken_line j h =
      ap (λ x. line_held (get_or x.lines j no_held_line)) k.held
      ∙ sym (held_at (held_table k.lines).lines (length k.lines) j h)
      ∙ ap (λ ls. get_or ls j no_line) (lines_held_lem k.lines)

  pub taken_promise : (j : ℕ) → j < length k.lines → (get_or t.lines j no_held_line).promise ≡ (get_or k.lines j no_line).promise
  unfolding line_held
  taken_promise j h = ap (λ l. l.promise) (taken_line j h)
