-- What the table and the log begin with: the version, then N, the bytes that follow.
use Rattle.std.specs.Prelude.{not, List, [], ◌∷◌, ℕ, ◌+◌, ltb, eqb, length}
use Rattle.base.specs.Bytes.{byte_at, number_at}
use Rattle.base.specs.Refusals.{Check, refuse_if, bytes_missing, wrong_version, bytes_left_over}

-- N, in the `width` bytes behind the version
unfoldable pub head_n : ℕ → List ℕ → ℕ
head_n width bs = number_at width bs 1

-- where the bytes that N counts begin
abbrev pub head_end : ℕ → ℕ
head_end width = 1 + width

-- no byte at all; version; fewer bytes than version and N have; fewer than N after them; more
unfoldable pub head_checks : ℕ → List ℕ → List Check
head_checks width bs =
    refuse_if (eqb (length bs) 0) bytes_missing 0
    ∷ refuse_if (not (eqb (byte_at bs 0) 1)) wrong_version 0
    ∷ refuse_if (ltb (length bs) (head_end width)) bytes_missing (length bs)
    ∷ refuse_if (ltb (length bs) (head_end width + head_n width bs)) bytes_missing (length bs)
    ∷ refuse_if (ltb (head_end width + head_n width bs) (length bs)) bytes_left_over (head_end width + head_n width bs)
    ∷ []
