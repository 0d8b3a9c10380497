-- `booth::Booth::play` meets its contract. Assumes nothing.
use mathlib.Core.Path.{◌≡◌, sym, ap, ◌∙◌, subst}
use mathlib.Core.List.{List}
use Prim.Native.Nat.{ℕ, ◌<◌}
use native.Mathlib.Omega.{arith}
use lib.ListN.{length, drop, set}
use lib.Seq.{drop-set-lt}
use Rattle.booth.specs.declared.Booth.{Booth}
use Rattle.booth.specs.BoothHeld.{first_number, OneOfEight, owed, shown, played_on, demanding}
use Rattle.booth.proofs.Demand.{owed_eight, eight_played}
use Rattle.booth.proofs.Working.{Played, played_on_lem, played_out, held_first, busy_with, one_of_eight, shown_worked, after_play}
use Rattle.booth.proofs.Booth.play.Goals as goal

-- what is behind the tick that is written stays
behind : (h r : Booth) (k : ℕ) (row after : List ℕ) → Played h r → after ≡ set row h.clock.0 k → drop r.clock.0 after ≡ drop r.clock.0 row
behind h r k row after p e = ap (drop r.clock.0) e ∙ drop-set-lt r.clock.0 row h.clock.0 k (omega (arith, p.clock))

pub owed-all-requires : goal.owed-all-requires
owed-all-requires c =
    subst OneOfEight (sym c.play_on-self.ensures.state) (eight_played c.args.self (one_of_eight c.args.self c.requires.steady))

pub demanding-requires : goal.demanding-requires
unfolding played_on
demanding-requires c =
    let played = c.play_on-self in
    ap length c.owed-all.ensures ∙ owed_eight played.result ∙ ap (λ (x : Booth). length x.demand) played.ensures.state ∙ c.requires.steady.eight

pub returns-then-self-eq0 : goal.returns-then-self-eq0
returns-then-self-eq0 c =
    let h = c.args.self in
    let row = c.args.row.now in
    let s = c.requires.steady in
    let busy = busy_with h c.args.k c.requires.first in
    let f = held_first h s busy in
    let first : c.args.k ≡ first_number h.first = sym (ap first_number c.requires.first) in
    let played = c.play_on-self in
    let p : Played h c.demanding.result =
    subst (Played h) (sym (c.demanding.ensures ∙ ap (demanding played.result) c.owed-all.ensures ∙ ap (λ (x : Booth). demanding x (owed x)) played.ensures.state)) (played_out h s f busy) in record {
      fit = after_play h s f busy c.demanding.result p;
      state = λ l bs. ap (shown l bs c.demanding.result) (played.ensures.row ∙ ap (set row h.clock.0) first) ∙ shown_worked h s f busy c.demanding.result p l bs row c.requires.inside;
      row = behind h c.demanding.result c.args.k row _ p played.ensures.row;
    }

pub returns : goal.returns
unfolding played_on
returns c =
    let h = c.args.self in
    let row = c.args.row.now in
    let s = c.requires.steady in
    let busy = busy_with h c.args.k c.requires.first in
    let f = held_first h s busy in
    let first : c.args.k ≡ first_number h.first = sym (ap first_number c.requires.first) in
    let played = c.play_on-self in
    let more : 1 < h.left = omega (arith, ap (λ (x : Booth). x.left) played.ensures.state, c.if-self-eq0.false) in
    let p : Played h played.result = subst (Played h) (sym played.ensures.state) (played_on_lem h s f busy more) in record {
      fit = after_play h s f busy played.result p;
      state = λ l bs. ap (shown l bs played.result) (played.ensures.row ∙ ap (set row h.clock.0) first) ∙ shown_worked h s f busy played.result p l bs row c.requires.inside;
      row = behind h played.result c.args.k row _ p played.ensures.row;
    }
