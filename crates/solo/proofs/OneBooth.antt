-- What files that were taken say of one booth. Assumes nothing.
use mathlib.Core.List.{List}
use Prim.Native.Nat.{ℕ, ◌<◌}
use lib.ListN.{get_or}
use Rattle.rules.specs.Values.{no_held_line}
use Rattle.rules.proofs.Fitting.{fit_sound}
use Rattle.files.specs.declared.Files.{Files}
use Rattle.files.specs.FilesTaken.{FilesTaken}
use Rattle.solo.specs.Alone.{Alone}

module _ (table_bytes bs : List ℕ) (f : Files) (k : FilesTaken table_bytes bs f) (booth : ℕ) (there : booth < f.table.booths) where
  pub alone : Alone bs (get_or f.table.lines booth no_held_line) booth
  alone =
      let line = k.fit.lines.line booth there in
      record {
        sound = fit_sound _ line;
        tasks = line.tasks;
        eight = line.eight;
        log = k.whole;
        task = λ at. k.tasks booth at there;
      }
