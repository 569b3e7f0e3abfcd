-- Four draws one after the other, each from the state that the one before it left, make a float.
-- Assumes nothing.
use mathlib.Core.Path.{◌≡◌, refl}
use Prim.Native.Nat.{ℕ, ◌<◌}
use lib.Dec.{lit<}
use lib.IntN.{pos, ◌-ℤ◌}
use Rattle.grid.specs.Reports.{report_of}
use Rattle.grid.specs.Units.{speed_limit}
use Rattle.generator.specs.Generator.{times, draw_below}
use Rattle.generator.proofs.GeneratorLaws.{draw_below_lem}
use Rattle.fleets.specs.Fleets.{positions, speeds, float_of}
use Rattle.fleets.specs.Making.{Makes}

-- a draw from a state, and the state that it leaves
pub record Draws (n s number state : ℕ) : Type 0 where
  pub drawn : number ≡ (draw_below n s).number
  pub stepped : state ≡ (draw_below n s).state

pub makes :
    (k s : ℕ) {x y vx vy a b c d : ℕ}
    → Draws positions s x a
    → Draws positions a y b
    → Draws speeds b vx c
    → Draws speeds c vy d
    → Makes k s (report_of (pos k) (pos 0) (pos x) (pos y) (pos vx -ℤ pos speed_limit) (pos vy -ℤ pos speed_limit)) d
unfolding float_of times
makes k s one two three four =
    rw (four.drawn, four.stepped, three.drawn, three.stepped, two.drawn, two.stepped, one.drawn, one.stepped) record { report_is = refl; state_is = refl }

-- a position is below the number of positions
pub position_below : (s x : ℕ) → x ≡ (draw_below positions s).number → x < positions
position_below s x e = rw e (draw_below_lem positions s (lit< tt))
