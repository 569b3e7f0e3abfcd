-- Shape A in the whole grid is the curve table.
use Rattle.std.proofs.Common.{ℕ}
use Rattle.std.proofs.lemmas.List.{length-replicate}
use Rattle.drawing.proofs.DrawnLaws.{drawn_is_curve}
use Rattle.drawing.proofs.drawn.drawn_curve.Goals as goal

pub returns : goal.returns
returns c = rw c.draw_a.ensures (drawn_is_curve _ (length-replicate {A = ℕ} 1024 0))
