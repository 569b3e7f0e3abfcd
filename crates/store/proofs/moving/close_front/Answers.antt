-- One word more.
use Rattle.std.proofs.Common.{arith, ◌∙◌, ap, ◌+◌, ◌≡◌}
use Rattle.std.proofs.lemmas.Int.{to_z-of_z}
use lib.ListN.{set}
use Rattle.store.proofs.MovingLaws.{down_next}
use Rattle.store.proofs.moving.close_front.Goals as goal

pub loop-j-preserved : goal.loop-j-preserved
loop-j-preserved c =
    let d = c.args.words.now in
    let h = c.loop-j in
    let here : 0 + h.j ≡ h.j = omega arith in
    ap (set h.words h.j) (grind (arith, to_z-of_z)) ∙ (rw here at (down_next d h.words 7 0 h.j (omega arith) (omega arith) h.invariant))
