-- One word more, the last of those that are left.
use Rattle.std.proofs.Common.{arith, ◌∙◌, ap, ◌+◌, ◌-◌, ℕ, ◌≡◌, length}
use Rattle.std.proofs.lemmas.Int.{to_z-of_z}
use lib.ListN.{set}
use Rattle.store.proofs.MovingLaws.{up_start, up_next, up_end, turned_at, moved_up}
use Rattle.store.proofs.moving.open_front.Goals as goal

pub loop-j-init : goal.loop-j-init
loop-j-init c = let d = c.args.words.now in up_start d 0 7 (length d - 7) (omega arith) (omega arith)

pub loop-j-preserved : goal.loop-j-preserved
loop-j-preserved c =
    let d = c.args.words.now in
    let h = c.loop-j in
    let here : 0 + (h.j - 1) ≡ h.j - 1 = omega arith in
    ap (set h.words (7 + (h.j - 1))) (grind (arith, to_z-of_z))
    ∙ (rw here at (up_next d 0 7 (length d - 7) (omega arith) (omega arith) h.words h.j c.loop-j-test.true h.auto.j h.invariant))

pub returns : goal.returns
returns c =
    let d = c.args.words.now in
    let h = c.loop-j in
    let first : h.j ≡ 0 = omega (arith, c.loop-j-test.false) in
    let all : length d - 7 ≡ length d - 7 - 0 = omega arith in
    h.invariant
    ∙ ap (λ (j : ℕ). turned_at d (moved_up d 0 7 (length d - 7)) (7 + j)) first
    ∙ up_end d 0 7 (length d - 7) (omega arith) (omega arith)
    ∙ ap (moved_up d 0 7) all
