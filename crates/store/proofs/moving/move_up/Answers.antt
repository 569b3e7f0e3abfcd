-- The part that is lent has the words that are moved and those that they go over.
use mathlib.Core.List.{◌++◌}
use lib.IntN.{ℤ}
use lib.Seq.{paste, length-take-le}
use Rattle.std.proofs.Common.{arith, ◌∙◌, ap, ◌≡◌, ◌+◌, ◌-◌, length, ℕ, List, take, drop, length-drop}
use Rattle.store.proofs.MovingLaws.{in_part}
use Rattle.store.proofs.moving.move_up.Goals as goal

pub returns-clause-after : goal.returns-clause-after
returns-clause-after c =
    let s = c.args.words.now in
    let k = c.args.start in
    let n : ℕ = c.args.end + 7 - k in
    let m : ℕ = c.args.end - k in
    let w : List ℤ = take n (drop k s) in
    let rest = length-drop k s in
    let long : length w ≡ n = length-take-le n (drop k s) (omega arith) in
    let few : length w - 7 - 0 ≡ m = omega arith in
    let here : k + 0 ≡ k = omega arith in
    ap (λ (ys : List ℤ). take k s ++ (ys ++ drop n (drop k s))) (c.open_front.ensures ∙ ap (paste w 7 (drop 0 w)) few)
    ∙ in_part s k n 0 7 m (omega arith) (omega arith) (omega arith)
    ∙ ap (λ (i : ℕ). paste s (k + 7) (drop i s) m) here
