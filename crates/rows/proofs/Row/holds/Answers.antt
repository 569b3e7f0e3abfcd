-- Each speed is between the two of its own axis.
use Rattle.std.proofs.Common.{◌≡◌, rules}
use Rattle.std.proofs.lemmas.Int.{to_z-of_z}
use Rattle.ints.specs.Whole.{between}
use Rattle.ints.proofs.Machine.{both}
use Rattle.rows.specs.Row.{holds}
use Rattle.rows.proofs.Row.holds.Goals as goal

pub returns-then-contains : goal.returns-then-contains
unfolding holds
returns-then-contains c =
    let s = c.args.self in
    let x : c.contains.result ≡ between s.least_vx s.greatest_vx c.args.drift.vx = search rules in
    let y : c.contains-then-contains.result ≡ between s.least_vy s.greatest_vy c.args.drift.vy = search rules in
    both _ _ _ _ c.if-contains.true x y

pub returns-else-contains : goal.returns-else-contains
unfolding holds
returns-else-contains c = search (rules, to_z-of_z)
