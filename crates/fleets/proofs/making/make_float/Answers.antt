-- The four draws, one after the other; each number fits 32 bits.
use Rattle.std.proofs.Common.{◌≡◌, ◌∙◌, pos, ◌-ℤ◌, arith, to_z, of_z, w32}
use Rattle.ints.proofs.Machine.{held}
use Rattle.grid.specs.Units.{speed_limit}
use Rattle.fleets.proofs.MakingLaws.{position_below, makes}
use Rattle.fleets.proofs.making.make_float.Goals as goal

pub returns : goal.returns
returns c =
    let id : to_z w32 c.args.k ≡ pos c.args.k = held w32 (pos c.args.k) (omega arith) in
    let x : to_z w32 c.draw-x.result ≡ pos c.draw-x.result =
    held w32 (pos c.draw-x.result) (omega (arith, position_below _ _ c.draw-x.ensures.drawn)) in
    let y : to_z w32 c.draw-y.result ≡ pos c.draw-y.result =
    held w32 (pos c.draw-y.result) (omega (arith, position_below _ _ c.draw-y.ensures.drawn)) in
    let vx : to_z w32 (of_z w32 c.speed_of.result) ≡ pos c.draw-vx.result -ℤ pos speed_limit = held w32 _ c.speed_of.type_inv ∙ c.speed_of.ensures in
    let vy : to_z w32 (of_z w32 c.speed_of-2.result) ≡ pos c.draw-vy.result -ℤ pos speed_limit =
    held w32 _ c.speed_of-2.type_inv ∙ c.speed_of-2.ensures in
    rw (id, x, y, vx, vy)
    (makes c.args.k c.args.generator.now.state
    record { drawn = c.draw-x.ensures.drawn; stepped = c.draw-x.ensures.stepped }
    record { drawn = c.draw-y.ensures.drawn; stepped = c.draw-y.ensures.stepped }
    record { drawn = c.draw-vx.ensures.drawn; stepped = c.draw-vx.ensures.stepped }
    record { drawn = c.draw-vy.ensures.drawn; stepped = c.draw-vy.ensures.stepped })
