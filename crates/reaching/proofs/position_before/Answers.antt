-- The numbers are small, so neither the product nor the difference wraps.
use Rattle.std.proofs.Common.{◌≡◌, arith}
use Rattle.std.proofs.lemmas.Int.{ints}
use lib.IntN.{◌-ℤ◌, ◌*ℤ◌}
use mir.Syntax.{w64}
use mir.Val.{SFits}
use mir.Facts.{to_z-of_z}
use Rattle.ints.proofs.Parts.{abs, sub, mul_small}
use Rattle.ints.proofs.Machine.{back, fits}
use Rattle.reaching.proofs.position_before.Goals as goal

pub returns : goal.returns
returns c =
    let small = mul_small c.args.v c.args.d _ _ c.requires.small_speed c.requires.small_d in
    let speed : back w64 c.from.result ≡ c.args.v = omega (arith, ints) in
    let product : SFits w64 (c.args.v *ℤ c.args.d) = fits (omega arith) in
    let total : SFits w64 (c.args.p -ℤ c.args.v *ℤ c.args.d) = fits (omega (arith, abs c.args.p, sub c.args.p (c.args.v *ℤ c.args.d))) in
    simp (to_z-of_z, c.ranges.p, c.ranges.d, speed, product, total)
