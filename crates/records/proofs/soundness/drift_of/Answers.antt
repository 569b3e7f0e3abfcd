-- A speed is read back from 16 bits as it is.
use Rattle.std.proofs.Common.{arith, ap₂, ℤ}
use Rattle.std.proofs.lemmas.Int.{ints}
use Rattle.records.proofs.SoundnessRangeLaws.{ranges, speed_size}
use Rattle.records.proofs.soundness.drift_of.Goals as goal

pub overflow_cast-result : goal.overflow_cast-result
overflow_cast-result c = let a = ranges c.args.r c.requires in omega (arith, ints, speed_size c.args.r.vx a.vx)

pub overflow_cast-result-2 : goal.overflow_cast-result-2
overflow_cast-result-2 c = let a = ranges c.args.r c.requires in omega (arith, ints, speed_size c.args.r.vy a.vy)

pub returns : goal.returns
returns c =
    let a = ranges c.args.r c.requires in
    ap₂ (λ (x y : ℤ). record { vx = x; vy = y })
    (omega (arith, ints, speed_size c.args.r.vx a.vx))
    (omega (arith, ints, speed_size c.args.r.vy a.vy))
