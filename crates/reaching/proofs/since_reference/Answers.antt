-- Both times are small, so their difference fits.
use Rattle.std.proofs.Common.{◌≡◌, arith}
use Rattle.std.proofs.lemmas.Int.{ints}
use mir.Syntax.{w64}
use mir.Facts.{to_z-of_z}
use Rattle.ints.proofs.Machine.{back}
use Rattle.rows.specs.Phases.{reference_time}
use Rattle.reaching.proofs.ReachingLaws.{since_fits}
use Rattle.reaching.proofs.since_reference.Goals as goal

pub overflow_sub-result : goal.overflow_sub-result
overflow_sub-result c =
    let time : back w64 c.from.result ≡ c.args.time = omega (arith, ints) in
    let start : back w64 c.reference_time.result ≡ reference_time c.args.p = omega (arith, ints) in
    simp (time, start) (since_fits c.requires)

pub returns : goal.returns
returns c =
    let time : back w64 c.from.result ≡ c.args.time = omega (arith, ints) in
    let start : back w64 c.reference_time.result ≡ reference_time c.args.p = omega (arith, ints) in
    simp (time, start, to_z-of_z (since_fits c.requires))
