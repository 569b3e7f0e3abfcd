-- The invariant says in which state the generator is, and what is left to put.
use Rattle.std.proofs.Common.{◌≡◌, ◌*◌, ◌-◌}
use Rattle.fields.specs.Put.{put}
use Rattle.fields.proofs.NumbersLaws.{left}
use Rattle.generator.specs.Generator.{steps}
use Rattle.fleets.specs.Fleets.{draws, floats_after, float_lines}
use Rattle.fleets.specs.Writing.{float_bytes}
use Rattle.fleets.proofs.writing.write_floats.Given as goal

abbrev pub invariant-loop-i : goal.invariant-loop-i
invariant-loop-i l =
    let s = l.initial.generator.state in
    let floats = floats_after l.fleet.skip (l.fleet.floats - l.fleet.skip) s in
    (l.generator.state ≡ steps (draws * l.i) s) × (put l.fn.out 0 (float_lines floats) ≡ left float_lines float_bytes 0 floats l.out l.i)
