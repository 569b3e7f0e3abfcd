-- Each turn puts the line of one float more, whose id is among the fleet's.
use Rattle.std.proofs.Common.{refl, ap, ◌∙◌, ◌-◌, arith}
use Rattle.fields.proofs.NumbersLaws.{left_all}
use Rattle.generator.specs.Generator.{times, steps}
use Rattle.fleets.specs.Fleets.{draws, float_lines}
use Rattle.fleets.specs.Writing.{float_bytes}
use Rattle.fleets.proofs.InputsLaws.{ranges}
use Rattle.fleets.proofs.FleetsLaws.{draws_next, float_writable}
use Rattle.fleets.proofs.WritingLaws.{float_next, floats_put}
use Rattle.fleets.proofs.writing.write_floats.Goals as goal

pub overflow_sub-count : goal.overflow_sub-count
overflow_sub-count c = (ranges c.args.fleet c.requires.in_range_lem).skipped

pub overflow_mul-fleet : goal.overflow_mul-fleet
overflow_mul-fleet c = let r = ranges c.args.fleet c.requires.in_range_lem in omega (arith, r.skipped, r.most)

pub loop-i-init : goal.loop-i-init
unfolding times
loop-i-init c = (refl, left_all float_lines float_bytes 0 _ c.args.out.now)

pub make_float-report-requires : goal.make_float-report-requires
make_float-report-requires c = let r = ranges c.args.fleet c.requires.in_range_lem in omega (arith, r.skipped, r.most)

pub overflow_mul-i : goal.overflow_mul-i
overflow_mul-i c = let r = ranges c.args.fleet c.requires.in_range_lem in omega (arith, r.skipped, r.most)

pub write_float-requires : goal.write_float-requires
write_float-requires c =
    let r = ranges c.args.fleet c.requires.in_range_lem in
    record {
      room = omega (arith, r.skipped, r.most);
      writable = rw c.make_float-report.ensures.report_is (float_writable _ c.loop-i.generator.state (omega (arith, r.skipped, r.most)));
    }

pub loop-i-preserved : goal.loop-i-preserved
loop-i-preserved c =
    let h = c.loop-i in
    let fleet = c.args.fleet in
    let r = ranges fleet c.requires.in_range_lem in
    let made = c.make_float-report in (
      made.ensures.state_is ∙ ap (steps draws) h.invariant.0 ∙ draws_next h.i c.jump.result,
      h.invariant.1
          ∙ float_next fleet.skip (fleet.floats - fleet.skip) c.jump.result (omega (arith, r.most, r.skipped)) h.out c.write_float.new.out h.i h.generator.state
          made.result c.loop-i-test.true (omega (arith, r.most, r.skipped)) h.invariant.0 made.ensures.report_is c.write_float.ensures,
    )

pub overflow_mul-result : goal.overflow_mul-result
overflow_mul-result c = let r = ranges c.args.fleet c.requires.in_range_lem in omega (arith, r.skipped, r.most)

pub returns : goal.returns
returns c =
    floats_put c.args.fleet c.requires.in_range_lem c.jump.result c.jump.ensures c.args.out.now c.loop-i.out c.loop-i.i c.loop-i-test.false c.loop-i.invariant.1
