-- A fleet that was read is in its ranges.
use Rattle.std.proofs.Common.{◌∙◌, sym, arith}
use Rattle.fleets.proofs.InputsLaws.{read_as}
use Rattle.fleets.proofs.writing.write_fleet.Goals as goal

pub write_floats-requires : goal.write_floats-requires
write_floats-requires c = record {
  room = omega (arith, c.told-out);
  in_range_lem = (read_as c.args.input.now c.in-Some.fleet (sym c.read_fleet.ensures ∙ c.in-Some.is)).in_range_lem;
}
