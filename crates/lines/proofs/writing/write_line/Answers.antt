-- The letter is set, and the fields are put after it.
use Rattle.std.proofs.Common.{◌∙◌, arith}
use Rattle.fields.proofs.NumbersLaws.{length_fields}
use Rattle.lines.proofs.LinesLaws.{put_line}
use Rattle.lines.proofs.writing.write_line.Goals as goal

pub returns : goal.returns
returns c = record {
  bytes = c.write_numbers.ensures ∙ put_line c.args.out.now c.args.letter c.args.numbers.now (omega (arith, c.requires.room));
  count = omega (arith, length_fields c.args.numbers.now c.requires.writable);
}
