-- The floats and the texts are as said: two tabled facts, which antt computes.
-- Assumes nothing.
use mathlib.Core.Path.{refl}
use Rattle.ints.specs.Examples.{AllAsSaid}
use Rattle.fields.specs.Fields.{digits, written, field_of}
use Rattle.fields.specs.Numbers.{fields}
use Rattle.fields.specs.Reading.{with_digit, after, unsigned_of, seen_at}
use Rattle.generator.specs.Generator.{times}
use Rattle.lines.specs.Examples.{bytes}
use Rattle.lines.specs.Lines.{letter_of, change_numbers, numbers_of, call_line}
use Rattle.fleets.specs.Inputs.{is_line, is_fleet, fleet_of, three_say, numbers_say, read_fleet}
use Rattle.fleets.specs.Fleets.{float_of, floats_after, float_line, float_lines, text_of}
use Rattle.fleets.specs.Examples as Examples

pub floats_as_said : AllAsSaid Examples.floats
unfolding Examples.floats float_of floats_after times
floats_as_said = refl

pub texts_as_said : AllAsSaid Examples.texts
unfolding Examples.texts bytes is_line is_fleet fleet_of three_say numbers_say read_fleet text_of float_line float_lines float_of floats_after times
    call_line letter_of numbers_of change_numbers fields field_of written digits with_digit after unsigned_of seen_at
texts_as_said = refl
