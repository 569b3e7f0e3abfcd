-- The listing of document 01 and a window ask are read and written as the documents have them, and each damaged line is no call: computed facts.
-- Assumes nothing.
use mathlib.Core.Path.{◌≡◌, refl}
use mathlib.Core.List.{map, ◌++◌}
use Prim.Native.String.{String}
use Rattle.lines.specs.declared.Line.TheVariants.{NoCall}
use Rattle.fields.specs.Fields.{digits, written, field_of}
use Rattle.fields.specs.Numbers.{fields}
use Rattle.lines.specs.Lines.{letter_of, change_numbers, numbers_of, call_line}
use Rattle.fields.specs.Reading.{with_digit, after, number_of, seen_at}
use Rattle.lines.specs.Reading.{numbers_in, are_numbers, call_of, count_of, read_line}
use Rattle.lines.specs.Examples.{bytes, Said, listing, windows, limits, damaged}

pub listing-is_read : map (λ (s : Said). read_line (bytes s.line)) (listing ++ windows ++ limits) ≡ map (λ (s : Said). s.call) (listing ++ windows ++ limits)
unfolding bytes listing windows limits read_line count_of numbers_of change_numbers call_of numbers_in are_numbers seen_at number_of after with_digit
listing-is_read = refl

pub listing_is_written : map (λ (s : Said). call_line s.call) (listing ++ windows ++ limits) ≡ map (λ (s : Said). bytes s.line) (listing ++ windows ++ limits)
unfolding bytes listing windows limits call_line letter_of numbers_of change_numbers fields field_of written digits
listing_is_written = refl

pub damaged_are_no_calls : map (λ (s : String). read_line (bytes s)) damaged ≡ map (λ (s : String). NoCall) damaged
unfolding bytes damaged read_line count_of numbers_of change_numbers call_of numbers_in are_numbers seen_at number_of after with_digit
damaged_are_no_calls = refl
