-- The answers of document 01's listing are written as the document has them: computed facts.
-- Assumes nothing.
use mathlib.Core.Path.{◌≡◌, refl}
use mathlib.Core.List.{map}
use Prim.Native.Char.{code}
use Rattle.fields.specs.Fields.{digits, written, field_of}
use Rattle.fields.specs.Numbers.{fields}
use Rattle.lines.specs.Lines.{letter_of}
use Rattle.lines.specs.Examples.{bytes}
use Rattle.answers.specs.Answers.{answer_line, no_call_line}
use Rattle.answers.specs.Examples.{Answered, answered, short_list}

pub answers_are_written : map (λ (a : Answered). answer_line (code a.letter) a.answer a.ids) answered ≡ map (λ (a : Answered). bytes a.line) answered
unfolding bytes answered fields field_of written digits
answers_are_written = refl

pub refused_is_written : answer_line (code short_list.letter) short_list.answer short_list.ids ≡ bytes short_list.line
unfolding bytes fields field_of written digits
refused_is_written = refl

pub no_call_is_written : no_call_line ≡ bytes "?         9         0"
unfolding bytes no_call_line letter_of fields field_of written digits
no_call_is_written = refl
