-- The invariant says what is left to put.
use Rattle.std.proofs.Common.{◌≡◌}
use Rattle.fields.specs.Numbers.{fields}
use Rattle.fields.specs.Put.{put}
use Rattle.fields.proofs.NumbersLaws.{left}
use Rattle.fields.proofs.numbers.write_numbers.Given as goal

abbrev pub invariant-loop-i : goal.invariant-loop-i
invariant-loop-i l = put l.fn.out l.at (fields l.numbers) ≡ left fields 10 l.at l.numbers l.out l.i
