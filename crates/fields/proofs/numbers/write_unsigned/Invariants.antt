-- The invariant says what is left to put.
use Rattle.std.proofs.Common.{◌≡◌}
use Rattle.fields.specs.Numbers.{in_columns}
use Rattle.fields.specs.Put.{put}
use Rattle.fields.proofs.NumbersLaws.{left}
use Rattle.fields.proofs.numbers.write_unsigned.Given as goal

abbrev pub invariant-loop-i : goal.invariant-loop-i
invariant-loop-i l = put l.fn.out l.at (in_columns l.columns l.numbers) ≡ left (in_columns l.columns) l.columns l.at l.numbers l.out l.i
