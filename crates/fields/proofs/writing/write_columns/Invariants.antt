-- The invariant says what is left to put: the columns before the k-th, of what is left of the number.
use Rattle.std.proofs.Common.{◌≡◌}
use Rattle.fields.specs.Put.{put}
use Rattle.fields.specs.Writing.{columns_of, number_in}
use Rattle.fields.proofs.writing.write_columns.Given as goal

abbrev pub invariant-loop-k : goal.invariant-loop-k
invariant-loop-k l = put l.fn.out l.at (number_in l.columns l.lead l.n) ≡ put l.out l.at (columns_of l.k l.front l.left)
