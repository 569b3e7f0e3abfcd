-- The table holds the quadrant rule's numbers.
use Rattle.grid.proofs.CurveLaws.{table_number}
use Rattle.grid.proofs.CurveTables as Tables
use Rattle.grid.proofs.curve.curve_numbers.Goals as goal

pub returns : goal.returns
unfolding Tables.curve
returns c = record { numbered = table_number }
