-- Both numbers are an empty row's, told by their bits.
use Rattle.std.proofs.Common.{rules}
use mathlib.Core.Path.{ap₂}
use mathlib.Core.Bool.{◌&&◌}
use Rattle.ints.proofs.Library.{bits_equal}
use Rattle.rows.proofs.Row.empty_axis.Goals as goal

pub returns : goal.returns
returns c = ap₂ ◌&&◌ (bits_equal c.ranges.least (search rules)) (bits_equal c.ranges.greatest (search rules))
