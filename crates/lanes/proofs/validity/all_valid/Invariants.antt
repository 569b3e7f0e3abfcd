-- What is left: the table is valid exactly when its rows from the block on are.
use Rattle.std.proofs.Common.{◌≡◌, ◌*◌}
use Rattle.grid.specs.Units.{cells}
use Rattle.rows.specs.Phases.{slots}
use Rattle.rows.specs.Table.{valid_table}
use Rattle.lanes.specs.Validity.{block_rows}
use Rattle.lanes.proofs.ValidityLaws.{valid_from}
use Rattle.lanes.proofs.validity.all_valid.Given as goal

abbrev pub invariant-loop-block : goal.invariant-loop-block
invariant-loop-block l = valid_table l.table ≡ valid_from l.table (slots * cells) (block_rows * l.block)
