-- The rows that SlotRows holds.
-- Assumes nothing.
use Rattle.methods.specs.Methods.{Rows}
use Rattle.methods.specs.Slots.{rows_of_slot}
use Rattle.choosing.specs.declared.slot.SlotRows.{SlotRows}

-- by cell
abbrev pub rows_in : SlotRows → Rows
rows_in s = rows_of_slot s.table.now s.slot
