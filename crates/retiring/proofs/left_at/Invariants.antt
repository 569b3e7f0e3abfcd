-- The invariant of `retiring::left_at`: those counted and those that stay from record i on are all that stay.
use Rattle.grid.specs.Reports.{stays_at}
use Rattle.records.specs.Records.{held_of}
use Rattle.retiring.proofs.RetiringLaws.{Counting}
use Rattle.retiring.proofs.left_at.Given as goal

abbrev pub invariant-loop-i : goal.invariant-loop-i
invariant-loop-i l = Counting (stays_at l.time) l.store (held_of l.store) l.i l.left
