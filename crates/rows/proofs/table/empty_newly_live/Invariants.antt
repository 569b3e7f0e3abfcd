-- The slots of the first live phases are emptied, where they come after the earlier phase.
use Rattle.std.proofs.Common.{◌≡◌}
use Rattle.rows.proofs.TableLaws.{with_first_empty}
use Rattle.rows.proofs.table.empty_newly_live.Given as goal

abbrev pub invariant-loop-back : goal.invariant-loop-back
invariant-loop-back l = l.table ≡ with_first_empty l.initial.table l.earlier l.c l.back
