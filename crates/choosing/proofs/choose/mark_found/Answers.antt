-- Where there is no block, no cell is marked.
use Rattle.choosing.proofs.MarkLaws.{marked_none}
use Rattle.choosing.proofs.choose.mark_found.Goals as goal

pub returns-in_default : goal.returns-in_default
returns-in_default c = rw c.in_default.is (marked_none c.args.marks.now)
