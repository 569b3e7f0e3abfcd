-- Each number is one that a line may have, so the cast keeps it.
use Rattle.std.proofs.Common.{arith}
use Rattle.lines.proofs.LinesLaws.{narrow, corners_back}
use Rattle.lines.proofs.writing.corners_of.Goals as goal

pub overflow_cast-result : goal.overflow_cast-result
overflow_cast-result c = narrow c.args.rect c.requires 0 (omega arith)

pub overflow_cast-result-2 : goal.overflow_cast-result-2
overflow_cast-result-2 c = narrow c.args.rect c.requires 1 (omega arith)

pub overflow_cast-result-3 : goal.overflow_cast-result-3
overflow_cast-result-3 c = narrow c.args.rect c.requires 2 (omega arith)

pub overflow_cast-result-4 : goal.overflow_cast-result-4
overflow_cast-result-4 c = narrow c.args.rect c.requires 3 (omega arith)

pub returns : goal.returns
returns c = corners_back c.args.rect c.requires
