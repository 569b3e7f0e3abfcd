-- A rectangle's numbers are among the ask's.
use Rattle.lines.proofs.LinesLaws.{rect_writable}
use Rattle.lines.proofs.writing.write_ask.Goals as goal

pub corners_of-requires : goal.corners_of-requires
corners_of-requires c = rect_writable c.args.ask c.requires.writable
