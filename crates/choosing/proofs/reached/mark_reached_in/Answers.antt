-- The cells with nonempty rows are listed, some are kept, and those that meet are marked.
use Rattle.std.proofs.Common.{rules}
use Rattle.choosing.proofs.MarkLaws.{no_marks-length}
use Rattle.choosing.proofs.ReachedLaws.{bits_none, listed_places, kept_places, kept_marked}
use Rattle.choosing.proofs.reached.mark_reached_in.Goals as goal

pub keep_columns-m-requires : goal.keep_columns-m-requires
keep_columns-m-requires c = search (rules, listed_places)

pub mark_listed-requires : goal.mark_listed-requires
mark_listed-requires c = search (rules, no_marks-length, bits_none, listed_places, kept_places)

pub returns : goal.returns
returns c = search (rules, kept_marked)
