-- `store::writing::write_record` meets its contract: seven words written one after the other.
use Rattle.std.proofs.Common.{rules}
use Rattle.store.proofs.WritingLaws.{write_words}
use Rattle.store.proofs.writing.write_record.Goals as goal

pub returns : goal.returns
returns c =
    write_words _ c.args.k c.args.r c.requires (search rules) (search rules) (search rules) (search rules) (search rules) (search rules) (search rules)
