-- the floats held are the records
use Rattle.std.proofs.Common.{◌∙◌, sym, ap}
use Rattle.records.proofs.RecordsLaws.{held_records}
use Rattle.ledger.specs.declared.Answer.TheVariants.{Accepted}
use Rattle.engine.proofs.sound.accepted.Goals as goal

pub returns : goal.returns
returns c = ap Accepted (c.held_of.ensures ∙ sym (held_records c.args.store.now))
