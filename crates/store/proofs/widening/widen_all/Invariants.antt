-- The invariant of `store::widening::widen_all`: what the records left still widen.
use Rattle.std.proofs.Common.{◌/◌, length}
use Rattle.records.specs.Records.{record_words}
use Rattle.store.proofs.WideningLaws.{Widen}
use Rattle.store.proofs.widening.widen_all.Given as goal

abbrev pub invariant-loop-words : goal.invariant-loop-words
invariant-loop-words l = Widen l.fn.table l.dead (length l.dead / record_words) l.table l.words-index
