-- The phases from the current one down to p are asked.
-- Assumes nothing.
use Rattle.records.specs.Words.{words}
use Rattle.asking.proofs.AskingLaws.{Asked}
use Rattle.asking.proofs.ask_in_all.Given as goal

abbrev pub invariant-loop-p : goal.invariant-loop-p
invariant-loop-p l = Asked (words l.store l.table) l.ask l.newest l.p l.ids l.counts
