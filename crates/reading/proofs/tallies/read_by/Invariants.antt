-- What is counted and written of all records is what the records left still add.
-- Assumes nothing.
use Rattle.std.proofs.Common.{◌≡◌}
use Rattle.grid.specs.Reports.{is_listed}
use Rattle.records.specs.Records.{record_words}
use Rattle.reading.proofs.TalliesLaws.{Pass}
use Rattle.reading.proofs.tallies.read_by.Given as goal

abbrev pub invariant-loop-record : goal.invariant-loop-record
invariant-loop-record g l = record {
  whole : l.record-iterator.size ≡ record_words;
  pass : Pass l.fn.words (is_listed (g.L.Lists.query l.test)) l.fn.ids l.fn.before l.record-iterator.rest.now l.ids l.tally;
}
