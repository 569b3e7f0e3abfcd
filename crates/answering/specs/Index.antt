-- The words of an open index.
-- Assumes nothing.
use Rattle.records.specs.Words.{Words, words}
use Rattle.answering.specs.declared.OpenIndex.{OpenIndex}

abbrev pub words_in : OpenIndex → Words
words_in index = words index.store index.table
