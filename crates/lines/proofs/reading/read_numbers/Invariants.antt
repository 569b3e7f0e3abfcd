-- The invariant: the first k numbers have been read, with 0 past them.
use Rattle.lines.proofs.ReadingLaws.{ReadSoFar}
use Rattle.lines.proofs.reading.read_numbers.Given as goal

abbrev pub invariant-loop-k : goal.invariant-loop-k
invariant-loop-k l = ReadSoFar l.line l.k l.numbers
