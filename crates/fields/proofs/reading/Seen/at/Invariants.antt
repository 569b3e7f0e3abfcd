-- The invariant: `seen` is what the bytes of the field are that have been read.
use Rattle.std.proofs.Common.{◌≡◌}
use Rattle.fields.specs.Reading.{seen_at}
use Rattle.fields.proofs.reading.Seen.at.Given as goal

abbrev pub invariant-loop-b : goal.invariant-loop-b
invariant-loop-b l = l.seen ≡ seen_at l.fn.line l.at l.b-index
