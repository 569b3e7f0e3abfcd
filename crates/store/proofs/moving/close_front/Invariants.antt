-- The first j words are moved.
use Rattle.std.proofs.Common.{◌≡◌, drop}
use lib.Seq.{paste}
use Rattle.records.specs.Records.{record_words}
use Rattle.store.proofs.moving.close_front.Given as goal

abbrev pub invariant-loop-j : goal.invariant-loop-j
invariant-loop-j l = l.words ≡ paste l.fn.words 0 (drop record_words l.fn.words) l.j
