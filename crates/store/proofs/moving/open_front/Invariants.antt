-- The words from j on are moved.
use Rattle.std.proofs.Common.{◌≡◌, ◌+◌, ◌-◌, length}
use Rattle.records.specs.Records.{record_words}
use Rattle.store.proofs.MovingLaws.{turned_at, moved_up}
use Rattle.store.proofs.moving.open_front.Given as goal

abbrev pub invariant-loop-j : goal.invariant-loop-j
invariant-loop-j l = l.words ≡ turned_at l.fn.words (moved_up l.fn.words 0 record_words (length l.fn.words - record_words)) (record_words + l.j)
