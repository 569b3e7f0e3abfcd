-- What `session::feeding::feed` has taken and written so far, of the bytes before this one.
use Rattle.std.proofs.Common.{◌≡◌, ◌+◌, length}
use Rattle.answering.specs.Answering.{answer_bytes}
use Rattle.session.specs.Session.{lent}
use Rattle.session.proofs.FeedingLaws.{Going}
use Rattle.session.proofs.feeding.feed.Given as goal

abbrev pub invariant-loop-taken : goal.invariant-loop-taken
invariant-loop-taken l =
    Going l.chunk (lent l.fn.store l.fn.table l.fn.line l.fn.held) (lent l.store l.table l.line l.held) l.out l.filled l.taken × (l.last + answer_bytes ≡ length l.out)
