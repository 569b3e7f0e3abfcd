-- `session::feeding::Buffers::finish` meets its contract: the last line leaves the index at a point.
use Rattle.std.proofs.Common.{arith}
use Rattle.records.specs.Words.{words}
use Rattle.session.specs.Buffers.{kept_in}
use Rattle.session.proofs.FeedingLaws.{at_point_at_end}
use Rattle.session.proofs.feeding.Buffers.finish.Goals as goal

pub invariant_of-index : goal.invariant_of-index
invariant_of-index c =
    let m = c.args.self.now in
    let f = c.finish-filled in
    record { at_point = at_point_at_end (kept_in m) (words f.new.store f.new.table) f.new.out f.result m.index.at_point (omega arith) (omega (arith, m.few)) f.ensures }
