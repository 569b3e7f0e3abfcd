-- `session::feeding::Buffers::feed` meets its contract: what leads each session on leaves the index at a point, and few bytes held.
use Rattle.std.proofs.Common.{take, arith}
use Rattle.session.specs.Session.{Session, session_after, lent}
use Rattle.session.specs.Buffers.{kept_in}
use Rattle.session.proofs.FeedingLaws.{at_point_then, few_then}
use Rattle.session.proofs.feeding.Buffers.feed.Goals as goal

pub invariant_of-index : goal.invariant_of-index
invariant_of-index c =
    let m = c.args.self.now in
    let f = c.feed-fed in
    let k = lent f.new.store f.new.table f.new.line f.result.held in
    let on = λ (s : Session). session_after s (take f.result.taken c.args.chunk.now) in
    record { at_point = at_point_then (kept_in m) k on f.ensures.stands m.index.at_point (omega arith) (omega (arith, m.few)) }

pub invariant_of-self : goal.invariant_of-self
invariant_of-self c =
    let m = c.args.self.now in
    let f = c.feed-fed in
    let k = lent f.new.store f.new.table f.new.line f.result.held in
    let on = λ (s : Session). session_after s (take f.result.taken c.args.chunk.now) in
    let few = few_then (kept_in m) k on f.ensures.stands m.index.at_point (omega arith) (omega (arith, m.few)) in
    record { few = omega arith }
