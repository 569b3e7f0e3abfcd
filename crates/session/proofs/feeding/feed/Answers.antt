-- `session::feeding::feed` meets its contract: one byte more is one step more of the session.
use Rattle.std.proofs.Common.{◌-◌, length, take, drop, length-drop, arith, rules}
use Rattle.std.proofs.Math.Seq.{length-take-le}
use Rattle.session.specs.Session.{Session, session_after, lent}
use Rattle.session.proofs.FeedingLaws.{going_begins, going_on, at_point_then, few_then}
use Rattle.session.proofs.feeding.feed.Goals as goal

pub loop-taken-init : goal.loop-taken-init
loop-taken-init c = (going_begins c.args.chunk.now (lent c.args.store.now c.args.table.now c.args.line.now c.args.held) c.args.out.now, omega arith)

pub take_byte-filled-requires : goal.take_byte-filled-requires
take_byte-filled-requires c =
    let a = c.args in
    let l = c.loop-taken in
    let k₀ = lent a.store.now a.table.now a.line.now a.held in
    let k = lent l.store l.table l.line l.held in
    let on = λ (s : Session). session_after s (take l.taken a.chunk.now) in
    let stands = l.invariant.0.stands in
    let at = c.requires.can_answer.at_point in
    let rest = length-take-le (length l.out - l.filled) (drop l.filled l.out) (omega (arith, length-drop l.filled l.out)) in
    record {
      can_answer = record {
        at_point = at_point_then k₀ k on stands at c.requires.line_long c.requires.few;
        list_long = omega arith;
        room = omega (arith, rest);
      };
      line_long = omega arith;
      few = few_then k₀ k on stands at c.requires.line_long c.requires.few;
    }

pub loop-taken-preserved : goal.loop-taken-preserved
loop-taken-preserved c =
    let a = c.args in
    let l = c.loop-taken in
    let t = c.take_byte-filled in
    let more =
    going_on a.chunk.now (lent a.store.now a.table.now a.line.now a.held) (lent l.store l.table l.line l.held) l.out l.filled l.taken l.invariant.0
    c.loop-taken-test.true (lent t.new.store t.new.table t.new.line t.new.held) t.new.out t.result t.ensures in
    (more, search rules)
