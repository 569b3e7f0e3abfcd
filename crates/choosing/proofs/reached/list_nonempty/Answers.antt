-- What is listed grows by the places that pass.
use Rattle.std.proofs.Common.{arith}
use lib.ListN.{length-set}
use Rattle.choosing.specs.Reached.{places}
use Rattle.choosing.proofs.ReachedLaws.{growing_start, growing_next, growing_end, next_place, no_place, left_long, places_fit, lists_nonempty}
use Rattle.choosing.proofs.reached.list_nonempty.Goals as goal

pub loop-place-init : goal.loop-place-init
loop-place-init c = record { one_each = c.requires; grows = growing_start _ places c.args.full.now (places_fit c.args.full.now c.requires) }

pub bounds-full-k : goal.bounds-full-k
bounds-full-k c = omega (arith, c.loop-place.invariant.grows.room, left_long c.loop-place.place)

pub loop-place-preserved : goal.loop-place-preserved
loop-place-preserved c =
    let l = c.loop-place in
    record {
      one_each = simp length-set l.invariant.one_each;
      grows = rw c.from-k.ensures (growing_next _ places l.full l.k l.place _ _ l.invariant.grows (next_place l.place c.loop-place-test.true) c.has_row.result c.has_row.ensures);
    }

pub returns : goal.returns
returns c =
    let l = c.loop-place in
    lists_nonempty _ l.full l.k (growing_end _ places l.full l.k _ l.invariant.grows (no_place l.place c.loop-place-test.false))
