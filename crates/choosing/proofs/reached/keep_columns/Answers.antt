-- What is kept grows by the listed places that pass.
use Rattle.std.proofs.Common.{◌∙◌, ap, arith}
use lib.ListN.{length-set}
use Rattle.choosing.specs.Reached.{may_meet}
use Rattle.choosing.specs.Slot.{rows_in}
use Rattle.choosing.proofs.ReachedLaws.{growing_next, growing_end, next_number, no_number, place_at, keeps_columns}
use Rattle.choosing.proofs.reached.keep_columns.Goals as goal

pub may_meet-requires : goal.may_meet-requires
may_meet-requires c =
    record {
      valid = c.requires.valid;
      ask = c.requires.ask;
      is_place = record { within = omega (arith, place_at c.requires.all_places c.loop-place.place-index c.loop-place-test.true) };
    }

pub loop-place-preserved : goal.loop-place-preserved
loop-place-preserved c =
    let l = c.loop-place in
    let listed = c.args.listed.now in
    record {
      one_each = simp length-set l.invariant.one_each;
      grows = rw c.from-m.ensures
          (growing_next _ listed l.kept l.m _ _ _ l.invariant.grows (next_number listed l.place-index c.loop-place-test.true) c.may_meet.result
          (c.may_meet.ensures ∙ ap (may_meet (rows_in c.args.rows.now) c.args.view) c.from.ensures));
    }

pub returns : goal.returns
returns c =
    let l = c.loop-place in
    let listed = c.args.listed.now in
    keeps_columns _ _ _ l.kept l.m (growing_end _ listed l.kept l.m _ l.invariant.grows (no_number listed l.place-index c.loop-place-test.false))
