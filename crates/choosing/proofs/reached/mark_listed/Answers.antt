-- What is left to mark grows shorter by a place.
use Rattle.std.proofs.Common.{[], ◌∷◌, ◌+◌, ℕ, subst, arith, rules, get_or}
use lib.ListN.{drop}
use Rattle.methods.specs.Aims.{aim_of}
use Rattle.choosing.specs.Mark.{Marked}
use Rattle.choosing.specs.Reached.{meeting}
use Rattle.choosing.specs.Slot.{rows_in}
use Rattle.choosing.proofs.MarkLaws.{left_next, left_none}
use Rattle.choosing.proofs.ReachedLaws.{bits_kept, place_at, met_next, met_none}
use Rattle.choosing.proofs.reached.mark_listed.Goals as goal

pub mark_if_met-requires : goal.mark_if_met-requires
mark_if_met-requires c =
    record {
      valid = c.requires.valid;
      ask = c.requires.ask;
      is_place = record { within = omega (arith, place_at c.requires.all_places c.loop-place.place-index c.loop-place-test.true) };
      one_each = c.loop-place.invariant.one_each;
      bits = c.loop-place.invariant.bits;
    }

pub loop-place-preserved : goal.loop-place-preserved
loop-place-preserved c =
    let rows = rows_in c.args.rows.now in
    let aim = aim_of c.args.view in
    let listed = c.args.listed.now in
    let i = c.loop-place.place-index in
    record {
      one_each = search rules;
      bits = bits_kept c.loop-place.invariant.bits c.mark_if_met.ensures;
      left = left_next c.loop-place.invariant.left (meeting rows aim (get_or listed i 0 ∷ [])) (meeting rows aim (drop (i + 1) listed)) (met_next rows aim listed i c.loop-place-test.true)
          (subst (λ (p : ℕ). Marked c.loop-place.marks (meeting rows aim (p ∷ [])) c.mark_if_met.new.marks) c.from.ensures c.mark_if_met.ensures);
    }

pub returns : goal.returns
returns c =
    let rows = rows_in c.args.rows.now in
    left_none c.loop-place.invariant.left (met_none rows (aim_of c.args.view) c.args.listed.now c.loop-place.place-index c.loop-place-test.false)
