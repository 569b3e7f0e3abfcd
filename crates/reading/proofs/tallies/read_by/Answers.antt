-- By the laws of the pass.
-- Assumes nothing.
use Rattle.std.proofs.Common.{arith, rules, ◌≡◌, ◌∙◌}
use lib.IntN.{nat_abs}
use mir.Syntax.{w32}
use mir.Val.{SFits}
use Rattle.ints.specs.Whole.{up}
use Rattle.ints.proofs.Parts.{signed}
use Rattle.ints.proofs.Machine.{back, known}
use Rattle.records.proofs.SoundnessRangeLaws.{id_from}
use Rattle.reading.proofs.TalliesLaws.{pass_start, pass_ranged, pass_room, pass_next, pass_end, ranged_small}
use Rattle.reading.proofs.tallies.read_by.Goals as goal

pub loop-record-init : goal.loop-record-init
loop-record-init g c =
    let same = c.into_iter-record-iterator.ensures.into_iter_gives in
    rw same (record { whole = c.chunks_exact-record-items.ensures.size; pass = rw c.chunks_exact-record-items.ensures.rest (pass_start _ _ _ _ _ c.requires) })

pub overflow_cast-ids : goal.overflow_cast-ids
overflow_cast-ids g c =
    let s = c.in-Some.ensures.steps in
    let i = c.loop-record.invariant in
    let r = c.read_from-r.result in
    let f : SFits w32 r.report.id = search rules in
    omega (arith, signed, known f, id_from r (pass_ranged _ _ _ _ _ _ _ i.pass _ _ s.1.0 (s.1.1 ∙ i.whole) r c.read_from-r.ensures))

pub offset_bounds-ids-tally : goal.offset_bounds-ids-tally
offset_bounds-ids-tally g c = omega (arith, c.loop-record.invariant.pass.few_listed)

pub bounds-ids-tally : goal.bounds-ids-tally
bounds-ids-tally g c =
    let s = c.in-Some.ensures.steps in
    let i = c.loop-record.invariant in
    pass_room _ _ _ _ _ _ _ i.pass _ _ s.1.0 (s.1.1 ∙ i.whole) _ c.read_from-r.ensures

pub lists-requires : goal.lists-requires
lists-requires g c =
    let s = c.in-Some.ensures.steps in
    let i = c.loop-record.invariant in
    let r = c.read_from-r.result in
    ranged_small r _ (pass_ranged _ _ _ _ _ _ _ i.pass _ _ s.1.0 (s.1.1 ∙ i.whole) r c.read_from-r.ensures) c.requires.small

pub count-tally-requires : goal.count-tally-requires
count-tally-requires g c =
    let p = c.loop-record.invariant.pass in
    record { few_listed = omega (arith, p.few_listed); few_useful = omega (arith, p.few_listed, p.few_useful) }

pub loop-record-preserved : goal.loop-record-preserved
loop-record-preserved g c =
    let s = c.in-Some.ensures.steps in
    let i = c.loop-record.invariant in
    let r = c.read_from-r.result in
    let f : SFits w32 r.report.id = search rules in
    let id : nat_abs (back w32 r.report.id) ≡ up r.report.id =
    omega (arith, signed, known f, id_from r (pass_ranged _ _ _ _ _ _ _ i.pass _ _ s.1.0 (s.1.1 ∙ i.whole) r c.read_from-r.ensures)) in
    record {
      whole = s.0 ∙ i.whole;
      pass =
          rw c.count-tally.ensures
          (pass_next _ _ _ _ _ _ _ i.pass _ _ s.1.0 (s.1.1 ∙ i.whole) r c.read_from-r.ensures _ id c.lists.result c.lists.ensures);
    }

pub returns : goal.returns
returns g c =
    let s = c.in-None.ensures.steps in
    let i = c.loop-record.invariant in
    pass_end _ _ _ _ _ _ _ i.pass (omega (arith, s.1.0, i.whole))
