-- The three tests are those of the definition.
use Rattle.std.proofs.Common.{rules, ◌≡◌, ◌&&◌, ◌∙◌, sym, true, false, pos, w32, FitsSigned}
use Rattle.std.proofs.lemmas.Int.{to_z-of_z}
use Rattle.ints.specs.Whole.{between}
use Rattle.ints.proofs.Truth.{and_left, and_right}
use Rattle.grid.specs.Reports.{in_range}
use Rattle.records.specs.Soundness.{key_is_right, is_sound_record}
use Rattle.records.proofs.SoundnessRangeLaws.{earlier_time}
use Rattle.records.proofs.soundness.is_sound_record.Goals as goal
use Rattle.records.proofs.soundness.is_sound_record.Goals.{then-in_range, else-in_range}

pub key_is_right-requires : goal.key_is_right-requires
key_is_right-requires c =
    let ranges = in_range c.args.r.report in
    let past = between (pos 0) c.args.time c.args.r.report.t in
    let e : c.if-in_range.value ≡ ranges && past = elim c.if-in_range.branch [ then-in_range w ↦ search rules | else-in_range w ↦ search rules ] in
    let f : ranges && past ≡ true = sym e ∙ c.if-contains.true in
    rw (to_z-of_z w32 c.args.time (search rules)) (record {
      is_time_lem = c.requires;
      in_range_lem = and_left ranges past f;
      sent = earlier_time c.args.time c.args.r.report.t c.requires (and_right ranges past f);
    })

pub returns-then-contains : goal.returns-then-contains
unfolding is_sound_record
returns-then-contains c =
    let ranges = in_range c.args.r.report in
    let past = between (pos 0) c.args.time c.args.r.report.t in
    let key = key_is_right c.args.time c.args.r in
    let e : c.if-in_range.value ≡ ranges && past = elim c.if-in_range.branch [ then-in_range w ↦ search rules | else-in_range w ↦ search rules ] in
    let f : ranges && past ≡ true = sym e ∙ c.if-contains.true in
    let t : FitsSigned w32 c.args.time = search rules in
    let k : c.key_is_right.result ≡ key = simp to_z-of_z at c.key_is_right.ensures in
    let g : key ≡ (ranges && past) && key = simp f in
    k ∙ g

pub returns-else-contains : goal.returns-else-contains
unfolding is_sound_record
returns-else-contains c =
    let ranges = in_range c.args.r.report in
    let past = between (pos 0) c.args.time c.args.r.report.t in
    let key = key_is_right c.args.time c.args.r in
    let e : c.if-in_range.value ≡ ranges && past = elim c.if-in_range.branch [ then-in_range w ↦ search rules | else-in_range w ↦ search rules ] in
    let f : ranges && past ≡ false = sym e ∙ c.if-contains.false in
    let g : false ≡ (ranges && past) && key = simp f in
    c.if-contains.false ∙ g
