-- the record is in its ranges, and the store has room for it
use Rattle.std.proofs.Common.{rules, ◌≡◌, ap₂, true, w32}
use Rattle.ints.proofs.Machine.{tested₁}
use Rattle.grid.specs.Reports.{in_range, is_time}
use Rattle.grid.specs.declared.Report.{Report}
use Rattle.rows.specs.Phases.{phase_of}
use Rattle.records.specs.Soundness.{is_ranged}
use Rattle.records.specs.Words.{words}
use Rattle.records.proofs.OrderKeysLaws.{key_in-below}
use Rattle.records.proofs.SoundnessRangeLaws.{last_phase_lem, parts_ranged}
use Rattle.store.specs.Stepping.{placed_in}
use Rattle.words.specs.Words.{placed}
use Rattle.words.proofs.place.Goals as goal

ranged : (r : Report) → in_range r ≡ true → is_time r.t ≡ true → is_ranged (placed_in (phase_of r.t) r) ≡ true
ranged r h t = parts_ranged (placed_in (phase_of r.t) r) (record { report = h; time = t; key = key_in-below (phase_of r.t) r })

pub place_in-new-requires : goal.place_in-new-requires
place_in-new-requires c =
    let phase = tested₁ w32 phase_of c.phase_at.result c.args.r.t c.phase_at.ensures (search rules) in
    record { phase = rw phase (last_phase_lem c.args.r.t c.requires.is_time_lem); in_range_lem = c.requires.in_range_lem; is_time_lem = c.requires.is_time_lem }

pub insert-requires : goal.insert-requires
insert-requires c =
    let phase = tested₁ w32 phase_of c.phase_at.result c.args.r.t c.phase_at.ensures (search rules) in
    let new = simp phase at c.place_in-new.ensures in
    record { store = c.requires.can_change.is_store; ranged = rw new (ranged c.args.r c.requires.in_range_lem c.requires.is_time_lem); room = c.requires.room }

pub widen-requires : goal.widen-requires
widen-requires c =
    let phase = tested₁ w32 phase_of c.phase_at.result c.args.r.t c.phase_at.ensures (search rules) in
    let new = simp phase at c.place_in-new.ensures in
    record { whole_table = c.requires.can_change.whole_table; ranged = rw new (ranged c.args.r c.requires.in_range_lem c.requires.is_time_lem) }

pub returns : goal.returns
unfolding placed
returns c =
    let phase = tested₁ w32 phase_of c.phase_at.result c.args.r.t c.phase_at.ensures (search rules) in
    let new = simp phase at c.place_in-new.ensures in
    ap₂ words (simp new at c.insert.ensures) (simp new at c.widen.ensures)
