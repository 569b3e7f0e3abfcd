-- The phase of the key is not before that of t, and the key is the one in that phase.
use Rattle.std.proofs.Common.{rules, arith, ◌≡◌, ◌&&◌, ◌∙◌, ap, ap₂, ℕ, ℤ, w32, FitsSigned, to_z, of_z}
use Rattle.std.proofs.lemmas.Int.{to_z-of_z}
use borrow.Author.Tests.{le-leb, lt-leb}
use lib.Dec.{leb}
use Rattle.ints.specs.Whole.{eq_z}
use Rattle.rows.specs.Phases.{phase_of}
use Rattle.records.specs.Order.{key_in, phase_of_key}
use Rattle.records.specs.Soundness.{key_is_right}
use Rattle.records.specs.declared.Record.{Record}
use Rattle.ints.proofs.Library.{bits_equal}
use Rattle.records.proofs.SoundnessRangeLaws.{last_phase_lem}
use Rattle.records.proofs.OrderKeysLaws.{phase_of_key-small}
use Rattle.records.proofs.soundness.key_is_right.Goals as goal

judged : (time : ℤ) (r : Record) (p q : ℕ) → p ≡ phase_of_key (phase_of time) r.key → q ≡ phase_of r.report.t → leb q p && eq_z r.key (key_in p r.report) ≡ key_is_right time r
unfolding key_is_right
judged time r p q e f = ap₂ (λ (m n : ℕ). leb n m && eq_z r.key (key_in m r.report)) e f

pub key_by-requires : goal.key_by-requires
key_by-requires c =
    let t : FitsSigned w32 c.args.time = search rules in
    let p : c.phase_at.result ≡ phase_of c.args.time = simp to_z-of_z at c.phase_at.ensures in
    let key = to_z w32 (of_z w32 c.args.r.key) in
    record {
      not_late = omega (arith, last_phase_lem c.args.time c.requires.is_time_lem, phase_of_key-small c.phase_at.result key, c.phase_of_key-p.ensures);
      in_range_lem = c.requires.in_range_lem;
      sent = c.requires.sent;
    }

pub returns-then-phase_at-p : goal.returns-then-phase_at-p
returns-then-phase_at-p c =
    let t : FitsSigned w32 c.args.time = search rules in
    let k : FitsSigned w32 c.args.r.key = search rules in
    let s : FitsSigned w32 c.args.r.report.t = search rules in
    let p = c.phase_of_key-p.ensures ∙ ap₂ phase_of_key (simp to_z-of_z at c.phase_at.ensures) (to_z-of_z w32 c.args.r.key k) in
    let j = judged c.args.time c.args.r c.phase_of_key-p.result c.phase_at-2.result p (simp to_z-of_z at c.phase_at-2.ensures) in
    bits_equal {b = c.key_by.result} k (search rules) ∙ ap (eq_z c.args.r.key) c.key_by.ensures ∙ (simp (le-leb c.phase_at-2.result c.phase_of_key-p.result c.if-phase_at-p.true) at j)

pub returns-else-phase_at-p : goal.returns-else-phase_at-p
returns-else-phase_at-p c =
    let t : FitsSigned w32 c.args.time = search rules in
    let k : FitsSigned w32 c.args.r.key = search rules in
    let s : FitsSigned w32 c.args.r.report.t = search rules in
    let p = c.phase_of_key-p.ensures ∙ ap₂ phase_of_key (simp to_z-of_z at c.phase_at.ensures) (to_z-of_z w32 c.args.r.key k) in
    let j = judged c.args.time c.args.r c.phase_of_key-p.result c.phase_at-2.result p (simp to_z-of_z at c.phase_at-2.ensures) in
    let n = lt-leb c.phase_at-2.result c.phase_of_key-p.result c.if-phase_at-p.false in
    n ∙ (simp n at j)
