-- `retiring::keep_staying` meets its contract: a record that stays is written behind those kept before it.
use Rattle.std.proofs.Common.{ℤ, Bool, not, arith, refl, rules, sym, ◌∙◌, w32}
use Rattle.std.proofs.lemmas.Int.{to_z-of_z}
use Rattle.ints.proofs.Machine.{back, tested₁}
use Rattle.grid.specs.Reports.{is_silent}
use Rattle.store.proofs.WritingKeptLaws.{keeping_start, keeping_stays, keeping_goes, keeping_end}
use Rattle.retiring.proofs.keep_staying.Goals as goal
use Rattle.retiring.proofs.keep_staying.Goals.{then-stays, else-stays}

pub loop-i-init : goal.loop-i-init
loop-i-init c = keeping_start _ _ _ c.requires refl

pub loop-i-preserved : goal.loop-i-preserved
loop-i-preserved c =
    let judge : ℤ → Bool = λ t. not (is_silent (back w32 c.args.time) t) in
    let test = tested₁ w32 judge c.stays.result c.read_from-r.result.report.t c.stays.ensures (search rules) in
    elim c.if-stays.branch [
      | then-stays w ↦
          rw (w.store-is, w.k-is) (keeping_stays _ _ _ _ _ _ c.loop-i.invariant (omega arith) _ c.read_from-r.ensures (sym test ∙ w.if-stays.true) _ w.write_record.ensures)
      | else-stays w ↦
          rw (w.store-is, w.k-is) (keeping_goes _ _ _ _ _ _ c.loop-i.invariant (omega arith) _ c.read_from-r.ensures (sym test ∙ w.if-stays.false))
    ]

pub returns : goal.returns
returns c = rw (to_z-of_z _ _ c.ranges.time) at (keeping_end _ _ _ _ _ _ c.loop-i.invariant (omega arith))
