-- Phase by phase, from the newest.
use mathlib.Core.Path.{refl, ◌∙◌}
use Rattle.std.proofs.Common.{◌-◌, arith}
use Rattle.std.proofs.lemmas.Bool.Decides.{nat_tests}
use Rattle.rows.specs.Table.{with_later_empty}
use Rattle.rows.proofs.PhasesLaws.{slot_on}
use Rattle.rows.proofs.TableLaws.{first_more, first_rest, first_all}
use Rattle.rows.proofs.table.empty_newly_live.Goals as goal
use Rattle.rows.proofs.table.empty_newly_live.Goals.{then-back-c+then-earlier-c, else-back-c, else-back-c-via-then-back-c+else-earlier-c, else-back-c-via-else-back-c}

pub loop-back-init : goal.loop-back-init
unfolding with_later_empty
loop-back-init c = refl

pub empty_slot-requires : goal.empty_slot-requires
empty_slot-requires c =
    record { whole_table = c.loop-back.auto.table ∙ c.requires; one_of_three = rw c.slot_of.ensures (slot_on (c.args.c - c.loop-back.back)) }

pub loop-back-preserved : goal.loop-back-preserved
loop-back-preserved c =
    let a = c.args in
    let i = c.loop-back.back in
    elim c.if-back-c.branch [
      | then-back-c+then-earlier-c w ↦ let more = first_more a.table.now a.earlier a.c i (a.c - i) (omega arith) (omega arith) in grind (arith, nat_tests)
      | else-back-c w ↦ elim w.else-back-c.branch [
        | else-back-c-via-then-back-c+else-earlier-c v ↦ let more = first_more a.table.now a.earlier a.c i (a.c - i) (omega arith) (omega arith) in grind (arith, nat_tests)
        | else-back-c-via-else-back-c v ↦ let rest = first_rest a.table.now a.earlier a.c i (omega arith) in cc
      ]
    ]

pub returns : goal.returns
returns c =
    let all = first_all c.args.table.now c.args.earlier c.args.c in
    grind arith
