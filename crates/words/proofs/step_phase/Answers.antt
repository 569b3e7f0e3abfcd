-- first the newly live phases are emptied, then the records move
use Rattle.std.proofs.Common.{◌∙◌, ap, ap₂, List}
use lib.IntN.{ℤ}
use Rattle.rows.specs.Phases.{phase_of}
use Rattle.rows.specs.Table.{with_newly_live_empty}
use Rattle.records.specs.Records.{records_of}
use Rattle.store.specs.Stepping.{moves, replaced}
use Rattle.store.specs.Widening.{widened_by_all}
use Rattle.words.specs.Words.{table_moved}
use Rattle.words.proofs.step_phase.Goals as goal

pub move_records-requires : goal.move_records-requires
move_records-requires c =
    record { store = c.requires.is_store; table_long = c.empty_newly_live.auto.table ∙ c.requires.whole_table; is_step = c.requires.is_step }

pub returns : goal.returns
unfolding table_moved
returns c =
    let s = c.args.s in
    let anew = replaced (phase_of s.time) (moves s.now s.time) (records_of c.args.store.now) in
    let emptied = ap₂ (with_newly_live_empty c.args.table.now) c.requires.is_step.from_is c.requires.is_step.to_is in
    record {
      store_is = c.move_records.ensures.store_after;
      table_is = c.move_records.ensures.table_after ∙ ap (λ (table : List ℤ). widened_by_all table anew) (c.empty_newly_live.ensures ∙ emptied);
    }
