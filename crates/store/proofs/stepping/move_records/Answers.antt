-- `store::stepping::move_records` meets its contract: the records that do not live on are taken out, and put in again.
use Rattle.store.proofs.SteppingWordsLaws.{step_asks, step_stored, step_widened}
use Rattle.store.proofs.stepping.move_records.Goals as goal

pub place_dead-requires : goal.place_dead-requires
place_dead-requires c = step_asks _ _ _ _ _ _ c.take_dead-m.ensures.store_after c.take_dead-m.ensures.taken _ c.requires.store c.requires.table_long

pub returns-clause-store_after : goal.returns-clause-store_after
returns-clause-store_after c = step_stored _ _ _ _ _ _ c.take_dead-m.ensures.store_after c.take_dead-m.ensures.taken _ c.place_dead.ensures.store_after

pub returns-clause-table_after : goal.returns-clause-table_after
returns-clause-table_after c = step_widened _ _ _ _ _ _ _ c.take_dead-m.ensures.taken c.place_dead.ensures.table_after
