-- `store::stepping::place_dead` meets its contract where there is nothing to place.
use Rattle.std.proofs.Common.{arith}
use borrow.Author.Tests.{tests}
use Rattle.store.proofs.SteppingWordsLaws.{none_stored}
use Rattle.store.proofs.WideningLaws.{none_widened}
use Rattle.store.proofs.stepping.place_dead.Goals as goal

pub returns-then-is_empty-clause-store_after : goal.returns-then-is_empty-clause-store_after
returns-then-is_empty-clause-store_after c = none_stored _ _ c.requires.put_all.store (grind (arith, tests))

pub returns-then-is_empty-clause-table_after : goal.returns-then-is_empty-clause-table_after
returns-then-is_empty-clause-table_after c = none_widened _ _ (grind (arith, tests))
