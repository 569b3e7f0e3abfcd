-- `store::stepping::take_dead` meets its contract: after the pass, the records that it kept are kept alone.
use Rattle.store.proofs.WritingKeptLaws.{kept_alone}
use Rattle.store.proofs.stepping.take_dead.Goals as goal

pub returns-clause-store_after : goal.returns-clause-store_after
returns-clause-store_after c = kept_alone _ _ _ _ _ _ c.requires.store c.held_of-n.ensures c.keep_live-k.ensures.kept_first c.keep_first.ensures
