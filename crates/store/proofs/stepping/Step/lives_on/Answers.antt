-- `store::stepping::Step::lives_on` meets its contract: the phase of a key is none later than the current one.
use Rattle.std.proofs.Common.{arith, w32}
use Rattle.ints.proofs.Machine.{back}
use Rattle.records.proofs.OrderKeysLaws.{phase_of_key-small}
use Rattle.store.proofs.SteppingWordsLaws.{from_small}
use Rattle.store.proofs.stepping.Step.lives_on.Goals as goal

pub is_live-requires : goal.is_live-requires
is_live-requires c = omega (arith, from_small _ c.requires, phase_of_key-small c.args.self.from (back w32 c.args.r.key))
