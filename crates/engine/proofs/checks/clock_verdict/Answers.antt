-- the store has its length
use Rattle.std.proofs.Common.{arith}
use Rattle.records.proofs.RecordsLaws.{store-words_of}
use Rattle.engine.proofs.checks.clock_verdict.Goals as goal

pub bad_step_time-requires : goal.bad_step_time-requires
bad_step_time-requires c = omega (arith, store-words_of c.args.store.now c.requires)
