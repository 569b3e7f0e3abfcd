-- the part has its length
use Rattle.std.proofs.Common.{◌≡◌, ◌+◌, ◌-◌, ◌*◌, arith}
use Rattle.records.specs.Records.{store_words}
use Rattle.repeating.proofs.Stores.store.Goals as goal

pub returns : goal.returns
returns c =
    let e : store_words * c.args.k + store_words - store_words * c.args.k ≡ store_words = omega arith in
    rw e
