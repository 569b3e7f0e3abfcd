-- the part has its length
use Rattle.std.proofs.Common.{◌≡◌, ◌+◌, ◌-◌, ◌*◌, arith}
use Rattle.rows.specs.Table.{table_words}
use Rattle.repeating.proofs.Stores.table.Goals as goal

pub returns : goal.returns
returns c =
    let e : table_words * c.args.k + table_words - table_words * c.args.k ≡ table_words = omega arith in
    rw e
