-- What is left, by the test of row i.
use Rattle.std.proofs.Common.{◌/◌, arith, length}
use Rattle.lanes.proofs.ValidityLaws.{valid_next, none_left}
use Rattle.lanes.proofs.validity.rows_valid.Goals as goal

pub returns-then-not-is_valid : goal.returns-then-not-is_valid
returns-then-not-is_valid c =
    let next = valid_next c.args.words.now (length c.args.words.now / 4) c.loop-i.i (omega arith) in
    grind arith

pub loop-i-preserved : goal.loop-i-preserved
loop-i-preserved c =
    let next = valid_next c.args.words.now (length c.args.words.now / 4) c.loop-i.i (omega arith) in
    grind arith

pub returns : goal.returns
returns c =
    let none = none_left c.args.words.now (length c.args.words.now / 4) c.loop-i.i (omega arith) in
    grind arith
