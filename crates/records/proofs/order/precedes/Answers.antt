-- Its three tests are those of the definition.
use Rattle.std.proofs.Common.{rules, w32, FitsSigned}
use Rattle.std.proofs.lemmas.Int.{to_z-of_z}
use Rattle.ints.proofs.Library.{bits_equal}
use Rattle.records.specs.Order.{precedes}
use Rattle.records.proofs.order.precedes.Goals as goal

pub returns : goal.returns
unfolding precedes
returns c =
    let k : FitsSigned w32 c.args.a.key = search rules in
    let l : FitsSigned w32 c.args.b.key = search rules in
    let i : FitsSigned w32 c.args.a.report.id = search rules in
    let j : FitsSigned w32 c.args.b.report.id = search rules in
    simp (to_z-of_z, bits_equal k l)
