-- `store::finding::has_id` meets its contract: the ids are compared by their bits.
use Rattle.std.proofs.Common.{rules, ap, ◌∙◌, w32}
use Rattle.ints.specs.Whole.{eq_z}
use Rattle.ints.proofs.Library.{bits_equal}
use Rattle.store.proofs.finding.has_id.Goals as goal

pub returns : goal.returns
returns c =
    bits_equal {w = w32} {a = c.read_from.result.report.id} {b = c.args.id} (search rules) (search rules) ∙ ap (λ r. eq_z r.report.id c.args.id) c.read_from.ensures
