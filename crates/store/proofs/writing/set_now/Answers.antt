-- `store::writing::set_now` meets its contract: the time is the first word.
use Rattle.std.proofs.Common.{set, ap, ◌∙◌}
use Rattle.std.proofs.lemmas.Int.{to_z-of_z}
use Rattle.store.proofs.WritingLaws.{now_set}
use Rattle.store.proofs.writing.set_now.Goals as goal

pub returns : goal.returns
returns c = ap (set c.args.store.now 0) (to_z-of_z _ _ c.ranges.t) ∙ now_set _ _ c.requires
