-- `store::opening::open_at` meets its contract: all words are zero, then the time is set.
use Rattle.std.proofs.Common.{set, ap, ◌∙◌, rules}
use Rattle.std.proofs.lemmas.Int.{to_z-of_z}
use Rattle.store.proofs.WritingLaws.{blank}
use Rattle.store.proofs.opening.open_at.Goals as goal

pub returns : goal.returns
returns c =
    ap (set c.fill.new.self 0) (to_z-of_z _ _ c.ranges.t)
    ∙ blank _ _ c.args.t c.requires (c.fill.ensures.after (search rules))
