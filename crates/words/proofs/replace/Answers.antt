-- the float taken out, then its report placed
use Rattle.std.proofs.Common.{rules, ◌∙◌, sym, ap, subst, w32}
use Rattle.ints.proofs.Machine.{held}
use Rattle.records.specs.Words.{Words, words}
use Rattle.words.specs.Words.{placed}
use Rattle.words.specs.Needs.{CanPlace}
use Rattle.words.proofs.WordsPlacedLaws.{can_place_again}
use Rattle.words.proofs.replace.Goals as goal

pub place-requires : goal.place-requires
place-requires c =
    let left = simp (held w32 c.args.r.id (search rules)) at c.take_out.ensures in
    subst (λ (w : Words). CanPlace w c.args.r) (sym left) (can_place_again (words c.args.store.now c.args.table.now) c.args.r c.requires)

pub returns : goal.returns
returns c =
    let left = simp (held w32 c.args.r.id (search rules)) at c.take_out.ensures in
    c.place.ensures ∙ ap (placed c.args.r) left
