-- Each number is one that a line may have.
use Rattle.std.proofs.Common.{[], ◌∷◌, refl, lit<}
use Rattle.fields.proofs.NumbersLaws.{small_at}
use Rattle.answers.proofs.write_start.Goals as goal

pub above-requires : goal.above-requires
above-requires c = small_at (c.args.number ∷ c.args.value ∷ []) 0 c.args.number c.requires.writable (lit< tt) refl

pub above-requires-2 : goal.above-requires-2
above-requires-2 c = small_at (c.args.number ∷ c.args.value ∷ []) 1 c.args.value c.requires.writable (lit< tt) refl
