-- Every mark is 0 once they are filled with it.
use Rattle.std.proofs.Common.{◌∙◌, ap, ℕ, replicate, rules}
use Rattle.choosing.specs.Mark.{no_marks}
use Rattle.choosing.proofs.mark.clear.Goals as goal

pub returns : goal.returns
unfolding no_marks
returns c = c.fill.ensures.after (search rules) ∙ ap (λ (n : ℕ). replicate n 0) c.requires
