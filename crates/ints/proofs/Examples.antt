-- Two tables of cases together are as said where each of them is.
-- Assumes nothing.
use mathlib.Core.Path.{sym, ap₂, ◌∙◌}
use mathlib.Core.List.{List, ◌++◌}
use Rattle.ints.specs.Examples.{Example, AllAsSaid}
use Rattle.ints.proofs.Lists.{map-append}

pub both_as_said : {A : Type 0} (xs ys : List (Example A)) → AllAsSaid xs → AllAsSaid ys → AllAsSaid (xs ++ ys)
both_as_said {A} xs ys p q =
    map-append (λ (e : Example A). e.given) xs ys ∙ ap₂ (◌++◌ {A = A}) p q ∙ sym (map-append (λ (e : Example A). e.said) xs ys)
