-- The elements of a list that pass a test, whether one does and whether all do: the one filter, "some" and "all" of the definitions of the other
-- crates. Their laws are in proofs/Lists.antt.
-- Assumes nothing.
use Rattle.std.specs.Prelude.{Bool, true, false, ◌&&◌, ◌||◌, cond, List, [], ◌∷◌}

unfoldable pub passing : {A : Type 0} → (A → Bool) → List A → List A
passing f [] = []
passing f (a ∷ xs) = cond (f a) (a ∷ passing f xs) (passing f xs)

unfoldable pub some : {A : Type 0} → (A → Bool) → List A → Bool
some f [] = false
some f (a ∷ xs) = f a || some f xs

unfoldable pub every : {A : Type 0} → (A → Bool) → List A → Bool
every f [] = true
every f (a ∷ xs) = f a && every f xs
