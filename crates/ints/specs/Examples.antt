-- A case that a document gives or that was worked out by hand: what the definitions give, and what is said. That they agree is for antt to compute.
-- Assumes nothing.
use Rattle.std.specs.Prelude.{◌≡◌, List, map}

pub record Example (A : Type 0) : Type 0 where
  pub given : A
  pub said : A

abbrev pub AllAsSaid : {A : Type 0} → List (Example A) → Type 0
AllAsSaid {A} examples = map (λ (e : Example A). e.given) examples ≡ map (λ (e : Example A). e.said) examples
