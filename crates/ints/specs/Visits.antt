-- What it means that a thing is visited once, where a visit gives a thing for each number below a count.
-- Assumes nothing.
use Rattle.std.specs.Prelude.{◌≡◌, ℕ, ◌<◌}

-- at one number, and at no other
pub record VisitedOnce {A : Type 0} (count : ℕ) (visit : ℕ → A) (a : A) : Type 0 where
  pub number : ℕ
  pub below : number < count
  pub visits : visit number ≡ a
  pub only : (n : ℕ) → n < count → visit n ≡ a → n ≡ number
