-- States that were computed elsewhere: what the definitions give, and what is said.
-- Assumes nothing.
use Rattle.std.specs.Prelude.{ℕ, List, [], ◌∷◌}
use Rattle.ints.specs.Examples.{Example}
use Rattle.generator.specs.Generator.{step, steps, draw_below, jump}

-- one and two steps from 0, 4,096 of them; jumps over 2^32 and 10^18 steps; the first draws from 0 below the sea's side and below the speeds
unfoldable pub examples : List (Example ℕ)
examples =
    record { given = step 0; said = 1013904223 }
    ∷ record { given = step (step 0); said = 1196435762 }
    ∷ record { given = steps 4096 0; said = 143282176 }
    ∷ record { given = jump 4096 0; said = 143282176 }
    ∷ record { given = jump 4294967296 12345; said = 12345 }
    ∷ record { given = jump 1000000000000000000 7; said = 2741239815 }
    ∷ record { given = (draw_below 8388608 0).number; said = 1980281 }
    ∷ record { given = (draw_below 8388608 (step 0)).number; said = 2336788 }
    ∷ record { given = (draw_below 1001 (steps 2 0)).number; said = 820 }
    ∷ record { given = (draw_below 1001 (steps 3 0)).number; said = 668 }
    ∷ []
