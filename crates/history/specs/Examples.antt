-- The limits that the definitions compute, and the numbers that the index gives for its lent buffers and for a time out of range: what the
-- definitions give, and what document 01 says.
-- Assumes nothing.
use Rattle.std.specs.Prelude.{List, [], ◌∷◌, ℕ, ℤ, pos, negsuc, replicate}
use Rattle.ints.specs.Examples.{Example}
use Rattle.grid.specs.Units.{cells, last_position}
use Rattle.rows.specs.Table.{table_words}
use Rattle.records.specs.Records.{store_words}
use Rattle.records.specs.Words.{words}
use Rattle.ledger.specs.Answers.{number_of}
use Rattle.engine.specs.Index.{open_out, clock_out}

unfoldable pub limits : List (Example ℕ)
limits =
    record { given = last_position; said = 8388607 }
    ∷ record { given = cells; said = 1024 }
    ∷ record { given = store_words; said = 7175 }
    ∷ record { given = table_words; said = 12288 }
    ∷ []

-- buffers of the right lengths; a store whose every word is -1 is unsound
abbrev pub whole_store : ℤ → List ℤ
whole_store word = replicate store_words word

abbrev pub whole_table : List ℤ
whole_table = replicate table_words (pos 0)

unfoldable pub numbers : List (Example ℕ)
numbers =
    record { given = number_of (open_out (words (whole_store (negsuc 0)) whole_table) (pos 0)).answer; said = 0 }
    ∷ record { given = number_of (clock_out (words [] []) (pos 0)).answer; said = 1 }
    ∷ record { given = number_of (clock_out (words (whole_store (negsuc 0)) whole_table) (pos 0)).answer; said = 2 }
    ∷ record { given = number_of (open_out (words (whole_store (negsuc 0)) whole_table) (negsuc 0)).answer; said = 3 }
    ∷ []
