-- The answers of document 01's listing and their lines.
-- Assumes nothing.
use Rattle.std.specs.Prelude.{List, [], ◌∷◌, ℕ}
use Prim.Native.Char.{Char}
use Prim.Native.String.{String}
use Rattle.ledger.specs.declared.Answer.{Answer}
use Rattle.ledger.specs.declared.Answer.TheVariants.{Accepted, Listed, Refused}
use Rattle.ledger.specs.declared.Refusal.TheVariants.{NotHeld, ListTooShort}

-- an answer with its call's letter and the ids listed, and its line
pub record Answered : Type 0 where
  pub letter : Char
  pub answer : Answer
  pub ids : List ℕ
  pub line : String

unfoldable pub answered : List Answered
answered =
    record { letter = "O"; answer = Accepted 0; ids = []; line = "O         0         0" }
    ∷ record { letter = "A"; answer = Accepted 1; ids = []; line = "A         0         1" }
    ∷ record { letter = "A"; answer = Accepted 2; ids = []; line = "A         0         2" }
    ∷ record {
      letter = "Q";
      answer = Listed 2 2 2 0;
      ids = 7 ∷ 9 ∷ [];
      line = "Q         0         2         2         2         0         7         9";
    }
    ∷ record { letter = "D"; answer = Accepted 1; ids = []; line = "D         0         1" }
    ∷ record {
      letter = "Q";
      answer = Listed 1 3 1 0;
      ids = 9 ∷ [];
      line = "Q         0         1         3         1         0         9";
    }
    ∷ record { letter = "D"; answer = Refused NotHeld; ids = []; line = "D         6         0" }
    ∷ []

-- an ask refused for its list, lent some ids, none of which is written
abbrev pub short_list : Answered
short_list = record { letter = "Q"; answer = Refused (ListTooShort 2); ids = 7 ∷ []; line = "Q         8         2" }
