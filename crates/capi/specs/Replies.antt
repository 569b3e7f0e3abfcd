-- What an exported call gives back and leaves: the documents' number, value and counts of the answer in its definition, and that definition's words.
-- Assumes nothing.
use Rattle.std.specs.Prelude.{◌≡◌, List, ℕ}
use Rattle.records.specs.Words.{Words}
use Rattle.ledger.specs.Answers.{number_of, value_of, counts_of}
use Rattle.ledger.specs.declared.Answer.{Answer}
use Rattle.asking.specs.Asking.{AskOutcome}
use Rattle.engine.specs.Index.{Outcome}
use Rattle.capi.specs.declared.Reply.{Reply}

-- an answer's numbers
abbrev pub reply_of : Answer → Reply
reply_of answer =
    let counts = counts_of answer in
    record {
      number = number_of answer;
      value = value_of answer;
      cells = counts.cells;
      useful = counts.useful;
      rounds = counts.rounds;
    }

-- those of an answer that is no accepted ask's
abbrev pub plain : ℕ → ℕ → Reply
plain number value = record { number = number; value = value; cells = 0; useful = 0; rounds = 0 }

-- a call's reply and words at exit are those of its definition
pub record Replies (o : Outcome) (r : Reply) (w : Words) : Type 0 where
  pub reply_is : r ≡ reply_of o.answer
  pub words_are : w ≡ o.words

pub record RepliesList (o : AskOutcome) (r : Reply) (list : List ℕ) : Type 0 where
  pub reply_is : r ≡ reply_of o.answer
  pub list_is : list ≡ o.list
