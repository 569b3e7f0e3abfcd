-- How a call's results are those of its definition.
-- Assumes nothing.
use Rattle.std.specs.Prelude.{◌≡◌, List, ℕ}
use Rattle.records.specs.Words.{Words}
use Rattle.ledger.specs.declared.Answer.{Answer}
use Rattle.ledger.specs.Answers.{number_of, value_of, counts_of}
use Rattle.engine.specs.Index.{Outcome, CallOutcome}

-- a call's number, value, counts and words at exit are those of its definition, and so is the answer that has them
pub record Gives (o : Outcome) (a : Answer) (w : Words) : Type 0 where
  pub number_is : number_of a ≡ number_of o.answer
  pub value_is : value_of a ≡ value_of o.answer
  pub counts_are : counts_of a ≡ counts_of o.answer
  pub answer_is : a ≡ o.answer
  pub words_are : w ≡ o.words

-- the same of any call, and the list that it is lent
pub record GivesCall (o : CallOutcome) (a : Answer) (w : Words) (list : List ℕ) : Type 0 where
  pub answer_is : a ≡ o.answer
  pub words_are : w ≡ o.words
  pub list_is : list ≡ o.list
