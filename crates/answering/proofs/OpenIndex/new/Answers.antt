-- `answering::OpenIndex::new` meets its contract: an open over words of the right lengths is accepted.
use Rattle.std.proofs.Common.{arith}
use Rattle.answering.proofs.AnsweringLaws.{first_point}
use Rattle.answering.proofs.OpenIndex.new.Goals as goal

pub invariant_of-result : goal.invariant_of-result
invariant_of-result c = record { at_point = ∣ record { ledger = _; point = first_point _ _ (omega arith) (omega arith) _ _ c.«open».ensures } ∣₁ }

pub returns : goal.returns
returns c = first_point _ _ (omega arith) (omega arith) _ _ c.«open».ensures
