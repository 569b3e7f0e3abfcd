-- The places before j are judged.
use Rattle.lanes.proofs.ValidityLaws.{JudgedTo}
use Rattle.lanes.proofs.validity.judged_places.Given as goal

abbrev pub invariant-loop-j : goal.invariant-loop-j
invariant-loop-j l = JudgedTo l.words l.valid l.j
