-- The numbers before j are folded.
use Rattle.std.proofs.Common.{take}
use Rattle.lanes.specs.Lanes.{Folded}
use Rattle.lanes.proofs.bounds.Lanes.fold.Given as goal

abbrev pub invariant-loop-j : goal.invariant-loop-j
invariant-loop-j l = Folded (take l.j l.block) l.fn.self.least l.fn.self.greatest l.self.least l.self.greatest
