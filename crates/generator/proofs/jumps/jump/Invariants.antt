-- The invariant: the map that is reached, done as many times as are left, leads from the state that is reached to the end. The measure is what is left.
use Rattle.std.proofs.Common.{◌≡◌}
use Rattle.generator.specs.Generator.{mapped, times, jump}
use Rattle.generator.proofs.jumps.jump.Given as goal

abbrev pub invariant-loop-left : goal.invariant-loop-left
invariant-loop-left l = times (mapped l.f) l.left l.s ≡ jump l.m l.fn.start

abbrev pub decreases-loop-left : goal.decreases-loop-left
decreases-loop-left l = l.left
