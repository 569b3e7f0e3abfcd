-- The search goes on from the block, the bounds before it and the rounds so far.
use Rattle.methods.specs.Aims.{aim_of}
use Rattle.choosing.specs.Bounds.{BlockOnGrid}
use Rattle.choosing.specs.Slot.{rows_in}
use Rattle.choosing.proofs.ChooseLaws.{Onward}
use Rattle.choosing.proofs.choose.search.Given as goal

abbrev pub invariant-loop-rounds : goal.invariant-loop-rounds
invariant-loop-rounds l = record {
  block_on : BlockOnGrid l.block;
  onward : Onward (rows_in l.rows) (aim_of l.view) l.fn.naive l.before l.block l.rounds;
}
