-- The columns and rows of the two corners.
use mir.Syntax.{w64}
use Rattle.ints.proofs.Machine.{tested₁}
use Rattle.grid.specs.Places.{column_of, row_of}
use Rattle.methods.specs.Reach.{block_of}
use Rattle.methods.proofs.Nesting.{same_block}
use Rattle.reaching.proofs.block_of.Goals as goal

pub returns : goal.returns
unfolding block_of
returns c =
    same_block
    (search (tested₁ w64 column_of))
    (search (tested₁ w64 column_of))
    (search (tested₁ w64 row_of))
    (search (tested₁ w64 row_of))
