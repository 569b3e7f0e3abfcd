-- One number more is folded by one store.
use mathlib.Core.Path.{refl}
use Rattle.std.proofs.Common.{arith}
use Rattle.std.proofs.lemmas.Int.{to_z-of_z}
use Rattle.ints.specs.Whole.{min_z, max_z}
use Rattle.ints.proofs.Library.{min-is, max_is}
use Rattle.lanes.specs.Lanes.{folded}
use Rattle.lanes.proofs.BoundsLaws.{fold_stored}
use Rattle.lanes.proofs.bounds.Lanes.fold.Goals as goal

pub loop-j-init : goal.loop-j-init
unfolding folded
loop-j-init c = record { as_least = refl; as_greatest = refl }

pub loop-j-preserved : goal.loop-j-preserved
loop-j-preserved c =
    let a = c.args in
    let h = c.loop-j in
    record {
      as_least = fold_stored min_z a.block.now a.self.now.least h.self.least h.j _ (omega arith) h.invariant.as_least (grind (arith, to_z-of_z, min-is));
      as_greatest = fold_stored max_z a.block.now a.self.now.greatest h.self.greatest h.j _ (omega arith) h.invariant.as_greatest (grind (arith, to_z-of_z, max_is));
    }
