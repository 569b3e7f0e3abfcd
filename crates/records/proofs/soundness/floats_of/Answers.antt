-- A sound record 0 says that so many records fit.
use Rattle.std.proofs.Common.{arith}
use Rattle.records.proofs.PlacesLaws.{floats_read}
use Rattle.records.proofs.SoundnessLaws.{sound_header}
use Rattle.records.proofs.soundness.floats_of.Goals as goal

pub returns-clause-records : goal.returns-clause-records
returns-clause-records c =
    let h = (sound_header c.args.store.now c.requires.header).count.most in
    floats_read c.args.store.now c.held_of.result c.held_of.ensures (omega (arith, c.requires.long))
