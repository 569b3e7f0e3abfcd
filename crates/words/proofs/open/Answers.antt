-- an empty store and empty rows
use Rattle.std.proofs.Common.{◌∙◌, ap, ap₂, []}
use lib.IntN.{ℤ}
use mir.Facts.{to_z-of_z}
use Rattle.records.specs.Records.{store_of}
use Rattle.records.specs.Words.{words}
use Rattle.words.specs.Words.{opened}
use Rattle.words.proofs.open.Goals as goal

pub returns : goal.returns
unfolding opened
returns c = ap₂ words (c.open_at.ensures ∙ ap (λ (x : ℤ). store_of x []) (to_z-of_z c.ranges.t)) c.empty_table.ensures
