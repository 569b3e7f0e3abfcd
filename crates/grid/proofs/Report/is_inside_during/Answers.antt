-- The passages through both ranges, from the first time on.
use Rattle.std.proofs.Common.{◌≡◌, arith}
use Rattle.std.proofs.lemmas.Int.{to_z-of_z}
use Rattle.grid.specs.Moments.{along_x, along_y, passage, inside_during}
use Rattle.grid.proofs.SmallLaws.{window_meeting, subtracted}
use Rattle.grid.proofs.Report.is_inside_during.Goals as goal

pub meet-requires : goal.meet-requires
meet-requires c =
    let a = c.args in
    let x : c.passage_from-x.result ≡ passage (along_x a.rect a.self) a.first = grind (arith, to_z-of_z) in
    let y : c.passage_from-y.result ≡ passage (along_y a.rect a.self) a.first = grind (arith, to_z-of_z) in
    let meeting = window_meeting c.requires in
    grind (arith, to_z-of_z, subtracted)

pub returns : goal.returns
unfolding inside_during
returns c = grind (arith, to_z-of_z, subtracted)
