-- `retiring::stays` meets its contract: in 64 bits the sum does not wrap.
use Rattle.std.proofs.Common.{◌≡◌, ℤ, ◌+ℤ◌, pos, w32, w64}
use Rattle.std.proofs.lemmas.Int.{to_z-of_z}
use Rattle.ints.proofs.Machine.{back, called₁}
use Rattle.grid.specs.Reports.{is_silent}
use Rattle.retiring.proofs.RetiringLaws.{below, silent_from}
use Rattle.retiring.proofs.stays.Goals as goal

pub returns : goal.returns
unfolding is_silent
returns c =
    let same : ℤ → ℤ = λ z. z in
    let time_is : back w64 c.from.result ≡ c.args.time = search (called₁ w32 w64 same) in
    let t_is : back w64 c.from-2.result ≡ c.args.t = search (called₁ w32 w64 same) in
    simp (time_is, t_is, to_z-of_z _ _ (silent_from c.args.t c.ranges.t)) (below c.args.time (c.args.t +ℤ pos 2592000))
