-- neither end wraps
use Rattle.std.proofs.Common.{◌≡◌, ◌∙◌, arith, pos, ◌+ℤ◌, ◌-ℤ◌, w64, to_z, of_z}
use mir.Facts.{to_z-of_z}
use Rattle.ints.proofs.Parts.{abs, add, sub}
use Rattle.ints.proofs.Machine.{fits}
use Rattle.engine.proofs.ChecksSpans.{in_order_is}
use Rattle.engine.proofs.checks.is_near.Goals as goal

pub returns : goal.returns
returns c =
    let time = to_z-of_z c.ranges.time in
    let asked = to_z-of_z c.ranges.asked in
    let low : to_z w64 (of_z w64 (c.args.time -ℤ pos 3600)) ≡ c.args.time -ℤ pos 3600 = to_z-of_z {w = w64} (fits (omega (arith, abs c.args.time, sub c.args.time (pos 3600)))) in
    let high : to_z w64 (of_z w64 (c.args.time +ℤ pos 7200)) ≡ c.args.time +ℤ pos 7200 = to_z-of_z {w = w64} (fits (omega (arith, abs c.args.time, add c.args.time (pos 7200)))) in
    let start = simp (time, low) at c.new.ensures.start in
    let end = simp (time, high) at c.new.ensures.end in
    c.contains.ensures.value ∙ simp (start, end, c.new.ensures.exhausted, asked, in_order_is)
