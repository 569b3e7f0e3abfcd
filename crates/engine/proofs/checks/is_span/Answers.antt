-- in 64 bits the sum does not wrap
use Rattle.std.proofs.Common.{◌≡◌, ◌∙◌, arith, pos, ◌+ℤ◌, w32, w64, to_z, of_z}
use mir.Facts.{to_z-of_z}
use Rattle.ints.proofs.Parts.{add}
use Rattle.ints.proofs.Machine.{fits, of_fits, held}
use Rattle.engine.proofs.ChecksSpans.{in_order_is}
use Rattle.engine.proofs.checks.is_span.Goals as goal

pub returns : goal.returns
returns c =
    let f = of_fits w32 c.args.first c.ranges.first in
    let from = held w64 c.from-from.result c.from-from.type_inv ∙ (c.from-from.ensures ∙ to_z-of_z c.ranges.first) in
    let last = held w64 c.from.result c.from.type_inv ∙ (c.from.ensures ∙ to_z-of_z c.ranges.last) in
    let high : to_z w64 (of_z w64 (c.args.first +ℤ pos 3600)) ≡ c.args.first +ℤ pos 3600 = to_z-of_z {w = w64} (fits (omega (arith, add c.args.first (pos 3600)))) in
    let start = simp from at c.new.ensures.start in
    let end = simp (from, high) at c.new.ensures.end in
    c.contains.ensures.value ∙ simp (start, end, c.new.ensures.exhausted, last, in_order_is)
