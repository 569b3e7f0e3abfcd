-- Each turn puts one field more.
use Rattle.std.proofs.Common.{ℤ, arith, ap, ◌∙◌, sym, pos, ◌+◌, ◌*◌}
use Rattle.fields.specs.Fields.{field_of, is_writable}
use Rattle.fields.specs.Numbers.{nth}
use Rattle.fields.specs.Put.{put}
use Rattle.fields.proofs.WritingLaws.{length_field}
use Rattle.fields.proofs.NumbersLaws.{writable_at, writable_back, left_next, left_none, fields-in_turn}
use Rattle.fields.proofs.numbers.write_numbers.Goals as goal

pub write_field-requires : goal.write_field-requires
write_field-requires c =
    let z = nth c.args.numbers.now c.loop-i.i in
    let w = writable_at c.args.numbers.now c.loop-i.i c.requires.writable (omega arith) in
    record { room = omega arith; writable = ap is_writable (writable_back z w) ∙ w }

pub loop-i-preserved : goal.loop-i-preserved
loop-i-preserved c =
    let h = c.loop-i in
    let zs = c.args.numbers.now in
    let z = nth zs h.i in
    let w = writable_at zs h.i c.requires.writable (omega arith) in
    h.invariant
    ∙ left_next fields-in_turn 10 (pos 0) c.args.at zs h.out c.write_field.new.out h.i (omega arith) (omega arith) (length_field z w)
    (c.write_field.ensures ∙ ap (λ (x : ℤ). put h.out (c.args.at + 10 * h.i) (field_of x)) (writable_back z w))

pub returns : goal.returns
returns c =
    let h = c.loop-i in
    sym (h.invariant ∙ left_none fields-in_turn 10 c.args.at c.args.numbers.now h.out h.i (omega arith))
