-- The call's line is written at its place, and then the newline behind it.
use Rattle.std.proofs.Common.{ℕ, ◌-◌, length, refl, arith, length-take, length-drop}
use borrow.Rule.Slice.PartMut.{same_len_mid}
use Rattle.lines.specs.Lines.{change_numbers, numbers_of}
use Rattle.fleets.proofs.WritingLaws.{float_put}
use Rattle.fleets.proofs.writing.write_float.Goals as goal

pub write_call-requires : goal.write_call-requires
unfolding numbers_of change_numbers
write_call-requires c = record { room = simp (length-take, length-drop) (omega arith); writable = c.requires.writable }

pub returns : goal.returns
returns c =
    let out = c.args.out.now in
    float_put out c.write_call.new.out _ c.args.at c.write_call.result c.args.report c.requires.room c.requires.writable c.write_call.ensures refl
    (same_len_mid {X = ℕ} c.args.at (length out - c.args.at) out c.write_call.new.out c.write_call.auto.out)
