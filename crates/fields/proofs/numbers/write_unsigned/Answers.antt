-- Each turn puts the columns of one number more.
use Rattle.std.proofs.Common.{ℕ, arith, ap, ◌∙◌, sym, ◌+◌, ◌*◌, suc, get_or, length}
use Rattle.std.proofs.Math.Nat.{mul-suc, mul-le-mul_left}
use Rattle.fields.specs.Put.{put}
use Rattle.fields.specs.Writing.{number_in}
use Rattle.fields.proofs.NumbersLaws.{left_next, left_none, columns-in_turn, short_columns, length_short}
use Rattle.fields.proofs.numbers.write_unsigned.Goals as goal

pub loop-i-preserved : goal.loop-i-preserved
loop-i-preserved c =
    let h = c.loop-i in
    let a = c.args in
    let n = get_or a.numbers.now h.i 0 in
    let at = a.at + a.columns * h.i in
    h.invariant
    ∙ left_next (columns-in_turn a.columns) a.columns 0 a.at a.numbers.now h.out c.write_columns.new.out h.i
    (omega (arith, mul-suc a.columns h.i, mul-le-mul_left {m = suc h.i} {n = length a.numbers.now} a.columns (omega arith)))
    (omega arith)
    (length_short a.columns c.requires.wide n (omega (arith, c.type_inv.numbers h.i)))
    (c.write_columns.ensures
    ∙ ap (λ (m : ℕ). put h.out at (number_in a.columns 32 m)) c.from.ensures
    ∙ ap (put h.out at) (sym (short_columns a.columns c.requires.wide n (omega (arith, c.type_inv.numbers h.i)))))

pub returns : goal.returns
returns c =
    let h = c.loop-i in
    sym (h.invariant ∙ left_none (columns-in_turn c.args.columns) c.args.columns c.args.at c.args.numbers.now h.out h.i (omega arith))
