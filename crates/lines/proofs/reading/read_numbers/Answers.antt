-- A field without a number ends the reading.
use Rattle.std.proofs.Common.{◌≡◌, ◌∙◌, sym, arith, rules}
use mir.Syntax.{w32}
use Rattle.ints.proofs.Machine.{back, held}
use Rattle.lines.proofs.ReadingLaws.{one_missing, none_so_far, next_read}
use Rattle.lines.proofs.reading.read_numbers.Goals as goal

pub loop-k-init : goal.loop-k-init
loop-k-init c = none_so_far c.args.line.now

pub returns-in_err-numbers : goal.returns-in_err-numbers
returns-in_err-numbers c =
    c.from_residual.ensures ∙ one_missing c.args.line.now c.args.count c.loop-k.k c.loop-k-test.true (sym c.read_field.ensures ∙ c.in_err-numbers.was)

pub loop-k-preserved : goal.loop-k-preserved
loop-k-preserved c =
    let h = c.loop-k in
    let z = c.in_ok-numbers.field-0 in
    let e : back w32 z ≡ z = held w32 z (search rules) in
    rw e (next_read c.args.line.now h.k h.numbers z (omega arith) h.invariant (sym c.read_field.ensures ∙ c.in_ok-numbers.was))
