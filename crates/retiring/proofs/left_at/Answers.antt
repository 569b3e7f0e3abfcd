-- `retiring::left_at` meets its contract: each record that stays adds one.
use Rattle.std.proofs.Common.{ℤ, Bool, not, get_or, pos, ◌+◌, ◌*◌, arith, refl, rules, sym, ap, ◌∙◌, w32}
use Rattle.std.proofs.lemmas.Int.{to_z-of_z}
use Rattle.ints.proofs.Machine.{back, tested₁}
use Rattle.grid.specs.Reports.{is_silent}
use Rattle.retiring.proofs.RetiringLaws.{byte_is, time_word, counting_start, counting_next, counting_end}
use Rattle.retiring.proofs.left_at.Goals as goal

pub loop-i-init : goal.loop-i-init
loop-i-init c = counting_start _ _ _ refl

pub loop-i-preserved : goal.loop-i-preserved
loop-i-preserved c =
    let s = c.args.store.now in
    let judge : ℤ → Bool = λ t. not (is_silent (back w32 c.args.time) t) in
    let test = tested₁ w32 judge c.stays.result (get_or s (7 * c.loop-i.i + 9) (pos 0)) c.stays.ensures (search rules) ∙ ap judge (sym (time_word s c.loop-i.i)) in
    rw (c.from-left.ensures, byte_is c.stays.result, test) (counting_next _ _ _ _ _ c.loop-i.invariant (omega arith))

pub returns : goal.returns
returns c = rw (to_z-of_z _ _ c.ranges.time) at (counting_end _ _ _ _ _ c.loop-i.invariant (omega arith))
