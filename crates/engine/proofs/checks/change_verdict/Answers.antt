-- who is held is judged on those that stay at the clock step, as after it
use Rattle.std.proofs.Common.{◌∙◌, sym, ap, arith, w32}
use Rattle.ints.proofs.Machine.{held}
use Rattle.records.specs.Records.{records_of, now_of}
use Rattle.records.proofs.RecordsLaws.{store-words_of}
use Rattle.ledger.specs.Refusals.{first_to_fail}
use Rattle.ledger.specs.declared.Refusal.TheVariants.{BadTime, BadNumber}
use Rattle.ledger.proofs.RefusalsLaws.{passes}
use Rattle.engine.proofs.ChecksLaws.{judged_after}
use Rattle.engine.proofs.checks.change_verdict.Goals as goal

pub bad_step_time-requires : goal.bad_step_time-requires
bad_step_time-requires c = omega (arith, store-words_of c.args.store.now c.requires.has.store)

pub returns : goal.returns
returns c =
    let now = now_of c.args.store.now in
    let time = held w32 c.time.result c.time.type_inv ∙ c.time.ensures in
    let id = held w32 c.id.result c.id.type_inv ∙ c.id.ensures in
    let time-2 = held w32 c.time-2.result c.time-2.type_inv ∙ c.time-2.ensures in
    let good_time = sym (simp time at c.bad_step_time.ensures) ∙ c.if-bad_step_time.false in
    let good_numbers = sym c.bad_numbers.ensures ∙ c.if-bad_numbers.false in
    let is_held = simp (id, time-2) at c.has_left-is_held.ensures in
    passes _ BadTime _ _ good_time (passes _ BadNumber _ _ good_numbers (simp (is_held, c.requires.left_is) at c.verdict_by_held.ensures))
    ∙ ap first_to_fail (judged_after now (records_of c.args.store.now) c.args.c)
