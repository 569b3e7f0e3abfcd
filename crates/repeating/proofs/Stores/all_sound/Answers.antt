-- `all` answers as the definition
use Rattle.std.proofs.Common.{◌≡◌, true, false, refl, arith, rules}
use Rattle.std.proofs.lemmas.Iterator.{cases_from_all, YieldsList-from_range}
use Rattle.records.specs.Words.{are_sound}
use Rattle.repeating.specs.Turns.{part_at}
use Rattle.repeating.proofs.TurnsLaws.{all_answered}
use Rattle.repeating.proofs.Stores.all_sound.Goals as goal

pub returns : goal.returns
returns c =
    let s = c.args.self in
    all_answered s.stores.now s.tables.now s.count c.all.result
    (cases_from_all _ _ c.all.result (λ k. are_sound (part_at s.stores.now s.tables.now k) ≡ true) (λ k. are_sound (part_at s.stores.now s.tables.now k) ≡ false)
    c.all.ensures.ran (YieldsList-from_range 0 s.count s.count refl (omega arith)) (λ k q h. search rules) (λ k q h. search rules))
