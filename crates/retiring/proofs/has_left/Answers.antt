-- `retiring::has_left` meets its contract: the one record that has the id is looked for, and its float judged.
use Rattle.std.proofs.Common.{ℕ, ℤ, Bool, not, pos, get_or, drop, arith, rules, sym, ap, ◌∙◌, ◌+◌, ◌*◌, w32}
use Rattle.std.proofs.lemmas.Int.{to_z-of_z}
use Rattle.ints.proofs.Machine.{tested₂}
use Rattle.grid.specs.Reports.{is_silent, stays_at}
use Rattle.records.specs.Records.{record_from, records_of}
use Rattle.records.proofs.RecordsLaws.{held_records}
use Rattle.records.proofs.PlacesLaws.{drop-record}
use Rattle.store.specs.Finding.{found_at}
use Rattle.store.proofs.FindingLaws.{some_found, none_found}
use Rattle.retiring.proofs.RetiringLaws.{time_word, none_has, one_has}
use Rattle.retiring.proofs.has_left.Goals as goal

pub returns-in-Some : goal.returns-in-Some
returns-in-Some c =
    let s = c.args.store.now in
    let n = c.in-Some.i in
    let found = some_found c.args.id (records_of s) n (sym c.in-Some.is ∙ c.index_of.ensures ∙ ap (λ z. found_at z (records_of s)) (to_z-of_z _ _ c.ranges.id)) in
    let judge : ℤ → ℤ → Bool = λ time t. not (is_silent time t) in
    let here = ap (λ (j : ℕ). drop j (records_of s)) (sym found.0) ∙ drop-record s n (omega (arith, found.1, held_records s)) in
    tested₂ w32 judge c.stays.result c.args.time (get_or s (7 * n + 9) (pos 0)) c.stays.ensures (search rules) (search rules)
    ∙ ap (judge c.args.time) (sym (time_word s n))
    ∙ one_has (stays_at c.args.time) c.args.id (record_from s (7 * n + 7)) (records_of s) (drop (n + 1) (records_of s)) here c.requires.distinct

pub returns-in-None : goal.returns-in-None
returns-in-None c =
    let s = c.args.store.now in
    none_has (stays_at c.args.time) c.args.id (records_of s)
    (none_found _ _ (sym c.in-None.is ∙ c.index_of.ensures ∙ ap (λ z. found_at z (records_of s)) (to_z-of_z _ _ c.ranges.id)))
