-- `retiring::retire` meets its contract: nothing to do where all stay; else those that stay are kept alone.
use Rattle.std.proofs.Common.{sym, ap, ◌∙◌}
use Rattle.std.proofs.lemmas.Int.{to_z-of_z}
use Rattle.grid.specs.Reports.{stays_at}
use Rattle.records.specs.Records.{now_of, records_of, store_of}
use Rattle.records.proofs.RecordsLaws.{held_records}
use Rattle.store.proofs.WritingKeptLaws.{kept_alone}
use Rattle.retiring.proofs.RetiringLaws.{none_goes}
use Rattle.retiring.proofs.retire.Goals as goal

pub returns-then-left-n : goal.returns-then-left-n
returns-then-left-n c =
    let s = c.args.store.now in
    let all = sym c.requires.left_is ∙ c.if-left-n.true ∙ c.held_of-n.ensures ∙ sym (held_records s) in
    c.requires.store.words ∙ ap (store_of (now_of s)) (sym (none_goes (stays_at c.args.time) (records_of s) all))

pub returns : goal.returns
returns c =
    rw (to_z-of_z _ _ c.ranges.time) at (kept_alone _ _ _ _ _ _ c.requires.store c.held_of-n.ensures c.keep_staying-k.ensures c.keep_first.ensures)
