-- The third that is lent comes back with its rows empty.
use Rattle.std.proofs.Common.{◌≡◌, ◌*◌, ◌/◌, ◌+◌, ◌-◌, arith, length, take, drop}
use lib.Seq.{drop-drop}
use lib.ListN.{length-take, length-drop}
use Rattle.rows.specs.Table.{slot_words, with_slot_empty}
use Rattle.rows.proofs.table.empty_slot.Goals as goal

pub returns : goal.returns
unfolding with_slot_empty
returns c =
    let a = slot_words * c.args.slot in
    let e : a + (a + slot_words - a) ≡ a + slot_words = omega arith in
    let n : length (take (a + slot_words - a) (drop a c.args.table.now)) / 4 ≡ 1024 = simp (length-take, length-drop) (omega arith) in
    simp (c.empty_rows.ensures, n, drop-drop, e)
