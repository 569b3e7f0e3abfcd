-- `store::removing::remove_at` meets its contract: the words behind the record are moved down over it, and the last seven are zeroed.
use Rattle.std.proofs.Common.{arith, rules, ℤ, ◌*◌, ◌+◌, ◌-◌}
use borrow.Rule.Slice.PartMut.{same_len_mid}
use Rattle.records.proofs.PlacesLaws.{words_room}
use Rattle.store.proofs.RemovingLaws.{remove_at_done}
use Rattle.store.proofs.removing.remove_at.Goals as goal

pub set_held-requires : goal.set_held-requires
set_held-requires c =
    let n = c.held_of-n.result in
    let room = words_room _ c.requires.store in
    let long = same_len_mid {X = ℤ} (7 * n) (7 * n + 7 - 7 * n) c.move_down.new.words c.fill.new.self c.fill.auto.self in
    record { count_word = omega (arith, long, room, c.move_down.ensures.len); few = omega (arith, room) }

pub returns : goal.returns
returns c =
    remove_at_done _ _ _ c.requires.store c.held_of-n.ensures c.requires.within _ _ _ c.move_down.ensures.after c.move_down.ensures.len
    (c.fill.ensures.after (search rules)) c.set_held.ensures
