-- `store::inserting::insert` meets its contract: the records from the place on move up by one record, and the new one is written there.
use Rattle.std.proofs.Common.{arith}
use Rattle.records.proofs.PlacesLaws.{store_room, has_words}
use Rattle.store.proofs.InsertingLaws.{insert_done}
use Rattle.store.proofs.inserting.insert.Goals as goal

pub set_held-requires : goal.set_held-requires
set_held-requires c =
    let room = store_room _ c.requires.store in
    record { count_word = omega (arith, room, c.move_up.ensures.len, c.write_record.auto.words); few = omega (arith, room, c.requires.room) }

pub returns : goal.returns
returns c = insert_done _ _ _ _ (has_words _ c.requires.store) c.requires.room c.held_of-n.ensures c.place_of.ensures _ _ _ c.move_up.ensures.after c.write_record.ensures c.set_held.ensures
