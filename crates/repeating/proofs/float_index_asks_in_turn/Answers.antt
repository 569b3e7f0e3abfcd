-- the stores counted are there
use Rattle.repeating.proofs.TurnsLaws.{has_stores}
use Rattle.repeating.proofs.float_index_asks_in_turn.Goals as goal

pub ask_in_turn-requires : goal.ask_in_turn-requires
ask_in_turn-requires c = has_stores c.args.stores.now c.args.tables.now c.stores_in.result c.stores_in.ensures
