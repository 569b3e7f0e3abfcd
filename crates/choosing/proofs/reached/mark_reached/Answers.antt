-- The rows that are made are those of the slot.
use Rattle.choosing.proofs.ChooseLaws.{valid_in}
use Rattle.choosing.proofs.reached.mark_reached.Goals as goal

pub mark_reached_in-requires : goal.mark_reached_in-requires
mark_reached_in-requires c =
    record {
      valid = valid_in c.new.result c.new.ensures.same_table c.new.ensures.same_slot c.requires.of_slot;
      ask = c.requires.ask;
      none_set = c.requires.none_set;
    }
