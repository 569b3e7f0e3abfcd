-- The method's choice by the rows of the phase's slot, at the query seen from the phase.
use Rattle.std.proofs.Common.{rules}
use Rattle.asking.proofs.choose_in.Goals as goal

pub choose_by-requires : goal.choose_by-requires
choose_by-requires c =
    rw (c.slot_of-slot.ensures, c.view_of-view.ensures) (record { of_slot = c.requires.slot; ask = c.requires.is_ask; fair = c.requires.fair; one_each = search rules })

pub returns : goal.returns
returns c = rw (c.method_of.ensures, c.view_of-view.ensures, c.slot_of-slot.ensures) at c.choose_by.ensures
