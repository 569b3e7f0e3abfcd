-- The method of a number chooses what the number does.
use Rattle.choosing.proofs.ChooseLaws.{chosen_by_number}
use Rattle.choosing.proofs.choose.choose.Goals as goal

pub returns : goal.returns
returns c = chosen_by_number c.method_of.ensures c.choose_by.ensures
