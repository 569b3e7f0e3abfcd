-- Each axis is expanded by its own speeds.
use Rattle.std.proofs.Common.{rules}
use Rattle.methods.specs.Reach.{expanded_rect}
use Rattle.reaching.proofs.ReachingLaws.{same_rect, small_x, small_y, axis_back, expanded_called}
use Rattle.reaching.proofs.expanded_slice.Goals as goal

pub expand_range-requires : goal.expand_range-requires
expand_range-requires c = search (rules, axis_back, small_x)

pub expand_range-requires-2 : goal.expand_range-requires-2
expand_range-requires-2 c = search (rules, axis_back, small_y)

pub returns : goal.returns
unfolding expanded_rect
returns c = same_rect (search expanded_called) (search expanded_called)
