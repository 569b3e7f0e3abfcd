-- A moved cell meets the rectangle exactly when it meets, where it is, the expanded one.
use Rattle.std.proofs.Common.{◌&&◌, ap₂, rules}
use Rattle.methods.specs.Reach.{moved_cell_meets}
use Rattle.methods.specs.declared.View.TheVariants as View
use Rattle.reaching.specs.Reaching.{IsAsk}
use Rattle.reaching.proofs.ReachingLaws.{small_x, small_y, axis_back, expanded_called, meets_moved, cell_where_reached}
use Rattle.reaching.proofs.cell_meets.Goals as goal

pub expand_range-requires : goal.expand_range-requires
expand_range-requires c = let ask : IsAsk c.in-Slice.s = rw c.in-Slice.is at c.requires.ask in search (rules, axis_back, small_x)

pub expand_range-requires-in-Slice : goal.expand_range-requires-in-Slice
expand_range-requires-in-Slice c = let ask : IsAsk c.in-Slice.s = rw c.in-Slice.is at c.requires.ask in search (rules, axis_back, small_y)

pub returns-in-Slice : goal.returns-in-Slice
unfolding moved_cell_meets
returns-in-Slice c =
    let s = c.in-Slice.s in
    rw c.in-Slice.is
    (ap₂ ◌&&◌
    (meets_moved c.args.c.column _ _ s.d s.rect.x c.expand_range.result _ c.column_meets.ensures (search expanded_called))
    (meets_moved c.args.c.row _ _ s.d s.rect.y c.expand_range-in-Slice.result _ c.column_meets-in-Slice.ensures (search expanded_called)))

pub returns-in-Window : goal.returns-in-Window
returns-in-Window c =
    rw c.in-Window.is (cell_where_reached (View.Window c.in-Window.w) c.args.c c.args.row c.expanded_window.result _ c.expanded_window.ensures c.overlaps.ensures)
