-- The same of a cell's column alone.
use Rattle.std.proofs.Common.{rules}
use Rattle.methods.specs.declared.View.TheVariants as View
use Rattle.reaching.specs.Reaching.{IsAsk}
use Rattle.reaching.proofs.ReachingLaws.{small_x, axis_back, expanded_called, meets_moved, column_where_reached}
use Rattle.reaching.proofs.column_reaches.Goals as goal

pub expand_range-requires : goal.expand_range-requires
expand_range-requires c = let ask : IsAsk c.in-Slice.s = rw c.in-Slice.is at c.requires.ask in search (rules, axis_back, small_x)

pub returns-in-Slice : goal.returns-in-Slice
returns-in-Slice c =
    let s = c.in-Slice.s in
    rw c.in-Slice.is (meets_moved c.args.c.column _ _ s.d s.rect.x c.expand_range.result _ c.column_meets.ensures (search expanded_called))

pub returns-in-Window : goal.returns-in-Window
returns-in-Window c =
    rw c.in-Window.is (column_where_reached (View.Window c.in-Window.w) c.args.c c.args.row c.expanded_window.result _ c.expanded_window.ensures c.column_meets-in-Window.ensures)
