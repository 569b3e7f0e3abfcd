-- The measure of the four functions that draw: the order, which is one less in a quarter.
use Rattle.drawing.proofs.drawn.+draw_a_draw_b_draw_c_draw_d.Given as goal

abbrev pub decreases-draw_a : goal.decreases-draw_a
decreases-draw_a l = l.square.order

abbrev pub decreases-draw_b : goal.decreases-draw_b
decreases-draw_b l = l.square.order

abbrev pub decreases-draw_c : goal.decreases-draw_c
decreases-draw_c l = l.square.order

abbrev pub decreases-draw_d : goal.decreases-draw_d
decreases-draw_d l = l.square.order
