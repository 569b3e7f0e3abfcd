-- The four functions that draw meet their contracts. A square of order 0 is one cell; in any other the four calls, one after the other, number the cells of the
-- shape's four parts.
use Rattle.std.proofs.Common.{◌∙◌, sym, arith}
use Rattle.shapes.specs.Shapes.{ShapeA, ShapeB, ShapeC, ShapeD, part_of}
use Rattle.drawing.proofs.DrawnLaws.{drawn_cell, drawn_in_four}
use Rattle.drawing.proofs.drawn.+draw_a_draw_b_draw_c_draw_d.Goals as goal

-- ---- shape A

pub draw_a-returns-then-square-eq0 : goal.draw_a-returns-then-square-eq0
draw_a-returns-then-square-eq0 t c = c.number_cell.ensures ∙ sym (drawn_cell ShapeA c.args.square c.args.out.now c.if-square-eq0.true)

pub draw_a-returns : goal.draw_a-returns
unfolding part_of
draw_a-returns t c =
    drawn_in_four ShapeA c.args.square (omega (arith, c.if-square-eq0.false)) c.args.out.now c.quarter.ensures.cut c.quarter-2.ensures.cut
    c.quarter-3.ensures.cut c.quarter-4.ensures.cut c.draw_b.ensures c.draw_a.ensures c.draw_a-2.ensures c.draw_c.ensures

-- ---- shape B

pub draw_b-returns-then-square-eq0 : goal.draw_b-returns-then-square-eq0
draw_b-returns-then-square-eq0 t c = c.number_cell.ensures ∙ sym (drawn_cell ShapeB c.args.square c.args.out.now c.if-square-eq0.true)

pub draw_b-returns : goal.draw_b-returns
unfolding part_of
draw_b-returns t c =
    drawn_in_four ShapeB c.args.square (omega (arith, c.if-square-eq0.false)) c.args.out.now c.quarter.ensures.cut c.quarter-2.ensures.cut
    c.quarter-3.ensures.cut c.quarter-4.ensures.cut c.draw_a.ensures c.draw_b.ensures c.draw_b-2.ensures c.draw_d.ensures

-- ---- shape C

pub draw_c-returns-then-square-eq0 : goal.draw_c-returns-then-square-eq0
draw_c-returns-then-square-eq0 t c = c.number_cell.ensures ∙ sym (drawn_cell ShapeC c.args.square c.args.out.now c.if-square-eq0.true)

pub draw_c-returns : goal.draw_c-returns
unfolding part_of
draw_c-returns t c =
    drawn_in_four ShapeC c.args.square (omega (arith, c.if-square-eq0.false)) c.args.out.now c.quarter.ensures.cut c.quarter-2.ensures.cut
    c.quarter-3.ensures.cut c.quarter-4.ensures.cut c.draw_d.ensures c.draw_c.ensures c.draw_c-2.ensures c.draw_a.ensures

-- ---- shape D

pub draw_d-returns-then-square-eq0 : goal.draw_d-returns-then-square-eq0
draw_d-returns-then-square-eq0 t c = c.number_cell.ensures ∙ sym (drawn_cell ShapeD c.args.square c.args.out.now c.if-square-eq0.true)

pub draw_d-returns : goal.draw_d-returns
unfolding part_of
draw_d-returns t c =
    drawn_in_four ShapeD c.args.square (omega (arith, c.if-square-eq0.false)) c.args.out.now c.quarter.ensures.cut c.quarter-2.ensures.cut
    c.quarter-3.ensures.cut c.quarter-4.ensures.cut c.draw_c.ensures c.draw_d.ensures c.draw_d-2.ensures c.draw_b.ensures
