-- The numbers are put, and then the newline behind them.
use Rattle.drawing.proofs.ChartLaws.{line_put}
use Rattle.drawing.proofs.chart.write_line.Goals as goal

pub returns : goal.returns
returns c =
    line_put c.args.out.now c.write_unsigned.new.out c.args.numbers.now c.args.at c.requires.long (λ i. (c.type_inv.numbers i).fits) c.requires.room
    c.write_unsigned.auto.out c.write_unsigned.ensures
