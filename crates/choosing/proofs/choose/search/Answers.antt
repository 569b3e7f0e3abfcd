-- A round finds no bounds, the same bounds, or goes on from the block that they give.
use Rattle.std.proofs.Common.{◌∙◌, sym, ap, subst, rules}
use Rattle.rows.specs.declared.Row.{Row}
use Rattle.methods.specs.Reach.{block_of}
use Rattle.methods.specs.Aims.{aim_of}
use Rattle.methods.specs.Methods.{iterated, most_rounds}
use Rattle.choosing.specs.Bounds.{BlockOnGrid}
use Rattle.choosing.specs.Slot.{rows_in}
use Rattle.choosing.proofs.ChooseLaws.{block_on_grid, search_out_of_rounds, search_missing, search_same, search_onward, call_valid}
use Rattle.choosing.proofs.choose.search.Goals as goal

pub loop-rounds-init : goal.loop-rounds-init
loop-rounds-init c =
    record {
      block_on = c.requires.block_on;
      onward = ap (λ (w : Row). iterated most_rounds (rows_in c.args.rows.now) (aim_of c.args.view) w c.args.naive 0) c.empty-before.ensures;
    }

pub block_bounds_in-bounds-requires : goal.block_bounds_in-bounds-requires
block_bounds_in-bounds-requires c = c.loop-rounds.invariant.block_on

pub returns-then-is_empty : goal.returns-then-is_empty
returns-then-is_empty c = let t = sym c.is_empty.ensures ∙ c.if-is_empty.true in search (rules, search_missing)

pub returns-then-same : goal.returns-then-same
returns-then-same c =
    let t = sym c.is_empty.ensures ∙ c.if-is_empty.false in
    let u = sym c.same.ensures ∙ c.if-same.true in
    search (rules, search_same)

pub expanded-requires : goal.expanded-requires
expanded-requires c = search (rules, call_valid)

pub loop-rounds-preserved : goal.loop-rounds-preserved
loop-rounds-preserved c =
    let t = sym c.is_empty.ensures ∙ c.if-is_empty.false in
    let u = sym c.same.ensures ∙ c.if-same.false in
    let p = c.block_of-block.ensures ∙ ap block_of c.expanded.ensures in
    record {
      block_on = subst BlockOnGrid (sym c.block_of-block.ensures) (block_on_grid c.expanded.result);
      onward = rw p (search (rules, search_onward));
    }

pub returns : goal.returns
returns c = search (rules, search_out_of_rounds)
