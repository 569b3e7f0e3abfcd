-- The three tests are those of the definition.
use Rattle.std.proofs.Common.{rules, ◌≡◌, ◌&&◌, ◌∙◌, sym, true, false}
use mathlib.Core.Bool.{and_assoc}
use Rattle.grid.specs.Reports.{in_range, is_id, is_position, is_speed}
use Rattle.records.proofs.soundness.in_range.Goals as goal
use Rattle.records.proofs.soundness.in_range.Goals.{then-contains, else-contains}

pub returns-then-are_positions : goal.returns-then-are_positions
unfolding in_range
returns-then-are_positions c =
    let r = c.args.r in
    let places = is_position r.x && is_position r.y in
    let speeds = is_speed r.vx && is_speed r.vy in
    let e : c.if-contains.value ≡ is_id r.id && places = elim c.if-contains.branch [ then-contains w ↦ search rules | else-contains w ↦ search rules ] in
    let f : is_id r.id && places ≡ true = sym e ∙ c.if-are_positions.true in
    let s : c.are_speeds.result ≡ speeds = search rules in
    s ∙ (simp f at (and_assoc (is_id r.id) places speeds))

pub returns-else-are_positions : goal.returns-else-are_positions
unfolding in_range
returns-else-are_positions c =
    let r = c.args.r in
    let places = is_position r.x && is_position r.y in
    let speeds = is_speed r.vx && is_speed r.vy in
    let e : c.if-contains.value ≡ is_id r.id && places = elim c.if-contains.branch [ then-contains w ↦ search rules | else-contains w ↦ search rules ] in
    let f : is_id r.id && places ≡ false = sym e ∙ c.if-are_positions.false in
    c.if-are_positions.false ∙ (simp f at (and_assoc (is_id r.id) places speeds))
