-- A truth value is counted as 1 or 0.
-- Assumes nothing.
use Rattle.std.proofs.Common.{rules, ap, ◌∙◌, cond}
use mir.Facts.{to_z-of_z}
use mathlib.Core.Path.{sym}
use mathlib.Core.Bool.{Bool}
use mir.Syntax.{w32}
use mir.Val.{SFits}
use Rattle.reading.proofs.TalliesLaws.{count_is}
use Rattle.reading.proofs.tallies.Tally.count.Goals as goal

pub returns-then-is_listed : goal.returns-then-is_listed
returns-then-is_listed c =
    let key : SFits w32 c.args.r.key = search rules in
    let last : SFits w32 c.args.self.last = search rules in
    count_is c.args.self c.args.r c.args.is_listed _ _ _ key last c.from.ensures c.from-2.ensures
    (to_z-of_z key ∙ ap (λ (b : Bool). cond b c.args.r.key c.args.self.last) (sym c.if-is_listed.true))

pub returns-else-is_listed : goal.returns-else-is_listed
returns-else-is_listed c =
    let key : SFits w32 c.args.r.key = search rules in
    let last : SFits w32 c.args.self.last = search rules in
    count_is c.args.self c.args.r c.args.is_listed _ _ _ key last c.from.ensures c.from-2.ensures
    (to_z-of_z last ∙ ap (λ (b : Bool). cond b c.args.r.key c.args.self.last) (sym c.if-is_listed.false))
