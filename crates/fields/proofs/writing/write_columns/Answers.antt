-- The last byte is set first; each turn sets the one before.
use Rattle.std.proofs.Common.{arith, ◌∙◌, ap, sym, ◌-◌, ℕ, ◌++◌, ◌∷◌, [], ◌/◌, length-set}
use Rattle.fields.specs.Put.{put}
use Rattle.fields.specs.Writing.{columns_of}
use Rattle.fields.proofs.WritingLaws.{last_put, next_put, none_put}
use Rattle.fields.proofs.writing.write_columns.Goals as goal

pub loop-k-init : goal.loop-k-init
loop-k-init c =
    let a = c.args in
    ap (λ (b : ℕ). put a.out.now a.at (columns_of (a.columns - 1) a.lead (a.n / 10) ++ b ∷ [])) (sym c.digit_of.ensures)
    ∙ last_put a.out.now a.at (a.columns - 1) a.lead (a.n / 10) c.digit_of.result _ (omega arith) (omega arith)

pub loop-k-preserved : goal.loop-k-preserved
loop-k-preserved c =
    let h = c.loop-k in
    h.invariant ∙ next_put h.out c.args.at h.k h.front h.left c.byte_of.result _ (omega arith) (omega (arith, length-set {A = ℕ})) c.byte_of.ensures c.lead_after-front.ensures

pub returns : goal.returns
returns c =
    let h = c.loop-k in
    sym (h.invariant ∙ none_put h.out c.args.at h.k h.front h.left (omega arith))
