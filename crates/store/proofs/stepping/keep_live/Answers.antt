-- `store::stepping::keep_live` meets its contract: a record stays behind those kept before it, or is written to the other words, placed anew.
use Rattle.std.proofs.Common.{ℕ, refl, ap, sym, not, ◌∙◌, arith}
use Rattle.store.specs.Stepping.{placed_in}
use Rattle.records.proofs.SoundnessRangeLaws.{ranged_parts}
use Rattle.store.proofs.WritingKeptLaws.{now_ranged}
use Rattle.store.proofs.SteppingWordsLaws.{to_small, pass_start, pass_live, pass_dead, pass_end}
use Rattle.store.proofs.stepping.keep_live.Goals as goal
use Rattle.store.proofs.stepping.keep_live.Goals.{then-lives_on, else-lives_on}

pub loop-i-init : goal.loop-i-init
loop-i-init c = pass_start _ _ _ _ _ _ c.requires.store refl c.requires.room

pub place_by-requires : goal.place_by-requires
place_by-requires c =
    let is-ranged = now_ranged _ _ _ _ _ _ c.loop-i.invariant.keeping (omega arith) _ c.read_from-r.ensures in
    let g = ranged_parts c.read_from-r.result is-ranged in
    record { phase = to_small c.args.step c.requires.is_step; in_range_lem = g.report; is_time_lem = g.time }

pub loop-i-preserved : goal.loop-i-preserved
loop-i-preserved c =
    elim c.if-lives_on.branch [
      | then-lives_on w ↦
          let stay = sym c.lives_on.ensures ∙ w.if-lives_on.true in
          rw (w.store-is, w.dead-is, w.k-is) (pass_live _ _ _ _ _ _ _ _ _ c.loop-i.invariant (omega arith) _ c.read_from-r.ensures stay (ap not stay) _ w.write_record.ensures)
      | else-lives_on w ↦
          let leaves = sym c.lives_on.ensures ∙ w.if-lives_on.false in
          let placed = w.place_by.ensures ∙ ap (λ (q : ℕ). placed_in q c.read_from-r.result.report) c.requires.is_step.to_is in
          let more = pass_dead _ _ _ _ _ _ _ _ _ c.loop-i.invariant (omega arith) _ c.read_from-r.ensures leaves (ap not leaves) _ placed _ w.write_record-else-lives_on.ensures in
          rw (w.store-is, w.dead-is, w.k-is) more
    ]

pub returns-clause-kept_first : goal.returns-clause-kept_first
returns-clause-kept_first c = (pass_end _ _ _ _ _ _ _ _ _ c.loop-i.invariant (omega arith)).0

pub returns-clause-taken : goal.returns-clause-taken
returns-clause-taken c = (pass_end _ _ _ _ _ _ _ _ _ c.loop-i.invariant (omega arith)).1
