-- The invariant of `store::stepping::keep_live`: the records kept so far stand first, and the words from record i on are those at entry.
use Rattle.rows.specs.Phases.{phase_of}
use Rattle.records.specs.Records.{held_of}
use Rattle.store.specs.Stepping.{lives_on, moves}
use Rattle.store.proofs.SteppingWordsLaws.{Pass}
use Rattle.store.proofs.stepping.keep_live.Given as goal

abbrev pub invariant-loop-i : goal.invariant-loop-i
invariant-loop-i l =
    Pass l.fn.store (phase_of l.step.time) (lives_on l.step.now l.step.time) (moves l.step.now l.step.time) (held_of l.fn.store) l.store l.dead l.k l.i
