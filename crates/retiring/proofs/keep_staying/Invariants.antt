-- The invariant of `retiring::keep_staying`: the records kept so far stand first, and the words from record i on are those at entry.
use Rattle.grid.specs.Reports.{stays_at}
use Rattle.records.specs.Records.{held_of}
use Rattle.store.proofs.WritingKeptLaws.{Keeping}
use Rattle.retiring.proofs.keep_staying.Given as goal

abbrev pub invariant-loop-i : goal.invariant-loop-i
invariant-loop-i l = Keeping l.fn.store (λ r. stays_at l.time r.report) (held_of l.fn.store) l.store l.k l.i
