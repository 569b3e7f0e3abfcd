-- The counts of an ask: the cells counted are the cells chosen, and the useful cells are those of the records inside, whatever the method.
-- Assumes nothing.
use mathlib.Core.Path.{◌≡◌, ap, ◌∙◌}
use mathlib.Core.List.{List}
use Prim.Native.Nat.{ℕ, ◌+◌, ◌*◌}
use lib.IntN.{pos}
use lib.ListN.{length}
use Rattle.ints.proofs.Lists.{passing}
use Rattle.ints.proofs.Marks.{counted}
use Rattle.grid.specs.Units.{cells}
use Rattle.rows.specs.Phases.{phase_of, live_phases, slot_of}
use Rattle.rows.proofs.PhasesLaws.{listed_live}
use Rattle.methods.specs.Aims.{aim_in}
use Rattle.methods.specs.Slots.{rows_of_slot}
use Rattle.methods.proofs.Methods.{choice_on, choice_once}
use Rattle.methods.proofs.Marks.{marks_counted}
use Rattle.ints.specs.Whole.{up}
use Rattle.records.specs.Words.{Words, time_in, records_in}
use Rattle.ledger.specs.declared.Ask.{Ask}
use Rattle.reading.specs.Reading.{cells_in, has_key, useful_in}
use Rattle.records.specs.declared.Record.{Record}
use Rattle.records.proofs.SoundnessLaws.{Sound}
use Rattle.reading.proofs.ReadingLaws.{cells_are}
use Rattle.reading.proofs.ReadingUsefulLaws.{useful_are}
use Rattle.ledger.specs.Machine.{summed}
use Rattle.ledger.proofs.MachineSummedLaws.{summed_same}
use Rattle.asking.specs.Asking.{choice_of, marks_in, listed_of, cells_counted, useful_counted}
use Rattle.asking.proofs.AskingPhasesLaws.{FitAsk, is_inside_in, listed_of-phase}

module _ (w : Words) (ask : Ask) where
  pub cells_counted_are : cells_counted w ask ≡ summed (λ p. length (choice_of w ask p).cells) (live_phases (phase_of (time_in w)))
  unfolding cells_counted
  cells_counted_are =
      summed_same
      (λ p. cells_in (marks_in w ask p) 0 cells)
      (λ p. length (choice_of w ask p).cells)
      (live_phases (phase_of (time_in w)))
      (λ p m.
      let method = up ask.method in
      let rows = rows_of_slot w.table (slot_of p) in
      let aim = aim_in p ask.query in
      cells_are (marks_in w ask p) 0 cells ∙ marks_counted (choice_once method rows aim) (λ c k. choice_on method rows aim k))

  -- a cell is useful where a record inside, placed in the phase, has the key of the cell
  abbrev pub useful_inside : ℕ → ℕ
  useful_inside p = counted (λ n. has_key (pos (slot_of p * cells + n)) (passing (is_inside_in (time_in w) ask.query p) (records_in w))) 0 cells

  pub useful_counted_are : Sound w.store w.table → FitAsk (time_in w) ask.query → useful_counted w ask ≡ summed useful_inside (live_phases (phase_of (time_in w)))
  unfolding useful_counted
  useful_counted_are sound fit =
      summed_same
      (λ p. useful_in (slot_of p) (listed_of w ask p) 0 cells)
      useful_inside
      (live_phases (phase_of (time_in w)))
      (λ p m.
      ap (λ (rs : List Record). useful_in (slot_of p) rs 0 cells) (listed_of-phase w sound ask fit p (listed_live (phase_of (time_in w)) p m))
      ∙ useful_are (slot_of p) (passing (is_inside_in (time_in w) ask.query p) (records_in w)) 0 cells)
