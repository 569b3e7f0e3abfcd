-- How the index's words and the ledger stand to each other at every point of a list: the time and the records that are read from the words are those
-- of the ledger and its held reports, and each live phase's rows are the ledger's. What is kept of the ledger alone is `Good`.
-- Assumes nothing.
use mathlib.Core.Path.{◌≡◌}
use mathlib.Core.Bool.{Bool, true, ◌&&◌, not}
use mathlib.Core.List.{List, [], ◌∷◌, Memᴰ}
use Prim.Native.Nat.{ℕ, ◌≤◌, ◌<◌}
use lib.Dec.{leb}
use lib.IntN.{ℤ, pos}
use lib.ListN.{length}
use Rattle.ints.specs.Whole.{between}
use Rattle.grid.specs.Units.{cells, capacity}
use Rattle.grid.specs.Places.{OnGrid}
use Rattle.grid.specs.Curve.{cell_of_number}
use Rattle.grid.specs.Reports.{is_time, in_range}
use Rattle.rows.specs.Row.{empty_row}
use Rattle.rows.specs.Phases.{phase_of, is_live, slot_of, slots}
use Rattle.rows.specs.Table.{table_words, row_at}
use Rattle.rows.proofs.RowLaws.{DriftInRange}
use Rattle.records.specs.Words.{Words, time_in, records_in}
use Rattle.words.specs.Needs.{CanChange}
use Rattle.store.specs.Inserting.{inserted}
use Rattle.store.specs.Stepping.{placed_in}
use Rattle.records.specs.declared.Record.{Record}
use Rattle.ledger.specs.Machine.{Ledger, Held, Placement, placement, is_held, rows_in}

-- the records of the held reports, sorted
abbrev pub record_of : Held → Record
record_of h = placed_in h.phase h.report

unfoldable pub records_of_held : List Held → List Record
records_of_held [] = []
records_of_held (h ∷ hs) = inserted (record_of h) (records_of_held hs)

unfoldable pub held_once : List Held → Bool
held_once [] = true
held_once (h ∷ hs) = not (is_held h.report.id hs) && held_once hs

-- a held report: in range, not sent after now, in a live phase not before that of its time, and among the placements
pub record GoodHeld (now : ℤ) (placements : List Placement) (h : Held) : Type 0 where
  pub ranged : in_range h.report ≡ true
  pub sent : between (pos 0) now h.report.t ≡ true
  pub live : is_live (phase_of now) h.phase ≡ true
  pub not_before : leb (phase_of h.report.t) h.phase ≡ true
  pub placed : Memᴰ (placement h.phase h.report) placements

pub record GoodPlacement (now : ℤ) (a : Placement) : Type 0 where
  pub live : is_live (phase_of now) a.phase ≡ true
  pub on_grid : OnGrid a.cell
  pub in_range_lem : DriftInRange a.drift

pub record Good (l : Ledger) : Type 0 where
  pub time : is_time l.now ≡ true
  pub few : length l.held ≤ capacity
  pub once : held_once l.held ≡ true
  pub holds : (h : Held) → Memᴰ h l.held → GoodHeld l.now l.placements h
  pub places : (a : Placement) → Memᴰ a l.placements → GoodPlacement l.now a

-- the rows of the live phases are the ledger's, and any other row is empty
pub record TableMatches (l : Ledger) (table : List ℤ) : Type 0 where
  pub table_long : length table ≡ table_words
  pub rows_are : (p : ℕ) → is_live (phase_of l.now) p ≡ true → (n : ℕ) → n < cells → row_at table (slot_of p) n ≡ rows_in l p (cell_of_number n)
  pub rest_empty : (slot n : ℕ) → slot < slots → n < cells → ((p : ℕ) → is_live (phase_of l.now) p ≡ true → slot_of p ≡ slot → ⊥) → row_at table slot n ≡ empty_row

pub record Matches (l : Ledger) (w : Words) : Type 0 where
  pub can_change : CanChange w
  pub time_is : time_in w ≡ l.now
  pub records_are : records_in w ≡ records_of_held l.held
  pub table : TableMatches l w.table

-- a good ledger and words that match it
pub record Left (l : Ledger) (w : Words) : Type 0 where
  pub good : Good l
  pub matches : Matches l w
