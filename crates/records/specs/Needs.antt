-- What the functions that judge a store ask: times and reports in their ranges, words enough for some records; and the marks by which ids are told apart.
-- Assumes nothing.
use Rattle.std.specs.Prelude.{◌≡◌, Bool, true, not, List, ℕ, ◌/◌, ◌%◌, ◌^◌, ◌≤◌, ◌<◌, eqb, ℤ, length, get_or, set}
use Rattle.std.specs.Int.Bits.{bit_and, bit_or}
use Rattle.grid.specs.Units.{cells, id_marks}
use Rattle.grid.specs.Curve.{IsCurve}
use Rattle.grid.specs.Reports.{is_time, in_range}
use Rattle.grid.specs.declared.Report.{Report}
use Rattle.rows.specs.Phases.{slots, last_phase}
use Rattle.rows.specs.Table.{table_words}
use Rattle.records.specs.Records.{store_words}
use Rattle.records.specs.Soundness.{is_sound_header, is_ranged, all_ranged}
use Rattle.records.specs.declared.Record.{Record}

-- a cell of one of the three slots
pub record CellOfSlot (slot number : ℕ) : Type 0 where
  pub one_of_three : slot < slots
  pub within : number < cells

-- a report whose key in a phase is asked for
pub record CanKey (p : ℕ) (r : Report) : Type 0 where
  pub not_late : p ≤ last_phase
  pub in_range_lem : in_range r ≡ true
  pub sent : is_time r.t ≡ true

-- the same, by a table of curve numbers that is lent
pub record CanKeyIn (numbers : List ℕ) (p : ℕ) (r : Report) : Type 0 where
  pub curve : IsCurve numbers
  pub of_report : CanKey p r

-- a time at which records are judged, and a record whose key is judged at it
pub record CanJudgeKey (time : ℤ) (r : Record) : Type 0 where
  pub is_time_lem : is_time time ≡ true
  pub in_range_lem : in_range r.report ≡ true
  pub sent : is_time r.report.t ≡ true

-- the marks of ids, eight to a byte: the bytes, the bit of an id in its byte, whether it is set, and the marks with it set
abbrev pub mark_bytes : ℕ
mark_bytes = id_marks / 8

abbrev pub mark_bit : ℕ → ℕ
mark_bit id = 2 ^ (id % 8)

abbrev pub is_marked : List ℕ → ℕ → Bool
is_marked marks id = not (eqb (bit_and (get_or marks (id / 8) 0) (mark_bit id)) 0)

abbrev pub with_mark : List ℕ → ℕ → List ℕ
with_mark marks id = set marks (id / 8) (bit_or (get_or marks (id / 8) 0) (mark_bit id))

pub record CanFindRow (table : List ℤ) (r : Record) : Type 0 where
  pub whole_table : length table ≡ table_words
  pub ranged : is_ranged r ≡ true

pub record CanFindRows (table : List ℤ) (rs : List Record) : Type 0 where
  pub whole_table : length table ≡ table_words
  pub ranged : all_ranged rs ≡ true

-- a store whose record 0 is sound
pub record HasHeader (store : List ℤ) : Type 0 where
  pub long : length store ≡ store_words
  pub header : is_sound_header store ≡ true
