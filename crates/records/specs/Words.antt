-- The lent words as one value, the store and the table, and what is read from them: document 01, "Store and table". Above the store's crates a
-- claim speaks of the time and the records read here, and of the rows, and not of word positions.
-- Assumes nothing.
use Rattle.std.specs.Prelude.{Bool, List, ℤ}
use Rattle.records.specs.Records.{now_of, records_of}
use Rattle.records.specs.Soundness.{is_sound}
use Rattle.records.specs.declared.Record.{Record}

pub record Words : Type 0 where
  pub store : List ℤ
  pub table : List ℤ

abbrev pub words : List ℤ → List ℤ → Words
words s t = record { store = s; table = t }

-- the time of the index, in seconds
abbrev pub time_in : Words → ℤ
time_in w = now_of w.store

-- the records of the floats held, in order
abbrev pub records_in : Words → List Record
records_in w = records_of w.store

abbrev pub are_sound : Words → Bool
are_sound w = is_sound w.store w.table
