-- What one pass over some records gathers: the listed ones counted, with their cells, and their ids; and what the functions of tallies.rt ask and give.
-- Assumes nothing.
use Rattle.std.specs.Prelude.{◌≡◌, Bool, true, cond, List, [], ◌∷◌, ◌++◌, ℕ, ◌+◌, ◌-◌, ◌/◌, ◌≤◌, ◌<◌, ℤ, length, take, drop}
use Rattle.std.specs.declared.ops.Range.{Range}
use Rattle.ints.specs.Whole.{eq_z}
use Rattle.ints.specs.Lists.{passing}
use Rattle.grid.specs.Units.{capacity}
use Rattle.grid.specs.Small.{SmallQuery}
use Rattle.grid.specs.declared.Query.{Query}
use Rattle.grid.specs.declared.Report.{Report}
use Rattle.records.specs.Records.{record_words, held_of}
use Rattle.records.specs.Soundness.{all_ranged, IsStore}
use Rattle.records.specs.declared.Record.{Record}
use Rattle.reading.specs.Runs.{records_in}
use Rattle.reading.specs.Reading.{ids_of}
use Rattle.reading.specs.declared.tallies.Tally.{Tally}

-- the listed ones among some records
abbrev pub listed_of : (Report → Bool) → List Record → List Record
listed_of inside = passing (λ r. inside r.report)

-- one more listed record counted: its cell is a new useful one unless the last record listed had its key
unfoldable pub counted : Tally → Record → Tally
counted t r = record {
  listed = t.listed + 1;
  useful = cond (eq_z r.key t.last) t.useful (t.useful + 1);
  last = r.key;
}

-- counts that have room for one record more
pub record CanCount (t : Tally) : Type 0 where
  pub few_listed : t.listed ≤ capacity
  pub few_useful : t.useful ≤ capacity

unfoldable pub tallied : Tally → List Record → Tally
tallied t [] = t
tallied t (r ∷ rs) = tallied (counted t r) rs

-- the records from one up to another
abbrev pub records_between : ℕ → ℕ → List Record → List Record
records_between first stop rs = take (stop - first) (drop first rs)

-- what a pass over one run asks: records in range, and a place for the id of each behind those listed before
pub record RunFits (w : List ℤ) (query : Query) (ids : List ℕ) (t : Tally) : Type 0 where
  pub ranged : all_ranged (records_in w) ≡ true
  pub small : SmallQuery query
  pub room : capacity < length ids
  pub few_listed : t.listed + length w / record_words ≤ capacity
  pub few_useful : t.useful ≤ t.listed

-- what reading some records of a store asks
pub record RunAsked (s : List ℤ) (run : Range ℕ) (query : Query) (ids : List ℕ) (t : Tally) : Type 0 where
  pub store : IsStore s
  pub ordered : run.start ≤ run.end
  pub inside : run.end ≤ held_of s
  pub small : SmallQuery query
  pub room : capacity < length ids
  pub few_listed : t.listed ≤ run.start
  pub few_useful : t.useful ≤ t.listed

-- what a pass over some records gives back: the listed ones counted, and their ids behind those listed before
pub record RunRead (inside : Report → Bool) (rs : List Record) (ids : List ℕ) (t : Tally) (ids' : List ℕ) (t' : Tally) : Type 0 where
  pub long : length ids' ≡ length ids
  pub counts : t' ≡ tallied t (listed_of inside rs)
  pub written : take t'.listed ids' ≡ take t.listed ids ++ ids_of (listed_of inside rs)
