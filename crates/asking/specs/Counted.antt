-- What the functions of an ask need of sound words, and what asking in one live phase, and in several, gives back: the sums that an ask's counts
-- are. Nothing here is part of what a reader must believe.
-- Assumes nothing.
use Rattle.std.specs.Prelude.{◌≡◌, true, false, List, [], ◌∷◌, ◌++◌, ℕ, ◌+◌, ◌*◌, ◌≤◌, ◌<◌, ltb, ℤ, pos, length, take}
use Rattle.ints.specs.Whole.{between}
use Rattle.grid.specs.Reports.{is_listed}
use Rattle.grid.specs.Small.{SmallQuery}
use Rattle.grid.specs.Units.{cells, capacity, id_marks}
use Rattle.grid.specs.declared.Query.{Query}
use Rattle.rows.specs.Phases.{phase_of, is_live, slot_of}
use Rattle.methods.specs.Aims.{view_of, aim_in}
use Rattle.methods.specs.Fair.{Fair}
use Rattle.choosing.specs.Bounds.{IsSlot}
use Rattle.reaching.specs.Reaching.{IsViewAsk, CanSee}
use Rattle.records.specs.Soundness.{IsStore}
use Rattle.records.specs.Words.{Words, time_in, are_sound}
use Rattle.reading.specs.Reading.{cells_in, listed_in, useful_in, ids_of, ReadingOf, SmallReading, ReadTogether}
use Rattle.records.specs.declared.Record.{Record}
use Rattle.reading.specs.declared.Reading.{Reading}
use Rattle.ledger.specs.Machine.{summed}
use Rattle.ledger.specs.Refusals.{Check, check, first_to_fail, bad_ask_time, bad_ask}
use Rattle.ledger.specs.declared.Ask.{Ask}
use Rattle.ledger.specs.declared.Refusal.TheVariants.{ListTooShort}
use Rattle.asking.specs.Asking.{choice_of, marks_in, listed_of, ids_needed, AskOutcome, ask_settled}
use Rattle.asking.specs.declared.Counts.{Counts}

-- sound words and an ask whose numbers are good
pub record CanAsk (w : Words) (ask : Ask) : Type 0 where
  pub sound : are_sound w ≡ true
  pub good_time : bad_ask_time (time_in w) ask.query ≡ false
  pub good_numbers : bad_ask ask ≡ false

-- the same with places for the ids of all its live phases, and in one of these
pub record CanAskAll (w : Words) (ask : Ask) (ids : List ℕ) : Type 0 where
  pub can_ask : CanAsk w ask
  pub room : 3 * capacity < length ids

pub record CanAskIn (w : Words) (ask : Ask) (p : ℕ) (ids : List ℕ) : Type 0 where
  pub can_ask : CanAsk w ask
  pub live : is_live (phase_of (time_in w)) p ≡ true
  pub room : capacity < length ids

-- the check that wants the ids found: an answer list with so much room
abbrev pub room_checks : ℕ → ℕ → List Check
room_checks room needed = check (ltb room needed) (ListTooShort needed) ∷ []

-- what an ask gives back where every other check is passed
abbrev pub settled_by_room : Words → Ask → List ℕ → AskOutcome
settled_by_room w ask list = ask_settled (first_to_fail (room_checks (length list) (ids_needed w ask))) w ask list

-- rows, a method and a query that a choice in phase p can be made by
pub record CanChooseIn (table : List ℤ) (ask : Ask) (p : ℕ) : Type 0 where
  pub slot : IsSlot table (slot_of p)
  pub can_see : CanSee ask.query p
  pub is_ask : IsViewAsk (view_of p ask.query)
  pub fair : Fair (aim_in p ask.query)
  pub good_method : between (pos 0) (pos 3) ask.method ≡ true

-- a store in which any set of cells can be read, with places for the ids
pub record CanReadIn (s : List ℤ) (query : Query) (ids : List ℕ) : Type 0 where
  pub is_store : IsStore s
  pub small : SmallQuery query
  pub room : capacity < length ids

-- what reading a set of cells of phase p gives back, and the ids listed, in front
pub record ReadIn (marks : List ℕ) (p : ℕ) (query : Query) (rs : List Record) (ids : List ℕ) (r : Reading) : Type 0 where
  pub reading_is : ReadingOf marks (slot_of p) (is_listed query) rs r
  pub ids_are : take r.listed ids ≡ ids_of (listed_in marks (slot_of p) (is_listed query) rs)

-- counts that are small: no sum of three leaves a machine word
pub record SmallCounts (most : ℕ) (c : Counts) : Type 0 where
  pub few_read : SmallReading most c.read
  pub few_rounds : c.rounds ≤ most

-- counts of two phases whose sums leave no machine word
pub record CanAdd (a b : Counts) : Type 0 where
  pub few_here : SmallCounts 1000000 a
  pub few_there : SmallCounts 1000000 b

-- the counts of two phases summed
pub record CountedTogether (a b r : Counts) : Type 0 where
  pub read_sum : ReadTogether a.read b.read r.read
  pub rounds_sum : r.rounds ≡ a.rounds + b.rounds

module _ (w : Words) (ask : Ask) where
  -- the ids listed in some phases, one phase after the other
  unfoldable pub ids_listed : List ℕ → List ℕ
  ids_listed [] = []
  ids_listed (p ∷ ps) = ids_of (listed_of w ask p) ++ ids_listed ps

  -- in phase p: the counts, and the ids listed, in front
  pub record CountedIn (p : ℕ) (ids : List ℕ) (c : Counts) : Type 0 where
    pub listed_are : c.read.listed ≡ length (listed_of w ask p)
    pub cells_are : c.read.cells ≡ cells_in (marks_in w ask p) 0 cells
    pub useful_are : c.read.useful ≡ useful_in (slot_of p) (listed_of w ask p) 0 cells
    pub rounds_are : c.rounds ≡ (choice_of w ask p).rounds
    pub ids_are : take c.read.listed ids ≡ ids_of (listed_of w ask p)
    pub few_listed : c.read.listed ≤ capacity
    pub small : SmallCounts id_marks c

  -- in a phase more, with room for it behind the ids that stand already
  pub record CanAskAlso (p : ℕ) (before : Counts) (ids : List ℕ) : Type 0 where
    pub can_ask : CanAsk w ask
    pub live : is_live (phase_of (time_in w)) p ≡ true
    pub room : before.read.listed + capacity < length ids
    pub small : SmallCounts 500000 before

  -- its counts added to those before, and its ids behind those before
  pub record CountedAlso (p : ℕ) (before : Counts) (ids ids' : List ℕ) (c : Counts) : Type 0 where
    pub listed_are : c.read.listed ≡ before.read.listed + length (listed_of w ask p)
    pub cells_are : c.read.cells ≡ before.read.cells + cells_in (marks_in w ask p) 0 cells
    pub useful_are : c.read.useful ≡ before.read.useful + useful_in (slot_of p) (listed_of w ask p) 0 cells
    pub rounds_are : c.rounds ≡ before.rounds + (choice_of w ask p).rounds
    pub ids_are : take c.read.listed ids' ≡ take before.read.listed ids ++ ids_of (listed_of w ask p)
    pub few_listed : c.read.listed ≤ before.read.listed + capacity
    pub small : (most : ℕ) → SmallCounts most before → SmallCounts (most + id_marks) c

  -- in each of some phases, summed
  pub record CountedOver (ps : List ℕ) (ids : List ℕ) (c : Counts) : Type 0 where
    pub listed_are : c.read.listed ≡ summed (λ p. length (listed_of w ask p)) ps
    pub cells_are : c.read.cells ≡ summed (λ p. cells_in (marks_in w ask p) 0 cells) ps
    pub useful_are : c.read.useful ≡ summed (λ p. useful_in (slot_of p) (listed_of w ask p) 0 cells) ps
    pub rounds_are : c.rounds ≡ summed (λ p. (choice_of w ask p).rounds) ps
    pub ids_are : take c.read.listed ids ≡ ids_listed ps
    pub inside : c.read.listed ≤ length ids
