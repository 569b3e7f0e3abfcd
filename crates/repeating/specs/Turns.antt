-- Asks on several stores in turn, so many times over: how many are accepted, and the list as the last one leaves it. For the benchmark alone.
-- Assumes nothing.
use Rattle.std.specs.Prelude.{◌≡◌, Bool, true, cond, ◌&&◌, List, ℕ, zero, suc, ◌+◌, ◌*◌, ◌/◌, ◌≤◌, ◌<◌, eqb, ltb, ℤ, length, take, drop}
use Rattle.rows.specs.Table.{table_words}
use Rattle.records.specs.Records.{store_words}
use Rattle.records.specs.Words.{Words, words, are_sound}
use Rattle.ledger.specs.declared.Answer.{Answer}
use Rattle.ledger.specs.declared.Answer.TheVariants.{Accepted, Listed, Refused}
use Rattle.ledger.specs.declared.Ask.{Ask}
use Rattle.engine.specs.Index.{ask_out}

-- the most stores and the most turns
abbrev pub most_stores : ℕ
most_stores = 64

abbrev pub most_turns : ℕ
most_turns = 1000000

-- how many asks were accepted, and the list as the last of them left it
pub record Turns : Type 0 where
  pub accepted : ℕ
  pub list : List ℕ

-- no ask
abbrev pub no_turns : List ℕ → Turns
no_turns list = record { accepted = 0; list = list }

-- turns with some more after them
abbrev pub and_then : Turns → (List ℕ → Turns) → Turns
and_then before more = record { accepted = before.accepted + (more before.list).accepted; list = (more before.list).list }

abbrev pub accepted_in : Answer → ℕ
accepted_in (Accepted held) = 1
accepted_in (Listed ids cells useful rounds) = 1
accepted_in (Refused r) = 0

-- one ask
unfoldable pub asked_once : Words → Ask → List ℕ → Turns
asked_once w ask list = record { accepted = accepted_in (ask_out w ask list).answer; list = (ask_out w ask list).list }

-- how many stores and tables there are in so many words: none where the two numbers do not fit each other
abbrev pub stores_in : ℕ → ℕ → ℕ
stores_in s t = let n = s / store_words in cond (ltb most_stores n) 0 (cond (eqb (store_words * n) s) (cond (eqb (table_words * n) t) n 0) 0)

module _ (stores tables : List ℤ) where
  -- the store with the number k, and its table
  abbrev pub part_at : ℕ → Words
  part_at k = words (take store_words (drop (store_words * k) stores)) (take table_words (drop (table_words * k) tables))

  -- whether the first n are sound
  unfoldable pub all_sound : ℕ → Bool
  all_sound zero = true
  all_sound (suc n) = all_sound n && are_sound (part_at n)

  -- an ask on each of the first n
  unfoldable pub asked_each : Ask → List ℕ → ℕ → Turns
  asked_each ask list zero = no_turns list
  asked_each ask list (suc n) = and_then (asked_each ask list n) (asked_once (part_at n) ask)

  -- and that so many times
  unfoldable pub asked_over : Ask → List ℕ → ℕ → ℕ → Turns
  asked_over ask list n zero = no_turns list
  asked_over ask list n (suc turns) = and_then (asked_over ask list n turns) (λ after. asked_each ask after n)

  -- nothing is asked where the turns are too many or a store is not sound
  unfoldable pub asked_in_turn : Ask → List ℕ → ℕ → ℕ → Turns
  asked_in_turn ask list n turns = cond (ltb most_turns turns) (no_turns list) (cond (all_sound n) (asked_over ask list n turns) (no_turns list))

  -- on all stores that there are
  abbrev pub asks_made : Ask → ℕ → List ℕ → Turns
  asks_made ask turns list = asked_in_turn ask list (stores_in (length stores) (length tables)) turns

  -- n stores and tables are there
  pub record HasStores (n : ℕ) : Type 0 where
    pub few : n ≤ most_stores
    pub stores_there : store_words * n ≤ length stores
    pub tables_there : table_words * n ≤ length tables

  -- the store with the number k is there
  pub record HasStore (k : ℕ) : Type 0 where
    pub few : k < most_stores
    pub store_there : store_words * k + store_words ≤ length stores
    pub table_there : table_words * k + table_words ≤ length tables

  pub record CanAskOnce (k : ℕ) : Type 0 where
    pub there : HasStore k
    pub sound : are_sound (part_at k) ≡ true

  pub record CanAskEach (n : ℕ) : Type 0 where
    pub there : HasStores n
    pub sound : all_sound n ≡ true

  pub record CanAskOver (n turns : ℕ) : Type 0 where
    pub can : CanAskEach n
    pub few_turns : turns ≤ most_turns

-- the accepted asks counted and the list at exit are those of the definition
pub record Leaves (o : Turns) (accepted : ℕ) (list : List ℕ) : Type 0 where
  pub accepted_is : accepted ≡ o.accepted
  pub list_is : list ≡ o.list
