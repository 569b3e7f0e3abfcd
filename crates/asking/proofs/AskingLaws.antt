-- What a sound index and an ask with good numbers give the functions that choose and read, and bounds on what these count.
-- Assumes nothing.
use Rattle.std.specs.Prelude.{Result, Ok, Err}
use mathlib.Core.Path.{◌≡◌, refl, sym, ap, subst, ◌∙◌}
use mathlib.Core.Bool.{Bool, true, false}
use mathlib.Core.List.{List, [], ◌∷◌, ◌++◌, append-nil, append_assoc}
use Prim.Native.Nat.{ℕ, zero, suc, ◌+◌, ◌-◌, ◌*◌, ◌≤◌, ◌<◌}
use native.Mathlib.Omega.{arith}
use borrow.Author.Tests.{lt-ltb, le-ltb}
use mir.Facts.{to_z-of_z}
use mir.Syntax.{w64}
use mir.Val.{SFits, of_z, to_z}
use lib.IntN.{ℤ}
use lib.ListN.{length, take, drop, replicate, length-drop}
use lib.Seq.{length-take-le, take-append-add, take-append-le}
use Rattle.ints.specs.Whole.{up}
use Rattle.grid.specs.Units.{cells, capacity, id_marks}
use Rattle.grid.specs.Reports.{is_listed}
use Rattle.rows.specs.Row.{empty_row, is_empty, same_row}
use Rattle.rows.specs.Phases.{phase_of, is_live, slot_of, live_phases, last_phase}
use Rattle.rows.specs.declared.Row.{Row}
use Rattle.rows.proofs.PhasesLaws.{slot_on, live_range, range_live}
use Rattle.methods.specs.Aims.{Aim, aim_in}
use Rattle.methods.specs.Methods.{Rows, Found, missing, found, bounds_in, naive_block, iterated, iterative_search, choice}
use Rattle.methods.specs.Slots.{rows_of_slot}
use Rattle.choosing.specs.Choose.{ChosenBy}
use Rattle.methods.specs.declared.Block.{Block}
use Rattle.methods.proofs.Nesting.{next}
use Rattle.methods.proofs.Views.{query_is_fair}
use Rattle.methods.proofs.Rounds.{none_is, same_is, onward_is}
use Rattle.records.specs.Words.{Words, time_in, records_in}
use Rattle.records.specs.Soundness.{IsStore}
use Rattle.records.specs.declared.Record.{Record}
use Rattle.records.proofs.SoundnessLaws as Sound
use Rattle.records.proofs.SoundnessRangeLaws.{last_phase_lem}
use Rattle.reading.specs.Reading.{ReadingOf, SmallReading, listed_in, cells_in, useful_in, ids_of}
use Rattle.sorting.specs.Ids.{rising, marks_of_ids}
use Rattle.sorting.specs.Needs.{CanList}
use Rattle.reading.specs.declared.Reading.{Reading}
use Rattle.reading.proofs.ReadingLaws.{few_listed, cells_few}
use Rattle.reading.proofs.ReadingUsefulLaws.{few_useful}
use Rattle.sorting.proofs.IdsPutLaws.{marks_are}
use Rattle.ledger.specs.Answers.{number_of, value_of, counts_of}
use Rattle.ledger.specs.Machine.{summed}
use Rattle.ledger.specs.Refusals.{first_to_fail}
use Rattle.ledger.specs.declared.Answer.{Answer}
use Rattle.ledger.specs.declared.Answer.TheVariants.{Listed, Refused}
use Rattle.ledger.specs.declared.Ask.{Ask}
use Rattle.ledger.specs.declared.Refusal.TheVariants.{ListTooShort}
use Rattle.asking.specs.Asking.{choice_of, marks_in, listed_of, phases_now, ids_needed, ids_found, cells_counted, useful_counted, rounds_counted, AskOutcome, GivesList}
use Rattle.asking.specs.Counted.{CanAsk, CanAskAlso, room_checks, settled_by_room, CanChooseIn, CanReadIn, ReadIn, SmallCounts, CountedTogether, ids_listed, CountedIn, CountedAlso, CountedOver}
use Rattle.asking.specs.declared.Counts.{Counts}
use Rattle.asking.proofs.AskingPhasesLaws.{FitAsk, fit_ask, good_method, fit_small, fit_in_order, asked_in, small_times, can_count}
use Rattle.asking.proofs.Claims.{found_is, list_is_exact}
use Rattle.ledger.specs.declared.Refusal.{Refusal}

module _ (w : Words) (ask : Ask) (can : CanAsk w ask) where
  parts : Sound.Sound w.store w.table
  parts = Sound.sound_parts w.store w.table can.sound

  fit : FitAsk (time_in w) ask.query
  fit = fit_ask (time_in w) ask can.good_time can.good_numbers

  pub ask_store : IsStore w.store
  ask_store = Sound.is_store w.store parts.store

  small_phase : (p : ℕ) → is_live (phase_of (time_in w)) p ≡ true → p ≤ last_phase
  small_phase p live = let l = last_phase_lem (time_in w) parts.store.time in omega (arith, live_range (phase_of (time_in w)) p live)

  pub can_choose : (p : ℕ) → is_live (phase_of (time_in w)) p ≡ true → CanChooseIn w.table ask p
  can_choose p live = record {
    slot = record { has_slot = record { whole_table = parts.table_long; one_of_three = slot_on p }; valid_rows = parts.valid };
    can_see = record { times = can_count (time_in w) p (small_phase p live) ask.query.when fit.times };
    is_ask = asked_in (time_in w) ask.query fit parts.store.time p live;
    fair = query_is_fair p ask.query (fit_in_order (time_in w) ask.query fit);
    good_method = good_method ask can.good_numbers;
  }

  pub can_read : (ids : List ℕ) → capacity < length ids → CanReadIn w.store ask.query ids
  can_read ids h = record {
    is_store = ask_store;
    small = record { rect = fit_small (time_in w) ask.query fit; times = small_times (time_in w) ask.query.when fit.times };
    room = h;
  }

-- ---- bounds

module _ (rows : Rows) (aim : Aim) where
  few_iterated : (most : ℕ) (before : Row) (b : Block) (n : ℕ) → (iterated most rows aim before b n).rounds ≤ n + most
  unfolding iterated
  few_iterated zero before b n = omega arith
  few_iterated (suc most) before b n = go (λ r c m. few_iterated most r c m) (is_empty (bounds_in rows b)) refl (same_row (bounds_in rows b) before) refl
    where
      go :
          ((r : Row) (c : Block) (m : ℕ) → (iterated most rows aim r c m).rounds ≤ m + most)
          → (x : Bool)
          → is_empty (bounds_in rows b) ≡ x
          → (y : Bool)
          → same_row (bounds_in rows b) before ≡ y
          → (iterated (suc most) rows aim before b n).rounds ≤ n + suc most
      go ih true e y h = rw (none_is rows aim most before b n e) (omega arith)
      go ih false e true h = rw (same_is rows aim most before b n e h) (omega arith)
      go ih false e false h = rw (onward_is rows aim most before b n e h) (let i = ih (bounds_in rows b) (next rows aim b) (suc n) in omega arith)

  pub few_rounds : (method : ℕ) → (choice method rows aim).rounds ≤ 64
  unfolding choice
  few_rounds zero = omega arith
  few_rounds (suc zero) = omega arith
  few_rounds (suc (suc zero)) = go (naive_block rows aim)
    where
      go : (f : Found) → (iterative_search rows aim f).rounds ≤ 64
      go missing = omega arith
      go (found b) = few_iterated 64 empty_row b 0
  few_rounds (suc (suc (suc n))) = omega arith

-- ---- what choosing and reading give back, together

module _ (w : Words) (ask : Ask) (p : ℕ) (store : IsStore w.store) where
  -- what reading a set of cells of the phase lists
  abbrev listed_by : List ℕ → List Record
  listed_by marks = listed_in marks (slot_of p) (is_listed ask.query) (records_in w)

  small_reading : (marks : List ℕ) (r : Reading) → ReadingOf marks (slot_of p) (is_listed ask.query) (records_in w) r → SmallReading id_marks r
  small_reading marks r read = record {
    few_listed = let h = few_listed marks (slot_of p) (is_listed ask.query) (records_in w) in let k = store.few in let e = read.listed_are in omega arith;
    few_cells = let h = cells_few marks 0 cells in let e = read.cells_are in omega arith;
    few_useful = let h = few_useful (slot_of p) (listed_by marks) 0 cells in let e = read.useful_are in omega arith;
  }

  -- the set that was read is the one that was chosen
  pub counted :
      (marks ids : List ℕ) (rounds : ℕ) (r : Reading)
      → ChosenBy (up ask.method) w.table (slot_of p) (aim_in p ask.query) marks rounds
      → ReadIn marks p ask.query (records_in w) ids r
      → CountedIn w ask p ids (record { read = r; rounds = rounds })
  counted marks ids rounds r c h =
      let m = c.marks_are in
      let read = h.reading_is in
      record {
        listed_are = read.listed_are ∙ ap (λ (x : List ℕ). length (listed_by x)) m;
        cells_are = read.cells_are ∙ ap (λ (x : List ℕ). cells_in x 0 cells) m;
        useful_are = read.useful_are ∙ ap (λ (x : List ℕ). useful_in (slot_of p) (listed_by x) 0 cells) m;
        rounds_are = c.rounds_are;
        ids_are = h.ids_are ∙ ap (λ (x : List ℕ). ids_of (listed_by x)) m;
        few_listed = let l = few_listed marks (slot_of p) (is_listed ask.query) (records_in w) in let k = store.few in let e = read.listed_are in omega arith;
        small = record {
          few_read = small_reading marks r read;
          few_rounds = let k = few_rounds (rows_of_slot w.table (slot_of p)) (aim_in p ask.query) (up ask.method) in let e = c.rounds_are in omega arith;
        };
      }

-- ---- and over the live phases, which are one, two or three

-- the phase of a store's time, of the numbers as the code has them
pub newest_is : (w : Words) (now : ℤ) (newest : ℕ) → SFits w64 now → now ≡ time_in w → newest ≡ phase_of (to_z w64 (of_z w64 now)) → newest ≡ phase_of (time_in w)
newest_is w now newest f e h = h ∙ ap phase_of (to_z-of_z f ∙ e)

-- n phases from one down
pub phases_down : ℕ → ℕ → List ℕ
phases_down c zero = []
phases_down c (suc n) = c ∷ phases_down (c - 1) n

one_down : (c n : ℕ) → phases_down c (suc n) ≡ phases_down c n ++ ((c - n) ∷ [])
unfolding phases_down
one_down c zero = let e : c - 0 ≡ c = omega arith in rw e
one_down c (suc n) =
    let e : c - 1 - n ≡ c - suc n = omega arith in
    ap (λ (ps : List ℕ). c ∷ ps) (one_down (c - 1) n ∙ ap (λ (p : ℕ). phases_down (c - 1) n ++ (p ∷ [])) e)

all_down : (c p : ℕ) → p ≡ c - 2 → phases_down c (suc c - p) ≡ live_phases c
unfolding phases_down live_phases
all_down zero p e = let n : 1 - p ≡ 1 = omega arith in rw n
all_down (suc zero) p e =
    let n : 2 - p ≡ 2 = omega arith in
    let k : 1 - 1 ≡ 0 = omega arith in
    rw (n, k)
all_down (suc (suc c)) p e =
    let n : suc (suc (suc c)) - p ≡ 3 = omega arith in
    let k : suc (suc c) - 1 ≡ suc c = omega arith in
    let l : suc (suc c) - 1 - 1 ≡ c = omega arith in
    rw n (λ i. suc (suc c) ∷ k i ∷ l i ∷ [])

summed_more : (f : ℕ → ℕ) (ps : List ℕ) (p : ℕ) → summed f (ps ++ (p ∷ [])) ≡ summed f ps + f p
unfolding summed
summed_more f [] p = omega arith
summed_more f (q ∷ ps) p = omega (arith, summed_more f ps p)

pub small_room : {most : ℕ} (more : ℕ) (a : Counts) → most ≤ more → SmallCounts most a → SmallCounts more a
small_room more a h x = omega arith

module _ (w : Words) (ask : Ask) where
  -- the ids of a phase more stand behind those that stood already
  pub counted_also :
      (p : ℕ) (before here c : Counts) (ids more rest : List ℕ) (n : ℕ)
      → n ≡ before.read.listed
      → before.read.listed + capacity < length ids
      → CountedIn w ask p more here
      → length more ≡ length (take (length ids - n) (drop n ids))
      → CountedTogether before here c
      → CountedAlso w ask p before ids (take n ids ++ (more ++ rest)) c
  counted_also p before here c ids more rest n e room x l z =
      let few = x.few_listed in
      let part = l ∙ length-take-le (length ids - n) (drop n ids) (omega (arith, length-drop n ids)) in
      let sum : c.read.listed ≡ n + here.read.listed = z.read_sum.listed_sum ∙ ap (λ (k : ℕ). k + here.read.listed) (sym e) in
      let long : length (take n ids) ≡ n = length-take-le n ids (omega arith) in
      let front : take (n + here.read.listed) (take n ids ++ (more ++ rest)) ≡ take n ids ++ take here.read.listed (more ++ rest) =
      ap (λ (k : ℕ). take (k + here.read.listed) (take n ids ++ (more ++ rest))) (sym long) ∙ take-append-add (take n ids) (more ++ rest) here.read.listed in
      let behind : take here.read.listed (more ++ rest) ≡ ids_of (listed_of w ask p) = take-append-le here.read.listed more rest (omega arith) ∙ x.ids_are in
      record {
        listed_are = let h = x.listed_are in omega (arith, z.read_sum.listed_sum);
        cells_are = let h = x.cells_are in omega (arith, z.read_sum.cells_sum);
        useful_are = let h = x.useful_are in omega (arith, z.read_sum.useful_sum);
        rounds_are = let h = x.rounds_are in omega (arith, z.rounds_sum);
        ids_are = ap (λ (k : ℕ). take k (take n ids ++ (more ++ rest))) sum ∙ front ∙ (λ i. take (e i) ids ++ behind i);
        few_listed = omega arith;
        small = λ most s. let h = x.small in omega (arith, z.read_sum.listed_sum, z.read_sum.cells_sum, z.read_sum.useful_sum, z.rounds_sum);
      }

  ids_more : (ps : List ℕ) (p : ℕ) → ids_listed w ask (ps ++ (p ∷ [])) ≡ ids_listed w ask ps ++ ids_of (listed_of w ask p)
  unfolding ids_listed
  ids_more [] p = append-nil (ids_of (listed_of w ask p))
  ids_more (q ∷ ps) p =
      ap (λ (l : List ℕ). ids_of (listed_of w ask q) ++ l) (ids_more ps p)
      ∙ sym (append_assoc (ids_of (listed_of w ask q)) (ids_listed w ask ps) (ids_of (listed_of w ask p)))

  over_one : (p : ℕ) (ids : List ℕ) (a : Counts) → capacity < length ids → CountedIn w ask p ids a → CountedOver w ask (p ∷ []) ids a
  unfolding summed ids_listed
  over_one p ids a room x = record {
    listed_are = let h = x.listed_are in omega arith;
    cells_are = let h = x.cells_are in omega arith;
    useful_are = let h = x.useful_are in omega arith;
    rounds_are = let h = x.rounds_are in omega arith;
    ids_are = x.ids_are ∙ sym (append-nil (ids_of (listed_of w ask p)));
    inside = let h = x.few_listed in omega arith;
  }

  over_more :
      (ps : List ℕ) (p : ℕ) (ids ids' : List ℕ) (a b : Counts)
      → b.read.listed ≤ length ids'
      → CountedOver w ask ps ids a
      → CountedAlso w ask p a ids ids' b
      → CountedOver w ask (ps ++ (p ∷ [])) ids' b
  over_more ps p ids ids' a b h x y = record {
    listed_are = let i = x.listed_are in let j = y.listed_are in omega (arith, summed_more (λ q. length (listed_of w ask q)) ps p);
    cells_are = let i = x.cells_are in let j = y.cells_are in omega (arith, summed_more (λ q. cells_in (marks_in w ask q) 0 cells) ps p);
    useful_are = let i = x.useful_are in let j = y.useful_are in omega (arith, summed_more (λ q. useful_in (slot_of q) (listed_of w ask q) 0 cells) ps p);
    rounds_are = let i = x.rounds_are in let j = y.rounds_are in omega (arith, summed_more (λ q. (choice_of w ask q).rounds) ps p);
    ids_are = y.ids_are ∙ ap (λ (l : List ℕ). l ++ ids_of (listed_of w ask p)) x.ids_are ∙ sym (ids_more ps p);
    inside = h;
  }

  -- the phases from the current one, c, down to p are asked
  pub record Asked (c p : ℕ) (ids : List ℕ) (a : Counts) : Type 0 where
    pub later : c - 2 ≤ p
    pub within : p ≤ c
    pub room : 3 * capacity < length ids
    pub over : CountedOver w ask (phases_down c (suc c - p)) ids a
    pub few_listed : a.read.listed ≤ (suc c - p) * capacity
    pub small : SmallCounts ((suc c - p) * id_marks) a

  pub asked_first : (c : ℕ) (ids : List ℕ) (a : Counts) → 3 * capacity < length ids → CountedIn w ask c ids a → Asked c c ids a
  unfolding phases_down
  asked_first c ids a room x =
      let n : suc c - c ≡ 1 = omega arith in
      record {
        later = omega arith;
        within = omega arith;
        room = room;
        over = rw n (over_one c ids a (omega arith) x);
        few_listed = rw n (let h = x.few_listed in omega arith);
        small = rw n (let h = x.small in omega arith);
      }

  module _ (c p : ℕ) (ids : List ℕ) (a : Counts) (x : Asked c p ids a) where
    pub can_ask_also : CanAsk w ask → c ≡ phase_of (time_in w) → c - 2 < p → CanAskAlso w ask (p - 1) a ids
    can_ask_also can e h =
        let k = x.within in
        let f = x.few_listed in
        let r = x.room in
        let s = x.small in
        record {
          can_ask = can;
          live = rw (← e) (range_live c (p - 1) (omega arith) (omega arith));
          room = omega arith;
          small = omega arith;
        }

    pub asked_also : (ids' : List ℕ) (b : Counts) → c - 2 < p → length ids' ≡ length ids → CountedAlso w ask (p - 1) a ids ids' b → Asked c (p - 1) ids' b
    asked_also ids' b h l y =
        let k = x.within in
        let f = x.few_listed in
        let g = y.few_listed in
        let r = x.room in
        let n : suc c - (p - 1) ≡ suc (suc c - p) = omega arith in
        let e : c - (suc c - p) ≡ p - 1 = omega arith in
        let s = y.small ((suc c - p) * id_marks) x.small in
        record {
          later = omega arith;
          within = omega arith;
          room = omega arith;
          over = rw (n, one_down c (suc c - p), e) (over_more (phases_down c (suc c - p)) (p - 1) ids ids' a b (omega arith) x.over y);
          few_listed = rw n (omega arith);
          small = rw n (omega arith);
        }

    pub asked_all : c ≡ phase_of (time_in w) → p ≤ c - 2 → CountedOver w ask (phases_now w ask) ids a
    asked_all e h =
        let l = x.later in
        subst (λ (ps : List ℕ). CountedOver w ask ps ids a) (all_down c p (omega arith) ∙ ap live_phases e) x.over

-- ---- the answer and the list of an ask

pub gives_list : (o : AskOutcome) (a : Answer) (list : List ℕ) → a ≡ o.answer → list ≡ o.list → GivesList o a list
gives_list o a list e x =
    record { number_is = ap number_of e; value_is = ap value_of e; counts_are = ap counts_of e; answer_is = e; list_is = x }

module _ (w : Words) (ask : Ask) (can : CanAsk w ask) (list ids : List ℕ) (c : Counts) (o : CountedOver w ask (phases_now w ask) ids c) where
  needed : c.read.listed ≡ ids_needed w ask
  unfolding ids_needed
  needed = o.listed_are

  cells_are : c.read.cells ≡ cells_counted w ask
  unfolding cells_counted
  cells_are = o.cells_are

  useful_are : c.read.useful ≡ useful_counted w ask
  unfolding useful_counted
  useful_are = o.useful_are

  rounds_are : c.rounds ≡ rounds_counted w ask
  unfolding rounds_counted
  rounds_are = o.rounds_are

  -- the ids in front, as many as are needed
  abbrev front : List ℕ
  front = take c.read.listed ids

  front_long : length front ≡ c.read.listed
  front_long = length-take-le c.read.listed ids o.inside

  front_found : rising (marks_of_ids front) ≡ ids_found w ask
  unfolding ids_found marks_of_ids
  front_found =
      let ps = phases_now w ask in
      ap (λ (l : List ℕ). rising (marks_of_ids l)) o.ids_are
      ∙ ap rising (marks_are (replicate id_marks 0) (ids_listed w ask ps) ∙ sym (found_is w ask (replicate id_marks 0) ps))

  -- the ids found are as many as are needed, since the list is exact
  count_is : length (ids_found w ask) ≡ c.read.listed
  count_is =
      let e = list_is_exact w can.sound ask can.good_time can.good_numbers in
      ap length e.0 ∙ (sym e.1 ∙ sym needed)

  pub enough : c.read.listed ≤ length list → CanList front list
  enough h = record { as_many = ap length front_found ∙ count_is ∙ sym front_long; room = omega (arith, front_long) }

  abbrev verdict : Result (Unit {0}) Refusal
  verdict = first_to_fail (room_checks (length list) (ids_needed w ask))

  too_short : length list < c.read.listed → verdict ≡ Err (ListTooShort (ids_needed w ask))
  unfolding first_to_fail
  too_short h = rw (lt-ltb (length list) (ids_needed w ask) (omega (arith, needed))) refl

  has_room : c.read.listed ≤ length list → verdict ≡ Ok tt
  unfolding first_to_fail
  has_room h = rw (le-ltb (length list) (ids_needed w ask) (omega (arith, needed))) refl

  pub short : length list < c.read.listed → GivesList (settled_by_room w ask list) (Refused (ListTooShort c.read.listed)) list
  short h = rw (too_short h) (gives_list _ _ _ (ap (λ (n : ℕ). Refused (ListTooShort n)) needed) refl)

  pub full :
      c.read.listed ≤ length list
      → (list' : List ℕ)
      → list' ≡ rising (marks_of_ids front) ++ drop (length front) list
      → GivesList (settled_by_room w ask list) (Listed c.read.listed c.read.cells c.read.useful c.rounds) list'
  full h list' e =
      let l : length front ≡ length (ids_found w ask) = front_long ∙ sym count_is in
      rw (has_room h)
      (gives_list _ _ _
      (λ i. Listed (needed i) (cells_are i) (useful_are i) (rounds_are i))
      (e ∙ (λ i. front_found i ++ drop (l i) list)))
