-- The laws of removing. The record of an id taken out: which are left, how many, that the order and whatever each record has are kept, and that it
-- makes no difference whether another record is put in before or after. Then one taken out as a change of the words.
-- Assumes nothing.
use mathlib.Core.Path.{◌≡◌, refl, sym, ap, ◌∙◌}
use mathlib.Core.Bool.{Bool, true, false, cond, ◌||◌}
use mathlib.Core.List.Memᴰ
use mathlib.Core.List.{List, [], ◌∷◌, Memᴰ, ◌++◌, append_assoc, append-nil}
use mathlib.Core.Logic.{⊎_elim}
use Prim.Native.Nat.{ℕ, suc, ◌+◌, ◌-◌, ◌*◌, ◌≤◌, ◌<◌}
use native.Mathlib.Omega.{arith}
use native.Mathlib.Numerals.{add-one}
use lib.IntN.{ℤ, pos}
use lib.ListN.{length, get_or, set, take, drop, length-append, length-take, length-drop, drop_of_length-le}
use lib.Seq.{paste, drop-cons, drop-drop, take_at, drop_at, take_all}
use Rattle.std.specs.Prelude.{Some, None}
use Rattle.std.specs.List.{copy_within}
use Rattle.ints.specs.Whole.{eq_z}
use Rattle.ints.specs.Lists.{some, every}
use Rattle.ints.proofs.Parts.{true_false}
use Rattle.ints.proofs.Lists.{every_each, each_every}
use Rattle.grid.specs.Units.{capacity}
use Rattle.records.specs.Order.{precedes, is_sorted, has_id}
use Rattle.records.specs.declared.Record.{Record}
use Rattle.records.specs.Records.{record_words, record_from, now_of, held_of, records_of, words_of, words_of_all, header, store_of}
use Rattle.records.specs.Places.{HasWords, first_of}
use Rattle.records.proofs.OrderLaws.{sorted_all, sorted_rest, sorted_cons, before_all, first_id, rest_other}
use Rattle.records.proofs.RecordsLaws.{words_length}
use Rattle.records.proofs.PlacesLaws.{words_room}
use Rattle.store.specs.Inserting.{inserted}
use Rattle.store.specs.Removing.{removed}
use Rattle.store.specs.Finding.{index_of, found_at}
use Rattle.store.proofs.FindingLaws.{some_found, none_found}
use Rattle.store.proofs.InsertingLaws.{inserted_front}
use Rattle.store.proofs.WritingLaws.{words_append, front, zeros, front_length, store_split, more_zeros}

-- ---- the records

pub removed_from : {x : Record} (id : ℤ) (rs : List Record) → Memᴰ x (removed id rs) → Memᴰ x rs
unfolding removed
removed_from id [] m = m
removed_from {x} id (a ∷ rs) m = go (eq_z a.report.id id) m (removed_from id rs)
  where
    go : (b : Bool) → Memᴰ x (cond b rs (a ∷ removed id rs)) → (Memᴰ x (removed id rs) → Memᴰ x rs) → Memᴰ x (a ∷ rs)
    go true k ih = Memᴰ.tail k
    go false k ih = ⊎_elim (λ e. Memᴰ.head e) (λ n. Memᴰ.tail (ih n)) (Memᴰ.cases_cons k)

pub removed_sorted : (id : ℤ) (rs : List Record) → is_sorted rs ≡ true → is_sorted (removed id rs) ≡ true
unfolding removed
removed_sorted id [] h = h
removed_sorted id (a ∷ rs) h = go (eq_z a.report.id id) (removed_sorted id rs (sorted_rest a rs h))
  where
    go : (b : Bool) → is_sorted (removed id rs) ≡ true → is_sorted (cond b rs (a ∷ removed id rs)) ≡ true
    go true i = sorted_rest a rs h
    go false i = sorted_cons a (removed id rs) (λ x m. sorted_all a rs h (removed_from id rs m)) i

pub removed_every : (f : Record → Bool) (id : ℤ) (rs : List Record) → every f rs ≡ true → every f (removed id rs) ≡ true
removed_every f id rs h = each_every f (removed id rs) (λ x m. every_each f rs h (removed_from id rs m))

pub removed_length : (id : ℤ) (rs : List Record) → has_id id rs ≡ true → suc (length (removed id rs)) ≡ length rs
unfolding removed some
removed_length id [] h = absurd (true_false (sym h))
removed_length id (a ∷ rs) h = go (eq_z a.report.id id) h (removed_length id rs)
  where
    go : (b : Bool) → b || has_id id rs ≡ true → (has_id id rs ≡ true → suc (length (removed id rs)) ≡ length rs) → suc (length (cond b rs (a ∷ removed id rs))) ≡ suc (length rs)
    go true k ih = refl
    go false k ih = ap suc (ih k)

-- the record that was put in, taken out
pub removed_same : (id : ℤ) (r : Record) (rs : List Record) → eq_z r.report.id id ≡ true → has_id id rs ≡ false → removed id (inserted r rs) ≡ rs
unfolding removed inserted
removed_same id r [] e n = rw e
removed_same id r (a ∷ rs) e n = go (precedes r a) (removed_same id r rs e (rest_other id a rs n))
  where
    go : (t : Bool) → removed id (inserted r rs) ≡ rs → removed id (cond t (r ∷ a ∷ rs) (a ∷ inserted r rs)) ≡ a ∷ rs
    go true k = rw e
    go false k = rw (first_id id a rs n, k)

-- another taken out, before or after
pub removed_other : (id : ℤ) (r : Record) (rs : List Record) → eq_z r.report.id id ≡ false → is_sorted rs ≡ true → removed id (inserted r rs) ≡ inserted r (removed id rs)
unfolding removed inserted
removed_other id r [] e o = rw e
removed_other id r (a ∷ rs) e o = go (precedes r a) refl (removed_other id r rs e (sorted_rest a rs o))
  where
    later : precedes r a ≡ true → (t : Bool) → cond t rs (a ∷ removed id rs) ≡ removed id (a ∷ rs) → r ∷ cond t rs (a ∷ removed id rs) ≡ inserted r (cond t rs (a ∷ removed id rs))
    later f true k = sym (inserted_front r rs (λ x m. before_all r a rs f o x (Memᴰ.tail m)))
    later f false k = rw f

    apart :
        precedes r a ≡ false
        → removed id (inserted r rs) ≡ inserted r (removed id rs)
        → (t : Bool)
        → cond t (inserted r rs) (a ∷ removed id (inserted r rs)) ≡ inserted r (cond t rs (a ∷ removed id rs))
    apart f k true = refl
    apart f k false = rw (f, k)

    go : (t : Bool) → precedes r a ≡ t → removed id (inserted r rs) ≡ inserted r (removed id rs) → removed id (cond t (r ∷ a ∷ rs) (a ∷ inserted r rs)) ≡ inserted r (removed id (a ∷ rs))
    go true f k = rw e (later f (eq_z a.report.id id) refl)
    go false f k = apart f k (eq_z a.report.id id)

-- ---- as a change of the words

pub removed_at : (id : ℤ) (rs : List Record) → removed id rs ≡ take (index_of id rs) rs ++ drop (index_of id rs + 1) rs
unfolding first_of removed
removed_at id [] = refl
removed_at id (a ∷ rs) = go (eq_z a.report.id id) (removed_at id rs)
  where
    go :
        (b : Bool)
        → removed id rs ≡ take (index_of id rs) rs ++ drop (index_of id rs + 1) rs
        → cond b rs (a ∷ removed id rs) ≡ take (cond b 0 (suc (index_of id rs))) (a ∷ rs) ++ drop (cond b 0 (suc (index_of id rs)) + 1) (a ∷ rs)
    go true h = refl
    go false h =
        let k : suc (index_of id rs) + 1 ≡ suc (index_of id rs + 1) = omega arith in
        rw k (ap (λ (l : List Record). a ∷ l) h)

-- the words behind seven moved down over them, and the last seven written over
closed :
    (a v b e ys m : List ℤ) (k n l : ℕ)
    → length a ≡ k
    → length v ≡ record_words
    → length b ≡ n
    → l ≡ k + n
    → (s : List ℤ)
    → s ≡ a ++ (v ++ (b ++ e))
    → m ≡ paste s k (drop (k + record_words) s) n
    → take l m ++ (ys ++ drop (l + record_words - l) (drop l m)) ≡ a ++ (b ++ (ys ++ e))
closed a v b e ys m k n l ka kv kn kl s es em =
    let tk : take k s ≡ a = ap (take k) es ∙ take_at a (v ++ (b ++ e)) k ka in
    let av : length (a ++ v) ≡ k + record_words = simp length-append (omega arith) in
    let dk : drop (k + record_words) s ≡ b ++ e =
    ap (drop (k + record_words)) (es ∙ sym (append_assoc a v (b ++ e))) ∙ drop_at (a ++ v) (b ++ e) (k + record_words) av in
    let moved : take n (drop (k + record_words) s) ≡ b = ap (take n) dk ∙ take_at b e n kn in
    let w = drop (k + n) s in
    let mt : m ≡ (a ++ b) ++ w = em ∙ (λ i. (tk i ++ moved i) ++ w) in
    let ab : length (a ++ b) ≡ l = simp length-append (omega arith) in
    let first : take l m ≡ a ++ b = ap (take l) mt ∙ take_at (a ++ b) w l ab in
    let behind : drop l m ≡ w = ap (drop l) mt ∙ drop_at (a ++ b) w l ab in
    let seven : l + record_words - l ≡ record_words = omega arith in
    let far : k + n + record_words ≡ k + record_words + n = omega arith in
    let rest : drop record_words w ≡ e =
    drop-drop record_words (k + n) s
    ∙ ap (λ (j : ℕ). drop j s) far
    ∙ sym (drop-drop n (k + record_words) s)
    ∙ ap (drop n) dk
    ∙ drop_at b e n kn in
    (λ i. first i ++ (ys ++ drop (seven i) (behind i)))
    ∙ ap (λ (x : List ℤ). (a ++ b) ++ (ys ++ x)) rest
    ∙ append_assoc a b (ys ++ e)

store_without :
    (now : ℤ) (rs : List Record) (i : ℕ)
    → i < length rs
    → length rs ≤ capacity
    → store_of now (take i rs ++ drop (i + 1) rs) ≡ front now (length rs - 1) i rs ++ (words_of_all (drop (i + 1) rs) ++ (zeros record_words ++ zeros (record_words * (capacity - length rs))))
unfolding store_of
store_without now rs i h few =
    let front = words_of_all (take i rs) in
    let back = words_of_all (drop (i + 1) rs) in
    let w : words_of_all (take i rs ++ drop (i + 1) rs) ≡ front ++ back = words_append (take i rs) (drop (i + 1) rs) in
    let n : length (take i rs ++ drop (i + 1) rs) ≡ length rs - 1 =
    simp (length-append, length-take, length-drop) (omega arith) in
    let k : suc (length rs - 1) ≡ length rs = omega arith in
    let z : zeros (record_words * (capacity - (length rs - 1))) ≡ zeros record_words ++ zeros (record_words * (capacity - length rs)) =
    more_zeros (length rs - 1) (omega arith) ∙ ap (λ (j : ℕ). zeros record_words ++ zeros (record_words * (capacity - j))) k in
    (λ j. header now (n j) ++ (w j ++ zeros (record_words * (capacity - n j))))
    ∙ ap
    (λ (l : List ℤ). header now (length rs - 1) ++ l)
    (append_assoc front back (zeros (record_words * (capacity - (length rs - 1)))) ∙ ap (λ (l : List ℤ). front ++ (back ++ l)) z)

pub remove_at_done :
    (s : List ℤ) (n p : ℕ)
    → HasWords s
    → n ≡ held_of s
    → p < held_of s
    → (m₁ ys m : List ℤ)
    → let k = record_words * p + record_words in
    let l = record_words * n in
    m₁ ≡ copy_within s (k + record_words) (l + record_words) k
    → length m₁ ≡ length s
    → ys ≡ zeros (length (take (l + record_words - l) (drop l m₁)))
    → m ≡ set (take l m₁ ++ (ys ++ drop (l + record_words - l) (drop l m₁))) 1 (pos (n - 1))
    → m ≡ store_of (now_of s) (take p (records_of s) ++ drop (p + 1) (records_of s))
unfolding words_of_all
remove_at_done s n p q en h m₁ ys m e₁ l₁ ey em =
    let now = now_of s in
    let rs = records_of s in
    let k = record_words * p + record_words in
    let l = record_words * n in
    let room = words_room s q in
    let a = front now (length rs) p rs in
    let r = get_or rs p (record_from [] 0) in
    let b = words_of_all (drop (p + 1) rs) in
    let z = zeros (record_words * (capacity - length rs)) in
    let count : length rs ≡ n = room.count ∙ sym en in
    let few : length rs ≤ capacity = q.few in
    let here : p < length rs = omega arith in
    let split : drop p rs ≡ r ∷ drop (p + 1) rs = rw add-one (drop-cons rs p (record_from [] 0) here) in
    let es : s ≡ a ++ (words_of r ++ (b ++ z)) =
    q.words ∙ store_split now rs p ∙ ap (λ (x : List Record). a ++ (words_of_all x ++ z)) split in
    let lw : length b ≡ record_words * (length rs - (p + 1)) = words_length (drop (p + 1) rs) ∙ ap (λ (j : ℕ). record_words * j) (length-drop (p + 1) rs) in
    let lb : length b ≡ l + record_words - (k + record_words) = omega arith in
    let last : length (take (l + record_words - l) (drop l m₁)) ≡ record_words = let long = room.long in simp (length-take, length-drop) (omega arith) in
    let o = closed a (words_of r) b z ys m₁ k (l + record_words - (k + record_words)) l (front_length now (length rs) p rs (omega arith)) refl lb (omega arith) s es e₁ in
    em
    ∙ ap (λ (x : List ℤ). set x 1 (pos (n - 1))) (o ∙ ap (λ (x : List ℤ). a ++ (b ++ (x ++ z))) (ey ∙ ap zeros last))
    ∙ ap (λ (j : ℕ). front now (j - 1) p rs ++ (b ++ (zeros record_words ++ z))) (sym count)
    ∙ sym (store_without now rs p here few)

pub remove_found :
    (s m : List ℤ) (id : ℤ) (p : ℕ)
    → Some p ≡ found_at id (records_of s)
    → m ≡ store_of (now_of s) (take p (records_of s) ++ drop (p + 1) (records_of s))
    → m ≡ store_of (now_of s) (removed id (records_of s))
remove_found s m id p f em =
    let rs = records_of s in
    em
    ∙ ap (λ (j : ℕ). store_of (now_of s) (take j rs ++ drop (j + 1) rs)) (some_found id rs p f).0
    ∙ ap (store_of (now_of s)) (sym (removed_at id rs))

pub remove_none : (s : List ℤ) (id : ℤ) → HasWords s → None ≡ found_at id (records_of s) → s ≡ store_of (now_of s) (removed id (records_of s))
remove_none s id q f =
    let rs = records_of s in
    let i = index_of id rs in
    let behind = none_found id rs f in
    let all : take i rs ≡ rs = take_all i rs (omega arith) in
    let none : drop (i + 1) rs ≡ [] = drop_of_length-le rs {i = i + 1} (omega arith) in
    q.words ∙ ap (store_of (now_of s)) (sym (removed_at id rs ∙ (λ j. all j ++ none j) ∙ append-nil rs))
