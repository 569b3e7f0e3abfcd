-- What answering a line rests on: the call made on the index is the ledger's next call at that point, its answer's numbers fit a line, and the
-- newline stands right behind what was written.
-- Assumes nothing.
use Rattle.std.specs.Prelude.{Result, Ok, Err}
use mathlib.Core.Path.{◌≡◌, refl, sym, ap, subst, ◌∙◌}
use mathlib.Core.Logic.{∥∥₁_elim, ∥∥₁_map}
use mathlib.Core.Bool.{Bool, true, false, cond}
use mathlib.Core.List.{List, [], ◌∷◌, ◌++◌, map, append_assoc}
use Prim.Native.Nat.{ℕ, suc, ◌+◌, ◌-◌, ◌<◌, ◌≤◌}
use native.Mathlib.Omega.{arith}
use lib.Dec.{ltb}
use lib.IntN.{ℤ, pos}
use lib.ListN.{length, get_or, take, drop, set, length-append, length-take, take-append-drop}
use lib.Seq.{length-take-le, set_at, drop-append-le, drop-cons}
use borrow.Author.Tests.{eq-eqb, ltb-false}
use Rattle.std.proofs.Props.{props}
use Rattle.ints.proofs.Parts.{true_false}
use Rattle.rows.specs.Table.{table_words}
use Rattle.records.specs.Records.{store_words}
use Rattle.records.specs.Words.{Words, words, time_in, are_sound}
use Rattle.records.specs.declared.Record.{Record}
use Rattle.words.specs.Words.{opened}
use Rattle.words.proofs.WordsPlacedLaws.{opened_records}
use Rattle.ledger.specs.Answers.{refusal_number, refusal_value, is_accepted}
use Rattle.ledger.specs.Refusals.{check, first_to_fail, ask_number_checks, ask_checks}
use Rattle.ledger.specs.Machine as Ledger
use Rattle.ledger.specs.Machine.{Ledger}
use Rattle.ledger.specs.Calls as L
use Rattle.ledger.specs.Calls.{Fed, answer_by, answer_of_open}
use Rattle.ledger.specs.declared.Answer.{Answer}
use Rattle.ledger.specs.declared.Answer.TheVariants.{Accepted, Listed, Refused}
use Rattle.ledger.specs.declared.Ask.{Ask}
use Rattle.ledger.specs.declared.Call.{Call}
use Rattle.ledger.specs.declared.Refusal.{Refusal}
use Rattle.ledger.specs.declared.Refusal.TheVariants.{WrongLength, Unsound, BadTime, BadWindow, BadNumber, AlreadyHeld, NotHeld, Full, ListTooShort}
use Rattle.ledger.proofs.RefusalsLaws.{passes, first_passed, others_passed, passed_before, before_passed}
use Rattle.asking.specs.Asking.{ids_needed, ask_settled}
use Rattle.engine.specs.Index.{settled, open_out, clock_out, change_out, ask_out, call_out}
use Rattle.engine.specs.Checks.{wrong_length, unsound, open_checks, checks_of}
use Rattle.engine.specs.Gives.{Gives, GivesCall}
use Rattle.engine.proofs.ChecksLaws.{right_length}
use Rattle.engine.proofs.IndexSmallLaws.{SmallAnswer, call_small}
use Rattle.history.specs.Index as H
use Rattle.history.specs.Index.{LentCall, fed, ids_written}
use Rattle.history.specs.Points.{Point}
use Rattle.history.proofs.Points.{every-point-goes_on}
use Rattle.fields.specs.Fields.{greatest}
use Rattle.fields.specs.Numbers.{are_writable}
use Rattle.lines.specs.Lines.{letter_of, Written}
use Rattle.answers.specs.Answers.{answer_line, no_call_line, AnswerRoom}
use Rattle.lines.specs.Reading.{read_line}
use Rattle.fields.proofs.NumbersLaws.{pos-writable, none_writable, more_writable}
use Rattle.lines.specs.declared.Line.{Line}
use Rattle.answering.specs.Replay.{newline, list_length, fed_of, told, answer_to, next}
use Rattle.answering.specs.Answering.{longest_answer, AtPoint, ids_told, Answers, AnswersLine}

-- ---- room for an answer

refusal_small : (r : Refusal) → refusal_number r ≤ 10
refusal_small WrongLength = omega arith
refusal_small Unsound = omega arith
refusal_small BadTime = omega arith
refusal_small BadWindow = omega arith
refusal_small BadNumber = omega arith
refusal_small AlreadyHeld = omega arith
refusal_small NotHeld = omega arith
refusal_small Full = omega arith
refusal_small (ListTooShort needed) = omega arith

small : (n : ℕ) (ns : List ℕ) → n ≤ greatest → are_writable (map pos ns) ≡ true → are_writable (map pos (n ∷ ns)) ≡ true
small n ns h k = more_writable (pos n) (map pos ns) (pos-writable n h) k

pub answer_room : (a : Answer) (ids out : List ℕ) → SmallAnswer a → length ids ≤ list_length → longest_answer ≤ length out → AnswerRoom a ids out
answer_room (Accepted held) ids out s few room = record {
  room = omega arith;
  writable = small 0 (held ∷ []) (omega arith) (small held [] (omega (arith, s.value)) none_writable);
}
answer_room (Listed n cells useful rounds) ids out s few room = record {
  room = omega arith;
  writable =
      small 0 (n ∷ cells ∷ useful ∷ rounds ∷ []) (omega arith)
      (small n (cells ∷ useful ∷ rounds ∷ []) (omega (arith, s.value))
      (small cells (useful ∷ rounds ∷ []) (omega (arith, s.cells))
      (small useful (rounds ∷ []) (omega (arith, s.useful)) (small rounds [] (omega (arith, s.rounds)) none_writable))));
}
answer_room (Refused r) ids out s few room = record {
  room = omega arith;
  writable = small (refusal_number r) (refusal_value r ∷ []) (omega (arith, refusal_small r)) (small (refusal_value r) [] (omega (arith, s.value)) none_writable);
}

-- ---- a call after open

-- so an index that has been opened is sound
pub point_sound : (w : Words) → ∥ AtPoint w.store w.table ∥₁ → are_sound w ≡ true
point_sound w at = ∥∥₁_elim at (Prim.hlevel props) (λ p. (every-point-goes_on p.ledger w p.point).sound)

-- what leads each point on leads an opened index on
pub point_then : (w w' : Words) (line : Line) → ((l : Ledger) → Point l w → Point (next l line) w') → ∥ AtPoint w.store w.table ∥₁ → ∥ AtPoint w'.store w'.table ∥₁
point_then w w' line leads at = ∥∥₁_map at (λ p. record { ledger = next p.ledger line; point = leads p.ledger p.point })

-- the ids written in front are those of the reply
ids_told_lem : (a : Answer) (list : List ℕ) → ids_written a list ≡ take (ids_told a) list
ids_told_lem (Accepted held) list = refl
ids_told_lem (Listed n cells useful rounds) list = refl
ids_told_lem (Refused r) list = refl

-- an ask is accepted only where the list has room for the ids; no other call lists any
asked_few : (w : Words) (ask : Ask) (list : List ℕ) (v : Result (Unit {0}) Refusal) → (v ≡ Ok tt → ids_needed w ask ≤ length list) → ids_told (ask_settled v w ask list).answer ≤ length list
asked_few w ask list (Ok tt) few = few refl
asked_few w ask list (Err r) few = omega arith

settled_few : (v : Result (Unit {0}) Refusal) (w w' : Words) (n : ℕ) → ids_told (settled v w w').answer ≤ n
settled_few (Ok tt) w w' n = omega arith
settled_few (Err r) w w' n = omega arith

pub few_told : (w : Words) (call : Call) (list : List ℕ) → ids_told (call_out w call list).answer ≤ length list
unfolding call_out clock_out change_out ask_out
few_told w (Call.Clock t) list = settled_few (first_to_fail (checks_of w (Call.Clock t) 0)) w _ (length list)
few_told w (Call.Change c) list = settled_few (first_to_fail (checks_of w (Call.Change c) 0)) w _ (length list)
few_told w (Call.Ask ask) list =
    asked_few w ask list (first_to_fail (checks_of w (Call.Ask ask) (length list)))
    (λ p.
    let needed = ids_needed w ask in
    let short = ltb (length list) needed in
    let numbers = ask_number_checks (time_in w) ask in
    let room = check short (ListTooShort needed) ∷ [] in
    let asked = ask_checks (time_in w) ask (length list) needed in
    let odd = check (unsound w) Unsound ∷ asked in
    let after_lent = others_passed (unsound w) Unsound asked (others_passed (wrong_length w) WrongLength odd p) in
    let after-numbers = passed_before numbers room (before_passed numbers room after_lent) ∙ after_lent in
    ltb-false (length list) needed (first_passed short (ListTooShort needed) [] after-numbers))

module _ (call : Call) (w : Words) (list : List ℕ) (w' : Words) (list' : List ℕ) (a : Answer) (g : GivesCall (call_out w call list) a w' list') (e : length list ≡ list_length) where
  pub told_fits : are_sound w ≡ true → (out : List ℕ) → longest_answer ≤ length out → AnswerRoom a (take (ids_told a) list') out
  told_fits sound out room =
      let small = call_small w sound call list in
      let few : ids_told a ≤ length list = rw g.answer_is (few_told w call list) in
      answer_room a (take (ids_told a) list') out (subst SmallAnswer (sym g.answer_is) small) (omega (arith, length-take (ids_told a) list')) room

  pub told_few : ids_told a ≤ length list
  told_few = rw g.answer_is (few_told w call list)

  -- the reply of the index's call
  reply_is : H.reply_to w (record { call = call; list = list }) ≡ record { answer = a; ids = take (ids_told a) list' }
  reply_is =
      (λ i. record { answer = sym g.answer_is i; ids = ids_written (sym g.answer_is i) (sym g.list_is i) })
      ∙ ap (λ (ids : List ℕ). record { answer = a; ids = ids }) (ids_told_lem a list')

  fed_is : fed (record { call = call; list = list }) ≡ fed_of call
  fed_is = ap (λ (n : ℕ). record { call = call; room = n }) e

  pub call_leads : (l : Ledger) → Point l w → Point (next l (Line.Call call)) w'
  unfolding next
  call_leads l p =
      let lent : LentCall = record { call = call; list = list } in
      subst (λ (c : Fed). Point (L.next l c) w') fed_is
      (subst (Point (L.next l (fed lent))) (sym g.words_are) ((every-point-goes_on l w p).leads lent))

  pub answers_made :
      (letter : ℕ)
      → letter ≡ letter_of (Line.Call call)
      → (out out' : List ℕ) (n : ℕ)
      → Written (answer_line letter a (take (ids_told a) list')) out out' n
      → Answers (Line.Call call) w w' out out' n
  unfolding next answer_to
  answers_made letter is out out' n written =
      let lent : LentCall = record { call = call; list = list } in
      record {
        leads = call_leads;
        writes = λ l p.
            subst (λ (x : List ℕ). Written x out out' n)
            (ap (λ (x : ℕ). answer_line x a (take (ids_told a) list')) is
            ∙ ap (told (Line.Call call)) (sym reply_is ∙ (every-point-goes_on l w p).answers lent ∙ ap (L.reply_to l) fed_is))
            written;
      }

-- ---- the first open

module _ (store table : List ℤ) (long : length store ≡ store_words) (wide : length table ≡ table_words) where
  opens : is_accepted (open_out (words store table) (pos 0)).answer ≡ true
  unfolding open_out first_to_fail
  opens = rw (eq-eqb (length store) store_words long, eq-eqb (length table) table_words wide) refl

  pub first_point : (w : Words) (a : Answer) → Gives (open_out (words store table) (pos 0)) a w → Point (Ledger.opened (pos 0)) w
  unfolding H.after L.after
  first_point w a g = record { lent = words store table; time = pos 0; calls = []; opens = opens; words_are = g.words_are; ledger_is = refl }

-- ---- an open at a point

module _ (w : Words) (t : ℤ) (sound : are_sound w ≡ true) where
  -- an open over sound words answers as the ledger's
  open_verdict : first_to_fail (open_checks w t) ≡ first_to_fail (L.open_checks t)
  open_verdict =
      sym (passes (wrong_length w) WrongLength (L.open_checks t) _ (right_length w sound) refl)

  open_by : (v : Result (Unit {0}) Refusal) → (settled v w (opened t w)).answer ≡ answer_by v (Accepted 0)
  open_by (Ok tt) = ap (λ (rs : List Record). Accepted (length rs)) (opened_records t w)
  open_by (Err r) = refl

  open_answer : (open_out w t).answer ≡ answer_of_open t
  unfolding open_out
  open_answer = open_by (first_to_fail (open_checks w t)) ∙ ap (λ (v : Result (Unit {0}) Refusal). answer_by v (Accepted 0)) open_verdict

  -- refused, the words stay
  refused_stays : (v : Result (Unit {0}) Refusal) → is_accepted (settled v w (opened t w)).answer ≡ false → w ≡ (settled v w (opened t w)).words
  refused_stays (Ok tt) e = absurd (true_false e)
  refused_stays (Err r) e = refl

  open_leads : (b : Bool) → is_accepted (open_out w t).answer ≡ b → (l : Ledger) → Point l w → Point (cond b (Ledger.opened t) l) (open_out w t).words
  unfolding open_out H.after L.after
  open_leads true e l p = record { lent = w; time = t; calls = []; opens = e; words_are = refl; ledger_is = refl }
  open_leads false e l p = subst (Point l) (refused_stays (first_to_fail (open_checks w t)) e) p

  pub opened_leads : (a : Answer) (w' : Words) → Gives (open_out w t) a w' → (l : Ledger) → Point l w → Point (next l (Line.Open t)) w'
  unfolding next
  opened_leads a w' g l p =
      subst (λ (x : Ledger). Point x w') (ap (λ (x : Answer). cond (is_accepted x) (Ledger.opened t) l) open_answer)
      (subst (Point (cond (is_accepted (open_out w t).answer) (Ledger.opened t) l)) (sym g.words_are)
      (open_leads (is_accepted (open_out w t).answer) refl l p))

  pub answers_open :
      (a : Answer) (w' : Words)
      → Gives (open_out w t) a w'
      → (out out' : List ℕ) (n : ℕ)
      → Written (answer_line (letter_of (Line.Open t)) a []) out out' n
      → Answers (Line.Open t) w w' out out' n
  unfolding next answer_to
  answers_open a w' g out out' n written = record {
    leads = opened_leads a w' g;
    writes = λ l p. subst (λ (x : Answer). Written (answer_line (letter_of (Line.Open t)) x []) out out' n) (g.answer_is ∙ open_answer) written;
  }

-- ---- what is no call

pub answers_no_call : (w : Words) (out out' : List ℕ) (n : ℕ) → Written no_call_line out out' n → Answers Line.NoCall w w out out' n
unfolding next answer_to
answers_no_call w out out' n text = record { leads = λ l p. p; writes = λ l p. text }

-- ---- the newline

module _ (out text ys : List ℕ) (n : ℕ) (h : 0 < length out) (w : Written text (take (length out - 1) out) ys n) (e : length ys ≡ length (take (length out - 1) out)) where
  pub answer_short : n < length out
  answer_short =
      omega (arith, e, length-take-le (length out - 1) out (omega arith), w.count, ap length w.bytes, length-append text (drop (length text) (take (length out - 1) out)))

  -- what was not written is as it was
  kept : drop n (take (length out - 1) out) ++ drop (length out - 1) out ≡ drop n out
  kept =
      sym (drop-append-le n (take (length out - 1) out) (drop (length out - 1) out) (omega (arith, answer_short, length-take-le (length out - 1) out (omega arith))))
      ∙ ap (drop n) (take-append-drop (length out - 1) out)

  pub newline_behind : Written (text ++ newline ∷ []) out (set (ys ++ drop (length out - 1) out) n newline) (n + 1)
  newline_behind =
      let whole : ys ++ drop (length out - 1) out ≡ text ++ drop n out =
      ap (λ (x : List ℕ). x ++ drop (length out - 1) out) (w.bytes ∙ ap (λ (k : ℕ). text ++ drop k (take (length out - 1) out)) (sym w.count))
      ∙ append_assoc text (drop n (take (length out - 1) out)) (drop (length out - 1) out)
      ∙ ap (λ (x : List ℕ). text ++ x) kept in
      let one : length (text ++ newline ∷ []) ≡ suc n = omega (arith, length-append text (newline ∷ []), w.count) in
      record {
        bytes =
            ap (λ (x : List ℕ). set x n newline) (whole ∙ ap (λ (x : List ℕ). text ++ x) (drop-cons out n 0 answer_short))
            ∙ set_at text (get_or out n 0) (drop (suc n) out) newline n (sym w.count)
            ∙ sym (append_assoc text (newline ∷ []) (drop (suc n) out))
            ∙ ap (λ (k : ℕ). (text ++ newline ∷ []) ++ drop k out) (sym one);
        count = omega (arith, one);
      }

module _ (line : List ℕ) (w w' : Words) (out ys : List ℕ) (n : ℕ)
    (at : ∥ AtPoint w.store w.table ∥₁) (h : 0 < length out)
    (a : Answers (read_line line) w w' (take (length out - 1) out) ys n) (e : length ys ≡ length (take (length out - 1) out)) where
  pub line_short : n < length out
  line_short = ∥∥₁_elim at (Prim.hlevel props) (λ p. answer_short out (answer_to p.ledger (read_line line)) ys n h (a.writes p.ledger p.point) e)

  pub line_answered : AnswersLine line w w' out (set (ys ++ drop (length out - 1) out) n newline) (n + 1)
  line_answered = record {
    leads = a.leads;
    writes = λ l p. newline_behind out (answer_to l (read_line line)) ys n h (a.writes l p) e;
  }
