-- What the byte machine's functions rest on: the first bytes of a line tell its call; a byte held or a line answered is one step of the session;
-- and steps follow one another.
-- Assumes nothing.
use mathlib.Core.Path.{◌≡◌, refl, sym, ap, ap₂, subst, ◌∙◌}
use mathlib.Core.Logic.{∥∥₁_elim, ∥∥₁_map}
use mathlib.Core.Bool.{Bool, true, false, cond}
use mathlib.Core.List.{List, [], ◌∷◌, ◌++◌, append_assoc, append-nil}
use Prim.Native.Nat.{ℕ, zero, suc, ◌+◌, ◌-◌, ◌<◌, ◌≤◌}
use native.Mathlib.Omega.{arith}
use lib.Dec.{leb}
use lib.ListN.{length, get_or, take, drop, length-append}
use lib.Seq.{take_all, take_at, take-suc, length-take-le, take-nil}
use borrow.Author.Tests.{eq-eqb, ne_eqb, leb-true, leb-false}
use Rattle.std.proofs.Props.{props}
use Rattle.records.specs.Words.{Words}
use Rattle.ledger.specs.Machine.{Ledger}
use Rattle.history.specs.Points.{Point}
use Rattle.lines.specs.Lines.{line_length, Written}
use Rattle.lines.specs.Reading.{count_of, read_line}
use Rattle.lines.proofs.LinesLaws.{written_fits, written_front}
use Rattle.lines.proofs.ReadingLaws.{few_follow}
use Rattle.lines.specs.declared.Line.{Line}
use Rattle.lines.specs.declared.Line.TheVariants.{NoCall}
use Rattle.answering.specs.Replay.{newline, answer_to, next, line_answered, after_line, is_empty}
use Rattle.answering.specs.Answering.{AtPoint}
use Rattle.session.specs.Session.{Session, taking, writing, session_after, written_for, line_bytes, Kept, Keeps}
use Rattle.session.specs.Feeding.{Holds, EndsLine, Takes, FeedsKept, EndsKept}

-- ---- the first bytes of a line

long_is_no_call : (line : List ℕ) → line_bytes ≤ length line → read_line line ≡ NoCall
unfolding read_line
long_is_no_call line h =
    let letter = get_or line 0 0 in
    let e = ne_eqb (length line) (line_length (count_of letter)) (λ e. let f = few_follow letter in omega arith) in
    simp e

pub first_bytes_tell : (line : List ℕ) → read_line (take line_bytes line) ≡ read_line line
first_bytes_tell line = go (leb (length line) line_bytes) refl
  where
    go : (b : Bool) → leb (length line) line_bytes ≡ b → read_line (take line_bytes line) ≡ read_line line
    go true e = ap read_line (take_all line_bytes line (leb-true (length line) line_bytes e))
    go false e =
        let h = leb-false (length line) line_bytes e in
        long_is_no_call (take line_bytes line) (omega (arith, length-take-le line_bytes line (omega arith))) ∙ sym (long_is_no_call line (omega arith))

take-one-more : (n : ℕ) (line : List ℕ) (b : ℕ) → take n (take n line ++ b ∷ []) ≡ take n (line ++ b ∷ [])
take-one-more zero line b = refl
take-one-more (suc n) [] b = refl
take-one-more (suc n) (a ∷ line) b = ap (λ (x : List ℕ). a ∷ x) (take-one-more n line b)

-- ---- a line answered

-- the answer fits, since the index is at a point of some list
pub answer_fits :
    (k : Kept) (w' : Words) (out out' : List ℕ) (filled : ℕ) → ∥ AtPoint k.index.store k.index.table ∥₁ → EndsLine k w' out out' filled → filled ≤ length out'
answer_fits k w' out out' filled at a = ∥∥₁_elim at (Prim.hlevel props) (λ p. written_fits (a.writes p.ledger p.point))

-- the bytes held tell the line's call
module _ (s : Session) (k : Kept) (h : Keeps s k) where
  told : read_line (take k.held k.line) ≡ read_line s.line
  told = ap read_line h.begins ∙ first_bytes_tell s.line

-- ---- one byte taken

-- the line ends, and none of its bytes is held any more
pub newline_taken :
    (b : ℕ) (k : Kept) (w' : Words) (out out' : List ℕ) (filled : ℕ)
    → ∥ AtPoint k.index.store k.index.table ∥₁
    → b ≡ newline
    → EndsLine k w' out out' filled
    → Takes b k (record { index = w'; line = k.line; held = 0 }) out out' filled
newline_taken b k w' out out' filled at e a = record {
  stands = λ s h. rw (eq-eqb b newline e) (record {
    point = subst (λ (c : Line). Point (next s.ledger c) w') (told s k h) (a.leads s.ledger h.point);
    few = omega arith;
    begins = sym (take-nil line_bytes);
    long = h.long;
  });
  writes = λ s h. rw (eq-eqb b newline e) (subst (λ (c : Line). Written (answer_to s.ledger c ++ newline ∷ []) out out' filled) (told s k h) (a.writes s.ledger h.point));
  fits = answer_fits k w' out out' filled at a;
}

-- one more byte of the line
pub other_taken :
    (b : ℕ) (w : Words) (line line' out : List ℕ) (used used' : ℕ)
    → length line' ≡ length line
    → (b ≡ newline → ⊥)
    → Holds b line used line' used'
    → Takes b (record { index = w; line = line; held = used }) (record { index = w; line = line'; held = used' }) out out 0
other_taken b w line line' out used used' same ne a = record {
  stands = λ s h. rw (ne_eqb b newline ne) (record {
    point = h.point;
    few = omega (arith, a.few, h.long);
    begins = a.bytes ∙ ap₂ (λ (n : ℕ) (x : List ℕ). take n (x ++ b ∷ [])) h.long h.begins ∙ take-one-more line_bytes s.line b;
    long = same ∙ h.long;
  });
  writes = λ s h. rw (ne_eqb b newline ne) (record { bytes = refl; count = refl });
  fits = omega arith;
}

-- ---- lent buffers that go on

-- the bytes held, by themselves, are a session of which this is kept
pub alone :
    (k : Kept) (p : AtPoint k.index.store k.index.table)
    → length k.line ≡ line_bytes
    → k.held ≤ line_bytes
    → Keeps (record { ledger = p.ledger; line = take k.held k.line }) k
alone k p long few = record {
  point = p.point;
  few = few;
  begins = sym (take_all line_bytes (take k.held k.line) (omega (arith, length-take-le k.held k.line (omega (arith, long)))));
  long = long;
}

-- so what leads each session on leaves a point, and few bytes held
module _
    (k k' : Kept) (on : Session → Session) (leads : (s : Session) → Keeps s k → Keeps (on s) k') (at : ∥ AtPoint k.index.store k.index.table ∥₁)
    (long : length k.line ≡ line_bytes) (few : k.held ≤ line_bytes) where
  pub at_point_then : ∥ AtPoint k'.index.store k'.index.table ∥₁
  at_point_then = ∥∥₁_map at (λ p. record { ledger = _; point = (leads _ (alone k p long few)).point })

  pub few_then : k'.held ≤ line_bytes
  few_then = ∥∥₁_elim at (Prim.hlevel props) (λ p. (leads _ (alone k p long few)).few)

-- ---- one byte after another

pub session_one_more : (bs : List ℕ) (s : Session) (b : ℕ) → session_after s (bs ++ b ∷ []) ≡ taking (session_after s bs) b
unfolding session_after
session_one_more [] s b = refl
session_one_more (a ∷ bs) s b = session_one_more bs (taking s a) b

pub written_one_more : (bs : List ℕ) (s : Session) (b : ℕ) → written_for s (bs ++ b ∷ []) ≡ written_for s bs ++ writing (session_after s bs) b
unfolding session_after written_for
written_one_more [] s b = append-nil (writing s b)
written_one_more (a ∷ bs) s b =
    ap (λ (x : List ℕ). writing s a ++ x) (written_one_more bs (taking s a) b)
    ∙ sym (append_assoc (writing s a) (written_for (taking s a) bs) (writing (session_after (taking s a) bs) b))

-- ---- the bytes of a chunk

-- what follows the first `filled` bytes, lent by itself, and the whole once it is given back
abbrev behind : List ℕ → ℕ → List ℕ
behind out filled = take (length out - filled) (drop filled out)

abbrev with_behind : List ℕ → ℕ → List ℕ → List ℕ
with_behind out filled ys = take filled out ++ (ys ++ drop (length out - filled) (drop filled out))

-- a text written there
module _ (out text ys : List ℕ) (filled r : ℕ) (h : filled ≤ length out) (w : Written text (behind out filled) ys r) where
  written_behind : take (filled + r) (with_behind out filled ys) ≡ take filled out ++ text
  written_behind =
      let rest = drop (length text) (behind out filled) ++ drop (length out - filled) (drop filled out) in
      ap (λ (x : List ℕ). take (filled + r) (take filled out ++ x))
      (ap (λ (x : List ℕ). x ++ drop (length out - filled) (drop filled out)) w.bytes
      ∙ append_assoc text (drop (length text) (behind out filled)) (drop (length out - filled) (drop filled out)))
      ∙ ap (take (filled + r)) (sym (append_assoc (take filled out) text rest))
      ∙ take_at (take filled out ++ text) rest (filled + r) (length-append (take filled out) text ∙ omega (arith, length-take-le filled out h, w.count))

-- after the first i bytes of a chunk
module _ (chunk : List ℕ) (k₀ : Kept) where
  pub record Going (k : Kept) (out : List ℕ) (filled i : ℕ) : Type 0 where
    pub fits : filled ≤ length out
    pub first : i ≡ 0 → filled ≡ 0
    pub stands : (s : Session) → Keeps s k₀ → Keeps (session_after s (take i chunk)) k
    pub writes : (s : Session) → Keeps s k₀ → take filled out ≡ written_for s (take i chunk)

  pub going_begins : (out : List ℕ) → Going k₀ out 0 0
  unfolding session_after written_for
  going_begins out = record { fits = omega arith; first = λ e. refl; stands = λ s h. h; writes = λ s h. refl }

  module _ (k : Kept) (out : List ℕ) (filled i : ℕ) (going : Going k out filled i) where
    pub going_on :
        (h : i < length chunk) (k' : Kept) (ys : List ℕ) (r : ℕ)
        → Takes (get_or chunk i 0) k k' (behind out filled) ys r
        → Going k' (with_behind out filled ys) (filled + r) (i + 1)
    going_on h k' ys r t =
        let b = get_or chunk i 0 in
        let one : i + 1 ≡ suc i = omega arith in
        let more : take (i + 1) chunk ≡ take i chunk ++ b ∷ [] = ap (λ (n : ℕ). take n chunk) one ∙ take-suc chunk i 0 h in
        record {
          fits =
              omega (
                arith,
                t.fits,
                length-append (take filled out) (ys ++ drop (length out - filled) (drop filled out)),
                length-append ys (drop (length out - filled) (drop filled out)),
                length-take-le filled out going.fits,
              );
          first = λ e. absurd (omega arith);
          stands = λ s q.
              subst (λ (x : Session). Keeps x k') (sym (ap (session_after s) more ∙ session_one_more (take i chunk) s b))
              (t.stands (session_after s (take i chunk)) (going.stands s q));
          writes = λ s q.
              written_behind out (writing (session_after s (take i chunk)) b) ys filled r going.fits (t.writes (session_after s (take i chunk)) (going.stands s q))
              ∙ ap (λ (x : List ℕ). x ++ writing (session_after s (take i chunk)) b) (going.writes s q)
              ∙ sym (ap (written_for s) more ∙ written_one_more (take i chunk) s b);
        }

    pub going_ends : i ≤ length chunk → (0 < length chunk → 0 < i) → FeedsKept chunk k₀ k out (record { taken = i; filled = filled; held = k.held })
    going_ends h more = record { stands = going.stands; writes = going.writes; within = h; goes_on = more; fits = going.fits; held_is = refl }

    -- answers that leave no room are not those to no byte
    pub some_taken : 0 < filled → 0 < i
    some_taken h = go i refl
      where
        go : (k : ℕ) → i ≡ k → 0 < i
        go zero e = absurd (omega (arith, going.first e))
        go (suc k) e = omega arith

-- ---- the end of the input

module _ (k : Kept) where
  nothing_held : (s : Session) → Keeps s k → k.held ≡ 0 → s.line ≡ []
  nothing_held s h e = go s.line (ap (λ (n : ℕ). take n k.line) (sym e) ∙ h.begins)
    where
      go : (l : List ℕ) → [] ≡ take line_bytes l → l ≡ []
      go [] e = refl
      go (b ∷ l) e = absurd (omega (arith, ap length e))

  some_held : (s : Session) → Keeps s k → 0 < k.held → is_empty s.line ≡ false
  some_held s h some = go s.line h.begins
    where
      go : (l : List ℕ) → take k.held k.line ≡ take line_bytes l → is_empty l ≡ false
      go [] e = absurd (omega (arith, ap length e, length-take-le k.held k.line (omega (arith, h.few, h.long))))
      go (b ∷ l) e = refl

  pub ends_empty : (out : List ℕ) → k.held ≡ 0 → EndsKept k k.index out 0
  ends_empty out e = record {
    leads = λ s h.
        subst (λ (l : Ledger). Point l k.index) (sym (ap (λ (l : List ℕ). cond (is_empty l) s.ledger (after_line s.ledger l)) (nothing_held s h e))) h.point;
    writes = λ s h. sym (ap (λ (l : List ℕ). cond (is_empty l) [] (line_answered s.ledger l)) (nothing_held s h e));
    fits = omega arith;
  }

  pub ends_line :
      (w' : Words) (out out' : List ℕ) (filled : ℕ)
      → ∥ AtPoint k.index.store k.index.table ∥₁
      → 0 < k.held
      → EndsLine k w' out out' filled
      → EndsKept k w' out' filled
  ends_line w' out out' filled at some a = record {
    leads = λ s h.
        subst (λ (l : Ledger). Point l w')
        (ap (next s.ledger) (told s k h) ∙ sym (ap (λ (b : Bool). cond b s.ledger (after_line s.ledger s.line)) (some_held s h some)))
        (a.leads s.ledger h.point);
    writes = λ s h.
        written_front (a.writes s.ledger h.point)
        ∙ ap (λ (c : Line). answer_to s.ledger c ++ newline ∷ []) (told s k h)
        ∙ sym (ap (λ (b : Bool). cond b [] (line_answered s.ledger s.line)) (some_held s h some));
    fits = answer_fits k w' out out' filled at a;
  }

  -- and at a point
  pub at_point_at_end :
      (w' : Words) (out' : List ℕ) (filled : ℕ)
      → ∥ AtPoint k.index.store k.index.table ∥₁
      → length k.line ≡ line_bytes
      → k.held ≤ line_bytes
      → EndsKept k w' out' filled
      → ∥ AtPoint w'.store w'.table ∥₁
  at_point_at_end w' out' filled at long few e = ∥∥₁_map at (λ p. record { ledger = _; point = e.leads _ (alone k p long few) })
