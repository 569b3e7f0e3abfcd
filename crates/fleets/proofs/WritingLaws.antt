-- The lines of a fleet: how long each is, one put into bytes behind the others, and the state that the skipped ones leave. Of the bytes, 10 is the
-- newline.
-- Assumes nothing.
use mathlib.Core.Path.{◌≡◌, refl, sym, ap, ap₂, ◌∙◌}
use mathlib.Core.Bool.{true}
use mathlib.Core.List.{List, [], ◌∷◌, ◌++◌}
use Prim.Native.Nat.{ℕ, ◌+◌, ◌-◌, ◌*◌, ◌≤◌, ◌<◌}
use native.Mathlib.Omega.{arith}
use lib.ListN.{length, get_or, take, drop, set, length-append}
use Rattle.grid.specs.declared.Report.{Report}
use Rattle.fields.specs.Fields.{greatest}
use Rattle.fields.specs.Numbers.{are_writable}
use Rattle.fields.specs.Put.{put}
use Rattle.fields.proofs.NumbersLaws.{length_fields, InTurn, length-texts, left, left_next, left_none}
use Rattle.fields.proofs.PutLaws.{put_front, put_more, put_part}
use Rattle.generator.specs.Generator.{steps, jump}
use Rattle.generator.proofs.Claims.{jump_is_steps}
use Rattle.lines.specs.Lines.{letter_of, report_numbers, change_numbers, numbers_of, call_line, Written}
use Rattle.fleets.specs.Inputs.{is_fleet}
use Rattle.fleets.specs.Fleets.{draws, float_of, floats_after, written_floats, add_of, float_line, float_lines}
use Rattle.fleets.specs.Writing.{float_bytes}
use Rattle.fleets.specs.declared.Fleet.{Fleet}
use Rattle.fleets.proofs.InputsLaws.{ranges}
use Rattle.fleets.proofs.FleetsLaws.{floats_many, written_after, float_at, float_writable}

-- ---- one line

call_bytes : (r : Report) → are_writable (report_numbers r) ≡ true → length (call_line (add_of r)) ≡ float_bytes - 1
unfolding call_line letter_of numbers_of change_numbers
call_bytes r h = omega (arith, length_fields (report_numbers r) h)

pub float_bytes_lem : (r : Report) → are_writable (report_numbers r) ≡ true → length (float_line r) ≡ float_bytes
unfolding float_line
float_bytes_lem r h = length-append (call_line (add_of r)) (10 ∷ []) ∙ omega (arith, call_bytes r h)

-- the call's line is written there, and then its newline
pub float_put :
    (out part out' : List ℕ) (at n : ℕ) (r : Report)
    → at + float_bytes ≤ length out
    → are_writable (report_numbers r) ≡ true
    → Written (call_line (add_of r)) (take (length out - at) (drop at out)) part n
    → out' ≡ take at out ++ (part ++ drop (length out - at) (drop at out))
    → length out' ≡ length out
    → set out' (at + float_bytes - 1) 10 ≡ put out at (float_line r)
unfolding float_line
float_put out part out' at n r room good w is same =
    let line = call_line (add_of r) in
    let long = call_bytes r good in
    let end : at + float_bytes - 1 ≡ at + length line = omega arith in
    ap (λ (i : ℕ). set out' i 10) end
    ∙ put_more out out' line at 10 (omega arith) same
    (is ∙ ap (λ (t : List ℕ). take at out ++ (t ++ drop (length out - at) (drop at out))) w.bytes ∙ put_part out line at)

-- ---- the lines

pub floats-in_turn : InTurn float_line float_lines
unfolding float_lines
floats-in_turn = record { none = refl; more = λ r rs. refl }

-- no place in the bytes lacks a float: one that is never looked at
abbrev pub none : Report
none = float_of 0 0

module _ (k n s : ℕ) (few : k + n ≤ greatest) where
  pub writable_at : (i : ℕ) → i < n → are_writable (report_numbers (get_or (floats_after k n s) i none)) ≡ true
  writable_at i h = rw (float_at none k n s i h) (float_writable (k + i + 1) (steps (draws * i) s) (omega arith))

  pub line_bytes_lem : (i : ℕ) → i < n → length (float_line (get_or (floats_after k n s) i none)) ≡ float_bytes
  line_bytes_lem i h = float_bytes_lem (get_or (floats_after k n s) i none) (writable_at i h)

  pub lines_bytes : length (float_lines (floats_after k n s)) ≡ float_bytes * n
  lines_bytes =
      length-texts floats-in_turn float_bytes none (floats_after k n s) (λ i h. line_bytes_lem i (rw (floats_many k n s) at h))
      ∙ ap (λ (m : ℕ). float_bytes * m) (floats_many k n s)

  -- one more float, put where it belongs
  pub float_next :
      (out out' : List ℕ) (i z : ℕ) (r : Report)
      → i < n
      → float_bytes * n ≤ length out
      → z ≡ steps (draws * i) s
      → r ≡ float_of (k + i + 1) z
      → out' ≡ put out (float_bytes * i) (float_line r)
      → left float_lines float_bytes 0 (floats_after k n s) out i ≡ left float_lines float_bytes 0 (floats_after k n s) out' (i + 1)
  float_next out out' i z r h room e g is =
      let same : r ≡ get_or (floats_after k n s) i none = g ∙ ap (float_of (k + i + 1)) e ∙ sym (float_at none k n s i h) in
      let at : float_bytes * i ≡ 0 + float_bytes * i = omega arith in
      left_next floats-in_turn float_bytes none 0 (floats_after k n s) out out' i (omega arith) (omega (arith, floats_many k n s)) (line_bytes_lem i h)
      (is ∙ ap₂ (λ (j : ℕ) (q : Report). put out j (float_line q)) at same)

-- ---- the skip

-- those that are written are drawn from the jump over the draws of the skipped ones
pub written_from : (f : Fleet) → is_fleet f ≡ true → written_floats f ≡ floats_after f.skip (f.floats - f.skip) (jump (draws * f.skip) f.start)
written_from f h =
    written_after f h ∙ ap (floats_after f.skip (f.floats - f.skip)) (sym (jump_is_steps (draws * f.skip) f.start))

-- all of them put
pub floats_put :
    (f : Fleet)
    → is_fleet f ≡ true
    → (s : ℕ)
    → s ≡ jump (draws * f.skip) f.start
    → (out₀ out : List ℕ) (i : ℕ)
    → f.floats - f.skip ≤ i
    → let floats = floats_after f.skip (f.floats - f.skip) s in
    put out₀ 0 (float_lines floats) ≡ left float_lines float_bytes 0 floats out i
    → Written (float_lines (written_floats f)) out₀ out (float_bytes * (f.floats - f.skip))
floats_put f h s e out₀ out i l inv =
    let n = f.floats - f.skip in
    let floats = floats_after f.skip n s in
    let text = float_lines floats in
    let same : written_floats f ≡ floats = written_from f h ∙ ap (floats_after f.skip n) (sym e) in
    let within = ranges f h in
    rw same
    record {
      bytes = sym (sym (put_front out₀ text) ∙ inv ∙ left_none floats-in_turn float_bytes 0 floats out i (omega (arith, floats_many f.skip n s)));
      count = sym (lines_bytes f.skip n s (omega (arith, within.most, within.skipped)));
    }

-- ---- "?"

pub other_put : (out : List ℕ) → 2 ≤ length out → set (set out 0 63) 1 10 ≡ 63 ∷ 10 ∷ drop 2 out
other_put [] h = absurd (omega arith)
other_put (a ∷ []) h = absurd (omega arith)
other_put (a ∷ b ∷ out) h = refl
