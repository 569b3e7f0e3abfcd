-- The claims of specs/Claims.antt, proved: a float's line is the first of the input, is read to its add, and the ledger accepts that; then the same
-- of the next float, with one more held.
-- Assumes nothing.
use mathlib.Core.Path.{◌≡◌, refl, sym, ap, ap₂, ◌∙◌}
use mathlib.Core.Bool.{true}
use mathlib.Core.List.{List, [], ◌∷◌, ◌++◌, map, append_assoc, append-nil}
use Prim.Native.Nat.{ℕ, zero, suc, ◌+◌, ◌-◌, ◌≤◌}
use native.Mathlib.Omega.{arith}
use lib.IntN.{pos}
use Rattle.std.specs.Prelude.{Option}
use Rattle.grid.specs.Units.{capacity, last_id}
use Rattle.grid.specs.declared.Report.{Report}
use Rattle.ledger.specs.Calls as L
use Rattle.ledger.specs.Calls.{Reply, reply_to, after}
use Rattle.ledger.specs.Machine.{Ledger, opened}
use Rattle.fields.specs.Numbers.{are_writable}
use Rattle.generator.specs.Generator.{steps}
use Rattle.lines.specs.Lines.{report_numbers, letter_of, change_numbers, numbers_of, call_line}
use Rattle.lines.specs.declared.Line.{Line}
use Rattle.lines.proofs.Claims.{read_written}
use Rattle.fleets.specs.Fleets.{draws, float_of, floats_after, add_of, float_line, float_lines, text_of, fleet_text}
use Rattle.fleets.specs.Claims.{fed_with}
use Rattle.fleets.specs.declared.Fleet.{Fleet}
use Rattle.fleets.proofs.Claims.{only_lines_say_fleets}
use Rattle.fleets.proofs.InputsLaws.{ranges}
use Rattle.fleets.proofs.FleetsLaws.{written_after, float_writable}
use Rattle.fleets.proofs.FleetsLedgerLaws.{Filled, opened_filled, float_accepted}
use Rattle.answering.specs.Replay.{newline, list_length, told, answer_to, next, lines_from, answered, replayed}
use Rattle.practice.specs.Claims.{accepted_line, accepted_lines, FleetThenCalls, FleetIsReplayed}
use Rattle.practice.proofs.Newlines.{call_in_line, first_line}

-- ---- one line

module _ (r : Report) (rest : List ℕ) where
  line_first : lines_from [] (float_line r ++ rest) ≡ call_line (add_of r) ∷ lines_from [] rest
  unfolding float_line call_line letter_of
  line_first =
      ap (lines_from []) (append_assoc (call_line (add_of r)) (newline ∷ []) rest)
      ∙ first_line (call_line (add_of r)) rest (call_in_line (letter_of (add_of r)) (numbers_of (add_of r)) (λ e. omega arith))

  -- a float's line is answered as the ledger answers its add
  line_answered :
      (l : Ledger)
      → are_writable (report_numbers r) ≡ true
      → answered l (lines_from [] (float_line r ++ rest))
      ≡ (told (add_of r) (reply_to l (fed_with list_length r)) ++ newline ∷ []) ++ answered (L.next l (fed_with list_length r)) (lines_from [] rest)
  unfolding answered answer_to next numbers_of change_numbers
  line_answered l w =
      ap (answered l) line_first
      ∙ ap (λ (x : Line). (answer_to l x ++ newline ∷ []) ++ answered (next l x) (lines_from [] rest)) (read_written (add_of r) w)

-- ---- several

floats_answered :
    (k h n s : ℕ) (l : Ledger) (more : List ℕ)
    → Filled k h l
    → k + n ≤ last_id
    → h + n ≤ capacity
    → answered l (lines_from [] (float_lines (floats_after k n s) ++ more))
    ≡ accepted_lines h n ++ answered (after l (map (fed_with list_length) (floats_after k n s))) (lines_from [] more)
unfolding float_lines floats_after accepted_lines after letter_of
floats_answered k h zero s l more f i c = refl
floats_answered k h (suc n) s l more f i c =
    let r = float_of (suc k) s in
    let rest = float_lines (floats_after (suc k) n (steps draws s)) in
    let a = float_accepted k h l f list_length s (omega arith) (omega arith) in
    ap (λ (x : List ℕ). answered l (lines_from [] x)) (append_assoc (float_line r) rest more)
    ∙ line_answered r (rest ++ more) l (float_writable (suc k) s (omega arith))
    ∙ ap₂ (λ (reply : Reply) (x : List ℕ). (told (add_of r) reply ++ newline ∷ []) ++ x) a.reply_is
    (floats_answered (suc k) (suc h) n (steps draws s) _ more a.filled (omega arith) (omega arith))
    ∙ sym (append_assoc (accepted_line (suc h)) (accepted_lines (suc h) n) _)

-- ---- the claims

pub fleet_then_calls : FleetThenCalls
unfolding replayed text_of
fleet_then_calls input more f e =
    let good = (only_lines_say_fleets input f e).in_range_lem in
    let r = ranges f good in
    let many = f.floats - f.skip in
    let from = written_after f good in
    ap (λ (said : Option Fleet). replayed (text_of said ++ more)) e
    ∙ ap (λ (rs : List Report). replayed (float_lines rs ++ more)) from
    ∙ floats_answered f.skip 0 many _ (opened (pos 0)) more (opened_filled f.skip) (omega (arith, r.most, r.skipped)) (omega (arith, r.most))
    ∙ ap (λ (rs : List Report). accepted_lines 0 many ++ answered (after (opened (pos 0)) (map (fed_with list_length) rs)) (lines_from [] more))
    (sym from)

pub fleet_is_replayed : FleetIsReplayed
unfolding answered lines_from
fleet_is_replayed input f e =
    ap replayed (sym (append-nil (fleet_text input))) ∙ fleet_then_calls input [] f e ∙ append-nil (accepted_lines 0 (f.floats - f.skip))
