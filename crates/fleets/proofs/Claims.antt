-- The claims of specs/Claims.antt, proved.
-- Assumes nothing.
use mathlib.Core.Path.{◌≡◌, refl, sym, ap, ap₂, ◌∙◌}
use mathlib.Core.List.{[], ◌∷◌, ◌++◌, map, append-nil}
use Prim.Native.Nat.{ℕ, zero, suc, ◌+◌, ◌-◌, ◌*◌, ◌≤◌}
use native.Mathlib.Omega.{arith}
use borrow.Author.Tests.{eq-eqb, ne_eqb}
use lib.ListN.{length, get_or, length-append}
use Rattle.grid.specs.declared.Report.{Report}
use Rattle.fields.specs.Fields.{greatest}
use Rattle.generator.specs.Generator.{steps, jump}
use Rattle.lines.specs.Lines.{change_numbers, numbers_of, call_line}
use Rattle.lines.specs.Reading.{read_line}
use Rattle.lines.proofs.Claims.{read_written}
use Rattle.fleets.specs.Inputs.{line_columns, is_line, read_fleet, input_line}
use Rattle.fleets.specs.Fleets.{draws, float_of, floats_after, add_of, text_of}
use Rattle.fleets.specs.Claims.{FleetsAreSaid, OnlyLinesSayFleets, LongInputsSayNone, WrittenFromTheJump, LinesReadBack, LedgerAcceptsFleets}
use Rattle.fleets.proofs.InputsLaws.{ranges, read_as, only_its_line, said_length, said_behind, line_says}
use Rattle.fleets.proofs.FleetsLaws.{float_writable}
use Rattle.fleets.proofs.FleetsLedgerLaws.{ledger_accepts}
use Rattle.fleets.proofs.WritingLaws.{written_from}

-- ---- the input

pub fleets_are_said : FleetsAreSaid
unfolding is_line
fleets_are_said f h = record {
  bare =
      ap read_fleet (sym (append-nil (input_line f)))
      ∙ line_says f h [] (simp (eq-eqb (length (input_line f ++ [])) line_columns (said_length f h [])));
  ended =
      let line = input_line f ++ 10 ∷ [] in
      let long = said_length f h (10 ∷ []) in
      line_says f h (10 ∷ [])
      (simp
      (ne_eqb (length line) line_columns (λ e. omega arith), eq-eqb (length line) (line_columns + 1) long, eq-eqb (get_or line line_columns 0) 10 (said_behind f h 10)));
}

pub only_lines_say_fleets : OnlyLinesSayFleets
only_lines_say_fleets input f e =
    let r = read_as input f e in
    record { in_range_lem = r.in_range_lem; line_is = only_its_line input f r }

pub long_inputs_say_none : LongInputsSayNone
unfolding is_line read_fleet text_of
long_inputs_say_none first rest h =
    let long = length-append first rest in
    let n = length (first ++ rest) in
    simp (ne_eqb n line_columns (λ e. omega arith), ne_eqb n (line_columns + 1) (λ e. omega arith))

-- ---- the lines

pub written_from_the_jump : WrittenFromTheJump
written_from_the_jump = written_from

floats_read_back :
    (k n s : ℕ) → k + n ≤ greatest → map (λ (r : Report). read_line (call_line (add_of r))) (floats_after k n s) ≡ map add_of (floats_after k n s)
unfolding floats_after numbers_of change_numbers
floats_read_back k zero s h = refl
floats_read_back k (suc n) s h =
    ap₂ ◌∷◌ (read_written (add_of (float_of (suc k) s)) (float_writable (suc k) s (omega arith)))
    (floats_read_back (suc k) n (steps draws s) (omega arith))

pub lines_read_back : LinesReadBack
lines_read_back f h =
    let r = ranges f h in
    rw (written_from f h)
    (floats_read_back f.skip (f.floats - f.skip) (jump (draws * f.skip) f.start) (omega (arith, r.most, r.skipped)))

pub ledger_accepts_fleets : LedgerAcceptsFleets
ledger_accepts_fleets = ledger_accepts
