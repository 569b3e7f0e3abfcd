-- `answering::answer_said` meets its contract: a line that is read to a call begins with the call's letter.
use Rattle.std.proofs.Common.{◌≡◌, ℕ, ◌<◌, List, length, get_or, sym, subst, ◌∙◌, rules}
use Rattle.records.specs.Words.{words}
use Rattle.ledger.specs.declared.Call.{Call}
use Rattle.lines.specs.declared.Line.{Line}
use Rattle.lines.specs.declared.Line.TheVariants as Lines
use Rattle.lines.specs.Lines.{letter_of}
use Rattle.lines.specs.Reading.{read_line}
use Rattle.lines.proofs.Claims.{letter_read}
use Rattle.answering.proofs.AnsweringLaws.{answers_no_call}
use Rattle.answering.proofs.answer_said.Goals as goal

letter : (line : List ℕ) (call : Call) → read_line line ≡ Lines.Call call → (0 < length line) × (get_or line 0 0 ≡ letter_of (Lines.Call call))
letter line call e = subst (λ (x : Line). (0 < length line) × (get_or line 0 0 ≡ letter_of x)) e (letter_read line (λ f. cc))

pub bounds-line-0 : goal.bounds-line-0
bounds-line-0 c =
    let first = letter c.args.line.now c.in-Call.call (sym c.read_call.ensures ∙ c.in-Call.is) in
    search rules

pub answer_call-requires : goal.answer_call-requires
answer_call-requires c = record { can_answer = c.requires; letter_is = (letter c.args.line.now c.in-Call.call (sym c.read_call.ensures ∙ c.in-Call.is)).1 }

pub returns-in-NoCall : goal.returns-in-NoCall
returns-in-NoCall c =
    rw (sym c.read_call.ensures ∙ c.in-NoCall.is)
    (answers_no_call (words c.args.store.now c.args.table.now) c.args.out.now c.write_no_call.new.out c.write_no_call.result c.write_no_call.ensures)
