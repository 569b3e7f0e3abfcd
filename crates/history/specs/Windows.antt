-- What is claimed of window asks alone, beside the claims on every ask: document 02, A3, and A4 for the moments that count. Over every store and table of
-- every length, reached by calls or not.
-- Assumes nothing.
use Rattle.std.specs.Prelude.{◌≡◌, true, false, List, ◌↔◌, ℕ, ℤ}
use Rattle.grid.specs.Moments.{CountedMoment}
use Rattle.grid.specs.Reports.{is_listed}
use Rattle.grid.specs.declared.Rect.{Rect}
use Rattle.grid.specs.declared.Report.{Report}
use Rattle.grid.specs.declared.When.TheVariants.{At, During}
use Rattle.records.specs.Words.{Words}
use Rattle.ledger.specs.Answers.{is_accepted}
use Rattle.ledger.specs.Refusals.{bad_span, is_rectangle}
use Rattle.ledger.specs.Machine.{Ledger, choice_asked}
use Rattle.ledger.specs.Calls as L
use Rattle.ledger.specs.declared.Ask.{Ask}
use Rattle.asking.specs.Asking.{choice_of}
use Rattle.engine.specs.Index.{ask_out}
use Rattle.history.specs.Index.{fed}
use Rattle.history.specs.Claims.{asking, ask_by}

-- an ask for one time, and one for a window
abbrev pub timeslice : ℤ → Rect → ℤ → Ask
timeslice method rect t = ask_by method (record { rect = rect; when = At t })

abbrev pub window : ℤ → Rect → ℤ → ℤ → Ask
window method rect first last = ask_by method (record { rect = rect; when = During first last })

-- listed exactly: a window whose times pass check 10 and whose rectangle passes check 4 lists a report exactly where there is one moment of it, fractions
-- of a second included, not before the report, at which the float is in the rectangle on both axes. So of the ledger, of the index, and of the ids needed
-- where the list is too short. Which ids are written is `ListIsWritten`
abbrev pub WindowListsMoments : Type 0
WindowListsMoments =
    (rect : Rect) (first last : ℤ)
    → bad_span (During first last) ≡ false
    → is_rectangle rect ≡ true
    → (r : Report)
    → (is_listed (record { rect = rect; when = During first last }) r ≡ true) ↔ CountedMoment first last rect r

-- and so of every accepted window ask
abbrev pub AcceptedWindowsListMoments : Type 0
AcceptedWindowsListMoments =
    (w : Words) (method : ℤ) (rect : Rect) (first last : ℤ) (list : List ℕ)
    → is_accepted (ask_out w (window method rect first last) list).answer ≡ true
    → (r : Report)
    → (is_listed (window method rect first last).query r ≡ true) ↔ CountedMoment first last rect r

-- with first equal to last, a window ask gives the timeslice answer: the same answer and the same list, refused or not, and in each phase the same
-- choice; and so of the ledger
module _ (method : ℤ) (rect : Rect) (t : ℤ) where
  pub record SameInIndex (w : Words) (list : List ℕ) : Type 0 where
    pub same_outcome : ask_out w (window method rect t t) list ≡ ask_out w (timeslice method rect t) list
    pub same_choice : (p : ℕ) → choice_of w (window method rect t t) p ≡ choice_of w (timeslice method rect t) p

  pub record SameInLedger (l : Ledger) (list : List ℕ) : Type 0 where
    pub same_reply : L.reply_to l (fed (asking (window method rect t t) list)) ≡ L.reply_to l (fed (asking (timeslice method rect t) list))
    pub same_choice : (p : ℕ) → choice_asked l (window method rect t t) p ≡ choice_asked l (timeslice method rect t) p

abbrev pub WindowOfOneTimeIsTimeslice : Type 0
WindowOfOneTimeIsTimeslice =
    (method : ℤ) (rect : Rect) (t : ℤ) (list : List ℕ)
    → ((w : Words) → SameInIndex method rect t w list) × ((l : Ledger) → SameInLedger method rect t l list)
