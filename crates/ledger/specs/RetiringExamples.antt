-- Floats that fall silent, worked out from document 02, A7: what the ledger is fed, and the answers, which were found without it. Each ask is lent a list
-- of 1,024 ids.
-- Assumes nothing.
use Rattle.std.specs.Prelude.{List, [], ◌∷◌, ℕ, pos}
use Rattle.ints.specs.Examples.{Example}
use Rattle.grid.specs.declared.Report.{Report}
use Rattle.ledger.specs.Answers.{number_of, value_of}
use Rattle.ledger.specs.Calls.{Fed, Reply, answer_to}
use Rattle.ledger.specs.Examples.{sent, rectangle, clock, add, report, drop, crowd}
use Rattle.ledger.specs.WindowExamples.{at, held, lists, none}
use Rattle.ledger.specs.declared.Answer.TheVariants.{Refused}
use Rattle.ledger.specs.declared.Refusal.TheVariants.{AlreadyHeld, NotHeld}

-- a float at rest in the first cell
abbrev pub at_rest : ℕ → ℕ → Report
at_rest id t = sent id t 500 500 (pos 0) (pos 0)

abbrev pub not_held : Reply
not_held = record { answer = Refused NotHeld; ids = [] }

-- a second before, at and after the second of each of two floats
unfoldable pub clocks : List Fed
clocks =
    add (at_rest 1 0)
    ∷ add (at_rest 2 1)
    ∷ clock (pos 2591999)
    ∷ clock (pos 2592000)
    ∷ clock (pos 2592001)
    ∷ []

unfoldable pub clocks_say : List Reply
clocks_say = held 1 ∷ held 2 ∷ held 2 ∷ held 1 ∷ held 0 ∷ []

-- a silent float is not held, a refused call retires nobody, and an accepted one about another float retires it
unfoldable pub changes : List Fed
changes =
    add (at_rest 1 0)
    ∷ add (at_rest 2 5)
    ∷ drop (pos 1) (pos 2592000)
    ∷ report (at_rest 1 2592000)
    ∷ at 3 5 (rectangle 0 0 1000 1000)
    ∷ drop (pos 2) (pos 2592000)
    ∷ []

unfoldable pub changes_say : List Reply
changes_say = held 1 ∷ held 2 ∷ not_held ∷ not_held ∷ lists 2 1 1 0 (1 ∷ 2 ∷ []) ∷ held 0 ∷ []

-- an id goes back to the makers in that second and not before; a float that reports is silent so long after its last report
unfoldable pub again : List Fed
again =
    add (at_rest 1 0)
    ∷ add (at_rest 1 2591999)
    ∷ add (at_rest 1 2592000)
    ∷ report (at_rest 1 2592100)
    ∷ clock (pos 5184099)
    ∷ clock (pos 5184100)
    ∷ []

unfoldable pub again_says : List Reply
again_says = held 1 ∷ record { answer = Refused AlreadyHeld; ids = [] } ∷ held 1 ∷ held 1 ∷ held 1 ∷ held 0 ∷ []

-- in one phase, 720: the float is placed in it, and retires. Its row stays, so its cell is read and is not useful, till that phase dies
unfoldable pub rows : List Fed
rows =
    add (at_rest 1 10)
    ∷ clock (pos 2592009)
    ∷ at 3 2592009 (rectangle 0 0 1000 1000)
    ∷ clock (pos 2592010)
    ∷ at 3 2592010 (rectangle 0 0 1000 1000)
    ∷ clock (pos 2602799)
    ∷ at 3 2602799 (rectangle 0 0 1000 1000)
    ∷ clock (pos 2602800)
    ∷ at 3 2602800 (rectangle 0 0 1000 1000)
    ∷ []

unfoldable pub rows_say : List Reply
rows_say =
    held 1
    ∷ held 1
    ∷ lists 1 1 1 0 (1 ∷ [])
    ∷ held 0
    ∷ none 1 0
    ∷ held 0
    ∷ none 1 0
    ∷ held 0
    ∷ none 0 0
    ∷ []

-- over many phases at once: the float that retires is not placed in the new one, the other is
unfoldable pub jumped : List Fed
jumped =
    add (sent 1 0 3000000 500 (pos 0) (pos 0))
    ∷ add (at_rest 2 5)
    ∷ clock (pos 2592000)
    ∷ at 3 2592000 (rectangle 2990000 0 3010000 1000)
    ∷ at 3 2592000 (rectangle 0 0 1000 1000)
    ∷ []

unfoldable pub jumped_says : List Reply
jumped_says = held 1 ∷ held 2 ∷ held 1 ∷ none 0 0 ∷ lists 1 1 1 0 (2 ∷ []) ∷ []

-- a full ledger has room in the second in which all fall silent
unfoldable pub full : List (Example ℕ)
full =
    record { given = number_of (answer_to (crowd 1024) (add (at_rest 2000 2591999))); said = 7 }
    ∷ record { given = number_of (answer_to (crowd 1024) (add (at_rest 2000 2592000))); said = 0 }
    ∷ record { given = value_of (answer_to (crowd 1024) (add (at_rest 2000 2592000))); said = 1 }
    ∷ []
