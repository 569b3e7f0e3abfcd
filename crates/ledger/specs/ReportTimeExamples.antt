-- Asks before, at and after a float's report, worked out from document 02, A4: what the ledger is fed, and the answers, which were found without it.
-- Assumes nothing.
use Rattle.std.specs.Prelude.{List, [], ◌∷◌, pos}
use Rattle.ledger.specs.Calls.{Fed, Reply}
use Rattle.ledger.specs.Examples.{sent, rectangle, add, report, clock}
use Rattle.ledger.specs.WindowExamples.{at, during, held, lists, none}

-- after an open at 0, a float that reports at 100 from x = 10,000 and drifts 10 cm/s east. A second before its report it would be in the square and is
-- not listed; the cell is read all the same, and is not useful. A window that begins before the report has the moments from it on: one that the float
-- has left by then lists none, one whose edge it is on in that very second lists it
unfoldable pub aboard : List Fed
aboard =
    let square = rectangle 0 0 20000 20000 in
    add (sent 7 100 10000 10000 (pos 10) (pos 0))
    ∷ at 0 99 square
    ∷ at 1 99 square
    ∷ at 2 99 square
    ∷ at 3 99 square
    ∷ at 0 100 square
    ∷ at 1 100 square
    ∷ at 2 100 square
    ∷ at 3 100 square
    ∷ during 3 0 99 square
    ∷ during 3 0 100 square
    ∷ during 3 0 200 (rectangle 9000 0 9999 20000)
    ∷ during 3 0 200 (rectangle 9000 0 10000 20000)
    ∷ []

unfoldable pub aboard_says : List Reply
aboard_says =
    held 1
    ∷ none 1 0
    ∷ none 1 0
    ∷ none 1 1
    ∷ none 1 0
    ∷ lists 1 1 1 0 (7 ∷ [])
    ∷ lists 1 1 1 0 (7 ∷ [])
    ∷ lists 1 1 1 1 (7 ∷ [])
    ∷ lists 1 1 1 0 (7 ∷ [])
    ∷ none 1 0
    ∷ lists 1 1 1 0 (7 ∷ [])
    ∷ none 1 0
    ∷ lists 1 1 1 0 (7 ∷ [])
    ∷ []

-- it goes by the report that is held, and never by now: at 3,599 the second before the report lists none still; and a float that reports anew is not
-- listed for the time before that. Another float in the same cell, reported earlier, is, and makes the cell useful
unfoldable pub anew : List Fed
anew =
    let square = rectangle 0 0 20000 20000 in
    add (sent 8 50 5000 5000 (pos 0) (pos 0))
    ∷ add (sent 7 100 10000 10000 (pos 10) (pos 0))
    ∷ clock (pos 3599)
    ∷ at 3 49 square
    ∷ at 3 99 square
    ∷ at 3 100 square
    ∷ report (sent 7 3599 10000 10000 (pos 10) (pos 0))
    ∷ at 3 100 square
    ∷ at 3 3598 square
    ∷ during 3 0 3598 square
    ∷ at 3 3599 square
    ∷ during 3 3598 3599 square
    ∷ []

unfoldable pub anew_says : List Reply
anew_says =
    held 1
    ∷ held 2
    ∷ held 2
    ∷ none 1 0
    ∷ lists 1 1 1 0 (8 ∷ [])
    ∷ lists 2 1 1 0 (7 ∷ 8 ∷ [])
    ∷ held 2
    ∷ lists 1 1 1 0 (8 ∷ [])
    ∷ lists 1 1 1 0 (8 ∷ [])
    ∷ lists 1 1 1 0 (8 ∷ [])
    ∷ lists 2 1 1 0 (7 ∷ 8 ∷ [])
    ∷ lists 2 1 1 0 (7 ∷ 8 ∷ [])
    ∷ []
