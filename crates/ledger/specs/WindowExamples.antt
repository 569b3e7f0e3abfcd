-- Window asks worked out from document 02, A3: what the ledger is fed, and the answers, which were found without it. Each ask is lent a list of 1,024
-- ids.
-- Assumes nothing.
use Rattle.std.specs.Prelude.{List, [], ◌∷◌, ℕ, pos, negsuc}
use Rattle.grid.specs.declared.Rect.{Rect}
use Rattle.ledger.specs.Calls.{Fed, Reply}
use Rattle.ledger.specs.Examples.{sent, rectangle, add, ask, window}
use Rattle.ledger.specs.declared.Answer.{Answer}
use Rattle.ledger.specs.declared.Answer.TheVariants.{Accepted, Listed, Refused}
use Rattle.ledger.specs.declared.Refusal.TheVariants.{BadTime, BadWindow, BadNumber}

abbrev pub during : ℕ → ℕ → ℕ → Rect → Fed
during method first last rect = window (pos method) (pos first) (pos last) rect 1024

abbrev pub at : ℕ → ℕ → Rect → Fed
at method time rect = ask (pos method) (pos time) rect 1024

abbrev pub held : ℕ → Reply
held n = record { answer = Accepted n; ids = [] }

-- an accepted ask: how many are listed, cells read, useful cells, rounds, and the ids
abbrev pub lists : ℕ → ℕ → ℕ → ℕ → List ℕ → Reply
lists count cells useful rounds ids = record { answer = Listed count cells useful rounds; ids = ids }

abbrev pub none : ℕ → ℕ → Reply
none cells rounds = lists 0 cells 0 rounds []

-- after an open at 0, a float that is at one corner of the rectangle after 1,500 seconds and at no other moment in it; a rectangle that ends a centimetre
-- lower is missed, and the same cells are read
unfoldable pub touching : List Fed
touching =
    let corner = rectangle 1100000 800000 1150000 850000 in
    let lower = rectangle 1100000 800000 1150000 849999 in
    add (sent 1 0 1000000 1000000 (pos 100) (negsuc 99))
    ∷ during 0 0 3600 corner
    ∷ during 1 0 3600 corner
    ∷ during 2 0 3600 corner
    ∷ during 3 0 3600 corner
    ∷ during 0 0 3600 lower
    ∷ during 1 0 3600 lower
    ∷ during 2 0 3600 lower
    ∷ during 3 0 3600 lower
    ∷ []

unfoldable pub touching_says : List Reply
touching_says =
    held 1
    ∷ lists 1 6 1 0 (1 ∷ [])
    ∷ lists 1 6 1 0 (1 ∷ [])
    ∷ lists 1 6 1 1 (1 ∷ [])
    ∷ lists 1 1 1 0 (1 ∷ [])
    ∷ none 6 0
    ∷ none 6 0
    ∷ none 6 1
    ∷ none 1 0
    ∷ []

-- a float that crosses between two whole seconds, at neither of which it is inside; and on each axis inside at some moment, on both at none
unfoldable pub fractions : List Fed
fractions =
    add (sent 1 0 100 100 (pos 500) (pos 500))
    ∷ at 3 0 (rectangle 350 350 360 360)
    ∷ at 3 1 (rectangle 350 350 360 360)
    ∷ during 3 0 1 (rectangle 350 350 360 360)
    ∷ during 3 0 1 (rectangle 350 361 360 371)
    ∷ during 3 0 1 (rectangle 350 360 360 371)
    ∷ []

unfoldable pub fractions_say : List Reply
fractions_say =
    held 1
    ∷ none 1 0
    ∷ none 1 0
    ∷ lists 1 1 1 0 (1 ∷ [])
    ∷ none 1 0
    ∷ lists 1 1 1 0 (1 ∷ [])
    ∷ []

-- one time and a whole hour, with a float that comes up, one that comes down and one at rest
unfoldable pub hour : List Fed
hour =
    let r = rectangle 1400000 0 1600000 1000 in
    add (sent 1 0 1000000 500 (pos 300) (pos 0))
    ∷ add (sent 2 0 3000000 500 (negsuc 499) (pos 0))
    ∷ add (sent 3 0 1500000 500 (pos 0) (pos 0))
    ∷ during 0 1800 1800 r
    ∷ during 1 1800 1800 r
    ∷ during 2 1800 1800 r
    ∷ during 3 1800 1800 r
    ∷ during 0 0 3600 r
    ∷ during 1 0 3600 r
    ∷ during 2 0 3600 r
    ∷ during 3 0 3600 r
    ∷ []

unfoldable pub hour_says : List Reply
hour_says =
    held 1
    ∷ held 2
    ∷ held 3
    ∷ lists 2 2 1 0 (1 ∷ 3 ∷ [])
    ∷ lists 2 2 1 0 (1 ∷ 3 ∷ [])
    ∷ lists 2 2 1 1 (1 ∷ 3 ∷ [])
    ∷ lists 2 1 1 0 (1 ∷ 3 ∷ [])
    ∷ lists 3 9 2 0 (1 ∷ 2 ∷ 3 ∷ [])
    ∷ lists 3 9 2 0 (1 ∷ 2 ∷ 3 ∷ [])
    ∷ lists 3 9 2 1 (1 ∷ 2 ∷ 3 ∷ [])
    ∷ lists 3 2 2 0 (1 ∷ 2 ∷ 3 ∷ [])
    ∷ []

-- after an open at 3,600: 10 both ways and before 4, 3 before 10, and 4 where the times are good
unfoldable pub refused_windows : List Fed
refused_windows =
    let r = rectangle 0 0 10 10 in
    during 0 3600 3599 r
    ∷ during 0 0 3600 r
    ∷ during 0 0 3601 r
    ∷ during 4 0 3601 r
    ∷ during 0 0 10801 r
    ∷ during 0 10801 3600 r
    ∷ during 4 0 3600 r
    ∷ []

unfoldable pub refused_windows_say : List Answer
refused_windows_say =
    Refused BadWindow
    ∷ Listed 0 0 0 0
    ∷ Refused BadWindow
    ∷ Refused BadWindow
    ∷ Refused BadTime
    ∷ Refused BadTime
    ∷ Refused BadNumber
    ∷ []
