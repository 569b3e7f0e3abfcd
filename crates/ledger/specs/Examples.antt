-- The P cases of document 01, all twelve, its listing, both as document 02, A6, has them, two facts that pin the reference time, a worked list with each
-- refusal from 3 on, and each number from 3 on: what the definitions give, and what the documents say.
-- Assumes nothing.
use Rattle.std.specs.Prelude.{List, [], ◌∷◌, ◌++◌, ℕ, ℤ, pos, negsuc, replicate}
use Rattle.ints.specs.Examples.{Example}
use Rattle.grid.specs.Examples as Grid
use Rattle.grid.specs.declared.Rect.{Rect}
use Rattle.grid.specs.declared.Report.{Report}
use Rattle.grid.specs.declared.When.TheVariants.{At, During}
use Rattle.ledger.specs.Answers.{number_of, counts_of}
use Rattle.ledger.specs.Machine.{Ledger, Held, Placement, opened}
use Rattle.ledger.specs.Calls.{Fed, Reply, after, answer_to}
use Rattle.ledger.specs.declared.Call.TheVariants as Call
use Rattle.ledger.specs.declared.Change.{Change}
use Rattle.ledger.specs.declared.Answer.{Answer}
use Rattle.ledger.specs.declared.Answer.TheVariants.{Accepted, Listed, Refused}
use Rattle.ledger.specs.declared.Refusal.TheVariants.{BadTime, BadNumber, AlreadyHeld, NotHeld, ListTooShort}

abbrev pub sent : ℕ → ℕ → ℕ → ℕ → ℤ → ℤ → Report
sent id t x y vx vy = record { id = pos id; t = pos t; x = pos x; y = pos y; vx = vx; vy = vy }

abbrev pub rectangle : ℕ → ℕ → ℕ → ℕ → Rect
rectangle low_x low_y high_x high_y =
    record { x = record { low = pos low_x; high = pos high_x }; y = record { low = pos low_y; high = pos high_y } }

-- what the ledger is fed of each call; only an ask is lent a list
abbrev pub clock : ℤ → Fed
clock t = record { call = Call.Clock t; room = 0 }

abbrev pub change : Change → Fed
change c = record { call = Call.Change c; room = 0 }

abbrev pub add : Report → Fed
add r = change (Change.Add r)

abbrev pub report : Report → Fed
report r = change (Change.Report r)

abbrev pub drop : ℤ → ℤ → Fed
drop id t = change (Change.Drop id t)

abbrev pub ask : ℤ → ℤ → Rect → ℕ → Fed
ask method time rect room =
    record { call = Call.Ask (record { method = method; query = record { rect = rect; when = At time } }); room = room }

abbrev pub window : ℤ → ℤ → ℤ → Rect → ℕ → Fed
window method first last rect room =
    record { call = Call.Ask (record { method = method; query = record { rect = rect; when = During first last } }); room = room }

-- P11: open at 0, three floats, and an ask for 3,600
unfoldable pub ledger_p11 : Ledger
ledger_p11 =
    after (opened (pos 0))
    (add (sent 1 0 2700000 500 (pos 0) (pos 0))
    ∷ add (sent 2 0 1100000 500 (pos 200) (pos 0))
    ∷ add (sent 3 0 5300000 500 (pos 500) (pos 0))
    ∷ [])

abbrev pub ask_p11 : ℕ → Answer
ask_p11 method = answer_to ledger_p11 (ask (pos method) (pos 3600) (rectangle 2621440 0 2883583 1000) 1024)

-- P12: x 100000, vx 100, reported at 0; the clock goes to t
unfoldable pub ledger_p12 : ℕ → Ledger
ledger_p12 t = after (opened (pos 0)) (add (sent 1 0 100000 0 (pos 100) (pos 0)) ∷ clock (pos t) ∷ [])

-- the phases of the held reports, and the columns of the placements, in the order in which they came
unfoldable pub phases_held : List Held → List ℕ
phases_held [] = []
phases_held (h ∷ hs) = h.phase ∷ phases_held hs

unfoldable pub columns_placed : List Placement → List ℕ
columns_placed [] = []
columns_placed (a ∷ more) = a.cell.column ∷ columns_placed more

abbrev pub first : List ℕ → ℕ
first [] = 1000000
first (n ∷ ns) = n

-- the column in which a float reported at 0 is placed. Two floats pin the reference time: from second 1,800 on the one is in column 1, up to it the other
abbrev pub column_of_one : ℕ → ℤ → ℕ
column_of_one x vx = first (columns_placed (after (opened (pos 0)) (add (sent 1 0 x 0 vx (pos 0)) ∷ [])).placements)

unfoldable pub examples : List (Example ℕ)
examples =
    Grid.examples
    ++ record { given = (counts_of (ask_p11 0)).cells; said = 5 }
    ∷ record { given = (counts_of (ask_p11 1)).cells; said = 1 }
    ∷ record { given = (counts_of (ask_p11 2)).cells; said = 1 }
    ∷ record { given = (counts_of (ask_p11 3)).cells; said = 1 }
    ∷ record { given = (counts_of (ask_p11 2)).rounds; said = 1 }
    ∷ record { given = first (phases_held (ledger_p12 10799).held); said = 0 }
    ∷ record { given = first (phases_held (ledger_p12 10800).held); said = 3 }
    ∷ record { given = first (columns_placed (ledger_p12 10800).placements); said = 5 }
    ∷ record { given = column_of_one 172144 (pos 50); said = 1 }
    ∷ record { given = column_of_one 352144 (negsuc 49); said = 1 }
    ∷ []

-- the listing after its open at 0, each ask lent a list of 1,024 ids
unfoldable pub listing : List Fed
listing =
    add (sent 7 0 100000 100000 (pos 100) (pos 0))
    ∷ add (sent 9 0 600000 100000 (negsuc 49) (pos 0))
    ∷ ask (pos 3) (pos 3600) (rectangle 400000 0 500000 200000) 1024
    ∷ drop (pos 7) (pos 10)
    ∷ ask (pos 0) (pos 3600) (rectangle 400000 0 500000 200000) 1024
    ∷ drop (pos 7) (pos 20)
    ∷ []

unfoldable pub listing_says : List Reply
listing_says =
    record { answer = Accepted 1; ids = [] }
    ∷ record { answer = Accepted 2; ids = [] }
    ∷ record { answer = Listed 2 1 1 0; ids = 7 ∷ 9 ∷ [] }
    ∷ record { answer = Accepted 1; ids = [] }
    ∷ record { answer = Listed 1 3 1 0; ids = 9 ∷ [] }
    ∷ record { answer = Refused NotHeld; ids = [] }
    ∷ []

-- the answers to some calls, from a ledger on
unfoldable pub answers : Ledger → List Fed → List Answer
answers l [] = []
answers l (call ∷ calls) = answer_to l call ∷ answers (after l (call ∷ [])) calls

-- after an open at 3,600: each refusal from 3 to 6 and 8, and what is accepted beside it
unfoldable pub refused : List Fed
refused =
    clock (pos 3599)
    ∷ clock (pos 1000000000)
    ∷ clock (pos 3601)
    ∷ add (sent 0 3601 1000 1000 (pos 1) (pos 1))
    ∷ add (sent 5 3601 8388608 1000 (pos 1) (pos 1))
    ∷ add (sent 5 3601 1000 1000 (pos 501) (pos 1))
    ∷ add (sent 5 3600 1000 1000 (pos 1) (pos 1))
    ∷ add (sent 5 3601 1000 1000 (pos 1) (pos 1))
    ∷ add (sent 5 3601 1000 1000 (pos 1) (pos 1))
    ∷ report (sent 6 3601 1000 1000 (pos 1) (pos 1))
    ∷ drop (pos 6) (pos 3601)
    ∷ ask (pos 3) (pos 0) (rectangle 0 0 2000 2000) 1
    ∷ ask (pos 3) (pos 1) (rectangle 0 0 2000 2000) 1
    ∷ ask (pos 3) (pos 10802) (rectangle 0 0 2000 2000) 1
    ∷ ask (pos 4) (pos 3601) (rectangle 0 0 2000 2000) 1
    ∷ ask (pos 3) (pos 3601) (rectangle 2000 0 1999 2000) 1
    ∷ ask (pos 3) (pos 3601) (rectangle 0 0 2000 2000) 0
    ∷ ask (pos 3) (pos 3601) (rectangle 0 0 2000 2000) 1
    ∷ report (sent 5 3602 1000 1000 (pos 1) (pos 1))
    ∷ drop (pos 5) (pos 3602)
    ∷ []

unfoldable pub refused_says : List Answer
refused_says =
    Refused BadTime
    ∷ Refused BadTime
    ∷ Accepted 0
    ∷ Refused BadNumber
    ∷ Refused BadNumber
    ∷ Refused BadNumber
    ∷ Refused BadTime
    ∷ Accepted 1
    ∷ Refused AlreadyHeld
    ∷ Refused NotHeld
    ∷ Refused NotHeld
    ∷ Refused BadTime
    ∷ Listed 0 1 0 0
    ∷ Refused BadTime
    ∷ Refused BadNumber
    ∷ Refused BadNumber
    ∷ Refused (ListTooShort 1)
    ∷ Listed 1 1 1 0
    ∷ Accepted 1
    ∷ Accepted 0
    ∷ []

-- a ledger with so many floats held, for refusal 7
abbrev pub crowd : ℕ → Ledger
crowd n = record {
  now = pos 0;
  held = replicate n (record { report = sent 1 0 0 0 (pos 0) (pos 0); phase = 0 });
  placements = [];
}

-- each number that the ledger gives, of a call that is given it: one float held, opened at 3,600, and for 7 a full ledger
unfoldable pub ledger_of_one : Ledger
ledger_of_one = after (opened (pos 3600)) (add (sent 5 3600 1000 1000 (pos 1) (pos 1)) ∷ [])

unfoldable pub numbers : List (Example ℕ)
numbers =
    record { given = number_of (answer_to ledger_of_one (clock (pos 3600))); said = 0 }
    ∷ record { given = number_of (answer_to ledger_of_one (clock (pos 3599))); said = 3 }
    ∷ record { given = number_of (answer_to ledger_of_one (drop (pos 0) (pos 3600))); said = 4 }
    ∷ record { given = number_of (answer_to ledger_of_one (add (sent 5 3600 0 0 (pos 0) (pos 0)))); said = 5 }
    ∷ record { given = number_of (answer_to ledger_of_one (drop (pos 6) (pos 3600))); said = 6 }
    ∷ record { given = number_of (answer_to (crowd 1024) (add (sent 2 0 0 0 (pos 0) (pos 0)))); said = 7 }
    ∷ record { given = number_of (answer_to ledger_of_one (ask (pos 3) (pos 3600) (rectangle 0 0 2000 2000) 0)); said = 8 }
    ∷ record { given = number_of (answer_to ledger_of_one (window (pos 3) (pos 3600) (pos 3599) (rectangle 0 0 2000 2000) 1)); said = 10 }
    ∷ []
