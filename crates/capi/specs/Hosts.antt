-- What a host may rely on: for every list of exported calls after an accepted open, each lent the words that the call before left, every reply is
-- that of the ledger's answer, and the ids in front of an ask's list are the ledger's. It speaks of the exported functions by their contracts alone.
-- Assumes nothing.
use Rattle.std.specs.Prelude.{◌≡◌, cond, List, [], ◌∷◌, map, ℕ, eqb, ℤ, length, take}
use Rattle.records.specs.Words.{Words}
use Rattle.ledger.specs.Machine.{opened}
use Rattle.ledger.specs.Calls as Ledger
use Rattle.ledger.specs.declared.Call.{Call}
use Rattle.ledger.specs.declared.Change.TheVariants as Change
use Rattle.grid.specs.Reports.{report_of}
use Rattle.engine.specs.Index.{open_out, clock_out, change_out, ask_out}
use Rattle.capi.specs.Replies.{reply_of, Replies, RepliesList}
use Rattle.ledger.specs.Calls.{ask_of, window_of}
use Rattle.capi.specs.declared.Reply.{Reply}

-- an exported call with its numbers, in the order of its parameters; each ask with the list that it is lent
pub data HostCall : Type 0 where
  clock : ℤ → HostCall
  add : ℤ → ℤ → ℤ → ℤ → ℤ → ℤ → HostCall
  report : ℤ → ℤ → ℤ → ℤ → ℤ → ℤ → HostCall
  drop : ℤ → ℤ → HostCall
  ask : ℤ → ℤ → ℤ → ℤ → ℤ → ℤ → List ℕ → HostCall
  ask_window : ℤ → ℤ → ℤ → ℤ → ℤ → ℤ → ℤ → List ℕ → HostCall

-- the call that it is, and the list that it is lent
unfoldable pub call_of : HostCall → Call
call_of (clock t) = Call.Clock t
call_of (add id t x y vx vy) = Call.Change (Change.Add (report_of id t x y vx vy))
call_of (report id t x y vx vy) = Call.Change (Change.Report (report_of id t x y vx vy))
call_of (drop id t) = Call.Change (Change.Drop id t)
call_of (ask method asked low_x low_y high_x high_y list) = Call.Ask (ask_of method asked low_x low_y high_x high_y)
call_of (ask_window method first last low_x low_y high_x high_y list) = Call.Ask (window_of method first last low_x low_y high_x high_y)

unfoldable pub list_of : HostCall → List ℕ
list_of (clock t) = []
list_of (add id t x y vx vy) = []
list_of (report id t x y vx vy) = []
list_of (drop id t) = []
list_of (ask method asked low_x low_y high_x high_y list) = list
list_of (ask_window method first last low_x low_y high_x high_y list) = list

-- what the ledger is fed of it
abbrev pub fed : HostCall → Ledger.Fed
fed call = record { call = call_of call; room = length (list_of call) }

-- what a host sees of a call: its reply, and of an accepted ask the ids in front of the list
pub record Seen : Type 0 where
  pub reply : Reply
  pub ids : List ℕ

abbrev pub ids_in : Reply → List ℕ → List ℕ
ids_in r list = cond (eqb r.number 0) (take r.value list) []

-- what it sees where the ledger answers
abbrev pub seen_of : Ledger.Reply → Seen
seen_of l = record { reply = reply_of l.answer; ids = l.ids }

-- a call that may change the words, made as its exported function promises
pub record Changes (promise : Reply → Words → Type 0) (seen : Seen) (w : Words) : Type 0 where
  pub promised : promise seen.reply w
  pub no_ids : seen.ids ≡ []

-- an ask made so: it leaves the words, and its list as `left`
pub record Asks (promise : Reply → List ℕ → Type 0) (before : Words) (seen : Seen) (after : Words) : Type 0 where
  pub left : List ℕ
  pub promised : promise seen.reply left
  pub ids_are : seen.ids ≡ ids_in seen.reply left
  pub words_stay : after ≡ before

unfoldable pub Made : Words → HostCall → Seen → Words → Type 0
Made w (clock t) seen after = Changes (Replies (clock_out w t)) seen after
Made w (add id t x y vx vy) seen after = Changes (Replies (change_out w (Change.Add (report_of id t x y vx vy)))) seen after
Made w (report id t x y vx vy) seen after = Changes (Replies (change_out w (Change.Report (report_of id t x y vx vy)))) seen after
Made w (drop id t) seen after = Changes (Replies (change_out w (Change.Drop id t))) seen after
Made w (ask method asked low_x low_y high_x high_y list) seen after =
    Asks (RepliesList (ask_out w (ask_of method asked low_x low_y high_x high_y) list)) w seen after
Made w (ask_window method first last low_x low_y high_x high_y list) seen after =
    Asks (RepliesList (ask_out w (window_of method first last low_x low_y high_x high_y) list)) w seen after

-- calls made one after the other, each lent the words as the one before left them, and what was seen of each
pub data AllMade : Words → List HostCall → List Seen → Type 0 where
  none : {w : Words} → AllMade w [] []
  one : {w after : Words} {call : HostCall} {calls : List HostCall} {seen : Seen} {more : List Seen}
      → Made w call seen after
      → AllMade after calls more
      → AllMade w (call ∷ calls) (seen ∷ more)

abbrev pub HostsSeeTheLedger : Type 0
HostsSeeTheLedger =
    (lent : Words) (time : ℤ) (r : Reply) (w : Words)
    → Replies (open_out lent time) r w
    → r.number ≡ 0
    → (calls : List HostCall) (seen : List Seen)
    → AllMade w calls seen
    → seen ≡ map seen_of (Ledger.replies (opened time) (map fed calls))
