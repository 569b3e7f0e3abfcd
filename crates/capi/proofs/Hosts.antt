-- The claim of specs/Hosts.antt: each exported call replies and leaves the words as the index's definition of it does, so what is seen of a list is
-- what the index replies to it, and that is the ledger's by the claim over every list.
-- Assumes nothing.
use Rattle.std.specs.Prelude.{Result, Ok, Err}
use mathlib.Core.Path.{◌≡◌, refl, sym, ap, ap₂, ◌∙◌}
use mathlib.Core.Bool.{Bool, true, cond}
use mathlib.Core.List.{List, [], ◌∷◌, map}
use Prim.Native.Nat.{ℕ}
use lib.Dec.{eqb}
use lib.ListN.{length, take}
use Rattle.records.specs.Words.{Words}
use Rattle.ledger.specs.Answers.{number_of, value_of, is_accepted}
use Rattle.ledger.specs.Refusals.{first_to_fail}
use Rattle.ledger.specs.Machine.{opened}
use Rattle.ledger.specs.Calls as Ledger
use Rattle.ledger.specs.declared.Answer.{Answer}
use Rattle.ledger.specs.declared.Ask.{Ask}
use Rattle.ledger.specs.declared.Call.TheVariants as Call
use Rattle.ledger.specs.declared.Change.TheVariants as Change
use Rattle.ledger.proofs.Claims.{refusals_are_plain}
use Rattle.asking.specs.Asking.{ask_settled}
use Rattle.engine.specs.Index.{settled, open_out, clock_out, change_out, ask_out, leaving_list, leaving_words, call_out}
use Rattle.engine.specs.Checks.{checks_of}
use Rattle.history.specs.Index as Index
use Rattle.history.specs.Index.{LentCall, fed_all, ids_written}
use Rattle.history.proofs.Claims.{every_history_is_the_ledgers}
use Rattle.grid.specs.Reports.{report_of}
use Rattle.capi.specs.Replies.{Replies, RepliesList}
use Rattle.ledger.specs.Calls.{ask_of, window_of}
use Rattle.capi.specs.Hosts.{HostCall, clock, add, report, drop, ask, ask_window, call_of, list_of, fed, Seen, ids_in, seen_of, Changes, Asks, Made, AllMade, none, one, HostsSeeTheLedger}
use Rattle.capi.specs.declared.Reply.{Reply}
use Rattle.ledger.specs.declared.Refusal.{Refusal}

-- the same call to the index's definition
abbrev lent : HostCall → LentCall
lent call = record { call = call_of call; list = list_of call }

accepted_number : (a : Answer) → eqb (number_of a) 0 ≡ is_accepted a
accepted_number a = sym (refusals_are_plain a).number_tells

-- one call: what is seen of it, and the words after it
record Agrees (w : Words) (call : HostCall) (seen : Seen) (after : Words) : Type 0 where
  seen_is : seen ≡ seen_of (Index.reply_to w (lent call))
  words_are : after ≡ Index.next w (lent call)

-- a call that is no ask lists nothing
none_listed : (v : Result (Unit {0}) Refusal) (w w' : Words) → ids_written (settled v w w').answer [] ≡ []
none_listed (Ok tt) w w' = refl
none_listed (Err r) w w' = refl

changed : (v : Result (Unit {0}) Refusal) (w w' : Words) (seen : Seen) (after : Words) → Changes (Replies (settled v w w')) seen after
    → (seen ≡ seen_of (Index.reply_of (leaving_list (settled v w w') []))) × (after ≡ (settled v w w').words)
changed v w w' seen after c =
    (λ i. record { reply = c.promised.reply_is i; ids = (c.no_ids ∙ sym (none_listed v w w')) i }, c.promised.words_are)

-- the ids in front of an accepted ask's list
ids_written_lem : (v : Result (Unit {0}) Refusal) (w : Words) (k : Ask) (list : List ℕ)
    → let o = ask_settled v w k list in cond (is_accepted o.answer) (take (value_of o.answer) o.list) [] ≡ ids_written o.answer o.list
ids_written_lem (Ok tt) w k list = refl
ids_written_lem (Err r) w k list = refl

asked : (v : Result (Unit {0}) Refusal) (w : Words) (k : Ask) (list : List ℕ) (seen : Seen) (after : Words) → Asks (RepliesList (ask_settled v w k list)) w seen after
    → seen ≡ seen_of (Index.reply_of (leaving_words (ask_settled v w k list) w))
asked v w k list seen after a =
    let o = ask_settled v w k list in
    let p = a.promised in
    let ids = a.ids_are
    ∙ ap₂ ids_in p.reply_is p.list_is
    ∙ ap (λ (b : Bool). cond b (take (value_of o.answer) o.list) []) (accepted_number o.answer)
    ∙ ids_written_lem v w k list in
    λ i. record { reply = p.reply_is i; ids = ids i }

agrees : (w : Words) (call : HostCall) (seen : Seen) (after : Words) → Made w call seen after → Agrees w call seen after
unfolding Made call_of list_of call_out clock_out change_out ask_out
agrees w (clock t) seen after m = let c = changed (first_to_fail (checks_of w (Call.Clock t) 0)) w _ seen after m in record { seen_is = c.0; words_are = c.1 }
agrees w (add id t x y vx vy) seen after m =
    let c = changed (first_to_fail (checks_of w (Call.Change (Change.Add (report_of id t x y vx vy))) 0)) w _ seen after m in record { seen_is = c.0; words_are = c.1 }
agrees w (report id t x y vx vy) seen after m =
    let c = changed (first_to_fail (checks_of w (Call.Change (Change.Report (report_of id t x y vx vy))) 0)) w _ seen after m in record { seen_is = c.0; words_are = c.1 }
agrees w (drop id t) seen after m =
    let c = changed (first_to_fail (checks_of w (Call.Change (Change.Drop id t)) 0)) w _ seen after m in record { seen_is = c.0; words_are = c.1 }
agrees w (ask method time low_x low_y high_x high_y list) seen after m =
    let k = ask_of method time low_x low_y high_x high_y in
    record { seen_is = asked (first_to_fail (checks_of w (Call.Ask k) (length list))) w k list seen after m; words_are = m.words_stay }
agrees w (ask_window method first last low_x low_y high_x high_y list) seen after m =
    let k = window_of method first last low_x low_y high_x high_y in
    record { seen_is = asked (first_to_fail (checks_of w (Call.Ask k) (length list))) w k list seen after m; words_are = m.words_stay }

-- a list of calls
all_agree : {w : Words} {calls : List HostCall} {seen : List Seen} → AllMade w calls seen → seen ≡ map seen_of (Index.replies w (map lent calls))
unfolding Index.replies
all_agree none = refl
all_agree (one {w} {after} {call} {calls} {seen} {more} m ms) =
    let a = agrees w call seen after m in
    ap₂ ◌∷◌ a.seen_is (all_agree ms ∙ ap (λ (v : Words). map seen_of (Index.replies v (map lent calls))) a.words_are)

all_fed : (calls : List HostCall) → fed_all (map lent calls) ≡ map fed calls
all_fed [] = refl
all_fed (call ∷ calls) = ap (λ (more : List Ledger.Fed). fed call ∷ more) (all_fed calls)

pub hosts_see_the_ledger : HostsSeeTheLedger
hosts_see_the_ledger given time r w p number calls seen made =
    let o = open_out given time in
    let told = ap (λ (x : Reply). x.number) (sym p.reply_is) ∙ number in
    let accepted : is_accepted o.answer ≡ true = sym (accepted_number o.answer) ∙ ap (λ (n : ℕ). eqb n 0) told in
    all_agree made
    ∙ ap (λ (v : Words). map seen_of (Index.replies v (map lent calls))) p.words_are
    ∙ ap (map seen_of) (every_history_is_the_ledgers given time accepted (map lent calls))
    ∙ ap (λ (cs : List Ledger.Fed). map seen_of (Ledger.replies (opened time) cs)) (all_fed calls)
