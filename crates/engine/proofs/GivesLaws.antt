-- A call whose answer and words are those of its definition gives it: by its verdict, refused with the words at entry, or done.
-- Assumes nothing.
use Rattle.std.specs.Prelude.{Result, Ok, Err}
use mathlib.Core.Path.{◌≡◌, refl, ap}
use mathlib.Core.List.{List}
use Prim.Native.Nat.{ℕ}
use lib.IntN.{ℤ}
use Rattle.records.specs.Words.{Words}
use Rattle.ledger.specs.Answers.{number_of, value_of, counts_of}
use Rattle.ledger.specs.declared.Answer.{Answer}
use Rattle.ledger.specs.declared.Answer.TheVariants.{Refused}
use Rattle.ledger.specs.declared.Ask.{Ask}
use Rattle.ledger.specs.declared.Call.{Call}
use Rattle.ledger.specs.declared.Change.{Change}
use Rattle.ledger.specs.declared.Refusal.{Refusal}
use Rattle.asking.specs.Asking.{ask_settled, GivesList}
use Rattle.asking.proofs.AskingLaws.{gives_list}
use Rattle.engine.specs.Index.{Outcome, settled, clock_out, change_out, ask_out, call_out}
use Rattle.engine.specs.Gives.{Gives, GivesCall}
use Rattle.engine.specs.Sound.{Done}

pub gives : (o : Outcome) (a : Answer) (w : Words) → a ≡ o.answer → w ≡ o.words → Gives o a w
gives o a w e x = record {
  number_is = ap number_of e;
  value_is = ap value_of e;
  counts_are = ap counts_of e;
  answer_is = e;
  words_are = x;
}

pub refused : (v : Result (Unit {0}) Refusal) (r : Refusal) (w w' : Words) → v ≡ Err r → Gives (settled v w w') (Refused r) w
refused v r w w' e = rw e (gives (settled (Err r) w w') (Refused r) w refl refl)

pub done : (v : Result (Unit {0}) Refusal) (w w' : Words) (a : Answer) (w'' : Words) → v ≡ Ok tt → Done w' a w'' → Gives (settled v w w') a w''
done v w w' a w'' e d = rw e (gives (settled (Ok tt) w w') a w'' d.answer_is d.words_are)

pub list_refused : (v : Result (Unit {0}) Refusal) (r : Refusal) (w : Words) (ask : Ask) (list : List ℕ) → v ≡ Err r → GivesList (ask_settled v w ask list) (Refused r) list
list_refused v r w ask list e = rw e (gives_list (ask_settled (Err r) w ask list) (Refused r) list refl refl)

-- a call by its kind
module _ (w : Words) (list : List ℕ) (a : Answer) (w' : Words) where
  pub gives_clock : (call : Call) (t : ℤ) → call ≡ Call.Clock t → Gives (clock_out w t) a w' → GivesCall (call_out w call list) a w' list
  unfolding call_out
  gives_clock call t e g = rw e (record { answer_is = g.answer_is; words_are = g.words_are; list_is = refl })

  pub gives_change : (call : Call) (c : Change) → call ≡ Call.Change c → Gives (change_out w c) a w' → GivesCall (call_out w call list) a w' list
  unfolding call_out
  gives_change call c e g = rw e (record { answer_is = g.answer_is; words_are = g.words_are; list_is = refl })

pub gives_ask : (w : Words) (list : List ℕ) (a : Answer) (list' : List ℕ) (call : Call) (ask : Ask) → call ≡ Call.Ask ask → GivesList (ask_out w ask list) a list'
    → GivesCall (call_out w call list) a w list'
unfolding call_out
gives_ask w list a list' call ask e g = rw e (record { answer_is = g.answer_is; words_are = refl; list_is = g.list_is })
