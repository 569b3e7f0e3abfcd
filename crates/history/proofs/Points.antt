-- Every point goes on: the words there match the ledger, so they are sound and the next call answers as the ledger does; and a list with one call
-- more is a list.
-- Assumes nothing.
use mathlib.Core.Path.{◌≡◌, refl, ap, ◌∙◌}
use mathlib.Core.List.{List, [], ◌∷◌, ◌++◌}
use Rattle.records.specs.Words.{Words}
use Rattle.ledger.specs.Machine.{Ledger}
use Rattle.ledger.specs.Calls as L
use Rattle.history.specs.Index.{LentCall, fed, fed_all, next, after}
use Rattle.history.specs.Points.{Point, EveryPointGoesOn}
use Rattle.history.proofs.Asks.{ask_agrees}
use Rattle.history.proofs.Every.{every_point_matches, call_reply}
use Rattle.history.proofs.Sound.{matching_sound}
use Rattle.history.proofs.Relation.{Left}

-- ---- one call more

words_after_one_more : (calls : List LentCall) (w : Words) (call : LentCall) → next (after w calls) call ≡ after w (calls ++ call ∷ [])
unfolding after
words_after_one_more [] w call = refl
words_after_one_more (first ∷ calls) w call = words_after_one_more calls (next w first) call

ledger_after_one_more : (calls : List LentCall) (l : Ledger) (call : LentCall) → L.next (L.after l (fed_all calls)) (fed call) ≡ L.after l (fed_all (calls ++ call ∷ []))
unfolding L.after
ledger_after_one_more [] l call = refl
ledger_after_one_more (first ∷ calls) l call = ledger_after_one_more calls (L.next l (fed first)) call

-- ---- at a point

pub point_left : (l : Ledger) (w : Words) → Point l w → Left l w
point_left l w p =
    rw (p.ledger_is, p.words_are) (every_point_matches p.lent p.time p.opens p.calls)

pub every-point-goes_on : EveryPointGoesOn
every-point-goes_on l w p =
    let left = point_left l w p in
    record {
      sound = matching_sound l w left.good left.matches;
      answers = λ call. call_reply ask_agrees l w call left;
      leads = λ call. record {
        lent = p.lent;
        time = p.time;
        calls = p.calls ++ call ∷ [];
        opens = p.opens;
        words_are = ap (λ (x : Words). next x call) p.words_are ∙ words_after_one_more p.calls _ call;
        ledger_is = ap (λ (x : Ledger). L.next x (fed call)) p.ledger_is ∙ ledger_after_one_more p.calls _ call;
      };
    }
