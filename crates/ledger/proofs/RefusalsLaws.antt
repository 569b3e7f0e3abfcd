-- Checks in turn, for any list of them: one that fails is given, one that passes is passed over, and a call whose checks are passed has passed each.
-- Assumes nothing.
use Rattle.std.specs.Prelude.{Result, Ok, Err}
use mathlib.Core.Path.{◌≡◌, refl, sym, ap, ◌∙◌}
use mathlib.Core.Bool.{Bool, true, false}
use mathlib.Core.List.{List, [], ◌∷◌, ◌++◌}
use lib.IntN.{ℤ}
use Rattle.ints.proofs.Parts.{true_false}
use Rattle.ledger.specs.Answers.{is_accepted}
use Rattle.ledger.specs.Refusals.{Check, check, unless, first_to_fail, bad_ask_time, bad_window, bad_ask, ask_number_checks}
use Rattle.ledger.specs.Calls.{answer_by}
use Rattle.ledger.specs.declared.Answer.{Answer}
use Rattle.ledger.specs.declared.Ask.{Ask}
use Rattle.ledger.specs.declared.Refusal.{Refusal}
use Rattle.ledger.specs.declared.Refusal.TheVariants.{BadTime, BadWindow, BadNumber}

pub fails : (b : Bool) (r : Refusal) (cs : List Check) → b ≡ true → Err r ≡ first_to_fail (check b r ∷ cs)
unfolding first_to_fail
fails b r cs e = rw e refl

pub passes : (b : Bool) (r : Refusal) (cs : List Check) (v : Result (Unit {0}) Refusal) → b ≡ false → v ≡ first_to_fail cs → v ≡ first_to_fail (check b r ∷ cs)
unfolding first_to_fail
passes b r cs v e h = rw e h

pub none_fails : Ok tt ≡ first_to_fail []
unfolding first_to_fail
none_fails = refl

-- whether a verdict is a refusal
has_failed : Result (Unit {0}) Refusal → Bool
has_failed (Ok tt) = false
has_failed (Err r) = true

pub not_both : {v : Result (Unit {0}) Refusal} {r : Refusal} → v ≡ Ok tt → v ≡ Err r → ⊥
unfolding has_failed
not_both e h = true_false (ap has_failed (sym h ∙ e))

-- checks that are all passed: the first, and the others
module _ (b : Bool) (r : Refusal) (cs : List Check) (h : first_to_fail (check b r ∷ cs) ≡ Ok tt) where
  pub first_passed : b ≡ false
  unfolding first_to_fail
  first_passed = go b h
    where
      go : (t : Bool) → unless t r (first_to_fail cs) ≡ Ok tt → t ≡ false
      go true k = absurd (not_both k refl)
      go false k = refl

  pub others_passed : first_to_fail cs ≡ Ok tt
  others_passed = passes b r cs (first_to_fail cs) first_passed refl ∙ h

-- more checks behind some: where one of these fails it is given, and where all are passed the others decide
pub failed_before : (cs more : List Check) (r : Refusal) → first_to_fail cs ≡ Err r → first_to_fail (cs ++ more) ≡ Err r
unfolding first_to_fail
failed_before [] more r h = absurd (not_both refl h)
failed_before (c ∷ cs) more r h = go c.fails (failed_before cs more r) h
  where
    go :
        (t : Bool)
        → (first_to_fail cs ≡ Err r → first_to_fail (cs ++ more) ≡ Err r)
        → unless t c.refusal (first_to_fail cs) ≡ Err r
        → unless t c.refusal (first_to_fail (cs ++ more)) ≡ Err r
    go true later k = k
    go false later k = later k

pub passed_before : (cs more : List Check) → first_to_fail cs ≡ Ok tt → first_to_fail more ≡ first_to_fail (cs ++ more)
unfolding first_to_fail
passed_before [] more h = refl
passed_before (c ∷ cs) more h = go c.fails (passed_before cs more) h
  where
    go :
        (t : Bool)
        → (first_to_fail cs ≡ Ok tt → first_to_fail more ≡ first_to_fail (cs ++ more))
        → unless t c.refusal (first_to_fail cs) ≡ Ok tt
        → first_to_fail more ≡ unless t c.refusal (first_to_fail (cs ++ more))
    go true later k = absurd (not_both k refl)
    go false later k = later k

-- what stands behind matters only where those before are passed
pub same_before : (cs more more' : List Check) → (first_to_fail cs ≡ Ok tt → first_to_fail more ≡ first_to_fail more') → first_to_fail (cs ++ more) ≡ first_to_fail (cs ++ more')
unfolding first_to_fail
same_before [] more more' h = h refl
same_before (c ∷ cs) more more' h = go c.fails (same_before cs more more') h
  where
    go :
        (t : Bool)
        → ((first_to_fail cs ≡ Ok tt → first_to_fail more ≡ first_to_fail more') → first_to_fail (cs ++ more) ≡ first_to_fail (cs ++ more'))
        → (unless t c.refusal (first_to_fail cs) ≡ Ok tt → first_to_fail more ≡ first_to_fail more')
        → unless t c.refusal (first_to_fail (cs ++ more)) ≡ unless t c.refusal (first_to_fail (cs ++ more'))
    go true later k = refl
    go false later k = later k

pub before_passed : (cs more : List Check) → first_to_fail (cs ++ more) ≡ Ok tt → first_to_fail cs ≡ Ok tt
unfolding first_to_fail
before_passed [] more h = refl
before_passed (c ∷ cs) more h = go c.fails (before_passed cs more) h
  where
    go :
        (t : Bool)
        → (first_to_fail (cs ++ more) ≡ Ok tt → first_to_fail cs ≡ Ok tt)
        → unless t c.refusal (first_to_fail (cs ++ more)) ≡ Ok tt
        → unless t c.refusal (first_to_fail cs) ≡ Ok tt
    go true later k = k
    go false later k = later k

-- an ask whose numbers pass their checks
pub record GoodAsk (now : ℤ) (a : Ask) : Type 0 where
  pub good_time : bad_ask_time now a.query ≡ false
  pub good_window : bad_window a.query ≡ false
  pub good_numbers : bad_ask a ≡ false

pub ask_good : (now : ℤ) (a : Ask) → first_to_fail (ask_number_checks now a) ≡ Ok tt → GoodAsk now a
ask_good now a p =
    let late = bad_ask_time now a.query in
    let span = bad_window a.query in
    let bad = bad_ask a in
    let last = check bad BadNumber ∷ [] in
    let rest = check span BadWindow ∷ last in
    let after = others_passed late BadTime rest p in
    record {
      good_time = first_passed late BadTime rest p;
      good_window = first_passed span BadWindow last after;
      good_numbers = first_passed bad BadNumber [] (others_passed span BadWindow last after);
    }

pub good_passes : (now : ℤ) (a : Ask) → GoodAsk now a → first_to_fail (ask_number_checks now a) ≡ Ok tt
good_passes now a g =
    sym
    (passes (bad_ask_time now a.query) BadTime _ _ g.good_time
    (passes (bad_window a.query) BadWindow _ _ g.good_window (passes (bad_ask a) BadNumber _ _ g.good_numbers none_fails)))

-- an answer by a verdict is that of an accepted call exactly where the checks are passed
pub passed_of : (v : Result (Unit {0}) Refusal) (a : Answer) → is_accepted (answer_by v a) ≡ true → v ≡ Ok tt
passed_of (Ok tt) a h = refl
passed_of (Err r) a h = absurd (true_false (sym h))
