-- The claims of specs/Claims.antt, proved: the checks stand in their order, the first to fail is given, and a refusal has neither counts nor,
-- but for 8, a value.
-- Assumes nothing.
use Rattle.std.specs.Prelude.{Result, Ok, Err}
use mathlib.Core.Path.{◌≡◌, refl, sym, ap, ◌∙◌}
use mathlib.Core.Bool.{Bool, true, false}
use mathlib.Core.List.Memᴰ
use mathlib.Core.List.{List, [], ◌∷◌, ◌++◌, Memᴰ}
use mathlib.Core.Logic.{⊎_elim}
use Prim.Native.Nat.{ℕ, ◌≤◌, ◌<◌}
use native.Mathlib.Omega.{arith}
use lib.Dec.{eqb, ltb}
use lib.IntN.{ℤ}
use borrow.Author.Tests.{ltb-true}
use Rattle.ints.proofs.Parts.{true_false}
use Rattle.ints.proofs.Truth.{and_left, and_right}
use Rattle.ledger.specs.Answers.{number_of, value_of, no_counts, counts_of, is_accepted}
use Rattle.ledger.specs.Refusals.{Check, unless, first_to_fail, place_of, in_check_order, change_checks}
use Rattle.ledger.specs.Machine.{Ledger}
use Rattle.ledger.specs.Calls.{checks_of}
use Rattle.ledger.proofs.RefusalsLaws.{not_both}
use Rattle.ledger.specs.Claims.{ChecksStandInOrder, FirstFails, FirstToFailIsGiven, FirstPlaceIsGiven, RefusalIsPlain, RefusalsArePlain}
use Rattle.ledger.specs.declared.Answer.{Answer}
use Rattle.ledger.specs.declared.Answer.TheVariants.{Accepted, Listed, Refused}
use Rattle.ledger.specs.declared.Call.{Call}
use Rattle.ledger.specs.declared.Change.{Change}
use Rattle.ledger.specs.declared.Refusal.{Refusal}
use Rattle.ledger.specs.declared.Refusal.TheVariants.{WrongLength, Unsound, BadTime, BadWindow, BadNumber, AlreadyHeld, NotHeld, Full, ListTooShort}

-- ---- the order

changes-in_order : (now : ℤ) (c : Change) (is_held : Bool) (held : ℕ) → in_check_order (change_checks now c is_held held) ≡ true
unfolding in_check_order
changes-in_order now (Change.Add r) is_held held = refl
changes-in_order now (Change.Report r) is_held held = refl
changes-in_order now (Change.Drop id t) is_held held = refl

calls-in_order : (l : Ledger) (call : Call) (room : ℕ) → in_check_order (checks_of l call room) ≡ true
unfolding in_check_order
calls-in_order l (Call.Clock t) room = refl
calls-in_order l (Call.Change c) room = changes-in_order l.now c _ _
calls-in_order l (Call.Ask a) room = refl

pub checks_stand_in_order : ChecksStandInOrder
unfolding in_check_order
checks_stand_in_order = (λ t. refl, calls-in_order)

-- ---- the first to fail

first_given :
    (before : List Check) (c : Check) (behind : List Check)
    → ((b : Check) → Memᴰ b before → b.fails ≡ false)
    → c.fails ≡ true
    → first_to_fail (before ++ c ∷ behind) ≡ Err c.refusal
unfolding first_to_fail
first_given [] c behind passed failed = ap (λ (t : Bool). unless t c.refusal (first_to_fail behind)) failed
first_given (b ∷ before) c behind passed failed =
    ap (λ (t : Bool). unless t b.refusal (first_to_fail (before ++ c ∷ behind))) (passed b (Memᴰ.head refl))
    ∙ first_given before c behind (λ d m. passed d (Memᴰ.tail m)) failed

-- one more check that passes stands before it
first_later : {c : Check} {cs : List Check} (b : Check) → b.fails ≡ false → FirstFails c cs → FirstFails c (b ∷ cs)
first_later b e f = record {
  before = b ∷ f.before;
  behind = f.behind;
  checks_are = ap (λ (l : List Check). b ∷ l) f.checks_are;
  passed = λ d m. ⊎_elim (λ (same : d ≡ b). ap (λ (k : Check). k.fails) same ∙ e) (λ k. f.passed d k) (Memᴰ.cases_cons m);
  failed = f.failed;
}

-- the refusal of a verdict that fails
refusal_in : Result (Unit {0}) Refusal → Refusal → Refusal
refusal_in (Ok tt) other = other
refusal_in (Err r) other = r

first_from : (cs : List Check) (r : Refusal) → first_to_fail cs ≡ Err r → (c : Check) × FirstFails c cs × (c.refusal ≡ r)
unfolding first_to_fail refusal_in
first_from [] r e = absurd (not_both refl e)
first_from (c ∷ cs) r e = go c.fails refl (first_from cs r) e
  where
    go :
        (t : Bool)
        → c.fails ≡ t
        → (first_to_fail cs ≡ Err r → (d : Check) × FirstFails d cs × (d.refusal ≡ r))
        → unless t c.refusal (first_to_fail cs) ≡ Err r → (d : Check) × FirstFails d (c ∷ cs) × (d.refusal ≡ r)
    go true f later k =
        (c, record { before = []; behind = cs; checks_are = refl; passed = λ b m. absurd (Memᴰ.not-nil m); failed = f }, ap (λ (v : Result (Unit {0}) Refusal). refusal_in v r) k)
    go false f later k = let a = later k in (a.0, first_later c f a.1, a.2)

pub first_to_fail_is_given : FirstToFailIsGiven
first_to_fail_is_given cs = record {
  given = λ c f. ap first_to_fail f.checks_are ∙ first_given f.before c f.behind f.passed f.failed;
  only_then = first_from cs;
}

-- ---- the first place

order_rest : (c : Check) (cs : List Check) → in_check_order (c ∷ cs) ≡ true → in_check_order cs ≡ true
unfolding in_check_order
order_rest c [] h = refl
order_rest c (d ∷ more) h =
    and_right (ltb (place_of c.refusal) (place_of d.refusal)) (in_check_order (d ∷ more)) h

-- the first has the first place
first_least : (c : Check) (cs : List Check) → in_check_order (c ∷ cs) ≡ true → (d : Check) → Memᴰ d cs → place_of c.refusal ≤ place_of d.refusal
unfolding in_check_order
first_least c [] h d m = absurd (Memᴰ.not-nil m)
first_least c (b ∷ more) h d m =
    let low = place_of c.refusal in
    let high = place_of b.refusal in
    let less : low < high = ltb-true low high (and_left (ltb low high) (in_check_order (b ∷ more)) h) in
    ⊎_elim
    (λ (same : d ≡ b). let e : place_of d.refusal ≡ high = ap (λ (k : Check). place_of k.refusal) same in omega arith)
    (λ k. let rest = first_least b more (order_rest c (b ∷ more) h) d k in omega arith)
    (Memᴰ.cases_cons m)

pub first_place_is_given : FirstPlaceIsGiven
unfolding first_to_fail
first_place_is_given [] h d m f = absurd (Memᴰ.not-nil m)
first_place_is_given (c ∷ cs) h d m f =
    go c.fails refl (λ k. first_place_is_given cs (order_rest c cs h) d k f)
  where
    First : Result (Unit {0}) Refusal → Type 0
    First v = (r : Refusal) × (v ≡ Err r) × (place_of r ≤ place_of d.refusal)

    go : (t : Bool) → c.fails ≡ t → (Memᴰ d cs → First (first_to_fail cs)) → First (unless t c.refusal (first_to_fail cs))
    go true e later = (
      c.refusal,
      refl,
      ⊎_elim
          (λ (same : d ≡ c). let k : place_of d.refusal ≡ place_of c.refusal = ap (λ (x : Check). place_of x.refusal) same in omega arith)
          (λ k. first_least c cs h d k)
          (Memᴰ.cases_cons m),
    )
    go false e later =
        ⊎_elim (λ (same : d ≡ c). absurd (true_false (sym f ∙ ap (λ (x : Check). x.fails) same ∙ e))) later (Memᴰ.cases_cons m)

-- ---- what a refusal gives back

accepted_plain : {a : Answer} → is_accepted a ≡ eqb (number_of a) 0 → is_accepted a ≡ true → RefusalIsPlain a
accepted_plain e h =
    record { number_tells = e; no_counts_lem = λ n. absurd (true_false (sym h ∙ n)); no_value = λ n. absurd (true_false (sym h ∙ n)) }

refused_plain : {a : Answer} → is_accepted a ≡ eqb (number_of a) 0 → counts_of a ≡ no_counts → ((number_of a ≡ 8 → ⊥) → value_of a ≡ 0) → RefusalIsPlain a
refused_plain e c v = record { number_tells = e; no_counts_lem = λ n. c; no_value = λ n. v }

pub refusals_are_plain : RefusalsArePlain
refusals_are_plain (Accepted held) = accepted_plain refl refl
refusals_are_plain (Listed ids cells useful rounds) = accepted_plain refl refl
refusals_are_plain (Refused WrongLength) = refused_plain refl refl (λ n. refl)
refusals_are_plain (Refused Unsound) = refused_plain refl refl (λ n. refl)
refusals_are_plain (Refused BadTime) = refused_plain refl refl (λ n. refl)
refusals_are_plain (Refused BadWindow) = refused_plain refl refl (λ n. refl)
refusals_are_plain (Refused BadNumber) = refused_plain refl refl (λ n. refl)
refusals_are_plain (Refused AlreadyHeld) = refused_plain refl refl (λ n. refl)
refusals_are_plain (Refused NotHeld) = refused_plain refl refl (λ n. refl)
refusals_are_plain (Refused Full) = refused_plain refl refl (λ n. refl)
refusals_are_plain (Refused (ListTooShort needed)) = refused_plain refl refl (λ n. absurd (n refl))
