-- What the functions that read and write rest on: what is taken of a chunk bit by bit is taken of it as a whole.
-- Assumes nothing.
use mathlib.Core.Path.{◌≡◌, refl, sym, ap₂, subst, ◌∙◌}
use mathlib.Core.List.{List, [], ◌++◌}
use Prim.Native.Nat.{ℕ, ◌+◌, ◌-◌, ◌≤◌}
use native.Mathlib.Omega.{arith}
use lib.ListN.{length, take, drop, length-append, length-drop}
use lib.Seq.{take-add, take_all, length-take-le}
use Rattle.std.proofs.Common.{Result, Ok, Err}
use Rattle.std.proofs.lemmas.List.{take-take}
use Rattle.streams.specs.Streams.{Moved}
use Rattle.streams.specs.declared.Failure.{Failure}
use Rattle.session.specs.Session.{Session, session_after}
use Rattle.session.specs.Buffers.{Stands, Feeds}
use Rattle.session.specs.declared.feeding.Buffers.{Buffers}
use Rattle.session.specs.declared.feeding.Fed.{Fed}
use Rattle.session.proofs.Claims.{chunks_are_one_input}
use Rattle.replay.specs.declared.Stopped.{Stopped}
use Rattle.replay.specs.Program.{Takes, TakesFirst, AnswersRead, TakesRead, Took}

pub takes_none : (m : Buffers) → Takes [] m m
unfolding session_after
takes_none m s k = k

pub takes_both : (first second : List ℕ) (m m' m'' : Buffers) → Takes first m m' → Takes second m' m'' → Takes (first ++ second) m m''
takes_both first second m m' m'' t u s k =
    subst (λ (x : Session). Stands x m'') (sym (chunks_are_one_input s first second).session_is) (u (session_after s first) (t s k))

-- ---- a chunk

pub first_none : (chunk : List ℕ) (m : Buffers) → TakesFirst 0 chunk m m
first_none chunk m = record { within = omega arith; takes = takes_none m }

pub first_more :
    (chunk : List ℕ) (from : ℕ) (m m' m'' : Buffers) (out' : List ℕ) (fed : Fed)
    → TakesFirst from chunk m m'
    → Feeds (take (length chunk - from) (drop from chunk)) m' m'' out' fed
    → TakesFirst (from + fed.taken) chunk m m''
first_more chunk from m m' m'' out' fed t g =
    let f : Feeds (drop from chunk) m' m'' out' fed =
    subst (λ (x : List ℕ). Feeds x m' m'' out' fed) (take_all (length chunk - from) (drop from chunk) (omega (arith, length-drop from chunk))) g in
    record {
      within = omega (arith, f.within, length-drop from chunk, t.within);
      takes =
          subst (λ (x : List ℕ). Takes x m m'') (sym (take-add from fed.taken chunk))
          (takes_both (take from chunk) (take fed.taken (drop from chunk)) m m' m'' t.takes f.stands);
    }

pub first_all : (chunk : List ℕ) (from : ℕ) (m m' : Buffers) → TakesFirst from chunk m m' → length chunk ≤ from → Takes chunk m m'
first_all chunk from m m' t h = subst (λ (x : List ℕ). Takes x m m') (take_all from chunk h) t.takes

-- so it is of the bytes behind which it stands
pub first_of_part :
    (chunk : List ℕ) (came taken : ℕ) (m m' : Buffers) → came ≤ length chunk → TakesFirst taken (take came chunk) m m' → TakesFirst taken chunk m m'
first_of_part chunk came taken m m' h t =
    let within : taken ≤ came = omega (arith, t.within, length-take-le came chunk h) in
    record {
      within = omega arith;
      takes = subst (λ (x : List ℕ). Takes x m m') (take-take taken came chunk within) t.takes;
    }

pub read_taken :
    (read : Result ℕ Failure) (chunk : List ℕ) (m m' : Buffers) (r : Result ℕ Stopped)
    → Moved (length chunk) read
    → AnswersRead read chunk m m' r
    → TakesRead chunk m m' r
read_taken (Ok came) chunk m m' (Ok taken) h a =
    let same : taken ≡ came = omega (arith, a.0, length-take-le came chunk h) in
    record { within = omega arith; takes = subst (λ (n : ℕ). Takes (take n chunk) m m') (sym same) a.1 }
read_taken (Ok came) chunk m m' (Err stop) h a = first_of_part chunk came stop.taken m m' h a.1
read_taken (Err e) chunk m m' (Ok taken) h a = absurd a
read_taken (Err e) chunk m m' (Err stop) h a =
    subst (λ (n : ℕ). TakesFirst n chunk m m') (sym a.0) (subst (TakesFirst 0 chunk m) (sym a.1) (first_none chunk m))

-- ---- one read after another

pub took_none : (m : Buffers) → Took 0 m m
took_none m = record { input = []; many = refl; takes = takes_none m }

pub took_more : (taken more : ℕ) (chunk : List ℕ) (m m' m'' : Buffers) → Took taken m m' → TakesFirst more chunk m' m'' → Took (taken + more) m m''
took_more taken more chunk m m' m'' r t = record {
  input = r.input ++ take more chunk;
  many = length-append r.input (take more chunk) ∙ ap₂ ◌+◌ r.many (length-take-le more chunk t.within);
  takes = takes_both r.input (take more chunk) m m' m'' r.takes t.takes;
}
