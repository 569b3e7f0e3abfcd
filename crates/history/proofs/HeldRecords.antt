-- The records of the held reports: as many, with the same ids, in order, sound; and a drop of the held reports, those that stay of them and the clock moved
-- on are those of their records.
-- Assumes nothing.
use mathlib.Core.Path.{◌≡◌, refl, sym, ap, ◌∙◌}
use mathlib.Core.Bool.{Bool, true, false, cond, not}
use mathlib.Core.List.Memᴰ
use mathlib.Core.List.{List, [], ◌∷◌, Memᴰ}
use mathlib.Core.Logic.{⊎_elim}
use Prim.Native.Nat.{suc}
use lib.IntN.{ℤ}
use lib.ListN.{length}
use borrow.Author.Tests.{leb-true, not-true}
use Rattle.ints.specs.Whole.{eq_z}
use Rattle.ints.specs.Lists.{passing, some, every}
use Rattle.ints.proofs.Truth.{and_left, and_right}
use Rattle.ints.proofs.Same.{same_is}
use Rattle.grid.specs.declared.Report.{Report}
use Rattle.rows.specs.Phases.{phase_of, is_live}
use Rattle.records.specs.Order.{is_sorted, has_id}
use Rattle.records.specs.Soundness.{is_sound_record, all_sound, ids_distinct}
use Rattle.store.specs.Inserting.{inserted, inserted_all}
use Rattle.store.specs.Removing.{removed}
use Rattle.store.specs.Stepping.{placed_in, lives_on, moves, moved_records}
use Rattle.records.specs.declared.Record.{Record}
use Rattle.records.proofs.OrderKeysLaws.{live-phase_of_key, placed_right}
use Rattle.records.proofs.SoundnessLaws.{record_sound}
use Rattle.store.proofs.InsertingLaws.{inserted_from, inserted_length, has_inserted, inserted_sorted, inserted_every, inserted_distinct}
use Rattle.store.proofs.RemovingLaws.{removed_same, removed_other}
use Rattle.store.proofs.SteppingLaws.{passing_one, passing_other, moved_kept, moved_replaced}
use Rattle.retiring.specs.Retiring.{kept}
use Rattle.ledger.specs.Machine.{Held, Placement, is_held, without, moved_held}
use Rattle.history.proofs.Relation.{record_of, records_of_held, held_once, GoodHeld}

pub records_length : (hs : List Held) → length (records_of_held hs) ≡ length hs
unfolding records_of_held
records_length [] = refl
records_length (h ∷ hs) = inserted_length (record_of h) (records_of_held hs) ∙ ap suc (records_length hs)

pub records_has : (id : ℤ) (hs : List Held) → has_id id (records_of_held hs) ≡ is_held id hs
unfolding records_of_held some
records_has id [] = refl
records_has id (h ∷ hs) = has_inserted id (record_of h) (records_of_held hs) ∙ rw (records_has id hs)

-- each is that of a held report
pub records_from : {x : Record} (hs : List Held) → Memᴰ x (records_of_held hs) → (h : Held) × Memᴰ h hs × (x ≡ record_of h)
unfolding records_of_held
records_from [] m = absurd (Memᴰ.not-nil m)
records_from {x} (h ∷ hs) m =
    ⊎_elim first (λ k. more (records_from hs k)) (inserted_from (record_of h) (records_of_held hs) m)
  where
    first : x ≡ record_of h → (g : Held) × Memᴰ g (h ∷ hs) × (x ≡ record_of g)
    first e = (h, Memᴰ.head refl, e)

    more : (g : Held) × Memᴰ g hs × (x ≡ record_of g) → (g : Held) × Memᴰ g (h ∷ hs) × (x ≡ record_of g)
    more t = (t.0, Memᴰ.tail t.1, t.2)

-- ---- each id is held once

pub first_once : (h : Held) (hs : List Held) → held_once (h ∷ hs) ≡ true → is_held h.report.id hs ≡ false
unfolding held_once
first_once h hs o = not-true (is_held h.report.id hs) (and_left _ (held_once hs) o)

pub rest_once : (h : Held) (hs : List Held) → held_once (h ∷ hs) ≡ true → held_once hs ≡ true
unfolding held_once
rest_once h hs o = and_right (not (is_held h.report.id hs)) _ o

pub once_more : (h : Held) (hs : List Held) → is_held h.report.id hs ≡ false → held_once hs ≡ true → held_once (h ∷ hs) ≡ true
unfolding held_once
once_more h hs n o = rw n o

fresh : (h : Held) (hs : List Held) → held_once (h ∷ hs) ≡ true → has_id h.report.id (records_of_held hs) ≡ false
fresh h hs o = records_has h.report.id hs ∙ first_once h hs o

pub records_sorted : (hs : List Held) → held_once hs ≡ true → is_sorted (records_of_held hs) ≡ true
unfolding records_of_held is_sorted
records_sorted [] o = refl
records_sorted (h ∷ hs) o =
    inserted_sorted (record_of h) (records_of_held hs) (records_sorted hs (rest_once h hs o)) (fresh h hs o)

pub records_distinct : (hs : List Held) → held_once hs ≡ true → ids_distinct (records_of_held hs) ≡ true
unfolding records_of_held ids_distinct
records_distinct [] o = refl
records_distinct (h ∷ hs) o =
    inserted_distinct (record_of h) (records_of_held hs) (fresh h hs o) (records_distinct hs (rest_once h hs o))

-- ---- a good held report has a sound record

good_record : (now : ℤ) (ps : List Placement) (h : Held) → GoodHeld now ps h → is_sound_record now (record_of h) ≡ true
good_record now ps h g =
    record_sound now (record_of h) g.ranged g.sent
    (placed_right now h.phase h.report g.live (leb-true (phase_of h.report.t) h.phase g.not_before))

pub records_sound : (now : ℤ) (ps : List Placement) (hs : List Held) → ((h : Held) → Memᴰ h hs → GoodHeld now ps h) → all_sound now (records_of_held hs) ≡ true
unfolding records_of_held every
records_sound now ps [] each = refl
records_sound now ps (h ∷ hs) each =
    inserted_every (is_sound_record now) (record_of h) (records_of_held hs)
    (good_record now ps h (each h (Memᴰ.head refl)))
    (records_sound now ps hs (λ g m. each g (Memᴰ.tail m)))

-- ---- a drop

pub records_removed : (id : ℤ) (hs : List Held) → held_once hs ≡ true → removed id (records_of_held hs) ≡ records_of_held (without id hs)
unfolding records_of_held without removed
records_removed id [] o = refl
records_removed id (h ∷ hs) o = go (eq_z h.report.id id) refl (records_removed id hs (rest_once h hs o))
  where
    go : (t : Bool) → eq_z h.report.id id ≡ t → removed id (records_of_held hs) ≡ records_of_held (without id hs)
        → removed id (inserted (record_of h) (records_of_held hs)) ≡ records_of_held (cond t hs (h ∷ without id hs))
    go true e k =
        removed_same id (record_of h) (records_of_held hs) e
        (ap (λ (z : ℤ). has_id z (records_of_held hs)) (sym (same_is h.report.id id e)) ∙ fresh h hs o)
    go false e k =
        removed_other id (record_of h) (records_of_held hs) e (records_sorted hs (rest_once h hs o)) ∙ ap (inserted (record_of h)) k

-- ---- those that stay

pub records_kept : (stays : Report → Bool) (hs : List Held) → held_once hs ≡ true → kept stays (records_of_held hs) ≡ records_of_held (passing (λ h. stays h.report) hs)
unfolding records_of_held passing
records_kept stays [] o = refl
records_kept stays (h ∷ hs) o = go (stays h.report) refl (records_kept stays hs (rest_once h hs o))
  where
    test : Record → Bool
    test r = stays r.report

    left : List Held
    left = passing (λ g. stays g.report) hs

    go : (t : Bool) → stays h.report ≡ t → kept stays (records_of_held hs) ≡ records_of_held left → kept stays (inserted (record_of h) (records_of_held hs)) ≡ records_of_held (cond t (h ∷ left) left)
    go true e k = passing_one test (record_of h) (records_of_held hs) e (records_sorted hs (rest_once h hs o)) ∙ ap (inserted (record_of h)) k
    go false e k = passing_other test (record_of h) (records_of_held hs) e ∙ k

-- ---- the clock moved on

-- a held report in a live phase stays as a record exactly where it stays in the ledger: its phase lives on
pub lives_on-held : (now time : ℤ) (h : Held) → is_live (phase_of now) h.phase ≡ true → lives_on now time (record_of h) ≡ is_live (phase_of time) h.phase
lives_on-held now time h live = ap (is_live (phase_of time)) (live-phase_of_key (phase_of now) h.phase h.report live)

pub records_moved : (now time : ℤ) (hs : List Held) → held_once hs ≡ true → ((h : Held) → Memᴰ h hs → is_live (phase_of now) h.phase ≡ true)
    → moved_records now time (records_of_held hs) ≡ records_of_held (moved_held time hs)
unfolding records_of_held moved_held moved_records passing inserted_all
records_moved now time [] o live = refl
records_moved now time (h ∷ hs) o live =
    go (is_live (phase_of time) h.phase) refl (records_moved now time hs (rest_once h hs o) (λ g m. live g (Memᴰ.tail m)))
  where
    phase : lives_on now time (record_of h) ≡ is_live (phase_of time) h.phase
    phase = lives_on-held now time h (live h (Memᴰ.head refl))

    go : (t : Bool) → is_live (phase_of time) h.phase ≡ t → moved_records now time (records_of_held hs) ≡ records_of_held (moved_held time hs)
        → moved_records now time (inserted (record_of h) (records_of_held hs))
        ≡ inserted (record_of (cond t h (record { report = h.report; phase = phase_of time }))) (records_of_held (moved_held time hs))
    go true e k =
        moved_kept (phase_of time) (lives_on now time) (moves now time) (record_of h) (records_of_held hs) (phase ∙ e) (ap not (phase ∙ e)) (fresh h hs o) (records_sorted hs (rest_once h hs o))
        ∙ ap (inserted (record_of h)) k
    go false e k =
        moved_replaced (phase_of time) (lives_on now time) (moves now time) (record_of h) (records_of_held hs) (phase ∙ e) (ap not (phase ∙ e)) (fresh h hs o)
        ∙ ap (inserted (placed_in (phase_of time) h.report)) k
