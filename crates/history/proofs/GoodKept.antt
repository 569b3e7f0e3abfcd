-- What is kept of the ledger alone: an opened ledger is good, and floats that go, the clock moved on, a report placed and a report taken out keep it so.
-- Assumes nothing.
use mathlib.Core.Path.{◌≡◌, refl, sym, ap, ◌∙◌, subst}
use mathlib.Core.Bool.{Bool, true, false, cond, not}
use mathlib.Core.List.Memᴰ
use mathlib.Core.List.{List, [], ◌∷◌, ◌++◌, Memᴰ}
use mathlib.Core.Logic.{⊎_elim}
use Prim.Native.Nat.{ℕ, ◌<◌}
use native.Mathlib.Omega.{arith}
use lib.Dec.{leb}
use lib.IntN.{ℤ, pos}
use lib.ListN.{length}
use lib.Signed.{le_z}
use borrow.Author.Tests.{le-leb}
use Rattle.ints.specs.Lists.{passing, some}
use Rattle.ints.specs.Whole.{eq_z, between}
use Rattle.ints.proofs.Least.{le_trans}
use Rattle.ints.proofs.Lists.{passing_in, passing_few, passing_some}
use Rattle.ints.proofs.Truth.{and_true, and_left, and_right}
use Rattle.ints.proofs.Same.{same_is}
use Rattle.grid.specs.Units.{capacity}
use Rattle.grid.specs.Reports.{is_time, in_range, x_at, y_at}
use Rattle.grid.specs.declared.Report.{Report}
use Rattle.grid.proofs.PlacesLaws.{cell_on}
use Rattle.rows.specs.Phases.{phase_of, reference_time, is_live}
use Rattle.rows.proofs.PhasesLaws.{range_live, phases_grow}
use Rattle.records.proofs.SoundnessRangeLaws.{drift-in_range}
use Rattle.ledger.specs.Machine.{Ledger, Held, Placement, placement, opened, is_held, without, moved_one, moved_held, new_placements, live_placements, keeping, moved_on, with_report, without_id}
use Rattle.ledger.proofs.MachineLaws.{same_report, moved_length, moved_held_lem, moved_from, without_member, without_few, without_held, live_from, live_stays, new_from, new_placed}
use Rattle.history.proofs.Relation.{held_once, GoodHeld, GoodPlacement, Good}
use Rattle.history.proofs.HeldRecords.{first_once, rest_once, once_more}

pub opened_good : (time : ℤ) → is_time time ≡ true → Good (opened time)
unfolding held_once
opened_good time h =
    record {
      time = h;
      few = omega arith;
      once = refl;
      holds = λ g m. absurd (Memᴰ.not-nil m);
      places = λ a m. absurd (Memᴰ.not-nil m);
    }

-- ---- times and phases

pub current_live : (c : ℕ) → is_live c c ≡ true
current_live c = range_live c c (omega arith) (omega arith)

sent_before : (now later t : ℤ) → le_z now later ≡ true → between (pos 0) now t ≡ true → between (pos 0) later t ≡ true
sent_before now later t h b =
    and_true _ _ (and_left (le_z (pos 0) t) (le_z t now) b) (le_trans t now later (and_right (le_z (pos 0) t) (le_z t now) b) h)

-- the phase of the current time is not before that of a report sent by then
sent_phase : (now t : ℤ) → between (pos 0) now t ≡ true → leb (phase_of t) (phase_of now) ≡ true
sent_phase now t b = le-leb (phase_of t) (phase_of now) (phases_grow t now (and_right (le_z (pos 0) t) (le_z t now) b))

-- a report in range placed in the current phase
pub good_placement : (now : ℤ) (r : Report) → in_range r ≡ true → GoodPlacement now (placement (phase_of now) r)
good_placement now r h =
    let s = reference_time (phase_of now) in
    record { live = current_live (phase_of now); on_grid = cell_on (x_at r s) (y_at r s); in_range_lem = drift-in_range r h }

-- ---- the floats that stay, whichever test says who does

module _ (stays : Report → Bool) where
  abbrev test : Held → Bool
  test h = stays h.report

  once_kept : (hs : List Held) → held_once hs ≡ true → held_once (passing test hs) ≡ true
  unfolding passing
  once_kept [] o = o
  once_kept (h ∷ hs) o = go (stays h.report) (once_kept hs (rest_once h hs o))
    where
      go : (t : Bool) → held_once (passing test hs) ≡ true → held_once (cond t (h ∷ passing test hs) (passing test hs)) ≡ true
      go true k = once_more h (passing test hs) (passing_some (λ g. eq_z g.report.id h.report.id) test hs (first_once h hs o)) k
      go false k = k

  pub keeping_good : (l : Ledger) → Good l → Good (keeping stays l)
  unfolding keeping
  keeping_good l good =
      let few = good.few in
      record {
        time = good.time;
        few = omega (arith, passing_few test l.held);
        once = once_kept l.held good.once;
        holds = λ h m. good.holds h (passing_in test l.held m).0;
        places = good.places;
      }

-- ---- the clock moved on

once_moved : (c : ℤ) (hs : List Held) → held_once hs ≡ true → held_once (moved_held c hs) ≡ true
unfolding moved_held
once_moved c [] o = o
once_moved c (h ∷ hs) o =
    let same = ap (λ (r : Report). r.id) (same_report c h) in
    once_more (moved_one c h) (moved_held c hs)
    (ap (λ (z : ℤ). is_held z (moved_held c hs)) same ∙ moved_held_lem c h.report.id hs ∙ first_once h hs o)
    (once_moved c hs (rest_once h hs o))

module _ (t : ℤ) (l : Ledger) (good : Good l) (is_time_lem : is_time t ≡ true) (later : le_z l.now t ≡ true) where
  placements' : List Placement
  placements' = live_placements t l.placements ++ new_placements t l.held

  held_on : (h : Held) → Memᴰ h l.held → GoodHeld t placements' (moved_one t h)
  unfolding placements'
  held_on h m = go (is_live (phase_of t) h.phase) refl
    where
      g : GoodHeld l.now l.placements h
      g = good.holds h m

      sent : between (pos 0) t h.report.t ≡ true
      sent = sent_before l.now t h.report.t later g.sent

      go : (u : Bool) → is_live (phase_of t) h.phase ≡ u → GoodHeld t placements' (cond u h (record { report = h.report; phase = phase_of t }))
      go true e =
          record {
            ranged = g.ranged;
            sent = sent;
            live = e;
            not_before = g.not_before;
            placed = Memᴰ.append_left (new_placements t l.held) (live_stays t l.placements g.placed e);
          }
      go false e =
          record {
            ranged = g.ranged;
            sent = sent;
            live = current_live (phase_of t);
            not_before = sent_phase t h.report.t sent;
            placed = Memᴰ.append_right (live_placements t l.placements) (new_placed t l.held m (ap not e));
          }

  placed_on : (a : Placement) → Memᴰ a placements' → GoodPlacement t a
  unfolding placements'
  placed_on a m = ⊎_elim old new (Memᴰ.append_cases (live_placements t l.placements) m)
    where
      old : Memᴰ a (live_placements t l.placements) → GoodPlacement t a
      old k =
          let from = live_from t l.placements k in
          let g = good.places a from.0 in
          record { live = from.1; on_grid = g.on_grid; in_range_lem = g.in_range_lem }

      new : Memᴰ a (new_placements t l.held) → GoodPlacement t a
      new k =
          let from = new_from t l.held k in
          subst (GoodPlacement t) (sym from.2) (good_placement t from.0.report (good.holds from.0 from.1).ranged)

  pub moved_good : Good (moved_on t l)
  unfolding moved_on placements'
  moved_good =
      record {
        time = is_time_lem;
        few = rw (moved_length t l.held) good.few;
        once = once_moved t l.held good.once;
        holds = λ x m.
            let from = moved_from t l.held m in
            subst (GoodHeld t placements') (sym from.2) (held_on from.0 from.1);
        places = placed_on;
      }

-- ---- a report placed in the current phase

pub report_good : (r : Report) (l : Ledger) → Good l → in_range r ≡ true → between (pos 0) l.now r.t ≡ true → is_held r.id l.held ≡ false → length l.held < capacity
    → Good (with_report r l)
unfolding with_report
report_good r l good ranged sent new room =
    record {
      time = good.time;
      few = room;
      once = once_more h l.held new good.once;
      holds = λ x m. ⊎_elim (λ e. subst (GoodHeld l.now more) (sym e) here) (λ k. older x k) (Memᴰ.cases_cons m);
      places = λ a m. ⊎_elim (good.places a) (λ k. subst (GoodPlacement l.now) (sym (Memᴰ.eq_of_singleton k)) (good_placement l.now r ranged)) (Memᴰ.append_cases l.placements m);
    }
  where
    h : Held
    h = record { report = r; phase = phase_of l.now }

    more : List Placement
    more = l.placements ++ placement (phase_of l.now) r ∷ []

    here : GoodHeld l.now more h
    here =
        record {
          ranged = ranged;
          sent = sent;
          live = current_live (phase_of l.now);
          not_before = sent_phase l.now r.t sent;
          placed = Memᴰ.append_right l.placements (Memᴰ.head refl);
        }

    older : (x : Held) → Memᴰ x l.held → GoodHeld l.now more x
    older x m =
        let g = good.holds x m in
        record {
          ranged = g.ranged;
          sent = g.sent;
          live = g.live;
          not_before = g.not_before;
          placed = Memᴰ.append_left (placement (phase_of l.now) r ∷ []) g.placed;
        }

-- ---- a report taken out

once_without : (id : ℤ) (hs : List Held) → held_once hs ≡ true → held_once (without id hs) ≡ true
unfolding without
once_without id [] o = o
once_without id (h ∷ hs) o = go (eq_z h.report.id id) (once_without id hs (rest_once h hs o))
  where
    go : (t : Bool) → held_once (without id hs) ≡ true → held_once (cond t hs (h ∷ without id hs)) ≡ true
    go true k = rest_once h hs o
    go false k = once_more h (without id hs) (without_held id h.report.id hs (first_once h hs o)) k

-- it was held once
pub without_gone : (id : ℤ) (hs : List Held) → held_once hs ≡ true → is_held id (without id hs) ≡ false
unfolding without some
without_gone id [] o = refl
without_gone id (h ∷ hs) o = go (eq_z h.report.id id) refl (without_gone id hs (rest_once h hs o))
  where
    go : (t : Bool) → eq_z h.report.id id ≡ t → is_held id (without id hs) ≡ false → is_held id (cond t hs (h ∷ without id hs)) ≡ false
    go true e k = ap (λ (z : ℤ). is_held z hs) (sym (same_is h.report.id id e)) ∙ first_once h hs o
    go false e k = rw (e, k)

pub without_good : (id : ℤ) (l : Ledger) → Good l → Good (without_id id l)
unfolding without_id
without_good id l good =
    record {
      time = good.time;
      few = omega (arith, without_few id l.held, good.few);
      once = once_without id l.held good.once;
      holds = λ x m. good.holds x (without_member id l.held m);
      places = good.places;
    }
