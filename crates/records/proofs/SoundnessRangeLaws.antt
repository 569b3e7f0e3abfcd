-- Ranges: what the tests of a report's numbers and times say in ℕ, and that no number of a report in its ranges leaves 64 bits on the grid.
-- Assumes nothing.
use mathlib.Core.Path.{◌≡◌}
use mathlib.Core.Bool.{true, ◌&&◌}
use Prim.Native.Nat.{ℕ, ◌≤◌, ◌<◌, ◌^◌}
use native.Mathlib.Omega.{arith}
use lib.IntN.{ℤ, pos, negsuc, nat_abs}
use lib.Signed.{le_z}
use mir.Syntax.{w32}
use mir.Facts.{to_z-of_z}
use Rattle.ints.specs.Whole.{between}
use Rattle.ints.proofs.Parts.{up, down, one_part, abs, le_true, true_le}
use Rattle.ints.proofs.Truth.{and_true, and_left, and_right}
use Rattle.ints.proofs.Machine.{back, fits}
use Rattle.grid.specs.Units.{last_time, cells, last_id, last_position}
use Rattle.grid.specs.Reports.{is_time, is_id, is_position, is_speed, in_range}
use Rattle.grid.specs.Small.{SmallReport}
use Rattle.grid.specs.declared.Report.{Report}
use Rattle.rows.specs.Phases.{phase_of, reference_time, slots, last_phase}
use Rattle.rows.specs.Row.{drift_of}
use Rattle.rows.proofs.PhasesLaws.{phase_is}
use Rattle.rows.proofs.RowLaws.{DriftInRange}
use Rattle.records.specs.Order.{slot_of_key, number_of_key, last_key}
use Rattle.records.specs.Soundness.{is_ranged}
use Rattle.records.specs.declared.Record.{Record}

-- ---- a number from low to high

pub record From (low high : ℕ) (z : ℤ) : Type 0 where
  pub least : low ≤ up z
  pub most : up z ≤ high
  pub whole : down z ≡ 0

pub between_from : (low high : ℕ) (z : ℤ) → between (pos low) (pos high) z ≡ true → From low high z
between_from low high z h =
    let l = le_true (pos low) z (and_left (le_z (pos low) z) (le_z z (pos high)) h) in
    let g = le_true z (pos high) (and_right (le_z (pos low) z) (le_z z (pos high)) h) in
    let o = one_part z in
    record { least = omega arith; most = omega arith; whole = omega arith }

pub from_between : (low high : ℕ) (z : ℤ) → From low high z → between (pos low) (pos high) z ≡ true
from_between low high z f =
    and_true (le_z (pos low) z) (le_z z (pos high)) (true_le (pos low) z (omega arith)) (true_le z (pos high) (omega arith))

pub speed_size : (v : ℤ) → is_speed v ≡ true → nat_abs v ≤ 500
speed_size v h =
    let l = le_true (negsuc 499) v (and_left (le_z (negsuc 499) v) (le_z v (pos 500)) h) in
    let g = le_true v (pos 500) (and_right (le_z (negsuc 499) v) (le_z v (pos 500)) h) in
    omega (arith, abs v, one_part v)

-- as the machine holds it
pub speed_held : (v : ℤ) → is_speed v ≡ true → back w32 v ≡ v
speed_held v h = to_z-of_z {w = w32} (fits (omega (arith, speed_size v h, abs v)))

-- ---- a report

pub record Ranges (r : Report) : Type 0 where
  pub id : From 1 last_id r.id
  pub x : From 0 last_position r.x
  pub y : From 0 last_position r.y
  pub vx : is_speed r.vx ≡ true
  pub vy : is_speed r.vy ≡ true

pub ranges : (r : Report) → in_range r ≡ true → Ranges r
unfolding in_range
ranges r h =
    let places = is_position r.x && is_position r.y in
    let speeds = is_speed r.vx && is_speed r.vy in
    let rest = and_right (is_id r.id) (places && speeds) h in
    let p = and_left places speeds rest in
    let v = and_right places speeds rest in
    record {
      id = between_from 1 last_id r.id (and_left (is_id r.id) (places && speeds) h);
      x = between_from 0 last_position r.x (and_left (is_position r.x) (is_position r.y) p);
      y = between_from 0 last_position r.y (and_right (is_position r.x) (is_position r.y) p);
      vx = and_left (is_speed r.vx) (is_speed r.vy) v;
      vy = and_right (is_speed r.vx) (is_speed r.vy) v;
    }

pub drift-in_range : (r : Report) → in_range r ≡ true → DriftInRange (drift_of r)
drift-in_range r h =
    let a = ranges r h in
    record { small_x = speed_size r.vx a.vx; small_y = speed_size r.vy a.vy }

-- ---- times and phases. 277,777 is the phase of the last time

pub time_from : (t : ℤ) → is_time t ≡ true → From 0 last_time t
time_from t h = between_from 0 last_time t h

pub last_phase_lem : (t : ℤ) → is_time t ≡ true → phase_of t ≤ last_phase
last_phase_lem t h = let f = time_from t h in omega (arith, phase_is t)

-- a time at most now is a time
pub earlier_time : (time t : ℤ) → is_time time ≡ true → between (pos 0) time t ≡ true → is_time t ≡ true
earlier_time time t h k =
    let f = time_from time h in
    let l = le_true (pos 0) t (and_left (le_z (pos 0) t) (le_z t time) k) in
    let g = le_true t time (and_right (le_z (pos 0) t) (le_z t time) k) in
    let o = one_part t in
    from_between 0 last_time t (record { least = omega arith; most = omega arith; whole = omega arith })

pub small_report : (p : ℕ) (r : Report) → p ≤ last_phase → in_range r ≡ true → is_time r.t ≡ true → SmallReport r (reference_time p)
unfolding reference_time
small_report p r h k g =
    let a = ranges r k in
    let t = time_from r.t g in
    let n : nat_abs r.t ≤ 2 ^ 30 = omega (arith, abs r.t) in
    record {
      along_x_lem = record {
        small_x = omega (arith, abs r.x, a.x);
        small_v = omega (arith, speed_size r.vx a.vx);
        small_t = n;
        small_s = omega arith;
      };
      along_y_lem = record {
        small_x = omega (arith, abs r.y, a.y);
        small_v = omega (arith, speed_size r.vy a.vy);
        small_t = n;
        small_s = omega arith;
      };
    }

-- ---- a record

pub record InRanges (r : Record) : Type 0 where
  pub report : in_range r.report ≡ true
  pub time : is_time r.report.t ≡ true
  pub key : between (pos 0) (pos last_key) r.key ≡ true

pub ranged_parts : (r : Record) → is_ranged r ≡ true → InRanges r
unfolding is_ranged
ranged_parts r h =
    let both = and_left (in_range r.report && is_time r.report.t) (between (pos 0) (pos last_key) r.key) h in
    record {
      report = and_left (in_range r.report) (is_time r.report.t) both;
      time = and_right (in_range r.report) (is_time r.report.t) both;
      key = and_right (in_range r.report && is_time r.report.t) (between (pos 0) (pos last_key) r.key) h;
    }

pub parts_ranged : (r : Record) → InRanges r → is_ranged r ≡ true
unfolding is_ranged
parts_ranged r p = and_true _ _ (and_true _ _ p.report p.time) p.key

pub id_from : (r : Record) → is_ranged r ≡ true → From 1 last_id r.report.id
id_from r h = (ranges r.report (ranged_parts r h).report).id

pub slot_below : (r : Record) → is_ranged r ≡ true → slot_of_key r.key < slots
slot_below r h = let f = between_from 0 last_key r.key (ranged_parts r h).key in omega arith

pub number_of_key-below : (key : ℤ) → number_of_key key < cells
number_of_key-below key = omega arith
