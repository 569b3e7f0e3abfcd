-- What the fleet program's reads leave.
-- Assumes nothing.
use Rattle.std.specs.Prelude.{◌≡◌, List, ℕ, ◌<◌, ◌≤◌, length, take, Option, Result, IfOk, IfSome}
use Rattle.streams.specs.declared.Failure.{Failure}
use Rattle.fleet.specs.declared.Held.{Held}
use Rattle.fleet.specs.declared.Held.TheVariants.{Whole, Enough}

-- the bytes that came stand behind those that are held, which stay, and there is more to read only where some came. Which bytes `read` gave has no
-- definition, so no more can be said of them here
pub record ReadsMore (input input' : List ℕ) (held : ℕ) (r : Result (Option ℕ) Failure) : Type 0 where
  pub kept : take held input' ≡ take held input
  pub goes_on : IfOk r (λ more. IfSome more (λ n. held < n))
  pub within : IfOk r (λ more. IfSome more (λ n. n ≤ length input'))

-- the whole of it: where there is more to read, as many bytes are held as there is room for
abbrev pub Fills : List ℕ → Held → Type 0
Fills input (Whole held) = held ≤ length input
Fills input (Enough held) = held ≡ length input

abbrev pub ReadsInput : List ℕ → Result Held Failure → Type 0
ReadsInput input' r = IfOk r (Fills input')
