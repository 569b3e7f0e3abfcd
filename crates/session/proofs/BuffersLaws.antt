-- Whatever buffers there are, they stand for some session: what is said of every session that the buffers stand for is said of one at least.
-- Assumes nothing.
use mathlib.Core.Path.{◌≡◌}
use mathlib.Core.Logic.{∥∥₁_map}
use native.Mathlib.Omega.{arith}
use lib.ListN.{length, take}
use Rattle.session.specs.Session.{Session, line_bytes}
use Rattle.session.specs.Buffers.{kept_in, Stands}
use Rattle.session.specs.declared.feeding.Buffers.{Buffers}
use Rattle.session.proofs.FeedingLaws.{alone}

-- long: as the array is. The bytes held, by themselves, are a session that the buffers stand for, with the ledger of a list of calls at whose point the index is
pub some_session : (m : Buffers) → length m.line ≡ line_bytes → ∥ ((s : Session) × Stands s m) ∥₁
some_session m long =
    ∥∥₁_map m.index.at_point (λ p. (record { ledger = p.ledger; line = take m.held m.line }, alone (kept_in m) p long (omega (arith, m.few, long))))
