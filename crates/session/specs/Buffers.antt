-- The same of buffers that are owned: what is kept in them, and what their methods leave.
-- Assumes nothing.
use Rattle.std.specs.Prelude.{List, ℕ}
use Rattle.answering.specs.Index.{words_in}
use Rattle.session.specs.declared.feeding.Buffers.{Buffers}
use Rattle.session.specs.declared.feeding.Fed.{Fed}
use Rattle.session.specs.Session.{Session, Kept, Keeps}
use Rattle.session.specs.Feeding.{FeedsKept, EndsKept}

abbrev pub kept_in : Buffers → Kept
kept_in m = record { index = words_in m.index; line = m.line; held = m.held }

-- the buffers of a session
abbrev pub Stands : Session → Buffers → Type 0
Stands s m = Keeps s (kept_in m)

abbrev pub Feeds : List ℕ → Buffers → Buffers → List ℕ → Fed → Type 0
Feeds chunk m m' out' fed = FeedsKept chunk (kept_in m) (kept_in m') out' fed

abbrev pub Ends : Buffers → Buffers → List ℕ → ℕ → Type 0
Ends m m' out' filled = EndsKept (kept_in m) (words_in m'.index) out' filled
