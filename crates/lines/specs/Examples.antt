-- The listing of document 01 and a window ask, the call lines and what they say; and lines that are no call.
-- Assumes nothing.
use Rattle.std.specs.Prelude.{List, [], ◌∷◌, ℕ, pos, negsuc}
use Prim.Native.Char.{code}
use Prim.Native.String.{String, [] as []ᵀ, ◌∷◌ as ◌∷ᵀ◌}
use Rattle.grid.specs.declared.Rect.{Rect}
use Rattle.grid.specs.declared.When.TheVariants.{At, During}
use Rattle.ledger.specs.Examples.{sent, rectangle}
use Rattle.ledger.specs.declared.Change.{Change}
use Rattle.ledger.specs.declared.Change.TheVariants.{Add, Drop}
use Rattle.ledger.specs.declared.Call.TheVariants as Call
use Rattle.lines.specs.declared.Line.{Line}

-- the bytes of a text that has no letter but those of ASCII
unfoldable pub bytes : String → List ℕ
bytes []ᵀ = []
bytes (c ∷ᵀ text) = code c ∷ bytes text

-- a line, and the call that it says
pub record Said : Type 0 where
  pub line : String
  pub call : Line

abbrev change : Change → Line
change c = Line.Call (Call.Change c)

abbrev ask : ℕ → ℕ → Rect → Line
ask method time rect = Line.Call (Call.Ask (record { method = pos method; query = record { rect = rect; when = At (pos time) } }))

abbrev window : ℕ → ℕ → ℕ → Rect → Line
window method first last rect =
    Line.Call (Call.Ask (record { method = pos method; query = record { rect = rect; when = During (pos first) (pos last) } }))

unfoldable pub listing : List Said
listing =
    record { line = "O         0"; call = Line.Open (pos 0) }
    ∷ record {
      line = "A         7         0    100000    100000       100         0";
      call = change (Add (sent 7 0 100000 100000 (pos 100) (pos 0)));
    }
    ∷ record {
      line = "A         9         0    600000    100000       -50         0";
      call = change (Add (sent 9 0 600000 100000 (negsuc 49) (pos 0)));
    }
    ∷ record {
      line = "Q         3      3600    400000         0    500000    200000";
      call = ask 3 3600 (rectangle 400000 0 500000 200000);
    }
    ∷ record { line = "D         7        10"; call = change (Drop (pos 7) (pos 10)) }
    ∷ record {
      line = "Q         0      3600    400000         0    500000    200000";
      call = ask 0 3600 (rectangle 400000 0 500000 200000);
    }
    ∷ record { line = "D         7        20"; call = change (Drop (pos 7) (pos 20)) }
    ∷ []

-- a window ask
unfoldable pub windows : List Said
windows =
    record {
      line = "W         3         0      3600    400000         0    500000    200000";
      call = window 3 0 3600 (rectangle 400000 0 500000 200000);
    }
    ∷ []

-- the least and the greatest number
unfoldable pub limits : List Said
limits =
    record { line = "O-999999999"; call = Line.Open (negsuc 999999998) }
    ∷ record { line = "C2147483647"; call = Line.Call (Call.Clock (pos 2147483647)) }
    ∷ []

-- no call: wrong letters, wrong lengths, a trailing blank, a carriage return, and what is no number
unfoldable pub damaged : List String
damaged =
    ""
    ∷ "O"
    ∷ "X"
    ∷ "X         0"
    ∷ "o         0"
    ∷ "         0"
    ∷ "O        0"
    ∷ "O         0 "
    ∷ "O         0\r"
    ∷ "D         7"
    ∷ "D         7        10        10"
    ∷ "W         3         0    400000         0    500000    200000"
    ∷ "Q         3         0      3600    400000         0    500000    200000"
    ∷ "w         3         0      3600    400000         0    500000    200000"
    ∷ "O        +5"
    ∷ "O        -0"
    ∷ "O       007"
    ∷ "O         -"
    ∷ "O          "
    ∷ "O        5 "
    ∷ "O       5 5"
    ∷ "O       5-5"
    ∷ "O      0x10"
    ∷ "O2147483648"
    ∷ "O9999999999"
    ∷ "O-1000000000"
    ∷ []
