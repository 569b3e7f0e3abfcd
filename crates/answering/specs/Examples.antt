-- The listing of document 01, its answers as document 02, A6, has them, as the program's input and output; window asks; and an input whose lines are
-- damaged, one of them too long, and whose last line lacks its newline.
-- Assumes nothing.
use Rattle.std.specs.Prelude.{List, [], ◌∷◌, ◌++◌, ℕ}
use Prim.Native.String.{String}
use Rattle.lines.specs.Examples.{bytes}
use Rattle.answering.specs.Replay.{newline}

-- lines, each with its newline
unfoldable pub ended : List String → List ℕ
ended [] = []
ended (line ∷ lines) = bytes line ++ newline ∷ ended lines

-- what goes in
unfoldable pub listing : List String
listing =
    "O         0"
    ∷ "A         7         0    100000    100000       100         0"
    ∷ "A         9         0    600000    100000       -50         0"
    ∷ "Q         3      3600    400000         0    500000    200000"
    ∷ "D         7        10"
    ∷ "Q         0      3600    400000         0    500000    200000"
    ∷ "D         7        20"
    ∷ []

-- what comes out
unfoldable pub listing_says : List String
listing_says =
    "O         0         0"
    ∷ "A         0         1"
    ∷ "A         0         2"
    ∷ "Q         0         2         1         1         0         7         9"
    ∷ "D         0         1"
    ∷ "Q         0         1         3         1         0         9"
    ∷ "D         6         0"
    ∷ []

-- a float that is inside between two whole seconds and at neither; then a window that ends before it begins
unfoldable pub windows : List String
windows =
    "A         1         0       100       100       500       500"
    ∷ "Q         3         1       350       350       360       360"
    ∷ "W         3         0         1       350       350       360       360"
    ∷ "W         3         1         0       350       350       360       360"
    ∷ []

unfoldable pub windows_say : List String
windows_say =
    "A         0         1"
    ∷ "Q         0         0         1         0         0"
    ∷ "W         0         1         1         1         0         1"
    ∷ "W        10         0"
    ∷ []

-- damaged lines, then a call that lacks its newline
unfoldable pub damaged : List String
damaged =
    ""
    ∷ "C        +5"
    ∷ "C         5 "
    ∷ "A         7         0    100000    100000       100         0         0"
    ∷ []

abbrev pub last_line : String
last_line = "C         7"

unfoldable pub damaged_says : List String
damaged_says =
    "?         9         0"
    ∷ "?         9         0"
    ∷ "?         9         0"
    ∷ "?         9         0"
    ∷ "C         0         0"
    ∷ []
