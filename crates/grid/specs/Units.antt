-- The numbers of document 01, "Units and the places on the grid", the longest window of document 02, A3, and the silence of A7, each named once.
-- Positions are centimetres, speeds centimetres per second, times seconds.
-- Assumes nothing.
use Rattle.std.specs.Prelude.{ℕ, suc, ◌-◌, ◌*◌}

-- columns on the grid, and rows
abbrev pub side : ℕ
side = 32

-- 2 ^ order is the side
abbrev pub order : ℕ
order = 5

-- cells on the grid
abbrev pub cells : ℕ
cells = side * side

-- the width and the height of a cell, in centimetres
abbrev pub cell_size : ℕ
cell_size = 262144

-- the greatest position of a report, in centimetres: the last one of the last cell
abbrev pub last_position : ℕ
last_position = side * cell_size - 1

-- the greatest size of a speed, in centimetres per second
abbrev pub speed_limit : ℕ
speed_limit = 500

-- the last time, in seconds
abbrev pub last_time : ℕ
last_time = 999999999

-- how far before now and after it an ask may lie, in seconds
abbrev pub ask_before : ℕ
ask_before = 3600

abbrev pub ask_after : ℕ
ask_after = 7200

-- how long a window may be, in seconds
abbrev pub longest_window : ℕ
longest_window = 3600

-- how long a float may send nothing before it is lost, in seconds
abbrev pub silence : ℕ
silence = 2592000

-- the last id
abbrev pub last_id : ℕ
last_id = 65535

-- marks by id, one for each from 0 on
abbrev pub id_marks : ℕ
id_marks = suc last_id

-- the most floats held
abbrev pub capacity : ℕ
capacity = 1024
