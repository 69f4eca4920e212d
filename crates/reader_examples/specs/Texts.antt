-- The eleven posts (SPECIFICATION 16.1) and texts of SPECIFICATION 16.10 and 16.11, byte by byte.
use Rattle.std.specs.Prelude.{List, [], ◌∷◌, ◌++◌, ℕ}
use Prim.Native.Char.{code}
use Prim.Native.String.{String}
use Rattle.reader_tokens.specs.Scan.{bytes}

-- lines, each with its line feed
abbrev pub lines : List String → List ℕ
lines [] = []
lines (l ∷ ls) = bytes l ++ (code "\n" ∷ lines ls)

-- what the posts have in common: their locations and edges differ
abbrev posted : String → List String → List ℕ
posted locations edges =
    lines
    ("broadcast chan pass, spike, late;"
    ∷ "process Post() {"
    ∷ "clock x;"
    ∷ locations
    ∷ "init Wait;"
    ∷ "trans"
    ∷ (edges ++ ("}" ∷ "system Post;" ∷ [])))

-- Post and seven others: the locations, the edge of `spike` from Wait and that of `late` differ
abbrev marker : String → String → String → List ℕ
marker locations spike late =
    posted locations
    ("Wait -> Done { sync pass?; },"
    ∷ spike
    ∷ late
    ∷ "Done -> Done { sync pass?; },"
    ∷ "Done -> Done { sync spike?; };"
    ∷ [])

abbrev pub post : List ℕ
post =
    marker
    "state Wait { x <= 3 }, Done;"
    "Wait -> Wait { sync spike?; },"
    "Wait -> Done { guard x >= 3; sync late!; },"

-- a spike sets the clock back: the second edge assigns 0 (SPECIFICATION 16.1)
abbrev pub rearm : List ℕ
rearm =
    marker
    "state Wait { x <= 3 }, Done;"
    "Wait -> Wait { sync spike?; assign x = 0; },"
    "Wait -> Done { guard x >= 3; sync late!; },"

-- a unit that has used a tick already when a spike wakes it: the second edge assigns 1 (SPECIFICATION 16.1, 16.11)
abbrev pub woken : List ℕ
woken =
    marker
    "state Wait { x <= 3 }, Done;"
    "Wait -> Wait { sync spike?; assign x = 1; },"
    "Wait -> Done { guard x >= 3; sync late!; },"

-- the same, with a larger value before it, which is overridden (SPECIFICATION 16.11)
abbrev pub overridden : List ℕ
overridden =
    marker
    "state Wait { x <= 3 }, Done;"
    "Wait -> Wait { sync spike?; assign x = 7, x = 1; },"
    "Wait -> Done { guard x >= 3; sync late!; },"

-- a value that the invariant of Wait does not allow (SPECIFICATION 16.11)
abbrev pub too_late : List ℕ
too_late =
    marker
    "state Wait { x <= 3 }, Done;"
    "Wait -> Wait { sync spike?; assign x = 4; },"
    "Wait -> Done { guard x >= 3; sync late!; },"

-- one tick earlier: both constants are 2 (SPECIFICATION 16.1)
abbrev pub early : List ℕ
early =
    marker
    "state Wait { x <= 2 }, Done;"
    "Wait -> Wait { sync spike?; },"
    "Wait -> Done { guard x >= 2; sync late!; },"

-- strict signs: they say what those of Post say over whole ticks (SPECIFICATION 16.1, 16.6)
abbrev pub strict : List ℕ
strict =
    marker
    "state Wait { x < 4 }, Done;"
    "Wait -> Wait { sync spike?; },"
    "Wait -> Done { guard x > 2; sync late!; },"

-- `late` from tick 2 on, beside the tick (SPECIFICATION 16.1, 16.8)
abbrev pub loose : List ℕ
loose =
    marker
    "state Wait { x <= 3 }, Done;"
    "Wait -> Wait { sync spike?; },"
    "Wait -> Done { guard x >= 2; sync late!; },"

-- constants in milliseconds, one of them half a tick of 1,000 (SPECIFICATION 16.1, 16.9)
abbrev pub sheet : List ℕ
sheet =
    marker
    "state Wait { x <= 3000 }, Done;"
    "Wait -> Wait { sync spike?; },"
    "Wait -> Done { guard x >= 2500; sync late!; },"

-- the third edge is left out (SPECIFICATION 16.1)
abbrev without_late : List String
without_late =
    "Wait -> Done { sync pass?; },"
    ∷ "Wait -> Wait { sync spike?; },"
    ∷ "Done -> Done { sync pass?; },"
    ∷ "Done -> Done { sync spike?; };"
    ∷ []

abbrev pub hush : List ℕ
hush = posted "state Wait { x <= 3 }, Done;" without_late

-- and so is the invariant (SPECIFICATION 16.1)
abbrev pub idle : List ℕ
idle = posted "state Wait, Done;" without_late

-- a third location, which no edge leads to (SPECIFICATION 16.1, 16.8)
abbrev pub spare : List ℕ
spare =
    posted "state Wait { x <= 3 }, Done, Off { x <= 0 };"
    ("Wait -> Done { sync pass?; },"
    ∷ "Wait -> Wait { sync spike?; },"
    ∷ "Wait -> Done { guard x >= 3; sync late!; },"
    ∷ "Done -> Done { sync pass?; },"
    ∷ "Done -> Done { sync spike?; },"
    ∷ "Off -> Off { sync pass?; },"
    ∷ "Off -> Off { sync spike?; };"
    ∷ [])

-- Post with one edge more, behind the first (SPECIFICATION 16.10)
abbrev with_edge : String → List ℕ
with_edge second =
    posted "state Wait { x <= 3 }, Done;"
    ("Wait -> Done { sync pass?; },"
    ∷ second
    ∷ "Wait -> Wait { sync spike?; },"
    ∷ "Wait -> Done { guard x >= 3; sync late!; },"
    ∷ "Done -> Done { sync pass?; },"
    ∷ "Done -> Done { sync spike?; };"
    ∷ [])

-- the first edge a second time (SPECIFICATION 16.1, 16.10)
abbrev pub twice : List ℕ
twice = with_edge "Wait -> Done { sync pass?; },"

-- another edge for `pass`, which leads elsewhere: to Wait, and to Done with x reset (SPECIFICATION 16.10)
abbrev pub stay_or_go : List ℕ
stay_or_go = with_edge "Wait -> Wait { sync pass?; },"

abbrev pub reset_or_not : List ℕ
reset_or_not = with_edge "Wait -> Done { sync pass?; assign x = 0; },"

-- another edge for `spike`, which sets x to 1 (SPECIFICATION 16.11)
abbrev pub late_or_not : List ℕ
late_or_not = with_edge "Wait -> Wait { sync spike?; assign x = 1; },"

-- Woken with its second edge twice: parallel edges that assign one value (SPECIFICATION 7.2)
abbrev pub woken_twice : List ℕ
woken_twice =
    posted "state Wait { x <= 3 }, Done;"
    ("Wait -> Done { sync pass?; },"
    ∷ "Wait -> Wait { sync spike?; assign x = 1; },"
    ∷ "Wait -> Wait { sync spike?; assign x = 1; },"
    ∷ "Wait -> Done { guard x >= 3; sync late!; },"
    ∷ "Done -> Done { sync pass?; },"
    ∷ "Done -> Done { sync spike?; };"
    ∷ [])
