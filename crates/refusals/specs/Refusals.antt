-- Refusals (SPECIFICATION 13.1, 13.2): what the code, file mark, p and q of each are. The comments of the enum name the
-- codes and cite the clauses that say when they come. Codes 13 to 21 and 24 to 26 have a definition each, with the file
-- mark that the operations give them.
use Rattle.std.specs.Prelude.{ℕ, ◌+◌, ◌*◌}
use Rattle.steps.specs.declared.Step.{Step}
use Rattle.refusals.specs.declared.File.{File}
use Rattle.refusals.specs.declared.File.TheVariants.{None, Left, Right}
use Rattle.refusals.specs.declared.Refusal.{Refusal}
use Rattle.refusals.specs.declared.Refusal.TheVariants.{TextTooLong, Misfit, NameTooLong, DeclaredBefore, UnknownName, ConstantTooLarge, TooManyItems, OtherMark, TooManyStates, InputWithoutMove, TwoEdges, UnmatchedChannel, KeepTooShort, TableTooShort, QueueTooShort, OtherTable, StartNotSafe, StartPairNotSet, PairNotAllowed, RuleBroken, RunTooShort, OutputBesideTick, NeitherPossible, TickOutOfRange, LimitExceeded, OutTooShort}

-- the file marks (SPECIFICATION 13.2)
abbrev pub mark : File → ℕ
mark None = 0
mark Left = 1
mark Right = 2

-- 13: too few bytes of keep (SPECIFICATION 8.4)
abbrev pub keep_too_short : ℕ → Refusal
keep_too_short bytes = KeepTooShort None bytes

-- 14: too few bytes for the widest table (SPECIFICATION 12.6)
abbrev pub table_too_short : ℕ → Refusal
table_too_short bytes = TableTooShort None bytes

-- 15: too few entries of back or of line (SPECIFICATION 12.4)
abbrev pub queue_too_short : ℕ → Refusal
queue_too_short entries = QueueTooShort None entries

-- 16: a given table that is not laid out for these two texts (SPECIFICATION 11.1, 11.2)
abbrev pub other_table : Refusal
other_table = OtherTable None

-- 17: a left text whose start is not among its safe states (SPECIFICATION 8.3)
abbrev pub start_not_safe : ℕ → Refusal
start_not_safe start = StartNotSafe Left start

-- 18: a given table without the pair of starts (SPECIFICATION 11.5)
abbrev pub start_pair_not_set : ℕ → ℕ → Refusal
start_pair_not_set s t = StartPairNotSet None s t

-- 19: a pair in a given table that its s or its t alone rules out (SPECIFICATION 11.5)
abbrev pub pair_not_allowed : ℕ → ℕ → Refusal
pair_not_allowed s t = PairNotAllowed None s t

-- 20: a pair in a given table that fails the rules for a step; `width` is W (SPECIFICATION 11.5)
abbrev pub rule_broken : ℕ → Step → ℕ → ℕ → Refusal
rule_broken width step s t = RuleBroken None step (s * width + t)

-- 21: a departure that is longer than the run slice (SPECIFICATION 12.4)
abbrev pub run_too_short : ℕ → Refusal
run_too_short steps = RunTooShort None steps

-- 24: a tick length that is not allowed (SPECIFICATION 4.7)
abbrev pub tick_out_of_range : ℕ → Refusal
tick_out_of_range period = TickOutOfRange None period

-- 25: two texts whose joined text would pass a limit (SPECIFICATION 18.8)
abbrev pub limit_exceeded : Refusal
limit_exceeded = LimitExceeded None

-- 26: too few bytes for the joined text (SPECIFICATION 18.9)
abbrev pub out_too_short : ℕ → Refusal
out_too_short bytes = OutTooShort None bytes

abbrev pub code : Refusal → ℕ
code (TextTooLong _) = 1
code (Misfit _ _) = 2
code (NameTooLong _ _) = 3
code (DeclaredBefore _ _) = 4
code (UnknownName _ _) = 5
code (ConstantTooLarge _ _) = 6
code (TooManyItems _ _) = 7
code (OtherMark _ _) = 8
code (TooManyStates _ _) = 9
code (InputWithoutMove _ _ _) = 10
code (TwoEdges _ _ _) = 11
code (UnmatchedChannel _ _) = 12
code (KeepTooShort _ _) = 13
code (TableTooShort _ _) = 14
code (QueueTooShort _ _) = 15
code (OtherTable _) = 16
code (StartNotSafe _ _) = 17
code (StartPairNotSet _ _ _) = 18
code (PairNotAllowed _ _ _) = 19
code (RuleBroken _ _ _) = 20
code (RunTooShort _ _) = 21
code (OutputBesideTick _ _ _) = 22
code (NeitherPossible _ _) = 23
code (TickOutOfRange _ _) = 24
code (LimitExceeded _) = 25
code (OutTooShort _ _) = 26

abbrev pub file : Refusal → File
file (TextTooLong f) = f
file (Misfit f _) = f
file (NameTooLong f _) = f
file (DeclaredBefore f _) = f
file (UnknownName f _) = f
file (ConstantTooLarge f _) = f
file (TooManyItems f _) = f
file (OtherMark f _) = f
file (TooManyStates f _) = f
file (InputWithoutMove f _ _) = f
file (TwoEdges f _ _) = f
file (UnmatchedChannel f _) = f
file (KeepTooShort f _) = f
file (TableTooShort f _) = f
file (QueueTooShort f _) = f
file (OtherTable f) = f
file (StartNotSafe f _) = f
file (StartPairNotSet f _ _) = f
file (PairNotAllowed f _ _) = f
file (RuleBroken f _ _) = f
file (RunTooShort f _) = f
file (OutputBesideTick f _ _) = f
file (NeitherPossible f _) = f
file (TickOutOfRange f _) = f
file (LimitExceeded f) = f
file (OutTooShort f _) = f

abbrev pub p : Refusal → ℕ
p (TextTooLong _) = 0
p (Misfit _ place) = place
p (NameTooLong _ place) = place
p (DeclaredBefore _ place) = place
p (UnknownName _ place) = place
p (ConstantTooLarge _ place) = place
p (TooManyItems _ place) = place
p (OtherMark _ place) = place
p (TooManyStates _ states) = states
p (InputWithoutMove _ state _) = state
p (TwoEdges _ state _) = state
p (UnmatchedChannel _ channel) = channel
p (KeepTooShort _ bytes) = bytes
p (TableTooShort _ bytes) = bytes
p (QueueTooShort _ entries) = entries
p (OtherTable _) = 0
p (StartNotSafe _ start) = start
p (StartPairNotSet _ s _) = s
p (PairNotAllowed _ s _) = s
p (RuleBroken _ step _) = step.number
p (RunTooShort _ steps) = steps
p (OutputBesideTick _ state _) = state
p (NeitherPossible _ state) = state
p (TickOutOfRange _ period) = period
p (LimitExceeded _) = 0
p (OutTooShort _ bytes) = bytes

abbrev pub q : Refusal → ℕ
q (TextTooLong _) = 0
q (Misfit _ _) = 0
q (NameTooLong _ _) = 0
q (DeclaredBefore _ _) = 0
q (UnknownName _ _) = 0
q (ConstantTooLarge _ _) = 0
q (TooManyItems _ _) = 0
q (OtherMark _ _) = 0
q (TooManyStates _ _) = 0
q (InputWithoutMove _ _ channel) = channel
q (TwoEdges _ _ channel) = channel
q (UnmatchedChannel _ _) = 0
q (KeepTooShort _ _) = 0
q (TableTooShort _ _) = 0
q (QueueTooShort _ _) = 0
q (OtherTable _) = 0
q (StartNotSafe _ _) = 0
q (StartPairNotSet _ _ t) = t
q (PairNotAllowed _ _ t) = t
q (RuleBroken _ _ pair) = pair
q (RunTooShort _ _) = 0
q (OutputBesideTick _ _ channel) = channel
q (NeitherPossible _ _) = 0
q (TickOutOfRange _ _) = 0
q (LimitExceeded _) = 0
q (OutTooShort _ _) = 0

-- the same refusal with another file mark
abbrev pub in_file : File → Refusal → Refusal
in_file f (TextTooLong _) = TextTooLong f
in_file f (Misfit _ place) = Misfit f place
in_file f (NameTooLong _ place) = NameTooLong f place
in_file f (DeclaredBefore _ place) = DeclaredBefore f place
in_file f (UnknownName _ place) = UnknownName f place
in_file f (ConstantTooLarge _ place) = ConstantTooLarge f place
in_file f (TooManyItems _ place) = TooManyItems f place
in_file f (OtherMark _ place) = OtherMark f place
in_file f (TooManyStates _ states) = TooManyStates f states
in_file f (InputWithoutMove _ state channel) = InputWithoutMove f state channel
in_file f (TwoEdges _ state channel) = TwoEdges f state channel
in_file f (UnmatchedChannel _ channel) = UnmatchedChannel f channel
in_file f (KeepTooShort _ bytes) = KeepTooShort f bytes
in_file f (TableTooShort _ bytes) = TableTooShort f bytes
in_file f (QueueTooShort _ entries) = QueueTooShort f entries
in_file f (OtherTable _) = OtherTable f
in_file f (StartNotSafe _ start) = StartNotSafe f start
in_file f (StartPairNotSet _ s t) = StartPairNotSet f s t
in_file f (PairNotAllowed _ s t) = PairNotAllowed f s t
in_file f (RuleBroken _ step pair) = RuleBroken f step pair
in_file f (RunTooShort _ steps) = RunTooShort f steps
in_file f (OutputBesideTick _ state channel) = OutputBesideTick f state channel
in_file f (NeitherPossible _ state) = NeitherPossible f state
in_file f (TickOutOfRange _ period) = TickOutOfRange f period
in_file f (LimitExceeded _) = LimitExceeded f
in_file f (OutTooShort _ bytes) = OutTooShort f bytes
