-- `word_kind` is `word_kind`: no word is shorter than four bytes, and the row and the lengths are those of the words.
use mathlib.Core.Path.{refl}
use mathlib.Core.List.{flatten}
use Rattle.reader_tokens.specs.Tokens.{words}
use Rattle.reader_tokens.proofs.Words.{short_is_name}
use Rattle.reader_tokens.proofs.word_kind.Goals as goal

pub returns-then-n-lt-SHORTEST_WORD : goal.returns-then-n-lt-SHORTEST_WORD
returns-then-n-lt-SHORTEST_WORD c = short_is_name _ c.if-n-lt-SHORTEST_WORD.true _

pub word_among-requires : goal.word_among-requires
unfolding words flatten
word_among-requires c = (refl, refl)

pub returns : goal.returns
returns c = c.word_among.ensures
