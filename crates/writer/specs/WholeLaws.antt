-- The parts are those of the text.
use Rattle.std.specs.Prelude.{◌≡◌, List, [], ◌∷◌, ◌++◌, ℕ}
use Rattle.std.proofs.Common.{append_assoc}
use Rattle.reader_tokens.specs.Scan.{bytes}
use Rattle.reader_record.specs.declared.Text.{Text}
use Rattle.written.specs.Written.{text_tokens}
use Rattle.writer.specs.Whole.{process_part, init_part, end_part, text_but_last}

pub but_last :
    (names : List (List ℕ)) (u : ℕ) (t : Text)
    → text_but_last names u t ++ (bytes ";" ∷ []) ≡ text_tokens names u t
unfolding text_but_last text_tokens process_part init_part end_part
but_last names u t = simp append_assoc
