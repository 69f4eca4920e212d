use Rattle.writer_names.proofs.+is_called.Given as goal

abbrev pub decreases-is_called : goal.decreases-is_called
decreases-is_called l = l.i
