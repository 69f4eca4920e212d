-- The words of the demands over the bytes of texts: the systems that texts mean, and the numbers of their states
-- (SPECIFICATION 6.5, 6.6, 7.4, 9.1, 9.2). Definitions only. What is asked of two systems is defined in crate demands.
use Rattle.std.specs.Prelude.{◌≡◌, List, ℕ, Ok}
use Rattle.refusals.specs.Answers.{answer_of}
use Rattle.systems.specs.Definitions.{System}
use Rattle.systems.specs.Renumbered.{renumbered_system}
use Rattle.clocks.specs.States.{ranges, state}
use Rattle.clocks.proofs.Contract.{signature, uncapped}
use Rattle.clocks_read.specs.Reading.{read_outcome, states_in}
use Rattle.clocks_read.specs.Laws.{read_accepted}
use Rattle.pairing.specs.Channels as channels
use Rattle.two_texts.specs.Two.{text_of, step_of}

-- at one tick length, `period` (SPECIFICATION 4.7)
module _ (period : ℕ) where
  -- an accepted text: reading gives no refusal (SPECIFICATION 7.4)
  abbrev pub AcceptedText : List ℕ → Type 0
  AcceptedText s = answer_of (read_outcome period s) ≡ Ok tt

  -- the number of its states, as reading returns it (SPECIFICATION 12.1)
  abbrev pub states : List ℕ → ℕ
  states s = states_in (read_outcome period s)

  -- its system, clocks uncapped: this is what it means (SPECIFICATION 6.6)
  abbrev pub meaning : (s : List ℕ) → AcceptedText s → System (signature (text_of period s))
  meaning s a = uncapped (text_of period s) (read_accepted period s a).accepted.formed

  -- the state number of a configuration, that is of a location and values of the clocks (SPECIFICATION 6.5)
  abbrev pub number : (s : List ℕ) (a : AcceptedText s) → (meaning s a).State → ℕ
  unfolding uncapped
  number s a x = state (ranges (text_of period s)) x

  -- the right's system, its steps by the left's numbers (SPECIFICATION 9.2)
  abbrev pub right_meaning : (left right : List ℕ) → AcceptedText right → System (signature (text_of period left))
  right_meaning left right b = renumbered_system (step_of period left right) (meaning right b)

  abbrev pub right_number : (left right : List ℕ) (b : AcceptedText right) → (right_meaning left right b).State → ℕ
  unfolding uncapped renumbered_system
  right_number left right b y = state (ranges (text_of period right)) y

  -- two texts with equal channels (SPECIFICATION 9.1)
  abbrev pub EqualChannels : List ℕ → List ℕ → Type 0
  EqualChannels left right = channels.EqualChannels left (text_of period left) right (text_of period right)
