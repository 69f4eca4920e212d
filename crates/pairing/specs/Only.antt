-- Channels pair up by what the texts say of their channels alone: the code compares these, and no whole texts.
use Rattle.std.specs.Prelude.{[]}
use Rattle.reader_record.specs.declared.Text.{Text}
use Rattle.pairing.specs.declared.Channels.{Channels}

-- the channels of a text
abbrev pub channels_of : Text → Channels
channels_of t = record { list = t.channels; count = t.channel_count }

-- a text that has these channels and nothing else
abbrev pub only : Channels → Text
only k = record {
  channels = k.list;
  channel_count = k.count;
  clocks = [];
  clock_count = 0;
  locations = [];
  location_count = 0;
  init = 0;
  edges = [];
  edge_count = 0;
}
