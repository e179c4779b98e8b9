-- The room of the buffers of an air, and how long what stands in them is: the longest command has 4,162 bits and so a frame of
-- at most 8,331 intervals, and the longest reply 8,225 bits and so a stream of 131,968 levels (`longest_stream`).
use Rattle.std.specs.Prelude.{ℕ, ◌≤◌, List, All, length}
use Rattle.pie_line.specs.Pie.{longest_interval}

-- the room for the bits of each command and of each reply, and for the intervals of each frame
abbrev pub room_for_frames : ℕ
room_for_frames = 8400

-- how many intervals the longest frame has
abbrev pub longest_frame : ℕ
longest_frame = 8331

-- the room that an air has for the stream of each reply, in levels
abbrev pub room_for_streams : ℕ
room_for_streams = 132208

-- no frame of a command has more intervals or longer ones
pub record IsShortFrame (frame : List ℕ) : Type 0 where
  pub each : All (λ interval. interval ≤ longest_interval) frame
  pub count : length frame ≤ longest_frame
