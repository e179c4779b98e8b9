-- Profile: what a call of the program from C says of the room that it was lent.
use Rattle.std.specs.Prelude.{◌≡◌, ℕ, ◌<◌, List, [], ◌++◌, length, take, Contains, if◌then◌else◌}
use Rattle.std.specs.Str.{IsUtf8}
use Rattle.text_fields.specs.Lines.{fields_of}
use Rattle.top_call.specs.Job.{Job}

-- the bytes written, for how many bytes there is room, of which one more is taken, and how many writes failed
pub record RoomValue : Type 0 where
  pub written : List ℕ
  pub room : ℕ
  pub faults : ℕ

-- a word of the text isn't UTF-8
abbrev pub HasUnreadableWord : List ℕ → Type 0
HasUnreadableWord text = (word : List ℕ) × Contains (fields_of text) word × (IsUtf8 word → ⊥)

-- what a word of the program reads of an input: all of it, or nothing
abbrev pub input_of : Job → List ℕ → List ℕ
input_of job input = if job.input then input else []

-- the bytes are a front of a text that T names
pub record IsFrontOfText (T : List ℕ → Type 0) (front : List ℕ) : Type 0 where
  pub rest : List ℕ
  pub named : T (front ++ rest)

-- a text that T names was written whole: so many bytes at the front of the room
pub record Gives (T : List ℕ → Type 0) (room : List ℕ) (count : ℕ) : Type 0 where
  pub text : List ℕ
  pub named : T text
  pub counted : count ≡ length text
  pub is : take count room ≡ text

-- a front of a text that T names was written
pub record GivesFront (T : List ℕ → Type 0) (room : List ℕ) (count : ℕ) : Type 0 where
  pub front : List ℕ
  pub rest : List ℕ
  pub named : T (front ++ rest)
  pub counted : count ≡ length front
  pub is : take count room ≡ front

-- the room is full of the front of a text that T names, and the text goes on
pub record Overflows (T : List ℕ → Type 0) (room : List ℕ) (count : ℕ) : Type 0 where
  pub rest : List ℕ
  pub named : T (room ++ rest)
  pub counted : count ≡ length room
  pub longer : 0 < length rest
