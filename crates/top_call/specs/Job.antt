-- Profile: what a word of the command line does, as one value.
use Rattle.std.specs.Prelude.{◌≡◌, ℕ, Bool, false, List, ◌⊎◌}

-- what a word does with the bytes of its input
pub record Job : Type 1 where
  -- the input is read to its end; else nothing is read
  pub input : Bool
  -- the word's grammar allows the bytes of an input
  pub allows : List ℕ → Type 0
  -- the text is what the word has to write for bytes that its grammar allows
  pub writes : List ℕ → List ℕ → Type 0
  -- the text is the fault line of bytes that the word's grammar refuses
  pub refuses : List ℕ → List ℕ → Type 0
  -- what the word proves of what it writes for these bytes
  pub promises : List ℕ → List ℕ → Type 0

-- the defined text of the bytes: their fault line where the grammar refuses them, else what the word has to write
abbrev pub Defines : Job → List ℕ → List ℕ → Type 0
Defines job bytes text = job.writes bytes text ⊎ job.refuses bytes text

-- What holds of each word.
pub record IsLawful (job : Job) : Type 0 where
  -- bytes have one text at most that the word has to write for them, and one fault line
  pub one_text : (bytes one other : List ℕ) → job.writes bytes one → job.writes bytes other → one ≡ other
  pub one_fault_line : (bytes one other : List ℕ) → job.refuses bytes one → job.refuses bytes other → one ≡ other
  -- a text is written for bytes alone that the grammar allows, and these have no fault line
  pub allowed : (bytes text : List ℕ) → job.writes bytes text → job.allows bytes
  pub not_refused : (bytes text : List ℕ) → job.allows bytes → job.refuses bytes text → ⊥
  -- where nothing is read, nothing has a fault line
  pub unread : job.input ≡ false → (bytes text : List ℕ) → job.refuses bytes text → ⊥
  -- what the word has to write keeps its promises
  pub kept : (bytes text : List ℕ) → job.writes bytes text → job.promises bytes text
