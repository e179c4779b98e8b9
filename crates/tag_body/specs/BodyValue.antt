-- What a tag holds in every state (6.3.2.4 Tag states and slot counter).
use Rattle.std.specs.Prelude.{ℕ, ◌<◌, List, length}
use Rattle.lock_rules.specs.declared.locks.Locks.{Locks}
use Rattle.session_flags.specs.declared.flags.Flags.{Flags}
use Rattle.session_flags.specs.DrawList.{IsDrawList}
use Rattle.tag_memory.specs.Memory.{Banks, IsLegalMemory, AreBanksOfWords}

-- what every state holds: the four banks, the pairs of lock bits, the flags, the words that are drawn, and the place of
-- the next draw among them
pub record BodyValue : Type 0 where
  pub memory : Banks
  pub locks : Locks
  pub flags : Flags
  pub words : List ℕ
  pub next_draw : ℕ

-- the sizes of the banks are those that a tag's banks may have, the EPC that PC announces lies inside its bank, and each
-- word of the banks is one of 16 bits; there are 1 to 256 words of 16 bits to draw, and the place is that of one of them
pub record IsLegalBody (body : BodyValue) : Type 0 where
  pub memory : IsLegalMemory body.memory
  pub memory_words : AreBanksOfWords body.memory
  pub words : IsDrawList body.words
  pub next_draw : body.next_draw < length body.words
