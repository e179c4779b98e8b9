-- 6.3.2.11.3 Access commands: what a tag answers where its memory or locks are read or are to change.
use Rattle.std.specs.Prelude.{ℕ, ◌≤◌, nat_lt, Bool, List, length, Result, Ok, Err}
use Rattle.lock_rules.specs.declared.fields_and_levels.ErrorCode.{ErrorCode}
use Rattle.lock_rules.specs.ErrorCodes.{error_number}
use Rattle.reply_grammar.specs.declared.expected.Reply.{Reply}
use Rattle.reply_grammar.specs.declared.expected.Reply.TheVariants.{Rn16, Epc, Handle, Words, Header, Error}
use Rattle.tag_body.specs.BodyValue.{BodyValue}

-- 6.3.2.11.3.2 Read: the words, or an error
abbrev pub read_answer : Result (List ℕ) ErrorCode → Reply
read_answer (Ok words) = Words words
read_answer (Err code) = Error (error_number code)

-- a reply to a Read brings 1 to 512 words
abbrev pub HasFewWords : Reply → Type 0
HasFewWords (Rn16 rn) = Unit {0}
HasFewWords (Epc pc epc) = Unit {0}
HasFewWords (Handle rn) = Unit {0}
HasFewWords (Words words) = (1 ≤ length words) × (length words ≤ 512)
HasFewWords Header = Unit {0}
HasFewWords (Error code) = Unit {0}

-- What is asked to change is changed, and the answer is the header; or it is refused, and the answer is an error.
abbrev pub change_answer : {T : Type 0} → Result T ErrorCode → Reply
change_answer (Ok new) = Header
change_answer (Err code) = Error (error_number code)

-- what stands afterwards: the new, or where the change was refused the old
abbrev pub changed_or : {T : Type 0} → T → Result T ErrorCode → T
changed_or old (Ok new) = new
changed_or old (Err code) = old

-- whether the tag has user memory, which its locks go by
abbrev pub has_user : BodyValue → Bool
has_user body = nat_lt 0 (length body.memory.user)
