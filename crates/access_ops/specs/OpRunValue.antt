-- What a run of operations that keeps no answers does next (profile).
use Rattle.std.specs.Prelude.{◌≡◌, ℕ, ◌+◌, ◌*◌, ◌-◌, bit_xor, Bool, true, false, List, [], ◌∷◌, length, drop, Option, Some, None}
use Rattle.command_grammar.specs.declared.commands.Command.{Command}
use Rattle.command_grammar.specs.declared.commands.Command.TheVariants as commands
use Rattle.reply_grammar.specs.declared.expected.Expect.{Expect}
use Rattle.reply_grammar.specs.declared.expected.Expect.TheVariants as expects
use Rattle.reply_grammar.specs.declared.expected.Reply.{Reply}
use Rattle.reply_grammar.specs.declared.expected.Reply.TheVariants as replies
use Rattle.access_ops.specs.declared.OpList.{OpList}
use Rattle.access_ops.specs.declared.op_next.Answer.{Answer}
use Rattle.access_ops.specs.declared.op_next.OpNext.{OpNext}
use Rattle.access_ops.specs.declared.op_next.OpNext.TheVariants as nexts
use Rattle.access_ops.specs.declared.op_next.OpResult.{OpResult}
use Rattle.access_ops.specs.declared.op_next.OpResult.TheVariants as results
use Rattle.access_ops.specs.declared.stage.Covered.{Covered}
use Rattle.access_ops.specs.declared.stage.Covered.TheVariants.{Word, Upper, Lower}
use Rattle.access_ops.specs.declared.stage.Purpose.{Purpose}
use Rattle.access_ops.specs.declared.stage.Purpose.TheVariants.{Handle, Cover, Same}
use Rattle.access_ops.specs.declared.stage.Password.{Password}
use Rattle.access_ops.specs.declared.stage.Password.TheVariants.{Access, Kill}
use Rattle.access_ops.specs.declared.stage.Stage.{Stage}
use Rattle.access_ops.specs.declared.stage.Stage.TheVariants.{Open, Deny, Begin, Number, Last, Done}
use Rattle.access_ops.specs.Operations.{Dialogue, sends, tells, done, behind_reception, behind_last, last_command, behind_number, upper_half, lower_half, send_lower, operations, denials, operations_from_rn16, first_of, Move, answered, told, reception_in, dialogue_behind, dialogue_after, next_operation, IsMoveFor, AreMoves}

-- what a contract sees of a run of operations
pub record OpRunValue : Type 0 where
  pub rn : ℕ
  pub begun : ℕ
  pub stage : Stage

-- the command that shows a half of a password
abbrev pub half_command : Password → ℕ → ℕ → Command
half_command (Access value) handle half = commands.Access half handle
half_command (Kill value) handle half = commands.Kill half handle

-- the password itself, 32 bits, whichever of the two it is
abbrev pub password_value : Password → ℕ
password_value (Access value) = value
password_value (Kill value) = value

-- the reply to the lower half, and its preamble
abbrev pub lower_expected : Password → ℕ → Expect
lower_expected (Access value) handle = expects.Same handle
lower_expected (Kill value) handle = expects.Header handle

abbrev pub lower_extended : Password → Bool
lower_extended (Access value) = false
lower_extended (Kill value) = true

-- what is done behind the reply to the upper half
abbrev pub behind_upper : Password → ℕ → Dialogue → Dialogue
behind_upper password handle later = send_lower (half_command password handle) (lower_expected password handle) (lower_extended password) (password_value password) handle later

-- what is done with a cover
abbrev pub behind_cover : Covered → ℕ → Dialogue → ℕ → Dialogue
behind_cover (Word bank pointer word) handle later cover =
    last_command (commands.Write bank pointer (bit_xor word cover) handle) (expects.Header handle) true later
behind_cover (Upper password) handle later cover =
    sends (half_command password handle (bit_xor (upper_half (password_value password)) cover)) (expects.Same handle) false
    (behind_reception (behind_number (λ same. behind_upper password handle later)))
behind_cover (Lower password) handle later cover =
    last_command (half_command password handle (bit_xor (lower_half (password_value password)) cover)) (lower_expected password handle) (lower_extended password) later

-- the operations that have not begun
abbrev pub later_of : OpList → OpRunValue → Dialogue
later_of list run = operations (drop run.begun list.ops) run.rn

-- what is done with a number
abbrev pub behind_purpose : Purpose → OpList → OpRunValue → ℕ → Dialogue
behind_purpose Handle list run number = operations (drop run.begun list.ops) number
behind_purpose (Cover covered) list run number = behind_cover covered run.rn (later_of list run) number
behind_purpose (Same password) list run number = behind_upper password run.rn (later_of list run)

-- where no answer was given, it is taken for silence
abbrev pub behind_heard : (Reply → Dialogue) → Option Answer → Dialogue
behind_heard go_on None = tells results.Silent done
behind_heard go_on (Some answer) = behind_reception go_on (reception_in answer)

-- what a run with this stage does, given this answer
abbrev pub dialogue_at : Stage → OpList → OpRunValue → Option Answer → Dialogue
dialogue_at Open list run answer = operations_from_rn16 (drop run.begun list.ops) run.rn
dialogue_at Deny list run answer = denials (drop run.begun list.ops)
dialogue_at Begin list run answer = later_of list run
dialogue_at (Number purpose) list run answer = behind_heard (behind_number (behind_purpose purpose list run)) answer
dialogue_at Last list run answer = behind_heard (behind_last (later_of list run)) answer
dialogue_at Done list run answer = done

-- what is done from here on, where the run was given this answer
abbrev pub dialogue_with : OpList → OpRunValue → Option Answer → Dialogue
dialogue_with list run answer = dialogue_at run.stage list run answer

-- the result that the reply to a last command is
abbrev pub result_in_reply : Reply → OpResult
result_in_reply (replies.Error code) = results.TagError code
result_in_reply (replies.Words words) = results.Ok words
result_in_reply reply = results.Ok []

-- the answer that a run is given: none at first, and behind a result and the end
abbrev pub answer_in : Move → Option Answer
answer_in (answered answer) = Some answer
answer_in told = None

-- the answer of the latest move, which stands first
abbrev pub last_answer : List Move → Option Answer
last_answer [] = None
last_answer (move ∷ moves) = answer_in move

-- This is what is done first, and the run does what is left.
pub record Does (said : OpNext) (run : OpRunValue) (list : OpList) (dialogue : Dialogue) : Type 0 where
  pub first : said ≡ first_of dialogue
  pub rest : (move : Move) → IsMoveFor said move → dialogue_behind move dialogue ≡ dialogue_with list run (answer_in move)

-- the run does these operations with the tag of this EPC and RN16, and has come behind these moves
pub record OpRunStandsFor (run : OpRunValue) (list : OpList) (epc : List ℕ) (rn : ℕ) (moves : List Move) : Type 0 where
  pub moves_are : AreMoves list epc rn moves
  pub dialogue : dialogue_after list epc rn moves ≡ dialogue_with list run (last_answer moves)

-- this comes next, and behind each move that may follow it the run has come one move further
pub record IsNextOperation (said : OpNext) (run : OpRunValue) (list : OpList) (epc : List ℕ) (rn : ℕ) (moves : List Move) : Type 0 where
  pub next : said ≡ next_operation list epc rn moves
  pub stands : (move : Move) → IsMoveFor said move → OpRunStandsFor run list epc rn (move ∷ moves)

-- how many commands and results are left at most of an operation
abbrev pub turns_at : Stage → ℕ
turns_at Open = 2
turns_at Deny = 0
turns_at Begin = 0
turns_at (Number Handle) = 1
turns_at (Number (Cover (Word bank pointer word))) = 2
turns_at (Number (Cover (Upper password))) = 4
turns_at (Number (Same password)) = 3
turns_at (Number (Cover (Lower password))) = 2
turns_at Last = 1
turns_at Done = 0

-- how many commands and results are left at most of a run: an operation has five
abbrev pub turns_left : OpList → OpRunValue → ℕ
turns_left list run = turns_at run.stage + 5 * (length list.ops - run.begun)

-- how many commands and results this is
abbrev pub turns_in : OpNext → ℕ
turns_in (nexts.Send command expect extended) = 1
turns_in (nexts.Result result) = 1
turns_in nexts.End = 0
