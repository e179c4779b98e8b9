-- What holds of every run of operations, in terms of what comes next (profile).
use Rattle.std.specs.Prelude.{◌≡◌, ℕ, ◌+◌, ◌^◌, ◌<◌, ◌≤◌, ◌⊎◌, Bool, true, false, List, [], ◌∷◌, length}
use Rattle.std.specs.List.{AllByRecursion}
use Rattle.command_grammar.specs.Commands.{IsWord}
use Rattle.command_grammar.specs.declared.commands.Command.{Command}
use Rattle.command_grammar.specs.declared.commands.Command.TheVariants as commands
use Rattle.reply_grammar.specs.declared.expected.Expect.{Expect}
use Rattle.reply_grammar.specs.declared.expected.Expect.TheVariants as expects
use Rattle.access_ops.specs.declared.Op.{Op}
use Rattle.access_ops.specs.declared.Op.TheVariants.{Read, Write, BlockWrite, BlockErase, Lock, Access, Kill}
use Rattle.access_ops.specs.declared.OpList.{OpList}
use Rattle.access_ops.specs.declared.op_next.OpNext.{OpNext}
use Rattle.access_ops.specs.declared.op_next.OpNext.TheVariants.{Send, Result, End}
use Rattle.access_ops.specs.declared.op_next.OpResult.{OpResult}
use Rattle.access_ops.specs.declared.op_next.OpResult.TheVariants as results
use Rattle.access_ops.specs.Operations.{Move, words_expected, next_operation}

-- how many commands the next thing is that a run of operations does
abbrev pub commands_in : OpNext → ℕ
commands_in (Send command expect extended) = 1
commands_in (Result result) = 0
commands_in End = 0

-- how many results the next thing is that a run of operations does
abbrev pub results_in : OpNext → ℕ
results_in (Send command expect extended) = 0
results_in (Result result) = 1
results_in End = 0

-- how many commands came before the last of these moves
abbrev pub commands_sent : OpList → List ℕ → ℕ → List Move → ℕ
commands_sent list epc rn [] = 0
commands_sent list epc rn (move ∷ moves) = commands_sent list epc rn moves + commands_in (next_operation list epc rn moves)

-- how many results of operations were told before the last of these moves
abbrev pub results_told : OpList → List ℕ → ℕ → List Move → ℕ
results_told list epc rn [] = 0
results_told list epc rn (move ∷ moves) = results_told list epc rn moves + results_in (next_operation list epc rn moves)

-- no result follows this one
abbrev pub EndsRun : OpResult → Type 0
EndsRun (results.Ok words) = ⊥
EndsRun (results.TagError code) = ⊥
EndsRun results.Silent = Unit {0}
EndsRun results.Broken = Unit {0}
EndsRun results.Denied = ⊥

-- 6.3.2.11.3 Access commands: the command is one of this operation. A Req_RN asks for the handle or for a cover.
abbrev pub Serves : Command → Op → Type 0
Serves (commands.ReqRn rn) op = Unit {0}
Serves (commands.Read bank pointer count rn) (Read own_bank own_pointer own_count) = (bank ≡ own_bank) × (pointer ≡ own_pointer) × (count ≡ own_count)
Serves (commands.Write bank pointer covered rn) (Write own_bank own_pointer word) = (bank ≡ own_bank) × (pointer ≡ own_pointer)
Serves (commands.BlockWrite bank pointer words rn) (BlockWrite own_bank own_pointer own_words) = (bank ≡ own_bank) × (pointer ≡ own_pointer) × (words ≡ own_words)
Serves (commands.BlockErase bank pointer count rn) (BlockErase own_bank own_pointer own_count) = (bank ≡ own_bank) × (pointer ≡ own_pointer) × (count ≡ own_count)
Serves (commands.Lock payload rn) (Lock own_payload) = payload ≡ own_payload
Serves (commands.Access covered rn) (Access password) = Unit {0}
Serves (commands.Kill covered rn) (Kill password) = Unit {0}
Serves command op = ⊥

-- 6.3.2.11.3 Access commands: what is expected in reply to a command, and whether that comes with the extended preamble. A
-- Kill is answered as a first half or as a second one.
abbrev pub Expects : Command → Expect → Bool → Type 0
Expects (commands.ReqRn rn) expect extended = (expect ≡ expects.Handle) × (extended ≡ false)
Expects (commands.Read bank pointer count rn) expect extended = (expect ≡ words_expected count rn) × (extended ≡ false)
Expects (commands.Write bank pointer covered rn) expect extended = (expect ≡ expects.Header rn) × (extended ≡ true)
Expects (commands.BlockWrite bank pointer words rn) expect extended = (expect ≡ expects.Header rn) × (extended ≡ true)
Expects (commands.BlockErase bank pointer count rn) expect extended = (expect ≡ expects.Header rn) × (extended ≡ true)
Expects (commands.Lock payload rn) expect extended = (expect ≡ expects.Header rn) × (extended ≡ true)
Expects (commands.Access covered rn) expect extended = (expect ≡ expects.Same rn) × (extended ≡ false)
Expects (commands.Kill covered rn) expect extended = ((expect ≡ expects.Same rn) × (extended ≡ false)) ⊎ ((expect ≡ expects.Header rn) × (extended ≡ true))
Expects command expect extended = ⊥

-- 6.3.2.11.3 Access commands: the numbers of an operation are within the fields of its command; a pointer is one that an
-- extensible bit vector of four blocks holds
abbrev pub IsLegalOp : Op → Type 0
IsLegalOp (Read bank pointer count) = (pointer < 2 ^ 28) × (count ≤ 255)
IsLegalOp (Write bank pointer word) = (pointer < 2 ^ 28) × IsWord word
IsLegalOp (BlockWrite bank pointer words) = (pointer < 2 ^ 28) × (1 ≤ length words) × (length words ≤ 255) × AllByRecursion IsWord words
IsLegalOp (BlockErase bank pointer count) = (pointer < 2 ^ 28) × (1 ≤ count) × (count ≤ 255)
IsLegalOp (Lock payload) = payload < 2 ^ 20
IsLegalOp (Access password) = password < 2 ^ 32
IsLegalOp (Kill password) = password < 2 ^ 32
