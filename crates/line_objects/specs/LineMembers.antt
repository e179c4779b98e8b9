-- Profile: which members a line has behind its first field, by the words in it: tables of words, each with the members that stand behind it.
use Rattle.std.specs.Prelude.{ℕ, List, [], ◌∷◌, codes, bytes_eq, if◌then◌else◌}
use Rattle.line_objects.specs.declared.member_names.Key.{Key}
use Rattle.line_objects.specs.declared.member_names.Key.TheVariants.{Action, Bank, Bits, Code, Command, Count, Cover, Covered, Dr, End, Epc, EpcBank, EpcWords, Error, Exchange, Flags, Given, Half, Handle, Index, Levels, Line, Locks, Mask, Or, OrPreamble, Payload, Pc, Place, Pointer, Preamble, Ptr, Q, Reason, Refused, Reply, Reserved, Result, Rn, Rn16, Round, RtCal, Sel, Session, Slot, Slots, State, StateOf, Tag, TagNumber, Target, Tari, Tid, TrCal, TrExt, UpDn, Uri, User, Value, Wanted, Words}
use Rattle.line_objects.specs.declared.line_members.LineSet.{LineSet}
use Rattle.line_objects.specs.declared.line_members.LineSet.TheVariants as sets
use Rattle.line_objects.specs.declared.line_members.Row.{Row}

-- a row of a table of lines: a word, and the members that stand behind it
abbrev pub RowValue : Type 0
RowValue = List ℕ × List Key

abbrev pub row_of : Row → RowValue
row_of row = (row.0.now, row.1.now)

-- the table of the replies of a tag: the word of each, and the members behind it
abbrev pub reply_rows : List RowValue
reply_rows =
    (codes "rn16", Rn16 ∷ [])
    ∷ (codes "epc", Pc ∷ Epc ∷ [])
    ∷ (codes "handle", Handle ∷ [])
    ∷ (codes "words", Words ∷ [])
    ∷ (codes "header", [])
    ∷ (codes "error", Error ∷ [])
    ∷ []

-- the table of the commands (6.3.2.11): the word of each, and the members behind it
abbrev pub command_rows : List RowValue
command_rows =
    (codes "queryrep", Session ∷ [])
    ∷ (codes "ack", Rn ∷ [])
    ∷ (codes "query", Dr ∷ Code ∷ TrExt ∷ Sel ∷ Session ∷ Target ∷ Q ∷ [])
    ∷ (codes "queryadjust", Session ∷ UpDn ∷ [])
    ∷ (codes "select", Target ∷ Action ∷ Bank ∷ Pointer ∷ Mask ∷ [])
    ∷ (codes "nak", [])
    ∷ (codes "req_rn", Rn ∷ [])
    ∷ (codes "read", Bank ∷ Ptr ∷ Count ∷ Rn ∷ [])
    ∷ (codes "write", Bank ∷ Ptr ∷ Covered ∷ Rn ∷ [])
    ∷ (codes "kill", Covered ∷ Rn ∷ [])
    ∷ (codes "lock", Payload ∷ Rn ∷ [])
    ∷ (codes "access", Covered ∷ Rn ∷ [])
    ∷ (codes "blockwrite", Bank ∷ Ptr ∷ Words ∷ Rn ∷ [])
    ∷ (codes "blockerase", Bank ∷ Ptr ∷ Count ∷ Rn ∷ [])
    ∷ []

-- the table of the states of a tag (6.3.2.4): the word of each, and the flags and the numbers behind it
abbrev pub state_rows : List RowValue
state_rows =
    (codes "ready", Flags ∷ [])
    ∷ (codes "arbitrate", Flags ∷ Session ∷ Q ∷ Slot ∷ [])
    ∷ (codes "reply", Flags ∷ Session ∷ Q ∷ Rn ∷ [])
    ∷ (codes "acknowledged", Flags ∷ Session ∷ Q ∷ Rn ∷ [])
    ∷ (codes "open", Flags ∷ Session ∷ Q ∷ Handle ∷ Cover ∷ Half ∷ [])
    ∷ (codes "secured", Flags ∷ Session ∷ Q ∷ Handle ∷ Cover ∷ Half ∷ [])
    ∷ (codes "killed", Flags ∷ [])
    ∷ (codes "off", Flags ∷ [])
    ∷ []

-- the table of what a channel gives of the replies in an exchange: its word, and the members behind it
abbrev pub given_rows : List RowValue
given_rows =
    (codes "silence", [])
    ∷ (codes "whole", Tag ∷ [])
    ∷ (codes "broken", Tag ∷ Place ∷ [])
    ∷ (codes "raw", [])
    ∷ []

-- the table of the lines that answer decode lines, but for those of replies and of commands
abbrev pub answer_rows : List RowValue
answer_rows =
    (codes "bits", Bits ∷ [])
    ∷ (codes "invalid", Place ∷ [])
    ∷ (codes "unfinished", Place ∷ [])
    ∷ (codes "levels", Levels ∷ [])
    ∷ (codes "mixed", Place ∷ [])
    ∷ (codes "rest", Place ∷ [])
    ∷ (codes "sync", Tari ∷ RtCal ∷ Bits ∷ [])
    ∷ (codes "preamble", Tari ∷ RtCal ∷ TrCal ∷ Bits ∷ [])
    ∷ (codes "refused", Refused ∷ [])
    ∷ (codes "short", Count ∷ [])
    ∷ (codes "name", Uri ∷ [])
    ∷ (codes "sgtin", EpcWords ∷ [])
    ∷ []

-- the table of the lines that `probe` writes of a tag at the bench
abbrev pub probe_rows : List RowValue
probe_rows =
    (codes "answer", Line ∷ Preamble ∷ Reply ∷ [])
    ∷ (codes "state", Line ∷ StateOf ∷ [])
    ∷ (codes "tag", TagNumber ∷ State ∷ Flags ∷ Locks ∷ Reserved ∷ EpcBank ∷ Tid ∷ User ∷ [])
    ∷ (codes "done", [])
    ∷ []

-- the table of the lines that `audit` writes: whether a trace is audited
abbrev pub audit_rows : List RowValue
audit_rows =
    (codes "yes", [])
    ∷ (codes "no", Line ∷ Reason ∷ [])
    ∷ []

-- the table of the lines that `judge` writes: what is judged of the log of one tag
abbrev pub judge_rows : List RowValue
judge_rows =
    (codes "yes", [])
    ∷ (codes "profile", Line ∷ Wanted ∷ Reply ∷ [])
    ∷ (codes "no", Line ∷ Wanted ∷ Reply ∷ [])
    ∷ []

-- the table of what may stand in a line of `judge` behind the hyphen that says that nothing had to be answered
abbrev pub want_rows : List RowValue
want_rows = (codes "-", Or ∷ OrPreamble ∷ Reply ∷ []) ∷ []

-- the table of the lines of a report that says who said what in each exchange
abbrev pub report_rows : List RowValue
report_rows =
    (codes "exchange", Exchange ∷ Command ∷ [])
    ∷ (codes "missed", Exchange ∷ Tag ∷ [])
    ∷ (codes "answer", Exchange ∷ Tag ∷ Preamble ∷ Reply ∷ [])
    ∷ (codes "given", Exchange ∷ Given ∷ [])
    ∷ (codes "list", Round ∷ Slot ∷ Pc ∷ Epc ∷ [])
    ∷ (codes "op", Round ∷ Slot ∷ Index ∷ Result ∷ Value ∷ [])
    ∷ (codes "round", Round ∷ End ∷ Slots ∷ [])
    ∷ (codes "seen", Count ∷ Pc ∷ Epc ∷ [])
    ∷ (codes "tag", TagNumber ∷ State ∷ Flags ∷ Locks ∷ Reserved ∷ EpcBank ∷ Tid ∷ User ∷ [])
    ∷ (codes "done", [])
    ∷ []

-- the members behind a word, by a table, and where that has no such word, by the table of others
abbrev pub keys_in : List RowValue → List ℕ → List Key → List Key
keys_in [] word others = others
keys_in (row ∷ rows) word others = if bytes_eq word row.0 then row.1 else keys_in rows word others

-- the members of a line's object behind its first field, by the word in that field and the set that the line is of
abbrev pub line_keys : LineSet → List ℕ → List Key
line_keys sets.Decode word = keys_in answer_rows word (keys_in reply_rows word (keys_in command_rows word []))
line_keys sets.Probe word = keys_in probe_rows word []
line_keys sets.Audit word = keys_in audit_rows word []
line_keys sets.Judge word = keys_in judge_rows word []
line_keys sets.Exchanges word = keys_in report_rows word []

-- The members behind a field: a command, a reply, a state, and what a channel gives, say by their words what stands behind them. Behind nothing
-- that had to be answered another answer may stand that could have come. A place may stand behind a reason, and a reason behind a place.
abbrev pub keys_behind : Key → List ℕ → List Key → List Key
keys_behind Command word others = keys_in command_rows word []
keys_behind Reply word others = keys_in reply_rows word []
keys_behind StateOf word others = keys_in state_rows word []
keys_behind Given word others = keys_in given_rows word []
keys_behind Wanted word others = keys_in want_rows word others
keys_behind Refused word others = Refused ∷ []
keys_behind key word others = others
