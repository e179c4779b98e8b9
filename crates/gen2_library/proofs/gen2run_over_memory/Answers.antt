use Rattle.std.proofs.Common.{◌≡◌, ◌⊎◌, ◌≤◌, ◌<◌, ℕ, List, Option, Some, true, length, sym, ◌∙◌, ap, subst, inl, inr, arith}
use Rattle.gen2_library.proofs.InRoom.{Call, Leaves, Says, kept, whole, no-room, no-memory, no-count, ends-so, longer-ends, behind, status-is, number-below, number-not-1}
use Rattle.gen2_library.proofs.Over.{over-limit}
use Rattle.gen2_library.proofs.Readable.{readable, read}
use Rattle.gen2_library.specs.LentRoom.{input_of}
use Rattle.text_fields.specs.Lines.{fields_of}
use Rattle.top_call.specs.Form.{SpellForm, texts}
use Rattle.top_call.specs.Job.{Defines}
use Rattle.top_call.specs.Jobs.{job_of}
use Rattle.top_call.specs.StatusMeanings.{input_limit, SpeaksOfNoInput}
use Rattle.top_call.specs.StatusNumber.{status_number}
use Rattle.top_call.specs.declared.forms.Form.{Form}
use Rattle.top_call.specs.declared.forms.Form.TheVariants.{Run, Gen}
use Rattle.top_call.specs.declared.status.Status.{Status}
use Rattle.top_call.specs.declared.status.Status.TheVariants.{Done, BadWords, BadInput, ReadFault, WriteFault, TooLong, OutOfMemory}
use Rattle.top_call.specs.words.Generate.{CountsEveryTag}
use Rattle.top_call.specs.words.Run.{SaysHeadline, SaysInventory}
use Rattle.gen2_library.proofs.gen2run_over_memory.Goals as goal

abbrev call_of : goal.After-drop-words-2 → Call
call_of c = record {
  written = c.run_over-status.new.sink.written;
  status = c.run_over-status.result;
  old = c.args.output.now;
  new = c.copy_to.new.output;
  count = c.copy_to.result;
  result = c.status_behind.result;
}

leaves : (c : goal.After-drop-words-2) → Leaves (call_of c)
leaves c = record {
  count_is = c.copy_to.ensures.count;
  bytes = c.copy_to.ensures.bytes;
  longer = c.status_behind.ensures.longer;
  no_memory = c.status_behind.ensures.no_memory;
  same = c.status_behind.ensures.same;
}

-- the answer is the number of the status
ends : (c : goal.After-drop-words-2) (status : Status) → c.from-2.result ≡ status_number status → c.status_behind.result ≡ status
ends c status is = status-is c.status_behind.result status (sym c.number-2.ensures ∙ sym c.from-2.ensures ∙ is)

numbered : (c : goal.After-drop-words-2) (status : Status) → c.status_behind.result ≡ status → c.from-2.result ≡ status_number status
numbered c status is = c.from-2.ensures ∙ c.number-2.ensures ∙ ap status_number is

-- the program has the words of the text, and the input
same-words : (c : goal.After-drop-words-2) → texts c.deref.result.now ≡ fields_of c.args.words.now
same-words c = let lent = c.deref.ensures.value in let read = c.in-Ok.ensures in cc

asked : (c : goal.After-drop-words-2) (form : Form) → SpellForm (fields_of c.args.words.now) form → SpellForm (texts c.deref.result.now) form
asked c form asks = subst (λ words. SpellForm words form) (sym (same-words c)) asks

same-input : (c : goal.After-drop-words-2) → c.in-Ok-from_slice.bytes.items ≡ c.args.input.now
same-input c = c.in-Ok-from_slice.ensures.items

says : (c : goal.After-drop-words-2) (form : Form) → SpellForm (fields_of c.args.words.now) form
    → Says (job_of form) (input_of (job_of form) c.args.input.now) c.run_over-status.new.sink.written c.run_over-status.result
says c form asks =
    let over : Says (job_of form) (input_of (job_of form) c.in-Ok-from_slice.bytes.items) c.run_over-status.new.sink.written c.run_over-status.result = record {
      done = c.run_over-status.ensures.done form (asked c form asks);
      bad_input = c.run_over-status.ensures.bad_input form (asked c form asks);
      bad_words = λ is. (c.run_over-status.ensures.bad_words is).1;
      too_long = λ is. (c.run_over-status.ensures.too_long is).1;
      write_fault = c.run_over-status.ensures.write_fault form (asked c form asks);
      out_of_memory = c.run_over-status.ensures.out_of_memory form (asked c form asks);
      no_read_fault = c.run_over-status.ensures.no_read_fault;
    } in
    subst (λ input. Says (job_of form) (input_of (job_of form) input) c.run_over-status.new.sink.written c.run_over-status.result) (same-input c) over

pub returns-clause-done : goal.returns-clause-done
returns-clause-done c form asks is =
    whole ((job_of form).writes (input_of (job_of form) c.args.input.now)) (call_of c) (leaves c) Done (ends c Done is) (λ fault. cc) (λ memory. cc) (says c form asks).done

pub returns-clause-promises : goal.returns-clause-promises
returns-clause-promises c form asks is =
    whole ((job_of form).promises (input_of (job_of form) c.args.input.now)) (call_of c) (leaves c) Done (ends c Done is) (λ fault. cc) (λ memory. cc)
    (λ done. subst (λ input. (job_of form).promises (input_of (job_of form) input) c.run_over-status.new.sink.written) (same-input c)
    (c.run_over-status.ensures.promises form (asked c form asks) done))

pub returns-clause-headline : goal.returns-clause-headline
returns-clause-headline c mode asks is =
    whole (SaysHeadline mode c.args.input.now) (call_of c) (leaves c) Done (ends c Done is) (λ fault. cc) (λ memory. cc)
    (λ done. subst (λ input. SaysHeadline mode input c.run_over-status.new.sink.written) (same-input c)
    (c.run_over-status.ensures.headline mode (asked c (Run mode) asks) done))

pub returns-clause-inventory : goal.returns-clause-inventory
returns-clause-inventory c = (
  λ mode asks is. whole (SaysInventory mode c.args.input.now) (call_of c) (leaves c) Done (ends c Done is) (λ fault. cc) (λ memory. cc)
      (λ done. subst (λ input. SaysInventory mode input c.run_over-status.new.sink.written) (same-input c)
      (c.run_over-status.ensures.inventory.0 mode (asked c (Run mode) asks) done)),
  λ seed tags asks is. whole (CountsEveryTag seed tags) (call_of c) (leaves c) Done (ends c Done is) (λ fault. cc) (λ memory. cc)
      (c.run_over-status.ensures.inventory.1 seed tags (asked c (Gen seed tags) asks)),
)

pub returns-clause-bad_words : goal.returns-clause-bad_words
returns-clause-bad_words c is =
    let says = c.run_over-status.ensures.bad_words (kept (call_of c) (leaves c) BadWords (ends c BadWords is) (λ fault. cc) (λ memory. cc)) in
    (λ has. says.0 (has.0, asked c has.0 has.1), no-count (call_of c) (leaves c) says.1)

pub returns-clause-formless : goal.returns-clause-formless
returns-clause-formless c none = absurd (none (c.in-Some.form, c.in-Some.ensures.found))

pub returns-clause-unread : goal.returns-clause-unread
returns-clause-unread c form asks none =
    let silent : SpeaksOfNoInput c.run_over-status.result = c.run_over-status.ensures.unread form (asked c form asks) none in (
      λ is. subst SpeaksOfNoInput (kept (call_of c) (leaves c) BadInput (ends c BadInput is) (λ fault. cc) (λ memory. cc)) silent,
      λ is. subst SpeaksOfNoInput (kept (call_of c) (leaves c) TooLong (ends c TooLong is) (λ fault. cc) (λ memory. cc)) silent,
    )

pub returns-clause-bad_input : goal.returns-clause-bad_input
returns-clause-bad_input c form asks is =
    whole ((job_of form).refuses (input_of (job_of form) c.args.input.now)) (call_of c) (leaves c) BadInput (ends c BadInput is) (λ fault. cc) (λ memory. cc)
    (says c form asks).bad_input

pub returns-clause-no_room : goal.returns-clause-no_room
returns-clause-no_room c form asks is =
    no-room (job_of form) (input_of (job_of form) c.args.input.now) (call_of c) (leaves c) (ends c WriteFault is) (says c form asks)

pub returns-clause-too_long : goal.returns-clause-too_long
returns-clause-too_long c is =
    let says = c.run_over-status.ensures.too_long (kept (call_of c) (leaves c) TooLong (ends c TooLong is) (λ fault. cc) (λ memory. cc)) in
    (subst (λ input. input_limit < length input) (same-input c) says.0, no-count (call_of c) (leaves c) says.1)

pub returns-clause-out_of_memory : goal.returns-clause-out_of_memory
returns-clause-out_of_memory c form asks is =
    no-memory (job_of form) (input_of (job_of form) c.args.input.now) (call_of c) (leaves c) (ends c OutOfMemory is) (says c form asks)

-- no status has the number 8, and where the words were read each of them is readable
pub returns-clause-unreadable : goal.returns-clause-unreadable
returns-clause-unreadable c is =
    absurd (omega (arith, is, c.from-2.ensures, c.number-2.ensures, number-below c.status_behind.result))

pub returns-clause-unread_words : goal.returns-clause-unread_words
returns-clause-unread_words c has = absurd (read c.args.words.now (c.has_unreadable_word.ensures.none c.if-has_unreadable_word.false) has)

-- nor does one that has a form, or for which there is no memory, have an unreadable word
pub returns-in_default-clause-unread_words : goal.returns-in_default-clause-unread_words
returns-in_default-clause-unread_words c has = absurd (read c.args.words.now (c.has_unreadable_word.ensures.none c.if-has_unreadable_word.false) has)

pub returns-then-is_too_long-clause-unread_words : goal.returns-then-is_too_long-clause-unread_words
returns-then-is_too_long-clause-unread_words c has = absurd (read c.args.words.now (c.has_unreadable_word.ensures.none c.if-has_unreadable_word.false) has)

pub returns-in_default-words_of-clause-unread_words : goal.returns-in_default-words_of-clause-unread_words
returns-in_default-words_of-clause-unread_words c has = absurd (read c.args.words.now (c.has_unreadable_word.ensures.none c.if-has_unreadable_word.false) has)

pub returns-in_default-from_slice-clause-unread_words : goal.returns-in_default-from_slice-clause-unread_words
returns-in_default-from_slice-clause-unread_words c has = absurd (read c.args.words.now (c.has_unreadable_word.ensures.none c.if-has_unreadable_word.false) has)

-- what is read of an input is not within the limit where it was told to be too long
not-within : (result : Option Form) (told form : Form) (input : List ℕ) → result ≡ Some told → result ≡ Some form → ((job_of told).input ≡ true) × (input_limit < length input)
    → length (input_of (job_of form) input) ≤ input_limit → ⊥
not-within result told form input is found long few =
    let same : told ≡ form = cc in
    over-limit (job_of form).input input (subst (λ (other : Form). (job_of other).input ≡ true) same long.0) long.1 few

pub returns-then-is_too_long-clause-complete : goal.returns-then-is_too_long-clause-complete
returns-then-is_too_long-clause-complete c form asks few allowed =
    absurd (not-within c.form_in.result c.in-Some.form form c.args.input.now c.in-Some.is (c.form_in.ensures.only form asks) (c.is_too_long.ensures.0 c.if-is_too_long.true) few)

pub returns-then-is_too_long-clause-refused : goal.returns-then-is_too_long-clause-refused
returns-then-is_too_long-clause-refused c form asks few text refused =
    absurd (not-within c.form_in.result c.in-Some.form form c.args.input.now c.in-Some.is (c.form_in.ensures.only form asks) (c.is_too_long.ensures.0 c.if-is_too_long.true) few)

pub returns-then-is_too_long-clause-longer : goal.returns-then-is_too_long-clause-longer
returns-then-is_too_long-clause-longer c form asks few text defined many =
    absurd (not-within c.form_in.result c.in-Some.form form c.args.input.now c.in-Some.is (c.form_in.ensures.only form asks) (c.is_too_long.ensures.0 c.if-is_too_long.true) few)

-- words of a form are readable
pub returns-then-has_unreadable_word-clause-complete : goal.returns-then-has_unreadable_word-clause-complete
returns-then-has_unreadable_word-clause-complete c form asks few allowed =
    absurd (readable form c.args.words.now asks (c.has_unreadable_word.ensures.one c.if-has_unreadable_word.true))

pub returns-then-has_unreadable_word-clause-refused : goal.returns-then-has_unreadable_word-clause-refused
returns-then-has_unreadable_word-clause-refused c form asks few text refused =
    absurd (readable form c.args.words.now asks (c.has_unreadable_word.ensures.one c.if-has_unreadable_word.true))

pub returns-then-has_unreadable_word-clause-longer : goal.returns-then-has_unreadable_word-clause-longer
returns-then-has_unreadable_word-clause-longer c form asks few text defined many =
    absurd (readable form c.args.words.now asks (c.has_unreadable_word.ensures.one c.if-has_unreadable_word.true))

pub returns-then-has_unreadable_word-clause-passes_limit : goal.returns-then-has_unreadable_word-clause-passes_limit
returns-then-has_unreadable_word-clause-passes_limit c form asks reads many =
    absurd (readable form c.args.words.now asks (c.has_unreadable_word.ensures.one c.if-has_unreadable_word.true))

pub returns-clause-statuses : goal.returns-clause-statuses
returns-clause-statuses c = (
  omega (arith, c.from-2.ensures, c.number-2.ensures, number-below c.status_behind.result),
  λ is. number-not-1 c.status_behind.result (sym c.number-2.ensures ∙ sym c.from-2.ensures ∙ is),
  λ is. c.run_over-status.ensures.no_read_fault (kept (call_of c) (leaves c) ReadFault (ends c ReadFault is) (λ fault. cc) (λ memory. cc)),
)

-- the answers of the statuses that a call may have where it can't be done
answers : (c : goal.After-drop-words-2) (wanted : Status)
    → (c.status_behind.result ≡ wanted) ⊎ (c.status_behind.result ≡ WriteFault) ⊎ (c.status_behind.result ≡ OutOfMemory)
    → (c.from-2.result ≡ status_number wanted) ⊎ (c.from-2.result ≡ 5) ⊎ (c.from-2.result ≡ 7)
answers c wanted ended = elim ended [
  | inl is ↦ inl (numbered c wanted is)
  | inr (inl is) ↦ inr (inl (numbered c WriteFault is))
  | inr (inr is) ↦ inr (inr (numbered c OutOfMemory is))
]

pub returns-clause-complete : goal.returns-clause-complete
returns-clause-complete c form asks few allowed =
    answers c Done (ends-so (call_of c) (leaves c) Done
    (c.run_over-status.ensures.complete form (asked c form asks)
    (subst (λ input. length (input_of (job_of form) input) ≤ input_limit) (sym (same-input c)) few)
    (subst (λ input. (job_of form).allows (input_of (job_of form) input)) (sym (same-input c)) allowed)))

pub returns-clause-refused : goal.returns-clause-refused
returns-clause-refused c form asks few text refused =
    answers c BadInput (ends-so (call_of c) (leaves c) BadInput
    (c.run_over-status.ensures.refused form (asked c form asks)
    (subst (λ input. length (input_of (job_of form) input) ≤ input_limit) (sym (same-input c)) few) text
    (subst (λ input. (job_of form).refuses (input_of (job_of form) input) text) (sym (same-input c)) refused)))

pub returns-clause-longer : goal.returns-clause-longer
returns-clause-longer c form asks few text defined many =
    elim (longer-ends (call_of c) (leaves c) text many
    (c.run_over-status.ensures.whole form (asked c form asks)
    (subst (λ input. length (input_of (job_of form) input) ≤ input_limit) (sym (same-input c)) few) text
    (subst (λ input. Defines (job_of form) (input_of (job_of form) input) text) (sym (same-input c)) defined))) [
      | inl is ↦ inl (numbered c WriteFault is)
      | inr is ↦ inr (numbered c OutOfMemory is)
    ]

-- an input that is too long was told before
pub returns-clause-passes_limit : goal.returns-clause-passes_limit
returns-clause-passes_limit c form asks reads many =
    let found : c.form_in.result ≡ Some form = c.form_in.ensures.only form asks in
    let same : c.in-Some.form ≡ form = let is = c.in-Some.is in cc in
    let long = c.is_too_long.ensures.1 (subst (λ (other : Form). (job_of other).input ≡ true) (sym same) reads, many) in
    let short = c.if-is_too_long.false in
    absurd cc

pub returns-clause-behind : goal.returns-clause-behind
returns-clause-behind c = behind (call_of c) (leaves c)
