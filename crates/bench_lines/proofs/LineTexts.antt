-- Fields say one line of a probe, or are faulty for one reason.
use Rattle.std.proofs.Common.{rules, ◌≡◌, ◌≢◌, ℕ, Bool, List, [], ◌∷◌, ap, get_or, arith, refl, sym, ◌∙◌, inl, inr, subst}
use Rattle.std.specs.Prelude.{codes}
use Rattle.text_fields.specs.Binary.{binary}
use Rattle.text_fields.proofs.FieldTextLaws.{IsFieldText-binary}
use Rattle.text_fields.specs.NamedFields.{AreFilled, spelled_fields}
use Rattle.text_fields.specs.declared.fields_fault.FieldsFault.{FieldsFault}
use Rattle.text_fields.specs.declared.fields_fault.FieldsFault.TheVariants as reasons
use Rattle.text_fields.proofs.FilledFields.{none_filled, one_more}
use Rattle.text_fields.proofs.NamedFieldLaws.{one_fault as one_named_fault, same_behind, spelling_is_not_faulty}
use Rattle.command_grammar.specs.declared.commands.Command.{Command}
use Rattle.command_grammar.specs.declared.kinds.CommandKind.{CommandKind}
use Rattle.command_grammar.specs.declared.kinds.CommandKind.TheVariants as kinds
use Rattle.wire_text.specs.NameLists.{EachFound}
use Rattle.wire_text.proofs.NameLists.{told}
use Rattle.wire_text.specs.CommandText.{IsCommandText, IsFaultyCommand, command_kind, command_name, other_command_fields}
use Rattle.bench_lines.specs.declared.probe_line.LineWord.{LineWord}
use Rattle.bench_lines.specs.declared.probe_line.LineWord.TheVariants as words
use Rattle.bench_lines.specs.Stimuli as lines
use Rattle.bench_lines.specs.Stimuli.{Stimulus, ProbeLine}
use Rattle.bench_lines.specs.ProbeLineFaults.{AreFaultyBehind, BeginsWithWord, IsFaultyProbeLine, MisspellsCommand, MisspellsWord}
use Rattle.bench_lines.specs.laws.ProbeLineLaws.{ProbeLineLaws}
use Rattle.bench_lines.specs.ProbeLine.{IsProbeEvent, SpellsProbeLine, line_word, probe_events, probe_line_fields}
use Rattle.bench_lines.proofs.EventTexts.{event_told, events_are}

-- what the laws of commands and of bits say
pub record Known : Type 0 where
  pub told : (fields : List (List ℕ)) (one other : Command) → IsCommandText fields one → IsCommandText fields other → one ≡ other
  pub not_faulty : (fields : List (List ℕ)) (command : Command) (fault : FieldsFault) → IsCommandText fields command → IsFaultyCommand fields fault → ⊥
  pub one_fault : (fields : List (List ℕ)) (one other : FieldsFault) → IsFaultyCommand fields one → IsFaultyCommand fields other → one ≡ other
  pub bits_told : (one other : List Bool) → binary one ≡ binary other → one ≡ other

-- the words are told apart,
abbrev pub all_words : List LineWord
all_words = words.Bits ∷ words.Event ∷ words.End ∷ []

pub word_found : EachFound line_word all_words
word_found words.Bits = refl
word_found word = refl

word_told : (one other : LineWord) → line_word one ≡ line_word other → one ≡ other
word_told = told line_word all_words word_found

-- ... and from the names of commands
no_bits : (kind : CommandKind) → command_name kind ≡ codes "bits" → ⊥
no_bits kinds.Nak same = let first = ap (λ (text : List ℕ). get_or text 0 0) same in omega arith
no_bits kind same =
    let first = ap (λ (text : List ℕ). get_or text 0 0) same in
    let second = ap (λ (text : List ℕ). get_or text 1 0) same in
    omega arith

no_event : (kind : CommandKind) → command_name kind ≡ codes "event" → ⊥
no_event kinds.Nak same = let first = ap (λ (text : List ℕ). get_or text 0 0) same in omega arith
no_event kind same = let first = ap (λ (text : List ℕ). get_or text 0 0) same in omega arith

no_end : (kind : CommandKind) → command_name kind ≡ codes "end" → ⊥
no_end kinds.Nak same = let first = ap (λ (text : List ℕ). get_or text 0 0) same in omega arith
no_end kind same = let first = ap (λ (text : List ℕ). get_or text 0 0) same in omega arith

no_command : (kind : CommandKind) (word : LineWord) → command_name kind ≡ line_word word → ⊥
no_command kind words.Bits same = no_bits kind same
no_command kind words.Event same = no_event kind same
no_command kind words.End same = no_end kind same

-- fields that begin with such a word are those of no command,
command_or_word : (fields others behind : List (List ℕ)) (kind : CommandKind) (word : LineWord) → fields ≡ command_name kind ∷ others → fields ≡ line_word word ∷ behind → ⊥
command_or_word fields others behind kind word is begins = no_command kind word (same_behind (command_name kind) (line_word word) others behind (sym is ∙ begins)).0

-- ... and begin with no other
pub word_or_word : (fields others behind : List (List ℕ)) (one other : LineWord) → one ≢ other → fields ≡ line_word one ∷ others → fields ≡ line_word other ∷ behind → ⊥
word_or_word fields others behind one other differ is begins =
    differ (word_told one other (same_behind (line_word one) (line_word other) others behind (sym is ∙ begins)).0)

-- behind one word stand the same fields
behind_word : (fields others behind : List (List ℕ)) (word : LineWord) → fields ≡ line_word word ∷ others → fields ≡ line_word word ∷ behind → others ≡ behind
behind_word fields others behind word is begins = (same_behind (line_word word) (line_word word) others behind (sym is ∙ begins)).1

command_of : (fields : List (List ℕ)) (command : Command) → SpellsProbeLine fields (lines.Does (lines.SendsCommand command)) → IsCommandText fields command
command_of fields command spells = record { in_range = spells.is; spelling = spells.spelling }

-- a line with a word is the one line of its kind that the fields say
told_with_word : Known → (fields others : List (List ℕ)) (word : LineWord) (line : ProbeLine) → SpellsProbeLine fields line → fields ≡ line_word word ∷ others
    → (other : ProbeLine) → SpellsProbeLine fields other → line ≡ other
told_with_word known fields others word (lines.Does (lines.SendsCommand c)) spells begins other spells' =
    absurd (command_or_word fields (other_command_fields c) others (command_kind c) word spells.spelling begins)
told_with_word known fields others word line spells begins (lines.Does (lines.SendsCommand c)) spells' =
    absurd (command_or_word fields (other_command_fields c) others (command_kind c) word spells'.spelling begins)
told_with_word known fields others word (lines.Does (lines.SendsBits a)) spells begins (lines.Does (lines.SendsBits b)) spells' =
    let same = behind_word fields (binary a ∷ []) (binary b ∷ []) words.Bits spells.spelling spells'.spelling in
    ap (λ (it : List Bool). lines.Does (lines.SendsBits it)) (known.bits_told a b (same_behind (binary a) (binary b) [] [] same).0)
told_with_word known fields others word (lines.Does (lines.Brings d)) spells begins (lines.Does (lines.Brings e)) spells' =
    let same = behind_word fields (spelled_fields probe_events d) (spelled_fields probe_events e) words.Event spells.spelling spells'.spelling in
    ap (λ it. lines.Does (lines.Brings it))
    (event_told (spelled_fields probe_events d) d e (record { in_range = spells.is; spelling = refl }) (record { in_range = spells'.is; spelling = same }))
told_with_word known fields others word lines.End spells begins lines.End spells' = refl
told_with_word known fields others word line spells begins other spells' = let is = spells.spelling in let is' = spells'.spelling in absurd cc

line_told : Known → (fields : List (List ℕ)) (one other : ProbeLine) → SpellsProbeLine fields one → SpellsProbeLine fields other → one ≡ other
line_told known fields (lines.Does (lines.SendsCommand c)) (lines.Does (lines.SendsCommand d)) is is' =
    ap (λ (it : Command). lines.Does (lines.SendsCommand it)) (known.told fields c d (command_of fields c is) (command_of fields d is'))
line_told known fields one (lines.Does (lines.SendsBits b)) is is' =
    told_with_word known fields (binary b ∷ []) words.Bits one is is'.spelling (lines.Does (lines.SendsBits b)) is'
line_told known fields one (lines.Does (lines.Brings e)) is is' =
    told_with_word known fields (spelled_fields probe_events e) words.Event one is is'.spelling (lines.Does (lines.Brings e)) is'
line_told known fields one lines.End is is' = told_with_word known fields [] words.End one is is'.spelling lines.End is'
line_told known fields (lines.Does (lines.SendsBits b)) (lines.Does (lines.SendsCommand d)) is is' =
    absurd (command_or_word fields (other_command_fields d) (binary b ∷ []) (command_kind d) words.Bits is'.spelling is.spelling)
line_told known fields (lines.Does (lines.Brings e)) (lines.Does (lines.SendsCommand d)) is is' =
    absurd (command_or_word fields (other_command_fields d) (spelled_fields probe_events e) (command_kind d) words.Event is'.spelling is.spelling)
line_told known fields lines.End (lines.Does (lines.SendsCommand d)) is is' =
    absurd (command_or_word fields (other_command_fields d) [] (command_kind d) words.End is'.spelling is.spelling)

-- the fields behind a word say something, or are faulty
bits_not_faulty : (bits : List Bool) (others : List (List ℕ)) (fault : FieldsFault) → others ≡ binary bits ∷ []
    → SpellsProbeLine (probe_line_fields (lines.Does (lines.SendsBits bits))) (lines.Does (lines.SendsBits bits)) → AreFaultyBehind words.Bits others fault → ⊥
bits_not_faulty bits others reasons.Word is spells faulty = faulty
bits_not_faulty bits others reasons.Shape is spells faulty =
    faulty (subst (λ (list : List (List ℕ)). AreFilled 1 list) (sym is) (one_more 0 (binary bits) [] (IsFieldText-binary bits).filled none_filled))
bits_not_faulty bits others reasons.Number is spells faulty = faulty.1 bits spells.is is

end_not_faulty : (others : List (List ℕ)) (fault : FieldsFault) → others ≡ [] → AreFaultyBehind words.End others fault → ⊥
end_not_faulty others reasons.Word is faulty = faulty
end_not_faulty others reasons.Shape is faulty = faulty is
end_not_faulty others reasons.Number is faulty = faulty

-- a line that says something has nothing faulty behind its word
word_not_faulty : (fields others : List (List ℕ)) (line : ProbeLine) (fault : FieldsFault) (word : LineWord) → SpellsProbeLine fields line
    → fields ≡ line_word word ∷ others → AreFaultyBehind word others fault → ⊥
word_not_faulty fields others (lines.Does (lines.SendsCommand c)) fault word spells begins faulty =
    command_or_word fields (other_command_fields c) others (command_kind c) word spells.spelling begins
word_not_faulty fields others (lines.Does (lines.SendsBits b)) fault words.Bits spells begins faulty =
    bits_not_faulty b others fault (behind_word fields others (binary b ∷ []) words.Bits begins spells.spelling) (record { spelling = refl; is = spells.is }) faulty
word_not_faulty fields others (lines.Does (lines.Brings e)) fault words.Event spells begins faulty =
    spelling_is_not_faulty probe_events IsProbeEvent events_are others e fault
    (record { in_range = spells.is; spelling = behind_word fields others (spelled_fields probe_events e) words.Event begins spells.spelling }) faulty
word_not_faulty fields others lines.End fault words.End spells begins faulty =
    end_not_faulty others fault (behind_word fields others [] words.End begins spells.spelling) faulty
word_not_faulty fields others line fault word spells begins faulty = let is = spells.spelling in cc

-- ... and where it begins with no word, it is a command
command_not_faulty : Known → (fields : List (List ℕ)) (line : ProbeLine) (fault : FieldsFault) → SpellsProbeLine fields line → MisspellsCommand fields fault → ⊥
command_not_faulty known fields (lines.Does (lines.SendsCommand c)) fault spells misspells =
    known.not_faulty fields c fault (command_of fields c spells) misspells.faulty
command_not_faulty known fields (lines.Does (lines.SendsBits b)) fault spells misspells =
    misspells.other words.Bits (record { others = binary b ∷ []; first = spells.spelling })
command_not_faulty known fields (lines.Does (lines.Brings e)) fault spells misspells =
    misspells.other words.Event (record { others = spelled_fields probe_events e; first = spells.spelling })
command_not_faulty known fields lines.End fault spells misspells = misspells.other words.End (record { others = []; first = spells.spelling })

line_not_faulty : Known → (fields : List (List ℕ)) (line : ProbeLine) (fault : FieldsFault) → SpellsProbeLine fields line → IsFaultyProbeLine fields fault → ⊥
line_not_faulty known fields line fault spells (inl misspells) =
    word_not_faulty fields misspells.begins.others line fault misspells.word spells misspells.begins.first misspells.behind
line_not_faulty known fields line fault spells (inr misspells) = command_not_faulty known fields line fault spells misspells

-- what is done to the tag doesn't begin with `end`
pub stimulus_is_no_end : (fields : List (List ℕ)) (stimulus : Stimulus) → SpellsProbeLine fields (lines.Does stimulus) → ¬ BeginsWithWord fields words.End
stimulus_is_no_end fields (lines.SendsCommand c) spells begins =
    command_or_word fields (other_command_fields c) begins.others (command_kind c) words.End spells.spelling begins.first
stimulus_is_no_end fields (lines.SendsBits b) spells begins = word_or_word fields _ begins.others words.Bits words.End (λ same. cc) spells.spelling begins.first
stimulus_is_no_end fields (lines.Brings e) spells begins = word_or_word fields _ begins.others words.Event words.End (λ same. cc) spells.spelling begins.first

-- one reason behind a word
one_bits_fault : (others : List (List ℕ)) (one other : FieldsFault) → AreFaultyBehind words.Bits others one → AreFaultyBehind words.Bits others other → one ≡ other
one_bits_fault others reasons.Shape reasons.Shape faulty faulty' = refl
one_bits_fault others reasons.Number reasons.Number faulty faulty' = refl
one_bits_fault others one other faulty faulty' = absurd (search rules)

one_end_fault : (others : List (List ℕ)) (one other : FieldsFault) → AreFaultyBehind words.End others one → AreFaultyBehind words.End others other → one ≡ other
one_end_fault others reasons.Shape reasons.Shape faulty faulty' = refl
one_end_fault others one other faulty faulty' = absurd (search rules)

one_behind : (word : LineWord) (others : List (List ℕ)) (one other : FieldsFault) → AreFaultyBehind word others one → AreFaultyBehind word others other → one ≡ other
one_behind words.Bits others one other faulty faulty' = one_bits_fault others one other faulty faulty'
one_behind words.Event others one other faulty faulty' = one_named_fault probe_events IsProbeEvent others one other faulty faulty'
one_behind words.End others one other faulty faulty' = one_end_fault others one other faulty faulty'

-- two words with what stands behind them
one_word : (fields : List (List ℕ)) (one other : FieldsFault) → MisspellsWord fields one → MisspellsWord fields other → one ≡ other
one_word fields one other first second =
    let same = same_behind (line_word second.word) (line_word first.word) second.begins.others first.begins.others (sym second.begins.first ∙ first.begins.first) in
    let moved : AreFaultyBehind first.word second.begins.others other =
    subst (λ (word : LineWord). AreFaultyBehind word second.begins.others other) (word_told second.word first.word same.0) second.behind in
    one_behind first.word first.begins.others one other first.behind
    (subst (λ (list : List (List ℕ)). AreFaultyBehind first.word list other) same.1 moved)

one_line_fault : Known → (fields : List (List ℕ)) (one other : FieldsFault) → IsFaultyProbeLine fields one → IsFaultyProbeLine fields other → one ≡ other
one_line_fault known fields one other (inl first) (inl second) = one_word fields one other first second
one_line_fault known fields one other (inl first) (inr second) = absurd (second.other first.word first.begins)
one_line_fault known fields one other (inr first) (inl second) = absurd (first.other second.word second.begins)
one_line_fault known fields one other (inr first) (inr second) = known.one_fault fields one other first.faulty second.faulty

pub lines_lawful : Known → ProbeLineLaws
lines_lawful known = record { told = line_told known; not_faulty = line_not_faulty known; one_fault = one_line_fault known }
