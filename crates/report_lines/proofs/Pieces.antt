-- What a text has gained after several pieces.
use Rattle.std.proofs.Common.{◌≡◌, ℕ, List, [], ◌∷◌, ◌++◌, map, codes, refl, sym, ap, ◌∙◌, append_assoc}
use Rattle.std.specs.Fmt.{decimal}
use Rattle.tag_machine.specs.StateNames.{name_of}
use Rattle.tag_machine.specs.TagValue.{TagValue}
use Rattle.text_fields.specs.Hexadecimal.{hex_words}
use Rattle.text_fields.specs.Lines.{fields_behind, line_feed, line_with, space}
use Rattle.text_fields.proofs.LineLaws.{line_with-fields_behind}
use Rattle.wire_text.specs.PasswordsAndLocks.{locks_text}
use Rattle.report_lines.specs.ReportLine.{TagLine, TxLine, flags_word, report_line_text, state_word}

-- after a space and a field
pub one_field : (start text field : List ℕ) → text ≡ start ++ space ∷ [] → text ++ field ≡ start ++ space ∷ field
one_field start text field f = rw f (simp append_assoc)

-- the fields of two lists in one line
two_lists : (first next : List ℕ) (before behind : List (List ℕ)) → line_with (first ∷ (before ++ next ∷ behind)) ≡ line_with (first ∷ before) ++ space ∷ line_with (next ∷ behind)
two_lists first next [] behind = refl
two_lists first next (field ∷ before) behind =
    ap (λ (rest : List ℕ). first ++ space ∷ rest) (two_lists field next before behind)
    ∙ sym (append_assoc first (space ∷ line_with (field ∷ before)) (space ∷ line_with (next ∷ behind)))

-- after five fields, one behind the other
pub five_fields : (start t1 t2 t3 t4 a b c d e : List ℕ) → t1 ≡ start ++ a → t2 ≡ t1 ++ space ∷ b → t3 ≡ t2 ++ space ∷ c → t4 ≡ t3 ++ space ∷ d
    → t4 ++ space ∷ e ≡ start ++ line_with (a ∷ b ∷ c ∷ d ∷ e ∷ [])
five_fields start t1 t2 t3 t4 a b c d e e1 e2 e3 e4 = rw (e4, e3, e2, e1) (simp append_assoc)

-- after two pieces of a line and the line feed
two_pieces : (start front text one other : List ℕ) → front ≡ start ++ one → text ≡ front ++ space ∷ other → text ++ line_feed ∷ [] ≡ start ++ ((one ++ space ∷ other) ++ line_feed ∷ [])
two_pieces start front text one other first second = rw (second, first) (simp append_assoc)

-- after the number of an exchange, the intervals and the line feed
pub sent_intervals : (start name front text : List ℕ) (exchange : ℕ) (intervals : List ℕ) → name ≡ start ++ codes "tx" →
    front ≡ name ++ space ∷ decimal exchange → text ≡ front ++ fields_behind (map decimal intervals) →
    text ++ line_feed ∷ [] ≡ start ++ report_line_text (TxLine exchange intervals)
sent_intervals start name front text exchange intervals first second third =
    let line : report_line_text (TxLine exchange intervals) ≡ (codes "tx" ++ fields_behind (decimal exchange ∷ map decimal intervals)) ++ line_feed ∷ [] =
    ap (λ (text : List ℕ). text ++ line_feed ∷ []) (line_with-fields_behind (codes "tx") (decimal exchange ∷ map decimal intervals)) in
    let joined : text ++ line_feed ∷ [] ≡ start ++ ((codes "tx" ++ fields_behind (decimal exchange ∷ map decimal intervals)) ++ line_feed ∷ []) =
    rw (third, second, first) (simp append_assoc) in
    joined ∙ sym (ap (λ (line : List ℕ). start ++ line) line)

-- after the fields of a tag, those of its memory, and the line feed
pub tag_line : (start front text : List ℕ) (number : ℕ) (tag : TagValue) →
    front ≡ start ++ line_with (codes "tag" ∷ decimal number ∷ state_word (name_of tag.state) ∷ flags_word tag.body.flags ∷ locks_text tag.body.locks ∷ []) →
    text ≡ front ++ space ∷ line_with (hex_words tag.body.memory.reserved ∷ hex_words tag.body.memory.epc ∷ hex_words tag.body.memory.tid ∷ hex_words tag.body.memory.user ∷ []) →
    text ++ line_feed ∷ [] ≡ start ++ report_line_text (TagLine number tag)
tag_line start front text number tag first second =
    let standing : List (List ℕ) = decimal number ∷ state_word (name_of tag.state) ∷ flags_word tag.body.flags ∷ locks_text tag.body.locks ∷ [] in
    let memory = tag.body.memory in
    let others : List (List ℕ) = hex_words memory.epc ∷ hex_words memory.tid ∷ hex_words memory.user ∷ [] in
    two_pieces start front text (line_with (codes "tag" ∷ standing)) (line_with (hex_words memory.reserved ∷ others)) first second
    ∙ sym (ap (λ (line : List ℕ). start ++ (line ++ line_feed ∷ [])) (two_lists (codes "tag") (hex_words memory.reserved) standing others))
