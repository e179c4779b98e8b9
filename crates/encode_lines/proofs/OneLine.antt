-- For each request one line is written.
use Rattle.std.proofs.Common.{rules, ◌≡◌, ℕ, List, refl, sym, ◌∙◌, ap, inl, inr, ◌⊎◌, ◌≤◌, ◌*◌, ◌/◌, ◌^◌, Bool, true, false, length}
use Rattle.pie_line.specs.Link.{IsLegalLink, LinkValue, IsTari, IsRtCal, IsTrCal, IsPw}
use Rattle.pie_line.specs.LinkRefusal.{IsFirstBroken}
use Rattle.pie_line.specs.declared.link.LinkRefusal.{LinkRefusal}
use Rattle.pie_line.specs.declared.link.LinkRefusal.TheVariants.{Tari, RtCal, TrCal, Pw}
use Rattle.reply_grammar.specs.declared.expected.Expect.{Expect}
use Rattle.reply_grammar.specs.declared.expected.Reply.{Reply}
use Rattle.checked_lines.specs.laws.OneLine.{HaveOneAnswer}
use Rattle.encode_lines.specs.EncodeLines.{encode_rules}
use Rattle.encode_lines.specs.Written.{AreWritten, AreOfReply, link_of, refusal_word, refused_fields, IsAllowedReply, IsWave, RefusesLink}
use Rattle.encode_lines.specs.declared.request.Durations.{Durations}
use Rattle.encode_lines.specs.declared.request.Request.{Request}
use Rattle.encode_lines.specs.declared.request.Request.TheVariants.{Stream, Pie, Command, Reply as ReplyLine, Heard}
use Rattle.std.specs.Prelude.{Decides, nat_le, ◌==◌}
use Rattle.std.proofs.lemmas.Bool.{eqb-true, eq-eqb, leb-true, le-leb}
use Rattle.std.proofs.lemmas.Bool.Decides.{not_from_Decides}
use Rattle.pie_line.specs.declared.frame.Lead.{Lead}
use Rattle.reply_grammar.specs.Replies.{CanBeSent, suits}
use Rattle.reply_grammar.proofs.Suiting.{suits-true, suits-from}
use Rattle.reply_grammar.specs.declared.expected.Reply.TheVariants.{Rn16, Epc, Handle, Words, Header, Error}

-- durations break one range first
same_broken : (link : Durations) (one other : LinkRefusal) → IsFirstBroken one link.tari link.rtcal link.trcal link.pw
    → IsFirstBroken other link.tari link.rtcal link.trcal link.pw → one ≡ other
same_broken link Tari Tari left right = refl
same_broken link RtCal RtCal left right = refl
same_broken link TrCal TrCal left right = refl
same_broken link Pw Pw left right = refl
same_broken link one other left right = absurd (search rules)

-- a legal link is not refused
legal_apart : (link : LinkValue) → IsLegalLink link → (refusal : LinkRefusal) → ¬ IsFirstBroken refusal link.tari link.rtcal link.trcal link.pw
legal_apart link legal Tari broken = broken legal.tari_range
legal_apart link legal RtCal broken = broken.1 legal.rtcal_range
legal_apart link legal TrCal broken = broken.2 legal.trcal_range
legal_apart link legal Pw broken = broken.3 legal.pw_range

same_of_reply : (expect : Expect) (reply : Reply) (written one other : List (List ℕ)) → AreOfReply expect reply written one → AreOfReply expect reply written other → one ≡ other
same_of_reply expect reply written one other (inl left) (inl right) = left.1 ∙ sym right.1
same_of_reply expect reply written one other (inl left) (inr right) = absurd (right.0 left.0)
same_of_reply expect reply written one other (inr left) (inl right) = absurd (left.0 right.0)
same_of_reply expect reply written one other (inr left) (inr right) = left.1 ∙ sym right.1

same_written : (request : Request) (one other : List (List ℕ)) → AreWritten request one → AreWritten request other → one ≡ other
same_written (Stream code trext bits) one other left right = left ∙ sym right
same_written (Pie durations lead bits) one other (inl left) (inl right) = left.wave ∙ sym right.wave
same_written (Pie durations lead bits) one other (inl left) (inr right) = absurd (legal_apart (link_of durations) left.legal right.refusal right.broken)
same_written (Pie durations lead bits) one other (inr left) (inl right) = absurd (legal_apart (link_of durations) right.legal left.refusal left.broken)
same_written (Pie durations lead bits) one other (inr left) (inr right) =
    left.refused ∙ ap (λ refusal. refused_fields (refusal_word refusal)) (same_broken durations left.refusal right.refusal left.broken right.broken) ∙ sym right.refused
same_written (Command command) one other left right = left ∙ sym right
same_written (ReplyLine expect reply) one other left right = same_of_reply expect reply _ one other left right
same_written (Heard code trext expect reply) one other left right = same_of_reply expect reply _ one other left right

pub one_line : HaveOneAnswer encode_rules
one_line line request one other asks left right = same_written request one other left right

-- it holds, or it does not
abbrev OrNot : Type 0 → Type 0
OrNot P = P ⊎ (¬ P)

both : {P Q : Type 0} → OrNot P → OrNot Q → OrNot (P × Q)
both (inl p) (inl q) = inl (p, q)
both (inl p) (inr none) = inr (λ has. none has.1)
both (inr none) q = inr (λ has. none has.0)

all_three : {P Q R : Type 0} → OrNot P → OrNot Q → OrNot R → OrNot (P × Q × R)
all_three (inl p) (inl q) (inl r) = inl (p, q, r)
all_three (inl p) (inl q) (inr none) = inr (λ has. none has.2)
all_three (inl p) (inr none) r = inr (λ has. none has.1)
all_three (inr none) q r = inr (λ has. none has.0)

or_not : {P : Type 0} (test : Bool) → Decides test P → OrNot P
or_not true tells = inl (tells.0 refl)
or_not false tells = inr (not_from_Decides false tells refl)

le_or_not : (a b : ℕ) → OrNot (a ≤ b)
le_or_not a b = or_not (nat_le a b) (leb-true a b, le-leb a b)

sent_or_not : (reply : Reply) → OrNot (CanBeSent reply)
sent_or_not (Rn16 rn) = inl tt
sent_or_not (Epc pc epc) = or_not (length epc == pc / 2 ^ 11) (eqb-true (length epc) (pc / 2 ^ 11), eq-eqb (length epc) (pc / 2 ^ 11))
sent_or_not (Handle rn) = inl tt
sent_or_not (Words words) = le_or_not 1 (length words)
sent_or_not Header = inl tt
sent_or_not (Error code) = inl tt

allowed_or_not : (expect : Expect) (reply : Reply) → OrNot (IsAllowedReply expect reply)
allowed_or_not expect reply = both (or_not (suits reply expect) (suits-true reply expect, suits-from reply expect)) (sent_or_not reply)

some_of_reply : (expect : Expect) (reply : Reply) (written : List (List ℕ)) → OrNot (IsAllowedReply expect reply) → (fields : List (List ℕ)) × AreOfReply expect reply written fields
some_of_reply expect reply written (inl allowed) = (_, inl (allowed, refl))
some_of_reply expect reply written (inr none) = (_, inr (none, refl))

some_wave : (link : Durations) (lead : Lead) (bits : List Bool) → OrNot (IsTari link.tari) → OrNot (IsRtCal link.tari link.rtcal) → OrNot (IsTrCal link.rtcal link.trcal) → OrNot (IsPw link.tari link.pw)
    → (fields : List (List ℕ)) × (IsWave (link_of link) lead bits fields ⊎ RefusesLink link fields)
some_wave link lead bits (inr none) b c d = (_, inr (record { refusal = Tari; broken = none; refused = refl }))
some_wave link lead bits (inl a) (inr none) c d = (_, inr (record { refusal = RtCal; broken = (a, none); refused = refl }))
some_wave link lead bits (inl a) (inl b) (inr none) d = (_, inr (record { refusal = TrCal; broken = (a, b, none); refused = refl }))
some_wave link lead bits (inl a) (inl b) (inl c) (inr none) = (_, inr (record { refusal = Pw; broken = (a, b, c, none); refused = refl }))
some_wave link lead bits (inl a) (inl b) (inl c) (inl d) =
    (_, inl (record { legal = record { tari_range = a; rtcal_range = b; trcal_range = c; pw_range = d }; wave = refl }))

pub some_line : (request : Request) → (fields : List (List ℕ)) × AreWritten request fields
some_line (Stream code trext bits) = (_, refl)
some_line (Pie link lead bits) =
    some_wave link lead bits (both (le_or_not 6250 link.tari) (le_or_not link.tari 25000))
    (both (le_or_not (5 * link.tari) (2 * link.rtcal)) (le_or_not link.rtcal (3 * link.tari)))
    (both (le_or_not (11 * link.rtcal) (10 * link.trcal)) (le_or_not link.trcal (3 * link.rtcal)))
    (all_three (le_or_not 2000 link.pw) (le_or_not (265 * link.tari) (1000 * link.pw)) (le_or_not (1000 * link.pw) (525 * link.tari)))
some_line (Command command) = (_, refl)
some_line (ReplyLine expect reply) = some_of_reply expect reply _ (allowed_or_not expect reply)
some_line (Heard code trext expect reply) = some_of_reply expect reply _ (allowed_or_not expect reply)
