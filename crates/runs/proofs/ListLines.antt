-- The list lines of a round and the tags that are listed in it come of the same records, one by one.
use Rattle.runs.proofs.Names.{◌≡◌, ℕ, ◌==◌, Bool, true, false, List, [], ◌∷◌, ◌++◌, filter, if◌then◌else◌, refl, ap, sym, ◌∙◌, subst, eq-eqb, eqb-true, filter-append, AllZip, Record, Item, exchanged}
use Rattle.runs.proofs.Names.{IsOfReplies, Acknowledges, Listed, reception_of_ack, listed_from, listed_by, listing_of, Reception, whole_reply, Reply, entries_in, IsOfRepliesIn, IsEntryOf}
use Rattle.runs.proofs.Names.{sender_listed_by, is_of_round, tags_listed_in}
use Rattle.reply_grammar.specs.declared.expected.Reply.TheVariants as replies
use Rattle.runs.proofs.EveryTag.{Lists, nobody, somebody, lists}
use Rattle.runs.proofs.Records.{later-record}

zip-append : {A B : Type 0} (R : A → B → Type 0) (xs : List A) (ys : List B) (us : List A) (vs : List B) → AllZip R xs ys → AllZip R us vs → AllZip R (xs ++ us) (ys ++ vs)
zip-append R [] [] us vs first second = second
zip-append R [] (y ∷ ys) us vs first second = absurd first
zip-append R (x ∷ xs) [] us vs first second = absurd first
zip-append R (x ∷ xs) (y ∷ ys) us vs first second = (first.0, zip-append R xs ys us vs first.1 second)

zip-map : {A B : Type 0} (R S : A → B → Type 0) (xs : List A) (ys : List B) → ((x : A) (y : B) → R x y → S x y) → AllZip R xs ys → AllZip S xs ys
zip-map R S [] [] more all = tt
zip-map R S [] (y ∷ ys) more all = absurd all
zip-map R S (x ∷ xs) [] more all = absurd all
zip-map R S (x ∷ xs) (y ∷ ys) more all = (more x y all.0, zip-map R S xs ys more all.1)

later-entry : (item : Item) (history : List Item) (round : ℕ) (listed : Listed) (number : ℕ) → IsEntryOf history round listed number → IsEntryOf (item ∷ history) round listed number
later-entry item history round listed number entry = record {
  sent = entry.sent;
  earlier = entry.earlier;
  recorded = later-record item history entry.sent entry.earlier entry.recorded;
  round_is = entry.round_is;
  entry = entry.entry;
  sender = entry.sender;
}

later-entries : (item : Item) (history : List Item) (round : ℕ) → AllZip (IsEntryOf history round) (entries_in round history) (tags_listed_in round history)
    → AllZip (IsEntryOf (item ∷ history) round) (entries_in round history) (tags_listed_in round history)
later-entries item history round all =
    zip-map (IsEntryOf history round) (IsEntryOf (item ∷ history) round) (entries_in round history) (tags_listed_in round history) (later-entry item history round) all

later-replies : (item : Item) (history : List Item) (round : ℕ) → IsOfRepliesIn round (item ∷ history) → IsOfRepliesIn round history
later-replies item history round of = λ sent earlier rn recorded same ack. of sent earlier rn (later-record item history sent earlier recorded) same ack

-- what a record lists is told with its round
reply-round : (sent : Record) (reply : Reply) (one : Listed) → listed_from sent (whole_reply reply) ≡ one ∷ [] → one.round ≡ sent.round
reply-round sent (replies.Epc pc epc) one is = cc
reply-round sent reply one is = absurd (cc)

reception-round : (sent : Record) (reception : Reception) (one : Listed) → listed_from sent reception ≡ one ∷ [] → one.round ≡ sent.round
reception-round sent (whole_reply reply) one is = reply-round sent reply one is
reception-round sent reception one is = absurd (cc)

entry-round : (sent : Record) (one : Listed) → listed_by sent ≡ one ∷ [] → one.round ≡ sent.round
entry-round sent one is = reception-round sent (reception_of_ack sent sent.command) one is

-- the entries of a round among these
abbrev of_round : ℕ → List Listed → List Listed
of_round round listing = filter (λ listed. listed.round == round) listing

none-elsewhere : (sent : Record) (reception : Reception) (round : ℕ) → is_of_round round sent ≡ false → of_round round (listed_from sent reception) ≡ []
none-elsewhere sent (whole_reply (replies.Epc pc epc)) round other = rw other refl
none-elsewhere sent reception round other = refl

-- one entry and its sender count where the record is of the round
zip-one : (history : List Item) (round : ℕ) (here : Bool) (one : Listed) (number : ℕ) → here ≡ true → IsEntryOf history round one number
    → AllZip (IsEntryOf history round) (if here then one ∷ [] else []) (number ∷ [])
zip-one history round true one number same entry = (entry, tt)
zip-one history round false one number same entry = absurd (cc)

entries-of-round : (sent : Record) (past : List Item) (round : ℕ) → sent.round ≡ round → Lists (listed_by sent) (sender_listed_by sent)
    → AllZip (IsEntryOf (exchanged sent ∷ past) round) (of_round round (listed_by sent)) (sender_listed_by sent)
entries-of-round sent past round same (nobody none no_sender) =
    let history = exchanged sent ∷ past in
    subst (λ (entries : List Listed). AllZip (IsEntryOf history round) entries (sender_listed_by sent)) (sym (ap (of_round round) none))
    (subst (λ (senders : List ℕ). AllZip (IsEntryOf history round) [] senders) (sym no_sender) tt)
entries-of-round sent past round same (somebody one number listed_one sender) =
    let history = exchanged sent ∷ past in
    let here : (one.round == round) ≡ true = eq-eqb one.round round (entry-round sent one listed_one ∙ same) in
    let entry : IsEntryOf history round one number =
    record { sent = sent; earlier = past; recorded = record { later = []; is = refl }; round_is = same; entry = listed_one; sender = sender } in
    subst (λ (entries : List Listed). AllZip (IsEntryOf history round) entries (sender_listed_by sent)) (sym (ap (of_round round) listed_one))
    (subst (λ (senders : List ℕ). AllZip (IsEntryOf history round) (of_round round (one ∷ [])) senders) (sym sender)
    (zip-one history round (one.round == round) one number here entry))

entries-here : (sent : Record) (past : List Item) (round : ℕ) (here : Bool) → is_of_round round sent ≡ here
    → (of : here ≡ true → (rn : ℕ) → Acknowledges sent rn → IsOfReplies sent.given)
    → AllZip (IsEntryOf (exchanged sent ∷ past) round) (of_round round (listed_by sent)) (if here then sender_listed_by sent else [])
entries-here sent past round true is of = entries-of-round sent past round (eqb-true sent.round round is) (lists sent (of refl))
entries-here sent past round false is of =
    subst (λ (entries : List Listed). AllZip (IsEntryOf (exchanged sent ∷ past) round) entries []) (sym (none-elsewhere sent (reception_of_ack sent sent.command) round is)) tt

pub entries-listed : (round : ℕ) (history : List Item) → IsOfRepliesIn round history → AllZip (IsEntryOf history round) (entries_in round history) (tags_listed_in round history)
entries-listed round [] of = tt
entries-listed round (exchanged sent ∷ past) of =
    let history = exchanged sent ∷ past in
    subst (λ (entries : List Listed). AllZip (IsEntryOf history round) entries (tags_listed_in round history))
    (sym (filter-append (λ (listed : Listed). listed.round == round) (listing_of past) (listed_by sent)))
    (zip-append (IsEntryOf history round) (entries_in round past) (tags_listed_in round past) (of_round round (listed_by sent)) (if is_of_round round sent then sender_listed_by sent else [])
    (later-entries (exchanged sent) past round (entries-listed round past (later-replies (exchanged sent) past round of)))
    (entries-here sent past round (is_of_round round sent) refl
    (λ here rn ack. of sent past rn (record { later = []; is = refl }) (eqb-true sent.round round here) ack)))
entries-listed round (item ∷ past) of = later-entries item past round (entries-listed round past (later-replies item past round of))
