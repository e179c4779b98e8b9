-- Two words of a memory that was just made, written where they stand in its banks.
use Rattle.std.proofs.Common.{◌≡◌, ℕ, suc, ◌+◌, ◌-◌, ◌<◌, ◌≤◌, List, [], ◌∷◌, ◌++◌, length, take, drop, slice_index, slice_set, sym, ◌∙◌, ap, append_assoc, arith}
use Rattle.std.proofs.lemmas.List.{take-append-drop, take-set, drop-set}
use Rattle.command_fields.specs.declared.choices.Bank.TheVariants.{Epc, Tid}
use Rattle.tag_memory.specs.declared.image.BankImage.{BankImage}
use Rattle.tag_memory.specs.ReadsAndWrites.{banks_with_words_at, with_words_at}
use Rattle.tag_memory.specs.Image.{banks_of, image_banks, with_last_words}
use Rattle.tag_memory.specs.Memory.{Banks, length_in, with_stored_crc}

-- one word that is written is one that is set
one-word : (words : List ℕ) (place word : ℕ) → place < length words → with_words_at words place (word ∷ []) ≡ slice_set words place word
one-word words place word inside =
    append_assoc (take place words) (word ∷ []) (drop (place + 1) words)
    ∙ ap (λ (front : List ℕ). front ++ (word ∷ drop (place + 1) words)) (sym (take-set words place word))
    ∙ ap (λ (rest : List ℕ). take place (slice_set words place word) ++ rest) (sym (drop-set words place word inside))
    ∙ take-append-drop place (slice_set words place word)

-- both words are written, and StoredCRC is computed
pub both-written : (image : BankImage) (made with_epc with_tid done : Banks) (count last word other : ℕ) → count < length image.epc → 2 ≤ length image.tid
    → made ≡ image_banks image → count ≡ length_in (slice_index image.epc 0) → with_epc ≡ banks_with_words_at made Epc (1 + count) (word ∷ [])
    → last ≡ length image.tid - 1 → with_tid ≡ banks_with_words_at with_epc Tid last (other ∷ []) → done ≡ with_stored_crc with_tid
    → done ≡ banks_of (with_last_words image word other)
both-written image made with_epc with_tid done count last word other inside some is counted written end written_other computed =
    let next : 1 + count ≡ suc count = omega arith in
    let banks : List ℕ → List ℕ → Banks = λ epc tid. record (image_banks image) { epc = epc; tid = tid } in
    let with_both = with_last_words image word other in
    let epc : with_words_at (0 ∷ image.epc) (1 + count) (word ∷ []) ≡ 0 ∷ with_both.epc =
    ap (λ p. with_words_at (0 ∷ image.epc) p (word ∷ [])) next ∙ one-word (0 ∷ image.epc) (suc count) word (omega (arith, inside))
    ∙ ap (λ p. 0 ∷ slice_set image.epc p word) counted in
    let tid : with_words_at image.tid last (other ∷ []) ≡ with_both.tid =
    ap (λ p. with_words_at image.tid p (other ∷ [])) end ∙ one-word image.tid (length image.tid - 1) other (omega (arith, some)) in
    computed ∙ ap with_stored_crc
    (written_other ∙ ap (λ (b : Banks). banks_with_words_at b Tid last (other ∷ [])) (written ∙ ap (λ (b : Banks). banks_with_words_at b Epc (1 + count) (word ∷ [])) is)
    ∙ ap (λ (words : List ℕ). banks words (with_words_at image.tid last (other ∷ []))) epc ∙ ap (λ (words : List ℕ). banks (0 ∷ with_both.epc) words) tid)
