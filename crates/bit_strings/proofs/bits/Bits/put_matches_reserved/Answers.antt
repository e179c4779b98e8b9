-- What is told of a part more is in the list.
use Rattle.std.proofs.Common.{◌≡◌, ◌∙◌, ◌==◌, ℕ, Bool, List, ◌++◌, ap, append_assoc, arith, drop, length, map, sym, take}
use Rattle.std.proofs.lemmas.List.{length-append, length-drop, length-map, map-append, take-append-drop}
use Rattle.bit_strings.specs.BitString.{BitString}
use Rattle.bit_strings.proofs.bits.Bits.put_matches_reserved.Goals as goal

-- of bytes in two parts as much is told as of each
in_parts : (f : ℕ → Bool) (bits : List Bool) (bytes part behind : List ℕ) (count : ℕ) → part ≡ take count bytes → behind ≡ drop count bytes
    → (bits ++ map f part) ++ map f behind ≡ bits ++ map f bytes
in_parts f bits bytes part behind count front rest =
    let both = ap (map f) (take-append-drop count bytes) in
    rw (front, rest) (append_assoc bits (map f (take count bytes)) (map f (drop count bytes))
    ∙ ap (λ (more : List Bool). bits ++ more) (sym (map-append f (take count bytes) (drop count bytes)) ∙ both))

pub loop-part-preserved : goal.loop-part-preserved
loop-part-preserved c =
    let split = c.in-Some.ensures.cases in
    let told : ℕ → Bool = λ byte. byte == c.args.one in
    let parts = in_parts told c.loop-part.self.items c.loop-part.rest.now c.in-Some.part.now c.in-Some.behind.now 64 split.0 split.1 in
    let put = ap (λ (it : BitString). it.items) c.put_all_reserved.ensures in
    let room = ap (λ (it : BitString). it.capacity) c.put_all_reserved.ensures in
    let told_of_part = put ∙ ap (λ (more : List Bool). c.loop-part.self.items ++ more) c.write_matches.ensures in
    let size = ap length put ∙ length-append c.loop-part.self.items c.write_matches.new.bits in
    let written = ap length c.write_matches.ensures ∙ length-map c.in-Some.part.now told in
    let left = ap length split.1 ∙ length-drop 64 c.loop-part.rest.now in (
      ap (λ (bits : List Bool). bits ++ map told c.in-Some.behind.now) told_of_part ∙ parts ∙ c.loop-part.invariant.0,
      room ∙ c.loop-part.invariant.1,
      omega (arith, size, written, left, room, c.loop-part.invariant.2),
      omega (arith, written),
    )
