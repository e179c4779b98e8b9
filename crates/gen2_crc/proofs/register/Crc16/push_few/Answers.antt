use Rattle.std.proofs.Common.{◌≡◌, ◌++◌, ◌∙◌, List, Bool, take, ap, sym, subst, append_assoc}
use Rattle.std.proofs.lemmas.List.{take-append-drop}
use Rattle.bit_strings.specs.NumbersInBits.{value_of, field_of}
use Rattle.bit_strings.specs.laws.NumbersInBits.{field_of-value_of}
use Rattle.gen2_crc.specs.Crc.{RegisterStandsFor}
use Rattle.gen2_crc.proofs.register.Crc16.push_few.Goals as goal

pub returns : goal.returns
returns c = λ front stands.
    let bits : List Bool = c.args.bits.now in
    let first : List Bool = c.split_at.result.0.now in
    let rest : List Bool = c.split_at.result.1.now in
    let octet = c.octet_of.result in
    let parts = c.split_at.ensures in
    let same : field_of octet 8 ≡ first = ap (λ n. field_of n 8) c.octet_of.ensures ∙ ap (λ n. field_of (value_of first) n) (sym parts.front_len) ∙ field_of-value_of first in
    let whole : first ++ rest ≡ bits = ap (λ (l : List Bool). l ++ rest) parts.front ∙ ap (λ (l : List Bool). take 8 bits ++ l) parts.back ∙ take-append-drop 8 bits in
    subst (RegisterStandsFor c.push_each-2.new.self)
    (append_assoc front (field_of octet 8) rest ∙ ap (λ (l : List Bool). front ++ l) (ap (λ (l : List Bool). l ++ rest) same ∙ whole))
    (c.push_each-2.ensures (front ++ field_of octet 8) (c.push_octet.ensures front stands))
