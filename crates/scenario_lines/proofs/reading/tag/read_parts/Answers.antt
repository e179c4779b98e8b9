-- Seven fields spell a tag, or none.
use Rattle.std.proofs.Common.{◌≡◌, ◌∷◌, [], ◌∙◌, rules, sym}
use Rattle.scenario_lines.proofs.Counted.{each_filled}
use Rattle.text_fields.proofs.FilledFields.{have_7}
use Rattle.scenario_lines.proofs.TagFields.{tag_fields_are}
use Rattle.scenario_lines.proofs.reading.tag.read_parts.Goals as goal

pub returns-in_default-clause-refused : goal.returns-in_default-clause-refused
returns-in_default-clause-refused c = λ are. have_7 c.args.others are c.in_default.ensures.only

pub returns-in_default-lists_of-clause-refused : goal.returns-in_default-lists_of-clause-refused
returns-in_default-lists_of-clause-refused c =
    let fields : c.args.others ≡ c.in-Some.kill.now ∷ c.in-Some.access.now ∷ c.in-Some.locks.now ∷ c.in-Some.epc.now ∷ c.in-Some.tid.now
    ∷ c.in-Some.user.now ∷ c.in-Some.words.now ∷ [] = search rules in
    let value = c.in-Some.ensures.value in (
      rw fields (each_filled _ (value.1, (value.2, (value.3, (value.4, (value.5, (value.6, (value.7, tt)))))))),
      λ tag form spells.
          let are = tag_fields_are _ tag (sym fields ∙ spells) in
          c.in_default-lists_of.ensures.none tag.image.epc tag.image.tid tag.image.user tag.words form.epc form.tid form.user form.words are.epc_is
          are.tid_is are.user_is are.words_is,
    )
