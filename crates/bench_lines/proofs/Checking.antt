-- How far the lines of a probe behind that of the tag are read.
use Rattle.std.proofs.Common.{◌≡◌, ◌≢◌, ◌≤◌, ◌<◌, ◌+◌, ℕ, List, [], ◌∷◌, ◌++◌, length, refl, sym, ap, subst, arith, append_assoc, length-append}
use Rattle.std.proofs.lemmas.List.{append-nil}
use Rattle.text_fields.specs.Lines.{fields_of, lines_of}
use Rattle.text_fields.specs.declared.fields_fault.FieldsFault.{FieldsFault}
use Rattle.checked_lines.specs.TextRules.{HasOutcomeFrom, Faulty}
use Rattle.checked_lines.specs.laws.ReadingOn.{HasReadTo, NextLine, all_read, extra_read, fault_read, none_read, one_read, unended_read}
use Rattle.checked_lines.specs.declared.fault.FaultReason.{FaultReason}
use Rattle.checked_lines.specs.declared.fault.FaultReason.TheVariants.{Extra, End}
use Rattle.scenario_lines.specs.declared.tag.TagSpec.{TagSpec}
use Rattle.bench_lines.specs.Stimuli as lines
use Rattle.bench_lines.specs.Stimuli.{Stimulus}
use Rattle.bench_lines.specs.ProbeLineFaults.{IsFaultyProbeLine}
use Rattle.bench_lines.specs.laws.ProbeLineLaws.{ProbeLineLaws}
use Rattle.bench_lines.specs.ProbeLine.{SpellsProbeLine, SpellsTag, version_line}
use Rattle.bench_lines.specs.ProbeText.{AreStimuli, EndProbe, IsFaultyBehindTag, IsFirstFaultBehind, SayStimuli, begun, ended, most_stimuli, probe_rules, start, within}

-- Of the lines behind that of the tag so many are read, which say what is done to it, and these are left: what is said there is the rest of
-- what all say.
pub record HasSaid (text rest : List ℕ) (count : ℕ) : Type 0 where
  pub said : List Stimulus
  pub count_is : count ≡ length said
  pub few : count ≤ most_stimuli
  pub read : (tag : TagSpec) → HasReadTo probe_rules (within tag []) 3 (lines_of text) (within tag said) (3 + count) (lines_of rest)
  pub says : (more : List Stimulus) → SayStimuli (lines_of rest) more → SayStimuli (lines_of text) (said ++ more)

pub none_said : (text : List ℕ) → HasSaid text text 0
none_said text = record {
  said = [];
  count_is = refl;
  few = omega arith;
  read = λ tag. none_read probe_rules (within tag []) 3 (lines_of text);
  says = λ more say. say;
}

-- one line more
pub one_said : (text rest : List ℕ) (count : ℕ) (next : NextLine (lines_of rest)) (stimulus : Stimulus) → HasSaid text rest count
    → SpellsProbeLine (fields_of next.line) (lines.Does stimulus) → count < most_stimuli → HasSaid text next.rest (count + 1)
one_said text rest count next stimulus so_far spells room =
    let said = so_far.said ++ stimulus ∷ [] in
    let number : 3 + count + 1 ≡ 3 + (count + 1) = omega arith in
    record {
      said = said;
      count_is = omega (arith, so_far.count_is, length-append so_far.said (stimulus ∷ []));
      few = omega arith;
      read = λ tag.
          subst (λ (n : ℕ). HasReadTo probe_rules (within tag []) 3 (lines_of text) (within tag said) n (lines_of next.rest)) number
          (one_read probe_rules (within tag []) 3 (lines_of text) (within tag so_far.said) (3 + count) (lines_of rest) next (within tag said) (so_far.read tag)
          (record { says = lines.Does stimulus; spells = spells; room = omega (arith, so_far.count_is, room); leads = refl }));
      says = λ more say.
          subst (λ (all : List Stimulus). SayStimuli (lines_of text) all) (sym (append_assoc so_far.said (stimulus ∷ []) more))
          (so_far.says (stimulus ∷ more) (subst (λ (left : List (List ℕ)). SayStimuli left (stimulus ∷ more)) (sym next.cut) (spells, say)));
    }

-- a line is missing, or has no line feed
pub line_wanted : (text rest : List ℕ) (count : ℕ) → HasSaid text rest count → lines_of rest ≡ rest ∷ [] → IsFirstFaultBehind (lines_of text) (3 + count) End
line_wanted text rest count so_far last = λ tag.
    unended_read probe_rules (within tag []) 3 (lines_of text) (within tag so_far.said) (3 + count) rest (so_far.read tag) last (λ none may. may)

-- a line is faulty
pub line_faulty : (text rest : List ℕ) (count : ℕ) (next : NextLine (lines_of rest)) (fault : FaultReason) → HasSaid text rest count
    → IsFaultyBehindTag count (fields_of next.line) fault → IsFirstFaultBehind (lines_of text) (3 + count) fault
line_faulty text rest count next fault so_far faulty = λ tag.
    fault_read probe_rules (within tag []) 3 (lines_of text) (within tag so_far.said) (3 + count) (lines_of rest) next fault (so_far.read tag)
    (subst (λ (n : ℕ). IsFaultyBehindTag n (fields_of next.line) fault) so_far.count_is faulty)

-- the end
end_read : (text rest : List ℕ) (count : ℕ) (next : NextLine (lines_of rest)) (tag : TagSpec) (so_far : HasSaid text rest count)
    → SpellsProbeLine (fields_of next.line) lines.End
    → HasReadTo probe_rules (within tag []) 3 (lines_of text) (ended tag so_far.said) (3 + count + 1) (lines_of next.rest)
end_read text rest count next tag so_far spells =
    one_read probe_rules (within tag []) 3 (lines_of text) (within tag so_far.said) (3 + count) (lines_of rest) next (ended tag so_far.said) (so_far.read tag)
    (record { says = lines.End; spells = spells; room = tt; leads = refl })

-- something stands behind the end
pub line_extra : (text rest : List ℕ) (count : ℕ) (next : NextLine (lines_of rest)) → HasSaid text rest count → SpellsProbeLine (fields_of next.line) lines.End
    → next.rest ≢ [] → IsFirstFaultBehind (lines_of text) (3 + (count + 1)) Extra
line_extra text rest count next so_far spells some = λ tag.
    let number : 3 + count + 1 ≡ 3 + (count + 1) = omega arith in
    subst (λ (n : ℕ). HasOutcomeFrom probe_rules (within tag []) 3 (lines_of text) (Faulty n Extra)) number
    (extra_read probe_rules (within tag []) 3 (lines_of text) (ended tag so_far.said) (3 + count + 1) next.rest (end_read text rest count next tag so_far spells)
    (λ line. refl) some)

-- the end stands last
pub line_last : (text rest : List ℕ) (count : ℕ) (next : NextLine (lines_of rest)) → HasSaid text rest count → SpellsProbeLine (fields_of next.line) lines.End
    → next.rest ≡ [] → EndProbe (lines_of text)
line_last text rest count next so_far spells none = record {
  said = so_far.said;
  are = record {
    say = subst (λ (all : List Stimulus). SayStimuli (lines_of text) all) (append-nil so_far.said)
        (so_far.says [] (subst (λ (left : List (List ℕ)). SayStimuli left []) (sym next.cut) (spells, ap lines_of none)));
    few = omega (arith, so_far.few, so_far.count_is);
  };
  whole = λ tag.
      all_read probe_rules (within tag []) 3 (lines_of text) (ended tag so_far.said) (3 + count + 1) next.rest (end_read text rest count next tag so_far spells) none tt;
}

-- The first two lines: the version,
pub version_read : (text : List ℕ) (first : NextLine (lines_of text)) → first.line ≡ version_line
    → HasReadTo probe_rules start 1 (lines_of text) begun 2 (lines_of first.rest)
version_read text first version =
    one_read probe_rules start 1 (lines_of text) start 1 (lines_of text) first begun (none_read probe_rules start 1 (lines_of text)) (version, refl)

-- and the tag
pub tag_read : (text : List ℕ) (first : NextLine (lines_of text)) (second : NextLine (lines_of first.rest)) (tag : TagSpec) → first.line ≡ version_line
    → SpellsTag (fields_of second.line) tag → HasReadTo probe_rules start 1 (lines_of text) (within tag []) 3 (lines_of second.rest)
tag_read text first second tag version spells =
    one_read probe_rules start 1 (lines_of text) begun 2 (lines_of first.rest) second (within tag []) (version_read text first version)
    (record { tag = tag; spells = spells; leads = refl })

-- the first of some lines, which says what is done to the tag
pub record FirstStimulus (left : List (List ℕ)) : Type 0 where
  pub line : List ℕ
  pub behind : List (List ℕ)
  pub cut : left ≡ line ∷ behind
  pub stimulus : Stimulus
  pub spells : SpellsProbeLine (fields_of line) (lines.Does stimulus)

-- What the first line that is left says is done to the tag is the first that is done to it.
first_of : ProbeLineLaws → (line : List ℕ) (behind : List (List ℕ)) (stimulus : Stimulus) (said : List Stimulus)
    → SpellsProbeLine (fields_of line) (lines.Does stimulus) → SayStimuli (line ∷ behind) said
    → (rest : List Stimulus) × (said ≡ stimulus ∷ rest) × SayStimuli behind rest
first_of laws line behind stimulus [] spells say =
    let same = laws.told (fields_of line) (lines.Does stimulus) lines.End spells say.0 in
    absurd cc
first_of laws line behind stimulus (next ∷ rest) spells say =
    let same = laws.told (fields_of line) (lines.Does stimulus) (lines.Does next) spells say.0 in
    (rest, cc, say.1)

pub first_left : ProbeLineLaws → (left : List (List ℕ)) (first : FirstStimulus left) (said : List Stimulus) → SayStimuli left said
    → (rest : List Stimulus) × (said ≡ first.stimulus ∷ rest) × SayStimuli first.behind rest
first_left laws left first said say =
    first_of laws first.line first.behind first.stimulus said first.spells (subst (λ (list : List (List ℕ)). SayStimuli list said) first.cut say)

-- ... and what is left behind it is no more
pub left_behind : ProbeLineLaws → (left : List (List ℕ)) (first : FirstStimulus left) (said : List Stimulus) → AreStimuli left said
    → (rest : List Stimulus) × AreStimuli first.behind rest
left_behind laws left first said are =
    let rest = first_left laws left first said are.say in
    (rest.0, record { say = rest.2; few = omega (arith, are.few, ap length rest.1) })

-- none of the lines that are left is faulty
says_something : ProbeLineLaws → (line : List ℕ) (behind : List (List ℕ)) (said : List Stimulus) (fault : FieldsFault) → SayStimuli (line ∷ behind) said
    → IsFaultyProbeLine (fields_of line) fault → ⊥
says_something laws line behind [] fault say faulty = laws.not_faulty (fields_of line) lines.End fault say.0 faulty
says_something laws line behind (stimulus ∷ rest) fault say faulty = laws.not_faulty (fields_of line) (lines.Does stimulus) fault say.0 faulty

pub none_faulty : ProbeLineLaws → (left : List (List ℕ)) (line : List ℕ) (behind : List (List ℕ)) (said : List Stimulus) (fault : FieldsFault) → AreStimuli left said
    → left ≡ line ∷ behind → IsFaultyProbeLine (fields_of line) fault → ⊥
none_faulty laws left line behind said fault are cut faulty =
    says_something laws line behind said fault (subst (λ (list : List (List ℕ)). SayStimuli list said) cut are.say) faulty
