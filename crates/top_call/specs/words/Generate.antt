-- Profile: what `gen SEED TAGS` writes: the summary of the scenario that is made of the seed, a line a count.
use Rattle.std.specs.Prelude.{◌≡◌, ℕ, Bool, true, false, List, [], ◌∷◌, ◌++◌, codes}
use Rattle.std.specs.Fmt.{decimal}
use Rattle.runs.specs.Summary.{summary_of}
use Rattle.runs.specs.declared.summary.Summary.{Summary}
use Rattle.made_runs.specs.CountsAll.{CountsAll}
use Rattle.made_runs.specs.Made.{made_scenario}
use Rattle.text_fields.specs.Lines.{text_with}
use Rattle.top_call.specs.Job.{Job}

-- how the rounds ended: each quiet, or one by its limit
abbrev pub end_line : Bool → List ℕ
end_line true = codes "end quiet"
end_line false = codes "end limit"

-- the lines of the summary that `gen` writes
abbrev pub summary_lines : Summary → List (List ℕ)
summary_lines summary =
    (codes "tags " ++ decimal summary.tags) ∷ (codes "listed " ++ decimal summary.listed) ∷ (codes "distinct " ++ decimal summary.distinct)
    ∷ (codes "slots " ++ decimal summary.slots) ∷ end_line summary.quiet ∷ codes "done" ∷ []

-- the text of a summary
abbrev pub summary_text : Summary → List ℕ
summary_text summary = text_with (summary_lines summary)

-- what the run of the scenario of a seed with so many tags counts
abbrev pub summary_of_made : (seed tags : ℕ) → Summary
summary_of_made seed tags = summary_of (made_scenario seed tags)

-- the text is that summary
abbrev pub IsSummaryOfMade : (seed tags : ℕ) → List ℕ → Type 0
IsSummaryOfMade seed tags text = text ≡ summary_text (summary_of_made seed tags)

-- the text is that summary, and where it says that the round ended quiet, each tag was listed
pub record CountsEveryTag (seed tags : ℕ) (text : List ℕ) : Type 0 where
  pub is : IsSummaryOfMade seed tags text
  pub every : (summary_of_made seed tags).quiet ≡ true → CountsAll (summary_of_made seed tags) tags

-- the summary of the run of the scenario of this seed with so many tags
abbrev pub gen_job : (seed tags : ℕ) → Job
gen_job seed tags = record {
  input = false;
  allows = λ bytes. Unit {0};
  writes = λ bytes text. IsSummaryOfMade seed tags text;
  refuses = λ bytes text. ⊥;
  promises = λ bytes text. CountsEveryTag seed tags text;
}
