-- The tag lines of a report are those of each tag as it stands in the end.
use Rattle.runs.proofs.Names.{◌≡◌, ℕ, ◌+◌, List, [], ◌∷◌, ◌++◌, map, filter, refl, ap, ◌∙◌, filter-append, Start, Item, exchanged, tag_behind, tags_behind_from, is_tag_line, tag_lines_behind}
use Rattle.runs.proofs.Names.{listed_by, listing_of, exchange_lines, list_line, item_lines, past_lines, tag_lines, last_lines, run_lines, report_of, Mode, history_of, Step, LinkValue, ReportLine}
use Rattle.runs.proofs.Names.{SeenLine, TagLine, DoneLine, SeenCount, seen_counts, TagValue}
use Rattle.runs.proofs.HeadlineKept.{kept-pass}
use Rattle.runs.proofs.HeadlineLines.{PassesNoTrace, no-exchange, no-listed}

tag-no-trace : PassesNoTrace is_tag_line
tag-no-trace (TagLine number tag) is = absurd (cc)
tag-no-trace line is = refl

-- no item has a tag line
no-item : (link : LinkValue) (item : Item) → filter is_tag_line (item_lines link item) ≡ []
no-item link (exchanged sent) =
    filter-append is_tag_line (exchange_lines link sent) (map list_line (listed_by sent))
    ∙ ap (λ (lines : List ReportLine). lines ++ filter is_tag_line (map list_line (listed_by sent))) (no-exchange is_tag_line tag-no-trace link sent)
    ∙ no-listed is_tag_line (λ listed. refl) (listed_by sent)
no-item link item = refl

-- no past has one
no-past : (link : LinkValue) (past : List Item) → filter is_tag_line (past_lines link past) ≡ []
no-past link [] = refl
no-past link (item ∷ past) =
    filter-append is_tag_line (past_lines link past) (item_lines link item)
    ∙ ap (λ (lines : List ReportLine). lines ++ filter is_tag_line (item_lines link item)) (no-past link past)
    ∙ no-item link item

tags-alone : (number : ℕ) (starts : List TagValue) (past : List Item)
    → filter is_tag_line (tag_lines number (tags_behind_from number starts past) ++ DoneLine ∷ []) ≡ tag_lines_behind number starts past
tags-alone number [] past = refl
tags-alone number (start ∷ starts) past = ap (λ (lines : List ReportLine). TagLine number (tag_behind number start past) ∷ lines) (tags-alone (number + 1) starts past)

seen-then-tags : (seen : List SeenCount) (number : ℕ) (starts : List TagValue) (past : List Item)
    → filter is_tag_line (map (λ seen. SeenLine seen.count seen.pc seen.epc) seen ++ tag_lines number (tags_behind_from number starts past) ++ DoneLine ∷ []) ≡ tag_lines_behind number starts past
seen-then-tags [] number starts past = tags-alone number starts past
seen-then-tags (one ∷ more) number starts past = seen-then-tags more number starts past

-- those of each tag are all
run-tags : (start : Start) (past : List Item)
    → filter is_tag_line (past_lines start.link past ++ last_lines start past) ≡ tag_lines_behind 0 start.tags past
run-tags start past =
    filter-append is_tag_line (past_lines start.link past) (last_lines start past)
    ∙ ap (λ (lines : List ReportLine). lines ++ filter is_tag_line (last_lines start past)) (no-past start.link past)
    ∙ seen-then-tags (seen_counts (map (λ listed. (listed.pc, listed.epc)) (listing_of past))) 0 start.tags past

pub report-tags : (mode : Mode) (start : Start) (steps : List Step) → filter is_tag_line (report_of mode start steps) ≡ tag_lines_behind 0 start.tags (history_of start steps)
report-tags mode start steps = kept-pass is_tag_line tag-no-trace mode (run_lines start steps) ∙ run-tags start (history_of start steps)
