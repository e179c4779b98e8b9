-- What stands behind a part of a log, and what becomes of it with an entry more.
use Rattle.std.proofs.Common.{◌≡◌, ℕ, ◌+◌, List, [], ◌∷◌, ◌++◌, Option, None, refl, sym, subst, arith, inl}
use Rattle.air_events.specs.declared.Event.{Event}
use Rattle.command_grammar.specs.declared.commands.Command.{Command}
use Rattle.log_judge.specs.Log.{LogEntry, LoggedTag, Seen, Exchange, Befalls, last_line, line_count, lines_in, tag_with}
use Rattle.log_judge.specs.Explaining.{Manner, ByTables, WithLiberties}
use Rattle.log_judge.specs.Verdicts.{FailsFirst, IsVerdict, IsWanted, Verdict, Want, Yes, Profile, No}
use Rattle.log_judge.specs.laws.Logs.{IsLegalEntry}
use Rattle.log_judge.specs.laws.Known.{Known, want_of}
use Rattle.log_judge.specs.laws.StandingLaws.{StandsBehind}
use Rattle.log_judge.proofs.OneVerdict.{allowed_front, goes_on as fails_still, no_stays}
use Rattle.log_judge.proofs.Standing.{allowed_where_stands, fails_on, stands_first, stands_on}
use Rattle.log_judge.proofs.Wants.{wanted}
use Rattle.log_judge.specs.Answers.{want_in}
use Rattle.log_judge.specs.JudgeStanding.{HasHeardLog, JudgeValue, Stands, verdict_noted}
use Rattle.log_judge.specs.KnownTag.{Goes, IsExcusedHere, MayGo, Shows, known_of, known_wordless}
use Rattle.log_judge.specs.declared.shown.Shown.{Shown}
use Rattle.log_judge.specs.declared.shown.Shown.TheVariants as shown

-- the words that a tag draws make no difference to what is known
stands_wordless : (manner : Manner) (tag : LoggedTag) (log : List LogEntry) (known : Known) → StandsBehind manner tag log known → StandsBehind manner tag log (known_wordless known)
stands_wordless manner tag log known stands = record {
  valid = record { small = stands.valid.small; itself = stands.valid.itself };
  sound = λ words behind drawn leads.
      let it = stands.sound words behind drawn leads in
      record { place = it.place; inside = it.inside; covers = record { state = it.covers.state; body = it.covers.body } };
  whole = λ state future covers some.
      let it = stands.whole state future covers some in
      record { used = it.used; small = it.small; leads = it.leads };
}

module _ (tag : LoggedTag) (log : List LogEntry) (known : Known) (entry : LogEntry) (legal : IsLegalEntry entry) (behind : Known) where
  abbrev longer : List LogEntry
  longer = log ++ entry ∷ []

  pub goes_on : (manner : Manner) → StandsBehind manner tag log known → Goes manner known entry behind → StandsBehind manner tag longer behind
  goes_on manner stands goes =
      subst (λ (k : Known). StandsBehind manner tag longer k) (sym goes.is)
      (stands_wordless manner tag longer goes.next (stands_on manner tag log known stands entry legal goes.next goes.follows))

-- what goes on by the tables goes on with the liberties too
pub goes_with : (known : Known) (entry : LogEntry) (behind : Known) → Goes ByTables known entry behind → Goes WithLiberties known entry behind
goes_with known (Exchange heard seen) behind goes = record { next = goes.next; follows = (inl goes.follows.0, goes.follows.1); is = goes.is }
goes_with known (Befalls event) behind goes = record { next = goes.next; follows = goes.follows; is = goes.is }

-- the number of the last line
lines_on : (log : List LogEntry) (entry : LogEntry) → lines_in (log ++ entry ∷ []) ≡ lines_in log + line_count entry
lines_on [] entry = omega arith
lines_on (first ∷ log) entry = omega (arith, lines_on log entry)

pub line_on : (log : List LogEntry) (entry : LogEntry) (line : ℕ) → line ≡ last_line log → line + line_count entry ≡ last_line (log ++ entry ∷ [])
line_on log entry line is = omega (arith, is, lines_on log entry)

module _ (tag : LoggedTag) (log : List LogEntry) (known : Known) (entry : LogEntry) (legal : IsLegalEntry entry) (line : ℕ) (line_is : line ≡ last_line log) (behind : Known) where
  abbrev whole : List LogEntry
  whole = log ++ entry ∷ []

  abbrev new_line : ℕ
  new_line = line + line_count entry

  abbrev judge_with : Verdict → JudgeValue
  judge_with verdict = record { verdict = verdict; known = behind; line = new_line }

  -- the log is explained, and still is
  pub explained_on : Stands tag log known Yes → Goes ByTables known entry behind → HasHeardLog tag whole (judge_with Yes)
  explained_on stands goes =
      let stands_on_tables = goes_on tag log known entry legal behind ByTables stands.0 goes in
      record {
        line = line_on log entry line line_is;
        verdict = allowed_where_stands ByTables tag whole behind stands_on_tables;
        stands = (stands_on_tables, goes_on tag log known entry legal behind WithLiberties stands.1 (goes_with known entry behind goes));
      }

  -- a liberty was taken before, and the log is excused still
  pub excused_on : (number : ℕ) (want : Want) → IsVerdict tag log (Profile number want) → StandsBehind WithLiberties tag log known → Goes WithLiberties known entry behind
      → HasHeardLog tag whole (judge_with (Profile number want))
  excused_on number want verdict stands goes =
      let stands_behind = goes_on tag log known entry legal behind WithLiberties stands goes in
      record {
        line = line_on log entry line line_is;
        verdict = record {
          unexplained = λ explained. verdict.unexplained (allowed_front ByTables tag log (entry ∷ []) explained);
          excused = allowed_where_stands WithLiberties tag whole behind stands_behind;
          first = fails_still ByTables tag log (entry ∷ []) number want verdict.first;
        };
        stands = stands_behind;
      }

  -- the log was refused before
  pub refused_on : (number : ℕ) (want : Want) → IsVerdict tag log (No number want) → HasHeardLog tag whole (judge_with (No number want))
  refused_on number want verdict = record { line = line_on log entry line line_is; verdict = no_stays tag log (entry ∷ []) number want verdict; stands = tt }

-- an exchange at which the log first fails
module _ (tag : LoggedTag) (log : List LogEntry) (known : Known) (heard : Option Command) (seen : Option Seen) (legal : IsLegalEntry (Exchange heard seen)) (line : ℕ) (line_is : line ≡ last_line log) (behind : Known)
    (want : Want) (want_is : want ≡ want_of known heard) where
  abbrev exchange : LogEntry
  exchange = Exchange heard seen

  fails_here : (manner : Manner) → StandsBehind manner tag log known → ¬ MayGo manner known exchange → FailsFirst manner tag (log ++ exchange ∷ []) (line + 2) want
  fails_here manner stands none = record {
    before = log;
    heard = heard;
    seen = seen;
    behind = [];
    cut = refl;
    allowed = allowed_where_stands manner tag log known stands;
    fails = fails_on manner tag log known stands exchange legal (λ next follows. none (next, follows));
    place = line_on log exchange line line_is;
    wanted = subst (λ (w : Want). IsWanted manner tag log heard w) (sym want_is) (wanted manner tag log known heard stands legal.heard_is);
  }

  pub excused_first : Stands tag log known Yes → IsExcusedHere known heard seen behind → HasHeardLog tag (log ++ exchange ∷ []) (record { verdict = Profile (line + 2) want; known = behind; line = line + 2 })
  excused_first stands it =
      let stands_behind = goes_on tag log known exchange legal behind WithLiberties stands.1 it.goes in
      record {
        line = line_on log exchange line line_is;
        verdict = record {
          unexplained = fails_on ByTables tag log known stands.0 exchange legal (λ next follows. it.unexplained (next, follows));
          excused = allowed_where_stands WithLiberties tag (log ++ exchange ∷ []) behind stands_behind;
          first = fails_here ByTables stands.0 it.unexplained;
        };
        stands = stands_behind;
      }

  pub refused_first : StandsBehind WithLiberties tag log known → ¬ MayGo WithLiberties known exchange → HasHeardLog tag (log ++ exchange ∷ []) (record { verdict = No (line + 2) want; known = behind; line = line + 2 })
  refused_first stands none = record {
    line = line_on log exchange line line_is;
    verdict = record {
      unexcused = fails_on WithLiberties tag log known stands exchange legal (λ next follows. none (next, follows));
      first = fails_here WithLiberties stands none;
    };
    stands = tt;
  }

-- an exchange, by what it shows
pub heard_on : (tag : LoggedTag) (log : List LogEntry) (verdict : Verdict) (known : Known) (line : ℕ) (heard : Option Command) (seen : Option Seen) (shown : Shown) (behind : Known)
    → IsLegalEntry (Exchange heard seen) → HasHeardLog tag log (record { verdict = verdict; known = known; line = line }) → Shows known heard seen shown behind
    → HasHeardLog tag (log ++ Exchange heard seen ∷ []) (record { verdict = verdict_noted verdict shown (line + 2); known = behind; line = line + 2 })
heard_on tag log Yes known line heard seen shown.Explained behind legal has shows =
    explained_on tag log known (Exchange heard seen) legal line has.line behind has.stands shows
heard_on tag log Yes known line heard seen (shown.Excused want) behind legal has shows =
    excused_first tag log known heard seen legal line has.line behind (want_in want) shows.1 has.stands shows.0
heard_on tag log Yes known line heard seen (shown.Refused want) behind legal has shows =
    refused_first tag log known heard seen legal line has.line behind (want_in want) shows.1 has.stands.1 shows.0
heard_on tag log (Profile number earlier) known line heard seen shown.Explained behind legal has shows =
    excused_on tag log known (Exchange heard seen) legal line has.line behind number earlier has.verdict has.stands (goes_with known (Exchange heard seen) behind shows)
heard_on tag log (Profile number earlier) known line heard seen (shown.Excused want) behind legal has shows =
    excused_on tag log known (Exchange heard seen) legal line has.line behind number earlier has.verdict has.stands shows.0.goes
heard_on tag log (Profile number earlier) known line heard seen (shown.Refused want) behind legal has shows =
    refused_first tag log known heard seen legal line has.line behind (want_in want) shows.1 has.stands shows.0
heard_on tag log (No number earlier) known line heard seen (shown.Excused want) behind legal has shows =
    refused_on tag log known (Exchange heard seen) legal line has.line behind number earlier has.verdict
heard_on tag log (No number earlier) known line heard seen shown_then behind legal has shows =
    refused_on tag log known (Exchange heard seen) legal line has.line behind number earlier has.verdict

-- an event
pub befallen_on : (tag : LoggedTag) (log : List LogEntry) (verdict : Verdict) (known : Known) (line : ℕ) (event : Event) (behind : Known)
    → HasHeardLog tag log (record { verdict = verdict; known = known; line = line }) → Goes ByTables known (Befalls event) behind
    → HasHeardLog tag (log ++ Befalls event ∷ []) (record { verdict = verdict; known = behind; line = line + 1 })
befallen_on tag log Yes known line event behind has goes = explained_on tag log known (Befalls event) tt line has.line behind has.stands goes
befallen_on tag log (Profile number earlier) known line event behind has goes =
    excused_on tag log known (Befalls event) tt line has.line behind number earlier has.verdict has.stands (goes_with known (Befalls event) behind goes)
befallen_on tag log (No number earlier) known line event behind has goes = refused_on tag log known (Befalls event) tt line has.line behind number earlier has.verdict

-- before the first entry
pub begun : (tag : LoggedTag) → HasHeardLog tag [] (record { verdict = Yes; known = known_of (tag_with tag []) None; line = 2 })
begun tag =
    let tables = stands_wordless ByTables tag [] _ (stands_first ByTables tag []) in
    record {
      line = refl;
      verdict = allowed_where_stands ByTables tag [] (known_of (tag_with tag []) None) tables;
      stands = (tables, stands_wordless WithLiberties tag [] _ (stands_first WithLiberties tag []));
    }

-- ... where the verdict, what is known and the line are told
pub heard_so : (tag : LoggedTag) (log : List LogEntry) (verdict new_verdict : Verdict) (known new_known : Known) (line new_line : ℕ) → new_verdict ≡ verdict → new_known ≡ known → new_line ≡ line
    → HasHeardLog tag log (record { verdict = verdict; known = known; line = line }) → HasHeardLog tag log (record { verdict = new_verdict; known = new_known; line = new_line })
heard_so tag log verdict new_verdict known new_known line new_line verdict_is known_is line_is has = rw (verdict_is, known_is, line_is) has
