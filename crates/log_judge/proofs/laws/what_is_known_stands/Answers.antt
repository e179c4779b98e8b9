use Rattle.std.proofs.Common.{inl, inr}
use Rattle.log_judge.proofs.Decided.{may_follow}
use Rattle.log_judge.proofs.OneEntry.{follows_one}
use Rattle.log_judge.proofs.Standing.{allowed_where_stands, fails_on, stands_first, stands_on}
use Rattle.log_judge.proofs.Wants.{wanted}
use Rattle.log_judge.proofs.laws.what_is_known_stands.Goals as goal

pub returns-clause-first : goal.returns-clause-first
returns-clause-first c = λ manner tag words. stands_first manner tag words

pub returns-clause-on : goal.returns-clause-on
returns-clause-on c = λ manner tag log known entry next stands legal follows. stands_on manner tag log known stands entry legal next follows

pub returns-clause-fails : goal.returns-clause-fails
returns-clause-fails c = λ manner tag log known entry stands legal none. fails_on manner tag log known stands entry legal none

pub returns-clause-allowed : goal.returns-clause-allowed
returns-clause-allowed c = λ manner tag log known stands. allowed_where_stands manner tag log known stands

pub returns-clause-wanted : goal.returns-clause-wanted
returns-clause-wanted c = λ manner tag log known heard stands legal. wanted manner tag log known heard stands legal

pub returns-clause-one : goal.returns-clause-one
returns-clause-one c = λ manner known entry one other left right. follows_one manner known entry one other left right

pub returns-clause-decided : goal.returns-clause-decided
returns-clause-decided c = λ manner known entry. elim (may_follow manner known entry) [ inl it ↦ inl it | inr none ↦ inr (λ next follows. none (next, follows)) ]
