use Rattle.air_audit.proofs.Names.{◌≡◌, ℕ, List, ◌++◌, refl, ap, ◌∙◌, AuditorValue, link_line, LinkValue, blf_of, text_of, BlfLine, report_line_text, string_bytes}
use Rattle.air_audit.specs.declared.auditor.Position.TheVariants as positions
use Rattle.air_audit.proofs.Following.{begins, begins-not, other-text, same-text}
use Rattle.air_audit.proofs.auditor.Auditor.begin.Goals as goal

pub returns-then-not-is_text-clause-follows : goal.returns-then-not-is_text-clause-follows
returns-then-not-is_text-clause-follows g c = λ start keeps.
    let link : c.link.result.now ≡ start.link = c.link.ensures ∙ ap (λ (a : AuditorValue). a.answers.link) c.self.view_is ∙ keeps.link in
    let written : string_bytes c.push_blf_line.new.text ≡ report_line_text (BlfLine (blf_of c.link.result.now).0 (blf_of c.link.result.now).1) =
    c.in_ok-push_blf_line.ensures ∙ ap (λ (l : List ℕ). l ++ report_line_text (BlfLine c.blf-numerator.result.0 c.blf-numerator.result.1)) c.clear.ensures.bytes
    ∙ ap (λ (p : ℕ × ℕ). report_line_text (BlfLine p.0 p.1)) c.blf-numerator.ensures.value in
    let value = c.as_str.ensures.value in
    begins-not start c.args.line.now c.link.result.now link
    (other-text c.args.line.now c.as_str.result.now (BlfLine (blf_of c.link.result.now).0 (blf_of c.link.result.now).1) (value ∙ written) (c.if-not-is_text.ensures.no refl))

pub returns-clause-follows : goal.returns-clause-follows
returns-clause-follows g c = λ start keeps.
    let link : c.link.result.now ≡ start.link = c.link.ensures ∙ ap (λ (a : AuditorValue). a.answers.link) c.self.view_is ∙ keeps.link in
    let written : string_bytes c.push_blf_line.new.text ≡ report_line_text (BlfLine (blf_of c.link.result.now).0 (blf_of c.link.result.now).1) =
    c.in_ok-push_blf_line.ensures ∙ ap (λ (l : List ℕ). l ++ report_line_text (BlfLine c.blf-numerator.result.0 c.blf-numerator.result.1)) c.clear.ensures.bytes
    ∙ ap (λ (p : ℕ × ℕ). report_line_text (BlfLine p.0 p.1)) c.blf-numerator.ensures.value in
    let value = c.as_str.ensures.value in
    begins start c.args.line.now c.args.self.now _ keeps
    (same-text c.args.line.now c.as_str.result.now (BlfLine (blf_of c.link.result.now).0 (blf_of c.link.result.now).1) (value ∙ written) (c.if-not-is_text.ensures.yes refl)
    ∙ ap (λ (l : LinkValue). text_of (link_line l)) link)
    (record { moves = ap (λ (a : AuditorValue). record a { position = positions.Between; text = string_bytes c.push_blf_line.new.text }) c.self.view_is }) refl
