-- A frame is written over a legal link, and another link is refused.
use Rattle.std.proofs.Common.{Bool, List, ℕ, ◌≡◌, refl, inl, inr, subst}
use Rattle.std.proofs.lemmas.Result.{on_ok_weaker}
use Rattle.pie_line.specs.Link.{IsLegalLink, LinkValue}
use Rattle.pie_line.specs.declared.frame.Lead.{Lead}
use Rattle.encode_lines.specs.EncodeLines.{AddsWave, AddsWritten}
use Rattle.encode_lines.specs.Written.{link_of}
use Rattle.encode_lines.specs.declared.request.Durations.{Durations}
use Rattle.encode_lines.specs.declared.request.Request.TheVariants.{Pie}
use Rattle.encode_lines.proofs.encoder.Encoder.encode_pie.Goals as goal

wave_written : (durations : Durations) (made : LinkValue) (lead : Lead) (bits : List Bool) (old new : List ℕ) → made ≡ link_of durations → IsLegalLink made
    → AddsWave made lead bits old new → AddsWritten (Pie durations lead bits) old new
wave_written durations made lead bits old new is legal line =
    record { answer = _; right = inl (record { legal = subst IsLegalLink is legal; wave = refl }); line = subst (λ (link : LinkValue). AddsWave link lead bits old new) is line }

pub returns-in-Ok : goal.returns-in-Ok
returns-in-Ok c =
    on_ok_weaker c.encode_wave.result (λ line. wave_written c.args.durations _ c.args.lead c.args.bits.now _ _ c.in-Ok.ensures.link c.in-Ok.ensures.legal line) c.encode_wave.ensures

pub returns-in-Err : goal.returns-in-Err
returns-in-Err c =
    on_ok_weaker c.push_link_refusal.result
    (λ line. record { answer = _; right = inr (record { refusal = c.in-Err.refusal; broken = c.in-Err.ensures.refused; refused = refl }); line = line })
    c.push_link_refusal.ensures
