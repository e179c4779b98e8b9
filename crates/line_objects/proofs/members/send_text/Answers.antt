use Rattle.std.proofs.Common.{◌∙◌, sym, subst}
use Rattle.std.specs.Prelude.{OnOk}
use Rattle.std.specs.Str.{IsUtf8}
use Rattle.serde_json.specs.Data.{Data}
use Rattle.serde_json.specs.Events.{SendsValue}
use Rattle.line_objects.proofs.TextValues.{text_is, text_none}
use Rattle.line_objects.proofs.members.send_text.Goals as goal

pub returns-in-Ok : goal.returns-in-Ok
returns-in-Ok g c =
    let log = g.S.Serializer.written in
    let read = c.in-Ok.ensures.cases in
    let is = text_is c.args.text.now c.in-Ok.letters.now (read.0 ∙ c.without_hyphen.ensures) (subst IsUtf8 c.without_hyphen.ensures read.1) in
    subst (λ (value : Data). OnOk c.str.result (SendsValue value (log c.args.out.now) (log c.str.new.self))) is c.str.ensures

pub returns-in-Err : goal.returns-in-Err
returns-in-Err g c =
    let log = g.S.Serializer.written in
    let none = text_none c.args.text.now (λ is. c.in-Err.ensures.cases.0 (subst IsUtf8 (sym c.without_hyphen.ensures) is)) in
    subst (λ (value : Data). OnOk c.unit.result (SendsValue value (log c.args.out.now) (log c.unit.new.self))) none c.unit.ensures
