use Rattle.encode_lines.proofs.ReadFields.{pie_unnamed, six_missing}
use Rattle.encode_lines.proofs.request.pie_of.Goals as goal

pub returns-in_default-clause-refused : goal.returns-in_default-clause-refused
returns-in_default-clause-refused c = six_missing c.args.others c.in_default.ensures.only

pub returns-in_default-durations_of-clause-refused : goal.returns-in_default-durations_of-clause-refused
returns-in_default-durations_of-clause-refused c =
    let fields = c.in-Some.ensures.value in
    rw fields.0 (pie_unnamed c.in-Some.tari.now c.in-Some.rtcal.now c.in-Some.trcal.now c.in-Some.pw.now c.in-Some.lead.now c.in-Some.bits.now
    fields.1 fields.2 fields.3 fields.4 fields.5 fields.6
    (λ link are tari rtcal trcal pw. let found = c.in_default-durations_of.ensures.only link are tari rtcal trcal pw in cc))
