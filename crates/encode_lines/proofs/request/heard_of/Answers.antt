-- What the reply lacks, the line lacks, and so it does where a field in front of it spells nothing.
use Rattle.std.proofs.lemmas.Result.{err_from_is_err_and}
use Rattle.encode_lines.proofs.ReadFields.{heard_faulty, heard_unnamed}
use Rattle.encode_lines.proofs.request.heard_of.Goals as goal

pub returns-in_err-reply-clause-refused : goal.returns-in_err-reply-clause-refused
returns-in_err-reply-clause-refused c =
    let p = err_from_is_err_and c.from_residual.result c.from_residual.ensures.1 in
    rw (p.1, p.2, c.in-Some.ensures.value)
    (heard_faulty c.in-Some.code.now c.in-Some.trext.now c.in-Some.expect.now _ c.are_filled.result _ c.are_filled.ensures c.in_err-reply.ensures.refused)

pub returns-in_default-heard_as-clause-refused : goal.returns-in_default-heard_as-clause-refused
returns-in_default-heard_as-clause-refused c =
    let reply = c.in_ok-reply.ensures.ok in
    rw c.in-Some.ensures.value (heard_unnamed c.in-Some.code.now c.in-Some.trext.now c.in-Some.expect.now _ c.in_ok-reply.reply (c.are_filled.ensures.0 reply.0) reply.1
    (λ code trext expect first second is third. let found = c.in_default-heard_as.ensures.only code trext expect first second is third in cc))
