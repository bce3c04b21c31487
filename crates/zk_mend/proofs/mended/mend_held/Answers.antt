use Rattle.std.proofs.Common.{◌≡◌, ℤ, IfOk, FitsSigned, rules, subst, w64}
use Rattle.std.proofs.lemmas.Int.{to_z-of_z}
use Rattle.std.specs.Io.KnownBytes.{prepend_known}
use Rattle.zk_log.specs.Devices.{reader_of}
use Rattle.zk_mend.proofs.Sparing.{header_spares, header_meets, header_needs, whole_spares, whole_meets, whole_needs}
use Rattle.zk_mend.proofs.Wholes.{whole_answers}
use Rattle.zk_mend.specs.declared.mended.Mended.{Mended}
use Rattle.zk_mend.proofs.mended.mend_held.Goals as goal

pub returns-in-Ok-clause-answers : goal.returns-in-Ok-clause-answers
returns-in-Ok-clause-answers g c =
    let remaining = g.R.Read.remaining in
    let start = prepend_known c.args.held.now.items (remaining (reader_of c.args.source.now)) in
    let body = prepend_known c.read_header.new.held.items (remaining (reader_of c.read_header.new.source)) in
    let dbid = c.in-Ok.dbid in
    let fits : FitsSigned w64 dbid = search rules in
    whole_answers start body dbid c.mend_body.result c.in-Ok.ensures.heads fits (subst (λ (z : ℤ). IfOk c.mend_body.result (λ mended. mended.dbid ≡ z)) (to_z-of_z w64 dbid fits) c.mend_body.ensures.dbid) c.mend_body.ensures.answers

pub returns-in-Ok-clause-sparing : goal.returns-in-Ok-clause-sparing
returns-in-Ok-clause-sparing g c =
    let remaining = g.R.Read.remaining in
    let start = prepend_known c.args.held.now.items (remaining (reader_of c.args.source.now)) in
    let dbid = c.in-Ok.dbid in
    let fits : FitsSigned w64 dbid = search rules in
    whole_spares remaining start c.args.source.now c.read_header.new.source c.mend_body.new.source dbid c.args.held.now.items c.read_header.new.held.items c.mend_body.new.held.items fits c.in-Ok.ensures.heads c.in-Ok.ensures.last c.mend_body.ensures.last

pub returns-in-Ok-clause-ends : goal.returns-in-Ok-clause-ends
returns-in-Ok-clause-ends g c =
    whole_meets c.args.source.now c.read_header.new.source c.mend_body.new.source c.mend_body.result c.in-Ok.ensures.ends c.in-Ok.ensures.tells c.mend_body.ensures.ends

pub returns-in-Ok-clause-needs : goal.returns-in-Ok-clause-needs
returns-in-Ok-clause-needs g c =
    let remaining = g.R.Read.remaining in
    let start = prepend_known c.args.held.now.items (remaining (reader_of c.args.source.now)) in
    let dbid = c.in-Ok.dbid in
    let fits : FitsSigned w64 dbid = search rules in
    whole_needs remaining start c.read_header.new.source c.mend_body.new.source dbid c.read_header.new.held.items c.mend_body.new.held.items c.mend_body.result fits c.in-Ok.ensures.heads c.mend_body.ensures.last c.mend_body.ensures.needs

pub returns-in-Err-clause-sparing : goal.returns-in-Err-clause-sparing
returns-in-Err-clause-sparing g c =
    let remaining = g.R.Read.remaining in
    let start = prepend_known c.args.held.now.items (remaining (reader_of c.args.source.now)) in
    header_spares start (remaining (reader_of c.read_header.new.source)) c.args.source.now c.read_header.new.source c.args.held.now.items c.read_header.new.held.items c.in-Err.fault c.in-Err.ensures.heads c.in-Err.ensures.last

pub returns-in-Err-clause-ends : goal.returns-in-Err-clause-ends
returns-in-Err-clause-ends g c = header_meets Mended c.args.source.now c.read_header.new.source c.in-Err.fault c.in-Err.ensures.ends

pub returns-in-Err-clause-needs : goal.returns-in-Err-clause-needs
returns-in-Err-clause-needs g c =
    let remaining = g.R.Read.remaining in
    let start = prepend_known c.args.held.now.items (remaining (reader_of c.args.source.now)) in
    header_needs Mended start (remaining (reader_of c.read_header.new.source)) c.args.source.now c.read_header.new.source c.read_header.new.held.items c.read_header.new.turns c.in-Err.fault c.in-Err.ensures.heads c.in-Err.ensures.tells
