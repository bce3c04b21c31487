use Rattle.std.proofs.Common.{ap, ◌∙◌, subst}
use Rattle.std.proofs.KnownBytes.{prepend_known-nil}
use Rattle.std.specs.Io.KnownBytes.{prepend_known}
use Rattle.zk_log.specs.Devices.{reader_of}
use Rattle.zk_mend.specs.Mending.{Answers}
use Rattle.zk_mend.specs.Reading.{ReadsSparingly, NeedsMore}
use Rattle.zk_mend.proofs.mended.mend.Goals as goal

pub returns-clause-answers : goal.returns-clause-answers
returns-clause-answers g c =
    let start = g.R.Read.remaining (reader_of c.args.source.now) in
    subst (λ k. Answers k c.mend_held.result) (ap (λ l. prepend_known l start) c.new-held.ensures.items ∙ prepend_known-nil start) c.mend_held.ensures.answers

pub returns-clause-sparing : goal.returns-clause-sparing
returns-clause-sparing g c =
    let start = g.R.Read.remaining (reader_of c.args.source.now) in
    let left = g.R.Read.remaining (reader_of c.mend_held.new.source) in
    subst (λ k. ReadsSparingly k left c.args.source.now c.mend_held.new.source) (ap (λ l. prepend_known l start) c.new-held.ensures.items ∙ prepend_known-nil start) c.mend_held.ensures.sparing

pub returns-clause-needs : goal.returns-clause-needs
returns-clause-needs g c =
    let start = g.R.Read.remaining (reader_of c.args.source.now) in
    let left = g.R.Read.remaining (reader_of c.mend_held.new.source) in
    subst (λ k. NeedsMore k left c.mend_held.result) (ap (λ l. prepend_known l start) c.new-held.ensures.items ∙ prepend_known-nil start) c.mend_held.ensures.needs
