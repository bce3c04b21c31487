use Rattle.std.proofs.Common.{lit<}
use Rattle.zk_listing.specs.Lines.{lines_of}
use Rattle.zk_listing.proofs.ReportLineLaws.{only_line, first_line}
use Rattle.zk_listing.proofs.lines.next_line.Goals as goal

pub returns-in-Some-clause-line : goal.returns-in-Some-clause-line
returns-in-Some-clause-line c =
    let cut = c.in-Some.ensures.byte (lit< tt) (λ w o h. h) in
    rw (cut.0, cut.1) (first_line c.args.text.now.now cut.2)

pub returns-in-None-clause-line : goal.returns-in-None-clause-line
unfolding lines_of
returns-in-None-clause-line c =
    only_line c.args.text.now.now (c.in-None.ensures.byte (lit< tt) (λ w o h. h)) c.requires
