use Rattle.std.proofs.Common.{subst, arith}
use Rattle.zk_newer_records.specs.Reading.{Answers}
use Rattle.zk_newer_records.proofs.Whole.{is_found, newer_again, reasonless_again, reasonless_is, record_is}
use Rattle.zk_newer_records.proofs.reading.read_newer.Goals as goal

pub returns-clause-found : goal.returns-clause-found
returns-clause-found c = is_found c.args.bytes.now c.reasoned.result (λ i. omega (arith, c.type_inv.bytes i)) c.reasoned.ensures

pub returns-clause-only : goal.returns-clause-only
returns-clause-only c = λ newer is. subst (λ read. Answers c.reasoned.result read) (newer_again c.args.bytes.now newer is) c.reasoned.ensures

pub returns-clause-reasonless : goal.returns-clause-reasonless
returns-clause-reasonless c = λ newer is other. subst (λ read. Answers c.reasoned.result read) (reasonless_again c.args.bytes.now newer is other) c.reasoned.ensures

pub returns-clause-refused : goal.returns-clause-refused
returns-clause-refused c = λ is. reasonless_is c.args.bytes.now c.reasoned.result (λ i. omega (arith, c.type_inv.bytes i)) c.reasoned.ensures is

pub returns-clause-none : goal.returns-clause-none
returns-clause-none c = λ is newer spelled. record_is c.args.bytes.now c.reasoned.result c.reasoned.ensures is newer spelled
