use Rattle.std.proofs.Common.{◌≡◌, Ok, rules}
use Rattle.zk_log_commands.specs.Telling.{Outputs}
use Rattle.zk_verification.specs.Marks.{wrong_in}
use Rattle.zk_verification.proofs.Reported.{status_of, written_whole}
use Rattle.zk_verification.specs.Reports.{IsReport}
use Rattle.zk_verification.proofs.verification.tell_marks.Goals as goal

pub returns : goal.returns
returns g c =
    let text = c.as_str.result.now in
    let put = c.put_text-status.result in
    let is : IsReport c.args.marks.now text = search rules in
    let puts : Outputs g.O.Write.contents g.E.Write.contents text c.args.output.now c.put_text-status.new.output c.args.faults.now c.put_text-status.new.faults (Ok put) = search rules in
    let are : c.count_wrong.result ≡ wrong_in c.args.marks.now = search rules in
    let status : c.if-count_wrong-gt0.result ≡ status_of c.count_wrong.result put = search rules in
    written_whole g.O.Write.contents g.E.Write.contents c.args.marks.now text put c.count_wrong.result c.if-count_wrong-gt0.result c.args.output.now c.put_text-status.new.output c.args.faults.now c.put_text-status.new.faults is puts are status
