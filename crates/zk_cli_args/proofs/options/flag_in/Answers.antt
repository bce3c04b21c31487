use Rattle.zk_cli_args.specs.Options.{flag_in}
use Rattle.zk_cli_args.proofs.OptionLaws.{one_passed}
use Rattle.zk_cli_args.proofs.WordsLaws.{texts}
use Rattle.zk_cli_args.proofs.options.flag_in.Goals as goal

pub loop-rest-preserved : goal.loop-rest-preserved
loop-rest-preserved c =
    let flag = c.args.flag.now in
    one_passed flag c.loop-rest.front.items c.push.new.self.items c.loop-rest.rest.now (flag_in flag (texts c.args.words.now)) c.in-len1-up.len_at_least c.in_ok-push.ensures.items c.if-eq.ensures c.if-eq-2.ensures c.loop-rest.invariant
