use Rattle.std.specs.String.{string_bytes}
use Rattle.zk_directory_state.proofs.Lines.{ends_of}
use Rattle.zk_directory_state.proofs.log_line.push_ends.Goals as goal

pub returns : goal.returns
returns c =
    ends_of c.args.entries.now c.in-Some.first.now c.in-Some-last.last.now (string_bytes c.args.text.now) (string_bytes c.push_zxid.new.text) (string_bytes c.push_zxid-2.new.text) c.in-Some.ensures.value c.in-Some-last.ensures.value
    c.in_ok-push_zxid.ensures c.in_ok-push_zxid-2.ensures
