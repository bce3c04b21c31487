use Rattle.std.proofs.Common.{◌≡◌, ◌++◌, rules}
use Rattle.std.specs.Prelude.{FitsSigned}
use Rattle.std.specs.Int.{w64}
use Rattle.std.proofs.lemmas.Int.{to_z-of_z}
use Rattle.zk_records.specs.Records.{long, boolean}
use Rattle.zab_frames.specs.Messages.{word}
use Rattle.zab_frames.proofs.Joined.{joined_four}
use Rattle.zab_frames.proofs.writing.put_ack_epoch.Goals as goal

pub returns-clause-written : goal.returns-clause-written
returns-clause-written c =
    let last : FitsSigned w64 c.args.last = search rules in
    let four : c.put_long.new.out.items ≡ c.put_word-2.new.out.items ++ long c.args.last = simp to_z-of_z at c.in_ok-put_long.ensures.written in
    joined_four c.args.out.now.items (word c.args.epoch) (boolean c.args.vote) (word c.args.current) (long c.args.last) _ _ _ _ c.in_ok-put_word.ensures.written c.in_ok-put_boolean.ensures c.in_ok-put_word-2.ensures.written four
