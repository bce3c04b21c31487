use Rattle.std.proofs.Common.{◌≡◌, ◌++◌, rules}
use Rattle.std.specs.Prelude.{FitsSigned}
use Rattle.std.specs.Int.{w64}
use Rattle.std.proofs.lemmas.Int.{to_z-of_z}
use Rattle.zk_records.specs.Records.{long}
use Rattle.zab_frames.specs.Messages.{word, history_of}
use Rattle.zab_frames.proofs.Joined.{joined_three}
use Rattle.zab_frames.proofs.writing.put_new_leader.Goals as goal

pub returns-clause-written : goal.returns-clause-written
returns-clause-written c =
    let keep : FitsSigned w64 c.args.keep = search rules in
    let two : c.put_long.new.out.items ≡ c.put_word.new.out.items ++ long c.args.keep = simp to_z-of_z at c.in_ok-put_long.ensures.written in
    joined_three c.args.out.now.items (word c.args.epoch) (long c.args.keep) (history_of c.args.rest.now) _ _ _ c.in_ok-put_word.ensures.written two c.in_ok-put_history.ensures.written
