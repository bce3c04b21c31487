use Rattle.std.proofs.Common.{ℤ, ◌++◌, ◌∙◌, ap, rules}
use Rattle.std.specs.Prelude.{pos, FitsSigned}
use Rattle.std.specs.Int.{w64}
use Rattle.std.proofs.lemmas.Int.{to_z-of_z}
use Rattle.zab_frames.specs.Messages.{word, long_word}
use Rattle.zk_peer_links.proofs.Contents.{joined_seven}
use Rattle.zk_peer_links.proofs.notice_contents.put_fields.Goals as goal
use Rattle.zk_records.specs.Records.{int, long}

pub returns-clause-written : goal.returns-clause-written
returns-clause-written c =
    let fits : FitsSigned w64 c.args.zxid = search rules in
    joined_seven c.args.out.now.items (long_word c.args.server) (long_word 0) (int (pos 12)) (long_word c.args.round) (word c.args.epoch) (long c.args.zxid) (long_word c.args.leader)
    c.put_u64.new.self.items c.put_u64-2.new.self.items c.put_u32.new.self.items c.put_u64-3.new.self.items c.put_u32-2.new.self.items c.put_zxid.new.out.items c.put_u64-4.new.self.items
    c.in_ok-put_u64.ensures.ok c.in_ok-put_u64-2.ensures.ok c.in_ok-put_u32.ensures.ok c.in_ok-put_u64-3.ensures.ok c.in_ok-put_u32-2.ensures.ok (c.in_ok-put_zxid.ensures ∙ ap (λ (z : ℤ). c.put_u32-2.new.self.items ++ long z) (to_z-of_z w64 c.args.zxid fits)) c.in_ok-put_u64-4.ensures.ok
