use Rattle.std.proofs.Common.{ℤ, ◌++◌, ◌∙◌, ap, rules}
use Rattle.std.specs.Prelude.{FitsSigned}
use Rattle.std.specs.Int.{w32, w64}
use Rattle.std.proofs.lemmas.Int.{to_z-of_z}
use Rattle.zab_frames.specs.Messages.{word, long_word}
use Rattle.zk_peer_links.proofs.SessionContents.{joined_five}
use Rattle.zk_peer_links.proofs.session_contents.put_fields.Goals as goal
use Rattle.zk_records.specs.Records.{int, long}

pub returns-clause-written : goal.returns-clause-written
returns-clause-written c =
    let session : FitsSigned w64 c.args.session = search rules in
    let timeout : FitsSigned w32 c.args.timeout = search rules in
    joined_five c.args.out.now.items (long_word c.args.sender) (long_word c.args.addressee) (word c.args.kind) (long c.args.session) (int c.args.timeout)
    c.put_u64.new.self.items c.put_u64-2.new.self.items c.put_u32.new.self.items c.put_session.new.out.items c.put_timeout.new.out.items
    c.in_ok-put_u64.ensures.ok c.in_ok-put_u64-2.ensures.ok c.in_ok-put_u32.ensures.ok
    (c.in_ok-put_session.ensures ∙ ap (λ (z : ℤ). c.put_u32.new.self.items ++ long z) (to_z-of_z w64 c.args.session session))
    (c.in_ok-put_timeout.ensures ∙ ap (λ (z : ℤ). c.put_session.new.out.items ++ int z) (to_z-of_z w32 c.args.timeout timeout))
