use Rattle.std.proofs.Common.{◌≡◌, ◌++◌, pos, negsuc, ap, ◌∙◌, rules}
use Rattle.std.specs.Prelude.{FitsSigned}
use Rattle.std.specs.Int.{w32}
use Rattle.std.proofs.lemmas.Int.{to_z-of_z}
use Rattle.zk_records.specs.Records.{int, ustring}
use Rattle.zk_frames.specs.Replies.{reply_header, event_of}
use Rattle.zk_frames.proofs.Joined.{joined_four}
use Rattle.zk_frames.proofs.writing.put_event.Goals as goal

pub returns : goal.returns
unfolding event_of
returns c =
    let v = c.args.event.now in
    let f_kind : FitsSigned w32 v.kind = search rules in
    let kind : c.put_int.new.out.items ≡ c.put_reply_header.new.out.items ++ int v.kind = simp to_z-of_z at c.in_ok-put_int.ensures in
    let path : c.put_text.new.out.items ≡ c.put_int-2.new.out.items ++ ustring v.path = c.in_ok-put_text.ensures ∙ ap (λ text. c.put_int-2.new.out.items ++ ustring text) c.as_str.ensures in
    joined_four c.args.out.now.items (reply_header (negsuc 0) (negsuc 0) (pos 0)) (int v.kind) (int (pos 3)) (ustring v.path) _ _ _ _ c.in_ok-put_reply_header.ensures kind c.in_ok-put_int-2.ensures path
