use Rattle.std.proofs.Common.{◌≡◌, ◌++◌, pos, rules}
use Rattle.std.specs.Prelude.{FitsSigned}
use Rattle.std.specs.Int.{w32, w64}
use Rattle.std.proofs.lemmas.Int.{to_z-of_z}
use Rattle.zk_records.specs.Records.{int, long, ustring}
use Rattle.zk_frames.specs.Replies.{read_only_bytes, connect_response_of}
use Rattle.zk_frames.proofs.Joined.{joined_five}
use Rattle.zk_frames.proofs.writing.put_connect_response.Goals as goal

pub returns : goal.returns
unfolding connect_response_of
returns c =
    let r = c.args.response.now in
    let f_timeout : FitsSigned w32 r.timeout = search rules in
    let f_session : FitsSigned w64 r.session = search rules in
    let timeout : c.put_int-2.new.out.items ≡ c.put_int.new.out.items ++ int r.timeout = simp to_z-of_z at c.in_ok-put_int-2.ensures in
    let session : c.put_long.new.out.items ≡ c.put_int-2.new.out.items ++ long r.session = simp to_z-of_z at c.in_ok-put_long.ensures in
    let word : c.put_counted.new.out.items ≡ c.put_long.new.out.items ++ ustring r.password = c.in_ok-put_counted.ensures in
    joined_five c.args.out.now.items (int (pos 0)) (int r.timeout) (long r.session) (ustring r.password) (read_only_bytes r.read_only) _ _ _ _ _ c.in_ok-put_int.ensures timeout session word c.in_ok-put_read_only.ensures
