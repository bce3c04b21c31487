use Rattle.std.proofs.Common.{◌≡◌, ◌++◌, rules}
use Rattle.std.specs.Prelude.{FitsSigned}
use Rattle.std.specs.Int.{w32, w64}
use Rattle.std.proofs.lemmas.Int.{to_z-of_z}
use Rattle.zk_records.specs.Records.{int, long}
use Rattle.zab_frames.specs.Messages.{long_word, identity, counted_list, request_of, call_of}
use Rattle.zab_frames.proofs.Joined.{joined_six}
use Rattle.zab_frames.proofs.call_writers.put_call.Goals as goal

pub returns-clause-written : goal.returns-clause-written
unfolding call_of
returns-clause-written c =
    let call = c.args.call.now in
    let session : FitsSigned w64 call.session = search rules in
    let cxid : FitsSigned w32 call.cxid = search rules in
    let time : FitsSigned w64 call.now = search rules in
    let two : c.put_long.new.out.items ≡ c.put_long_word.new.out.items ++ long call.session = simp to_z-of_z at c.in_ok-put_long.ensures.written in
    let three : c.put_int.new.out.items ≡ c.put_long.new.out.items ++ int call.cxid = simp to_z-of_z at c.in_ok-put_int.ensures.written in
    let five : c.put_long-2.new.out.items ≡ c.put_identities.new.out.items ++ long call.now = simp to_z-of_z at c.in_ok-put_long-2.ensures.written in
    joined_six c.args.out.now.items (long_word call.tag) (long call.session) (int call.cxid) (counted_list identity call.auths) (long call.now) (request_of call.request) _ _ _ _ _ _
    c.in_ok-put_long_word.ensures.written two three c.in_ok-put_identities.ensures.written five c.in_ok-put_request.ensures.written
