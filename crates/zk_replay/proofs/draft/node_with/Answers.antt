use Rattle.std.proofs.Common.{◌≡◌, w32, w64, to_z, of_z, rules, refl, ap, ◌∙◌}
use Rattle.zk_replay.specs.Bases.{shown_owner}
use Rattle.zk_replay.proofs.draft.node_with.Goals as goal

pub returns : goal.returns
returns c =
    let k = c.args.stored.now.kept in
    let czxid : to_z w64 (of_z w64 k.moments.czxid) ≡ k.moments.czxid = search rules in
    let mzxid : to_z w64 (of_z w64 k.moments.mzxid) ≡ k.moments.mzxid = search rules in
    let pzxid : to_z w64 (of_z w64 k.pzxid) ≡ k.pzxid = search rules in
    let ctime : to_z w64 (of_z w64 k.moments.ctime) ≡ k.moments.ctime = search rules in
    let mtime : to_z w64 (of_z w64 k.moments.mtime) ≡ k.moments.mtime = search rules in
    let version : to_z w32 (of_z w32 k.versions.version) ≡ k.versions.version = search rules in
    let creates : to_z w32 (of_z w32 k.versions.creates) ≡ k.versions.creates = search rules in
    let aversion : to_z w32 (of_z w32 k.versions.aversion) ≡ k.versions.aversion = search rules in
    let read : to_z w64 (of_z w64 k.owner) ≡ k.owner = search rules in
    let told : to_z w64 (of_z w64 c.shown_owner-owner.result) ≡ c.shown_owner-owner.result = search rules in
    let owner : c.shown_owner-owner.result ≡ shown_owner k.owner = c.shown_owner-owner.ensures ∙ ap shown_owner read in
    rw (c.requires, czxid, mzxid, pzxid, ctime, mtime, version, creates, aversion, told, owner) refl
