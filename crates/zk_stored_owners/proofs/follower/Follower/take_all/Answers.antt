use Rattle.std.proofs.Common.{◌≡◌, ◌<◌, ◌≤◌, ℤ, rules, length, get_or, ◌∙◌, sym, ap, w64}
use Rattle.std.proofs.lemmas.Int.{to_z-of_z}
use Rattle.std.specs.FinMap as finite
use Rattle.zk_stored_owners.proofs.Following.{entries_end, entry_on}
use Rattle.zk_stored_owners.specs.StoredOwners.{Followed, followed_over}
use Rattle.zk_stored_owners.proofs.follower.Follower.take_all.Goals as goal

pub loop-entry-preserved : goal.loop-entry-preserved
loop-entry-preserved c = λ path.
    let items = c.args.entries.now in
    let i = c.loop-entry.entry-index in
    let lt : i < length items = search rules in
    let is : c.entry-item.result ≡ get_or items i c.entry-item.result = search rules in
    entry_on _ path items i c.entry-item.result _ _ lt is (c.in_ok-take.ensures path) ∙ c.loop-entry.invariant path

pub returns : goal.returns
returns c = λ path.
    let items = c.args.entries.now in
    let i = c.loop-entry.entry-index in
    let le : length items ≤ i = search rules in
    let start : Followed = (c.args.self.now.last, finite.get c.args.self.now.owners path) in
    sym (entries_end _ path items i _ le) ∙ c.loop-entry.invariant path ∙ ap (λ (u : ℤ). followed_over u path start items) (to_z-of_z w64 c.args.upto c.ranges.upto)
