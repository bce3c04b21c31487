-- What is known after a record.
use Rattle.std.proofs.Common.{◌≡◌, ℕ, List, Option, Some, None, refl, sym, ap, subst, cond, ◌∙◌}
use Rattle.std.specs.FinMap as finite
use Rattle.std.specs.Option.{option_or}
use Rattle.zk_table.specs.States.{NodeMap, State}
use Rattle.zk_table.specs.Steps.{step}
use Rattle.zk_tree.specs.Views.{PathKeys}
use Rattle.zk_newer_records.specs.declared.newer_record.NewerRecord.{NewerRecord}
use Rattle.zk_mend.specs.Digests.{Owners, tree_digest}
use Rattle.zk_mend.specs.Owning.{OwnerMap}
use Rattle.zk_mend.specs.Stepping.{replaced}
use Rattle.zk_replay.proofs.Moves.{step_moved}
use Rattle.zk_replay.specs.Owning.{owners_by}
use Rattle.zk_replay.specs.Sums.{digest_over}
use Rattle.zk_replay.specs.Tallies.{IsFollowed, IsSum, IsTally, Tally, counted_after, is_equal, is_other, one_more, tally_passed, tally_taken}
use Rattle.zk_replay.specs.Touching.{touched}
use Rattle.zk_replay.specs.declared.count.DigestCount.{DigestCount}
use Rattle.zk_replay.specs.declared.digests.Digests.{Digests}

pub not_counted : (count : DigestCount) (newer : NewerRecord) (sum : ℕ) → newer.digest ≡ None → counted_after count newer sum ≡ count
not_counted count newer sum e =
    ap (λ d. let c : DigestCount = record { equal = cond (is_equal d sum) (one_more count.equal) count.equal; other = cond (is_other d sum) (one_more count.other) count.other; first = cond (is_other d sum) (option_or count.first (Some newer.txn.zxid)) count.first; last = cond (is_equal d sum) (Some newer.txn.zxid) count.last } in c) e

-- owners that are given by a function
pub owners_next : (old new : OwnerMap) (newer : NewerRecord) (owners : Owners) → ((q : List ℕ) → finite.get new q ≡ owners_by (finite.get old) newer q) → ((q : List ℕ) → finite.get old q ≡ owners q) → (q : List ℕ) → finite.get new q ≡ owners_by owners newer q
owners_next old new newer owners follows kept q = follows q ∙ ap (λ f. owners_by f newer q) (λ i p. kept p i)

pub passed : (old new : Digests) (tally : Tally) (newer : NewerRecord) → IsTally old tally → ((q : List ℕ) → finite.get new.owners q ≡ owners_by (finite.get old.owners) newer q) → new.count ≡ old.count → IsTally new (tally_passed tally newer)
passed old new tally newer is follows same = record { owners = owners_next old.owners new.owners newer tally.owners follows is.owners; count = same ∙ is.count }

pub taken : (old new : Digests) (tally : Tally) (newer : NewerRecord) (nodes : NodeMap) (sum : ℕ) → IsTally old tally → ((q : List ℕ) → finite.get new.owners q ≡ owners_by (finite.get old.owners) newer q) → sum ≡ tree_digest (owners_by tally.owners newer) nodes → new.count ≡ counted_after old.count newer sum → IsTally new (tally_taken tally newer nodes)
taken old new tally newer nodes sum is follows whole counts = record {
  owners = owners_next old.owners new.owners newer tally.owners follows is.owners;
  count = counts ∙ (λ i. counted_after (is.count i) newer (whole i));
}

-- no digest is known
pub begun_without : (old new : Digests) (tally : Tally) (newer : NewerRecord) (nodes : NodeMap) → newer.digest ≡ None → new.sum ≡ None → ((q : List ℕ) → finite.get new.owners q ≡ owners_by (finite.get old.owners) newer q) → new.count ≡ old.count → IsTally old tally → IsFollowed new (tally_taken tally newer nodes) nodes
begun_without old new tally newer nodes none unknown follows same is = record {
  tallied = taken old new tally newer nodes (tree_digest (owners_by tally.owners newer) nodes) is follows refl (same ∙ sym (not_counted old.count newer (tree_digest (owners_by tally.owners newer) nodes) none));
  sum = subst (λ (s : Option ℕ). IsSum s (owners_by tally.owners newer) nodes) (sym unknown) tt;
}

-- the digest is known
pub followed : (old new : Digests) (tally : Tally) (newer : NewerRecord) (nodes : NodeMap) (sum : ℕ) → new.sum ≡ Some sum → ((q : List ℕ) → finite.get new.owners q ≡ owners_by (finite.get old.owners) newer q) → new.count ≡ counted_after old.count newer sum → IsTally old tally → sum ≡ tree_digest (owners_by tally.owners newer) nodes → IsFollowed new (tally_taken tally newer nodes) nodes
followed old new tally newer nodes sum known follows counts is whole = record {
  tallied = taken old new tally newer nodes sum is follows whole counts;
  sum = subst (λ (s : Option ℕ). IsSum s (owners_by tally.owners newer) nodes) (sym known) whole;
}

-- the digest of a whole table, with the owners of a map
pub begun : (old new : Digests) (tally : Tally) (newer : NewerRecord) (nodes : NodeMap) (sum : ℕ) → sum ≡ tree_digest (finite.get new.owners) nodes → new.sum ≡ Some sum → ((q : List ℕ) → finite.get new.owners q ≡ owners_by (finite.get old.owners) newer q) → new.count ≡ counted_after old.count newer sum → IsTally old tally → IsFollowed new (tally_taken tally newer nodes) nodes
begun old new tally newer nodes sum whole known follows counts is =
    followed old new tally newer nodes sum known follows counts is (whole ∙ ap (λ f. tree_digest f nodes) (λ i q. owners_next old.owners new.owners newer tally.owners follows is.owners q i))

-- the digest after one that was known
pub advanced : (old new : Digests) (tally : Tally) (newer : NewerRecord) (state : State) (next : NodeMap) (sum out comes whole : ℕ) (paths : PathKeys) → old.sum ≡ Some sum → paths ≡ touched state.nodes newer.txn → next ≡ (step state newer.txn).0.nodes
    → out ≡ digest_over (finite.get old.owners) state.nodes (finite.keys paths) → comes ≡ digest_over (finite.get new.owners) next (finite.keys paths) → whole ≡ replaced sum out comes → new.sum ≡ Some whole
    → ((q : List ℕ) → finite.get new.owners q ≡ owners_by (finite.get old.owners) newer q) → new.count ≡ counted_after old.count newer whole → IsFollowed old tally state.nodes → IsFollowed new (tally_taken tally newer next) next
advanced old new tally newer state next sum out comes whole paths known are stepped first second replaces stated follows counts is =
    let owners = owners_next old.owners new.owners newer tally.owners follows is.tallied.owners in
    let before : sum ≡ tree_digest tally.owners state.nodes = subst (λ (s : Option ℕ). IsSum s tally.owners state.nodes) known is.sum in
    let outs : out ≡ digest_over tally.owners state.nodes (finite.keys (touched state.nodes newer.txn)) = first ∙ (λ i. digest_over (λ q. is.tallied.owners q i) state.nodes (finite.keys (are i))) in
    let ins : comes ≡ digest_over (owners_by tally.owners newer) (step state newer.txn).0.nodes (finite.keys (touched state.nodes newer.txn)) = second ∙ (λ i. digest_over (λ q. owners q i) (stepped i) (finite.keys (are i))) in
    followed old new tally newer next whole stated follows counts is.tallied
    (replaces ∙ (λ i. replaced sum (outs i) (ins i)) ∙ step_moved state newer tally.owners sum before ∙ ap (tree_digest (owners_by tally.owners newer)) (sym stepped))
