-- The digests that records state, compared with those of the trees after them.
use Rattle.std.specs.Prelude.{◌≡◌, ◌+◌, ◌^◌, ◌-◌, ℕ, ℤ, min, Bool, false, not, List, [], ◌∷◌, Option, Some, None, nat_eq, if◌then◌else◌}
use Rattle.std.specs.FinMap.{get}
use Rattle.std.specs.Int.{w64, cast_unsigned}
use Rattle.std.specs.Option.{option_or}
use Rattle.zk_table.specs.States.{NodeMap, State}
use Rattle.zk_table.specs.Steps.{step}
use Rattle.zk_newer_records.specs.declared.newer_record.NewerRecord.{NewerRecord}
use Rattle.zk_snapshot.specs.declared.snapshot.Contents.{Contents}
use Rattle.zk_mend.specs.Digests.{Owners, tree_digest}
use Rattle.zk_mend.specs.Following.{no_owners}
use Rattle.zk_replay.specs.Owning.{owners_by, stored_owners}
use Rattle.zk_replay.specs.declared.count.DigestCount.{DigestCount}
use Rattle.zk_replay.specs.declared.digests.Digests.{Digests}

-- ---- one record

-- the record states this digest
abbrev pub is_equal : Option ℤ → ℕ → Bool
is_equal None sum = false
is_equal (Some digest) sum = nat_eq (cast_unsigned w64 digest) sum

-- it states another
abbrev pub is_other : Option ℤ → ℕ → Bool
is_other None sum = false
is_other (Some digest) sum = not (nat_eq (cast_unsigned w64 digest) sum)

-- one more, at most the greatest `u64`
abbrev pub one_more : ℕ → ℕ
one_more count = min (count + 1) (2 ^ 64 - 1)

abbrev pub no_count : DigestCount
no_count = record { equal = 0; other = 0; first = None; last = None }

-- the count after a record that leads to a tree of this digest
abbrev pub counted_after : DigestCount → NewerRecord → ℕ → DigestCount
counted_after count newer sum = record {
  equal = if is_equal newer.digest sum then one_more count.equal else count.equal;
  other = if is_other newer.digest sum then one_more count.other else count.other;
  first = if is_other newer.digest sum then option_or count.first (Some newer.txn.zxid) else count.first;
  last = if is_equal newer.digest sum then Some newer.txn.zxid else count.last;
}

-- ---- records in order

-- the owners on the server, and the count
pub record Tally : Type 0 where
  pub owners : Owners
  pub count : DigestCount

abbrev pub start_tally : Tally
start_tally = record { owners = no_owners; count = no_count }

abbrev pub stored_tally : Contents → Tally
stored_tally contents = record { owners = stored_owners contents.nodes; count = no_count }

-- a record in the window of a snapshot, where no tree is known: its digest is not counted
abbrev pub tally_passed : Tally → NewerRecord → Tally
tally_passed tally newer = record { owners = owners_by tally.owners newer; count = tally.count }

abbrev pub tally_with : DigestCount → NewerRecord → Owners → NodeMap → Tally
tally_with count newer owners nodes = record { owners = owners; count = counted_after count newer (tree_digest owners nodes) }

-- a record that leads to these nodes
abbrev pub tally_taken : Tally → NewerRecord → NodeMap → Tally
tally_taken tally newer nodes = tally_with tally.count newer (owners_by tally.owners newer) nodes

unfoldable pub all_passed : Tally → List NewerRecord → Tally
all_passed tally [] = tally
all_passed tally (newer ∷ records) = all_passed (tally_passed tally newer) records

unfoldable pub all_taken : Tally → State → List NewerRecord → Tally
all_taken tally state [] = tally
all_taken tally state (newer ∷ records) =
    let next = (step state newer.txn).0 in all_taken (tally_taken tally newer next.nodes) next records

-- ---- calls

pub record IsTally (digests : Digests) (tally : Tally) : Type 0 where
  pub owners : (path : List ℕ) → get digests.owners path ≡ tally.owners path
  pub count : digests.count ≡ tally.count

-- the digest of the tree, if it is known
abbrev pub IsSum : Option ℕ → Owners → NodeMap → Type 0
IsSum None owners nodes = Unit {0}
IsSum (Some sum) owners nodes = sum ≡ tree_digest owners nodes

pub record IsFollowed (digests : Digests) (tally : Tally) (nodes : NodeMap) : Type 0 where
  pub tallied : IsTally digests tally
  pub sum : IsSum digests.sum tally.owners nodes
