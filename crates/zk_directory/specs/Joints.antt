-- Where an epoch follows another in the history of a directory, and nothing shows that the first is
-- whole: entries at its end may be in a log that is missing. Servers leave no other trace of them than
-- the digests of later records, which are those of the trees only if nothing is missing before.
use Rattle.std.specs.Prelude.{ℤ, pos, Bool, false, ◌&&◌, not, int_le, nat_lt, List, [], ◌∷◌, Option, Some, None, if◌then◌else◌}
use Rattle.std.specs.Ordering.{int_eq}
use Rattle.zk_directory.specs.Chains.{History, Told}
use Rattle.zk_directory.specs.Continuing.{epoch_of, starts_history}
use Rattle.zk_directory.specs.declared.joint.Joint.{Joint}

-- an epoch begins after another; before the first transaction of all nothing can be missing
abbrev pub is_joint : ℤ → ℤ → Bool
is_joint before zxid = nat_lt (epoch_of before) (epoch_of zxid) && not (int_eq before (pos 0) && starts_history zxid)

-- a digest is that of the tree after this zxid or a later one
abbrev pub is_proved : Option ℤ → ℤ → Bool
is_proved None zxid = false
is_proved (Some proved) zxid = int_le zxid proved

abbrev pub joint_at : Option ℤ → Option ℤ → ℤ → Option Joint
joint_at proved None zxid = None
joint_at proved (Some before) zxid = if is_joint before zxid && not (is_proved proved zxid) then Some (record { last = before; next = zxid }) else None

abbrev pub with_joint : Option Joint → List Joint → List Joint
with_joint None joints = joints
with_joint (Some joint) joints = joint ∷ joints

-- those in entries after one of this zxid
unfoldable pub joints_from : Option ℤ → Option ℤ → List Told → List Joint
joints_from proved before [] = []
joints_from proved before (entry ∷ entries) = with_joint (joint_at proved before entry.0) (joints_from proved (Some entry.0) entries)

-- those in a history, of whose records the one of the zxid `proved` is the last with the digest of its
-- tree
abbrev pub joints_of : History → Option ℤ → List Joint
joints_of history proved = joints_from proved history.base history.taken
