-- What a snapshot leads to.
use Rattle.std.proofs.Common.{◌≡◌, ℕ, ℤ, Bor, List, drop, Option, Some, Result, Ok, Err, IfOk, inl, inr, sym, ap, ◌∙◌, subst}
use Rattle.zk_replay.specs.declared.exact.Exact.{Exact}
use Rattle.zk_directory.specs.Orders.{first_log}
use Rattle.zk_directory_state.specs.Attempts.{IsExact}
use Rattle.zk_path.specs.declared.memory.NoMemory.{NoMemory}
use Rattle.zk_directory_state.specs.Directories.{IsRestored}
use Rattle.zk_directory_state.specs.declared.restored_directory.Restored.{Restored}
use Rattle.zk_directory_state.specs.declared.restore_fault.DirectoryFault.{DirectoryFault}
use Rattle.zk_directory_state.specs.declared.restoration.Base.TheVariants as bases
use Rattle.zk_snapshot.specs.Reading.{all_of}
use Rattle.zk_snapshot.specs.declared.snapshot.Contents.{Contents}
use Rattle.zk_snapshot.specs.declared.snapshot.Snapshot.{Snapshot}
use Rattle.zk_verification.specs.Breaks.{reach_of}
use Rattle.zk_verification.specs.declared.breaks.Break.{Break}
use Rattle.zk_verification.specs.declared.mark.Mark.{Mark}
use Rattle.zk_verification.specs.Following.{Follows, FollowsBy, FollowsBytes, IsRestoredTo, Marks, upto_of}

pub follows_to : (result : Result Mark NoMemory) (snapshot : Snapshot) (zxid zxid' : ℤ) (breaks : List Break) (next : Option ℤ) (exact : Exact) (end upto : Option ℤ) (logged : List ℤ) (logs : List (Bor (List ℕ))) → zxid' ≡ zxid → IsExact snapshot zxid' logs exact → end ≡ reach_of zxid' breaks → upto ≡ upto_of end next exact
    → IfOk result (λ mark. IsRestoredTo snapshot zxid' exact upto logged logs mark) → IfOk result (λ mark. Follows snapshot zxid breaks next logged logs mark)
follows_to (Ok mark) snapshot zxid zxid' breaks next exact end upto logged logs same is first to restored = inl (record {
  exact = exact;
  is_exact = subst (λ (z : ℤ). IsExact snapshot z logs exact) same is;
  restored = subst (λ (z : ℤ). IsRestoredTo snapshot z exact (upto_of (reach_of z breaks) next exact) logged logs mark) same
      (subst (λ (u : Option ℤ). IsRestoredTo snapshot zxid' exact u logged logs mark) (to ∙ ap (λ (e : Option ℤ). upto_of e next exact) first) restored);
})
follows_to (Err failed) snapshot zxid zxid' breaks next exact end upto logged logs same is first to restored = tt

-- a snapshot was restored, or not
pub restored_to : (result : Result Mark NoMemory) (outcome : Result Restored DirectoryFault) (snapshot : Snapshot) (contents : Bor Contents) (zxid : ℤ) (exact : Exact) (from : ℤ) (upto : Option ℤ) (logged : List ℤ) (logs : List (Bor (List ℕ))) → contents.now ≡ snapshot.contents → from ≡ exact.zxid
    → IsRestored (bases.Snapshot contents zxid from) upto logs outcome → Marks (Some zxid) exact zxid logged outcome result → IfOk result (λ mark. IsRestoredTo snapshot zxid exact upto logged logs mark)
restored_to (Ok mark) outcome snapshot contents zxid exact from upto logged logs same e restored is = record {
  contents = contents;
  same = same;
  result = outcome;
  restored = subst (λ (v : ℤ). IsRestored (bases.Snapshot contents zxid v) upto logs outcome) e restored;
  is = is;
}
restored_to (Err failed) outcome snapshot contents zxid exact from upto logged logs same e restored is = tt

-- the bytes of a snapshot that was read
pub follows_bytes : (result : Result Mark NoMemory) (bytes : List ℕ) (snapshot : Snapshot) (zxid zxid' : ℤ) (breaks : List Break) (next : Option ℤ) (logged rest : List ℤ) (logs tail : List (Bor (List ℕ))) (first : ℕ) → zxid' ≡ zxid → all_of bytes ≡ Ok snapshot → first ≡ first_log zxid' logged → rest ≡ drop first logged → tail ≡ drop first logs
    → IfOk result (λ mark. Follows snapshot zxid' breaks next rest tail mark) → IfOk result (λ mark. FollowsBytes bytes zxid breaks next logged logs mark)
follows_bytes (Ok mark) bytes snapshot zxid zxid' breaks next logged rest logs tail first same read is r t follows =
    subst (λ x. FollowsBy x bytes zxid breaks next logged logs mark) (sym read)
    (subst (λ (z : ℤ). Follows snapshot z breaks next (drop (first_log z logged) logged) (drop (first_log z logged) logs) mark) same
    (subst (λ (n : ℕ). Follows snapshot zxid' breaks next (drop n logged) (drop n logs) mark) is
    (subst (λ (l : List ℤ). Follows snapshot zxid' breaks next l (drop first logs) mark) r
    (subst (λ (l : List (Bor (List ℕ))). Follows snapshot zxid' breaks next rest l mark) t follows))))
follows_bytes (Err failed) bytes snapshot zxid zxid' breaks next logged rest logs tail first same read is r t follows = tt
