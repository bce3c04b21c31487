-- What holds of a server's nodes after every history.
use Rattle.std.proofs.Common.{◌≡◌, ◌≢◌, ℕ, pos, ◌<◌, List, [], ◌∷◌, length, true, false, Some, sym, ap, ◌∙◌, ⊎_elim, arith}
use Rattle.std.proofs.lemmas.Bool.{both_ways}
use Rattle.std.specs.FinMap.{get}
use Rattle.std.specs.Ordering.{int_eq}
use Rattle.zk_path.specs.Paths.{parent_of, is_root}
use Rattle.zk_table.specs.declared.node.Node.{Node}
use Rattle.zk_table.specs.States.{NodeMap}
use Rattle.zk_replay_laws.proofs.Paths.{some_inj}
use Rattle.zk_replay_laws.proofs.Changes.{Change, Makes, Deletes, Writes, Guards, applied, There, IsTaken}
use Rattle.zk_replay_laws.proofs.Servers.{IsClosedMap, closed_after}
use Rattle.zk_replay_laws.proofs.Owners.{IsMade, owner_after, IsPlainMap, plain_after}
use Rattle.zk_replay_laws.proofs.Replays.{has_parent}
use Rattle.zk_replay_laws.proofs.Timelines.{AreTaken}
use Rattle.zk_replay_laws.proofs.Transactions.{applied_all}

pub record IsGoodKey (q : List ℕ) : Type 0 where
  pub filled : q ≢ []
  pub shorter : (above : List ℕ) → parent_of q ≡ Some above → length above < length q

pub record IsSound (m : NodeMap) : Type 0 where
  pub closed : IsClosedMap m
  pub plain : IsPlainMap m
  pub root : (q : List ℕ) (n : Node) → is_root q ≡ true → get m q ≡ Some n → int_eq n.owner (pos 0) ≡ true
  pub keys : (q : List ℕ) → There m q → IsGoodKey q

made_key : (m : NodeMap) (c : Change) → IsTaken m c → (q : List ℕ) (n : Node) → IsMade c q n → IsGoodKey q × (is_root q ≡ false)
made_key m (Makes zxid path above node count) is q n made = (
  record {
    filled = λ e. is.filled (sym made.0 ∙ e);
    shorter = λ b parent.
        let at = ap length (some_inj (sym parent ∙ ap parent_of made.0 ∙ is.parent)) in
        let same = ap length made.0 in
        let less = is.shorter in
        omega (arith, at, same, less);
  },
  ap is_root made.0 ∙ has_parent path above is.parent,
)
made_key m (Deletes zxid path above) is q n made = absurd made
made_key m (Writes txn path content version) is q n made = absurd made
made_key m (Guards zxid path acl version) is q n made = absurd made

pub sound_after : (m : NodeMap) (c : Change) → IsTaken m c → IsSound m → IsSound (applied m c)
sound_after m c is sound = record {
  closed = closed_after m c is sound.closed;
  plain = plain_after m c is sound.closed sound.plain;
  root = λ q n at there. ⊎_elim
      (λ made. absurd (both_ways _ (made_key m c is q n made).1 at))
      (λ old. ap (λ o. int_eq o (pos 0)) old.same ∙ sound.root q old.node at old.there)
      (owner_after m c is sound.closed q n there);
  keys = λ q there. ⊎_elim
      (λ made. (made_key m c is q there.0 made).0)
      (λ old. sound.keys q (old.node, old.there))
      (owner_after m c is sound.closed q there.0 there.1);
}

pub sound_after_all : (m : NodeMap) (cs : List Change) → AreTaken m cs → IsSound m → IsSound (applied_all m cs)
sound_after_all m [] taken sound = sound
sound_after_all m (c ∷ cs) taken sound = sound_after_all (applied m c) cs taken.1 (sound_after m c taken.0 sound)
