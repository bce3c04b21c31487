-- Owners on a server, change by change.
use Rattle.std.proofs.Common.{◌≡◌, ◌⊎◌, inl, inr, ℕ, ℤ, pos, List, [], ◌∷◌, true, false, Some, refl, sym, ap, ◌∙◌, ⊎_elim}
use Rattle.std.specs.FinMap.{get}
use Rattle.std.specs.Ordering.{int_eq}
use Rattle.zk_path.specs.Paths.{parent_of}
use Rattle.zk_table.specs.declared.node.Node.{Node}
use Rattle.zk_table.specs.Nodes as nodes
use Rattle.zk_table.specs.States.{NodeMap}
use Rattle.zk_replay_laws.proofs.Paths.{some_inj, none_some}
use Rattle.zk_replay_laws.proofs.Gets.{cases_path, changed_at, changed_elsewhere}
use Rattle.zk_replay_laws.proofs.Changes.{Change, Makes, Deletes, Writes, Guards, applied, There, IsTaken}
use Rattle.zk_replay_laws.proofs.Servers.{IsClosedMap, closed_after, apart_back, made_at, made_above, made_elsewhere, was_there, gone_at, gone_above, gone_elsewhere, parent_of_gone}
use Rattle.zk_replay_laws.proofs.Timelines.{Always, AreTaken}

-- the node that a change creates
abbrev pub IsMade : Change → List ℕ → Node → Type 0
IsMade (Makes zxid path above node count) q n = (q ≡ path) × (n ≡ node)
IsMade _ q n = ⊥

pub record OldOwner (m : NodeMap) (q : List ℕ) (owner : ℤ) : Type 0 where
  pub node : Node
  pub there : get m q ≡ Some node
  pub same : owner ≡ node.owner

pub owner_after : (m : NodeMap) (c : Change) → IsTaken m c → IsClosedMap m → (q : List ℕ) (n : Node) → get (applied m c) q ≡ Some n → IsMade c q n ⊎ OldOwner m q n.owner
owner_after m (Makes zxid path above node count) is closed q n there =
    ⊎_elim
    (λ e. inl (e, some_inj (sym there ∙ ap (get (applied m (Makes zxid path above node count))) e ∙ made_at m zxid path above node count is)))
    (λ other. inr (⊎_elim
    (λ e. record { node = is.parent_node; there = ap (get m) e ∙ is.parent_there; same = ap (λ x. x.owner) (some_inj (sym there ∙ ap (get (applied m (Makes zxid path above node count))) e ∙ made_above m zxid path above node count is)) })
    (λ else. record { node = n; there = sym (made_elsewhere m zxid path above node count is q other else) ∙ there; same = refl })
    (cases_path q above)))
    (cases_path q path)
owner_after m (Deletes zxid path above) is closed q n there =
    inr (⊎_elim
    (λ e. absurd (none_some (sym (gone_at m zxid path above is closed) ∙ ap (get (applied m (Deletes zxid path above))) (sym e) ∙ there)))
    (λ other. ⊎_elim
    (λ e. let parent = parent_of_gone m zxid path above is closed in record { node = parent.0; there = ap (get m) e ∙ parent.1; same = ap (λ x. x.owner) (some_inj (sym there ∙ ap (get (applied m (Deletes zxid path above))) e ∙ gone_above m zxid path above is closed)) })
    (λ else. record { node = n; there = sym (gone_elsewhere m zxid path above is closed q other else) ∙ there; same = refl })
    (cases_path q above))
    (cases_path q path))
owner_after m (Writes txn path content version) is closed q n there =
    inr (⊎_elim
    (λ e. record { node = is.0; there = ap (get m) e ∙ is.1; same = ap (λ x. x.owner) (some_inj (sym there ∙ ap (get (applied m (Writes txn path content version))) e ∙ changed_at m path (nodes.written txn content version) is.0 is.1)) })
    (λ other. record { node = n; there = sym (changed_elsewhere m path (nodes.written txn content version) q other) ∙ there; same = refl })
    (cases_path q path))
owner_after m (Guards zxid path acl version) is closed q n there =
    inr (⊎_elim
    (λ e. record { node = is.0; there = ap (get m) e ∙ is.1; same = ap (λ x. x.owner) (some_inj (sym there ∙ ap (get (applied m (Guards zxid path acl version))) e ∙ changed_at m path (nodes.guarded acl version) is.0 is.1)) })
    (λ other. record { node = n; there = sym (changed_elsewhere m path (nodes.guarded acl version) q other) ∙ there; same = refl })
    (cases_path q path))

-- which nodes were there before
pub before_change : (m : NodeMap) (c : Change) → IsTaken m c → IsClosedMap m → (q : List ℕ) → There (applied m c) q → ((n : Node) → IsMade c q n → ⊥) → There m q
before_change m c is closed q there unmade = ⊎_elim (λ made. absurd (unmade there.0 made)) (λ old. (old.node, old.there)) (owner_after m c is closed q there.0 there.1)

-- ---- parents have no owner

abbrev pub IsPlainMap : NodeMap → Type 0
IsPlainMap m = (q above : List ℕ) (n : Node) → There m q → parent_of q ≡ Some above → get m above ≡ Some n → int_eq n.owner (pos 0) ≡ true

plain_old : (m : NodeMap) (c : Change) → IsPlainMap m → (q above : List ℕ) (n : Node) → There m q → parent_of q ≡ Some above → OldOwner m above n.owner → int_eq n.owner (pos 0) ≡ true
plain_old m c plain q above n there parent old = ap (λ o. int_eq o (pos 0)) old.same ∙ plain q above old.node there parent old.there

pub plain_after : (m : NodeMap) (c : Change) → IsTaken m c → IsClosedMap m → IsPlainMap m → IsPlainMap (applied m c)
plain_after m (Makes zxid path above node count) is closed plain q b n there parent at =
    ⊎_elim
    (λ made. ⊎_elim
    (λ e. absurd (apart_back path above is.shorter (some_inj (sym is.parent ∙ sym (ap parent_of e) ∙ parent) ∙ made.0)))
    (λ other. absurd (none_some (sym is.absent ∙ ap (get m) (sym made.0) ∙ (closed q b (was_there m zxid path above node count is q other there) parent).1)))
    (cases_path q path))
    (λ old. ⊎_elim
    (λ e.
    let at_above : b ≡ above = some_inj (sym parent ∙ ap parent_of e ∙ is.parent) in
    ap (λ o. int_eq o (pos 0)) (old.same ∙ ap (λ x. x.owner) (some_inj (sym old.there ∙ ap (get m) at_above ∙ is.parent_there))) ∙ is.plain)
    (λ other. plain_old m (Makes zxid path above node count) plain q b n (was_there m zxid path above node count is q other there) parent old)
    (cases_path q path))
    (owner_after m (Makes zxid path above node count) is closed b n at)
plain_after m (Deletes zxid path above) is closed plain q b n there parent at =
    ⊎_elim
    (λ made. absurd made)
    (λ old. plain_old m (Deletes zxid path above) plain q b n (before_change m (Deletes zxid path above) is closed q there (λ x made. made)) parent old)
    (owner_after m (Deletes zxid path above) is closed b n at)
plain_after m (Writes txn path content version) is closed plain q b n there parent at =
    ⊎_elim
    (λ made. absurd made)
    (λ old. plain_old m (Writes txn path content version) plain q b n (before_change m (Writes txn path content version) is closed q there (λ x made. made)) parent old)
    (owner_after m (Writes txn path content version) is closed b n at)
plain_after m (Guards zxid path acl version) is closed plain q b n there parent at =
    ⊎_elim
    (λ made. absurd made)
    (λ old. plain_old m (Guards zxid path acl version) plain q b n (before_change m (Guards zxid path acl version) is closed q there (λ x made. made)) parent old)
    (owner_after m (Guards zxid path acl version) is closed b n at)

-- ---- a session that owns nothing, and creates nothing later

abbrev pub NeverOwns : ℤ → Change → Type 0
NeverOwns session (Makes zxid path above node count) = int_eq node.owner session ≡ false
NeverOwns session _ = Unit {0}

abbrev pub AllNeverOwn : ℤ → List Change → Type 0
AllNeverOwn session [] = Unit {0}
AllNeverOwn session (c ∷ cs) = NeverOwns session c × AllNeverOwn session cs

abbrev pub OwnsNothing : ℤ → NodeMap → Type 0
OwnsNothing session m = (q : List ℕ) (n : Node) → get m q ≡ Some n → int_eq n.owner session ≡ false

pub made_unowned : (session : ℤ) (c : Change) (q : List ℕ) (n : Node) → NeverOwns session c → IsMade c q n → int_eq n.owner session ≡ false
made_unowned session (Makes zxid path above node count) q n never made = ap (λ x. int_eq x.owner session) made.1 ∙ never
made_unowned session (Deletes zxid path above) q n never made = absurd made
made_unowned session (Writes txn path content version) q n never made = absurd made
made_unowned session (Guards zxid path acl version) q n never made = absurd made

pub always_unowned : (session : ℤ) (m : NodeMap) (cs : List Change) → AreTaken m cs → IsClosedMap m → AllNeverOwn session cs → OwnsNothing session m → Always m cs (OwnsNothing session)
always_unowned session m [] taken closed never owns = owns
always_unowned session m (c ∷ cs) taken closed never owns = (
  owns,
  always_unowned session (applied m c) cs taken.1 (closed_after m c taken.0 closed) never.1
      (λ q n there. ⊎_elim (λ made. made_unowned session c q n never.0 made) (λ old. ap (λ o. int_eq o session) old.same ∙ owns q old.node old.there) (owner_after m c taken.0 closed q n there)),
)
