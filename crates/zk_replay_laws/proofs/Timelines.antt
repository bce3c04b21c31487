-- A server's nodes now and after each later change.
use Rattle.std.proofs.Common.{◌≡◌, ◌⊎◌, inl, inr, ℕ, ℤ, List, [], ◌∷◌, false, Some, ap, ◌∙◌, ⊎_elim}
use Rattle.std.specs.FinMap.{get}
use Rattle.std.specs.Prelude.{int_lt}
use Rattle.zk_table.specs.declared.node.Node.{Node}
use Rattle.zk_table.specs.States.{NodeMap}
use Rattle.zk_replay_laws.proofs.Changes.{Change, applied, zxid_of, IsTaken}
use Rattle.zk_replay_laws.proofs.Servers.{IsClosedMap, closed_after, pzxid_after}

-- now, or after some of the changes
abbrev pub Occurs : NodeMap → List Change → (NodeMap → Type 0) → Type 0
Occurs m [] P = P m
Occurs m (c ∷ cs) P = P m ⊎ Occurs (applied m c) cs P

abbrev pub Always : NodeMap → List Change → (NodeMap → Type 0) → Type 0
Always m [] P = P m
Always m (c ∷ cs) P = P m × Always (applied m c) cs P

pub occurs_now : (m : NodeMap) (cs : List Change) (P : NodeMap → Type 0) → P m → Occurs m cs P
occurs_now m [] P p = p
occurs_now m (c ∷ cs) P p = inl p

pub occurs_if : (m : NodeMap) (cs : List Change) (P Q R : NodeMap → Type 0) → ((t : NodeMap) → Q t → P t → R t) → Always m cs Q → Occurs m cs P → Occurs m cs R
occurs_if m [] P Q R f q p = f m q p
occurs_if m (c ∷ cs) P Q R f q (inl p) = inl (f m q.0 p)
occurs_if m (c ∷ cs) P Q R f q (inr p) = inr (occurs_if (applied m c) cs P Q R f q.1 p)

pub occurs_map : (m : NodeMap) (cs : List Change) (P R : NodeMap → Type 0) → ((t : NodeMap) → P t → R t) → Occurs m cs P → Occurs m cs R
occurs_map m [] P R f p = f m p
occurs_map m (c ∷ cs) P R f (inl p) = inl (f m p)
occurs_map m (c ∷ cs) P R f (inr p) = inr (occurs_map (applied m c) cs P R f p)

-- what does not depend on the moment
pub occurs_always : (m : NodeMap) (cs : List Change) (C : Type 0) → Occurs m cs (λ t. C) → C
occurs_always m [] C p = p
occurs_always m (c ∷ cs) C (inl p) = p
occurs_always m (c ∷ cs) C (inr p) = occurs_always (applied m c) cs C p

-- ---- histories

abbrev pub AreTaken : NodeMap → List Change → Type 0
AreTaken m [] = Unit {0}
AreTaken m (c ∷ cs) = IsTaken m c × AreTaken (applied m c) cs

abbrev pub AllFrom : ℤ → List Change → Type 0
AllFrom zxid [] = Unit {0}
AllFrom zxid (c ∷ cs) = (int_lt (zxid_of c) zxid ≡ false) × AllFrom zxid cs

abbrev pub AreRising : List Change → Type 0
AreRising [] = Unit {0}
AreRising (c ∷ cs) = AllFrom (zxid_of c) cs × AreRising cs

abbrev pub IsBoundedBy : ℤ → NodeMap → Type 0
IsBoundedBy zxid m = (q : List ℕ) (n : Node) → get m q ≡ Some n → int_lt zxid n.pzxid ≡ false

abbrev pub AreBounded : List Change → NodeMap → Type 0
AreBounded [] m = Unit {0}
AreBounded (c ∷ cs) m = IsBoundedBy (zxid_of c) m × AreBounded cs m

abbrev pub IsAbove : ℤ → List ℕ → NodeMap → Type 0
IsAbove zxid q m = (n : Node) → get m q ≡ Some n → int_lt n.pzxid zxid ≡ false

pub always_above : (m : NodeMap) (cs : List Change) (zxid : ℤ) (q : List ℕ) → AreTaken m cs → IsClosedMap m → AllFrom zxid cs → IsAbove zxid q m → Always m cs (IsAbove zxid q)
always_above m [] zxid q taken closed from is = is
always_above m (c ∷ cs) zxid q taken closed from is = (
  is,
  always_above (applied m c) cs zxid q taken.1 (closed_after m c taken.0 closed) from.1
      (λ n there. ⊎_elim (λ e. ap (λ x. int_lt x zxid) e ∙ from.0) (λ old. ap (λ x. int_lt x zxid) old.same ∙ is old.node old.there) (pzxid_after m c taken.0 closed q n there)),
)

pub always_closed : (m : NodeMap) (cs : List Change) → AreTaken m cs → IsClosedMap m → Always m cs IsClosedMap
always_closed m [] taken closed = closed
always_closed m (c ∷ cs) taken closed = (closed, always_closed (applied m c) cs taken.1 (closed_after m c taken.0 closed))

bounded_on : (m : NodeMap) (c : Change) (cs : List Change) → IsTaken m c → IsClosedMap m → AllFrom (zxid_of c) cs → AreBounded cs m → AreBounded cs (applied m c)
bounded_on m c [] taken closed from bounded = tt
bounded_on m c (d ∷ ds) taken closed from bounded =
    ((λ q n there. ⊎_elim (λ e. ap (int_lt (zxid_of d)) e ∙ from.0) (λ old. ap (int_lt (zxid_of d)) old.same ∙ bounded.0 q old.node old.there) (pzxid_after m c taken closed q n there)), bounded_on m c ds taken closed from.1 bounded.1)

-- the changes to come are taken by the table, with rising zxids, none below those of the nodes
pub record IsHistory (m : NodeMap) (cs : List Change) : Type 0 where
  pub taken : AreTaken m cs
  pub rising : AreRising cs
  pub bounded : AreBounded cs m
  pub closed : IsClosedMap m

pub history_after : (m : NodeMap) (c : Change) (cs : List Change) → IsHistory m (c ∷ cs) → IsHistory (applied m c) cs
history_after m c cs h = record {
  taken = h.taken.1;
  rising = h.rising.1;
  bounded = bounded_on m c cs h.taken.0 h.closed h.rising.0 h.bounded.1;
  closed = closed_after m c h.taken.0 h.closed;
}
