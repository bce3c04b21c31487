-- Each field of a draft's node was seen on the server, now or later; replaying one change keeps that.
use Rattle.std.proofs.Common.{◌≡◌, ◌⊎◌, inl, inr, ℕ, ℤ, List, ◌∷◌, Bool, true, false, cond, is_eq, Less, Equal, Greater, Option, Some, None, refl, sym, ap, ◌∙◌, ⊎_elim}
use Rattle.std.proofs.lemmas.Bool.{cond-true, cond-false, cases_Bool, false≢true}
use Rattle.std.proofs.lemmas.Cmp.{int_cmp_total, eq_by_cmp_equiv}
use Rattle.std.specs.FinMap.{get, int_cmp-IsAntisymmetric}
use Rattle.std.specs.Prelude.{int_lt}
use Rattle.zk_table.specs.declared.node.Node.{Node}
use Rattle.zk_table.specs.States.{NodeMap}
use Rattle.zk_replay.specs.declared.draft_node.DraftNode.{DraftNode}
pub use Rattle.zk_replay_laws.specs.Windows.{LacksList as Lacks}
use Rattle.zk_replay.specs.Drafts.{DraftMap, later}
use Rattle.zk_replay_laws.specs.Histories.{Closings, Unlisted}
use Rattle.zk_replay_laws.proofs.Paths.{some_inj, none_some}
use Rattle.zk_replay_laws.proofs.Changes.{Field, Content, Acls, Czxid, Mzxid, Pzxid, Ctime, Mtime, Version, Creates, Aversion, Owner, cell, draft_cell, Change, applied, There}
use Rattle.zk_replay_laws.proofs.Servers.{closed_after}
use Rattle.zk_replay_laws.proofs.Timelines.{Occurs, occurs_now, occurs_if, occurs_map, AllFrom, IsAbove, always_above, IsHistory}

-- ---- the greater zxid

apart_from_itself : (b : Bool) → is_eq (cond b Less (cond b Greater Equal)) ≡ true → b ≡ false
apart_from_itself true e = absurd (false≢true e)
apart_from_itself false e = refl

pub not_below_itself : (z : ℤ) → int_lt z z ≡ false
not_below_itself z = apart_from_itself (int_lt z z) ((eq_by_cmp_equiv int_cmp_total).refl z)

same_number : (x y : ℤ) → int_lt x y ≡ false → int_lt y x ≡ false → x ≡ y
same_number x y a b = int_cmp-IsAntisymmetric x y (cond-false (int_lt x y) _ _ a ∙ cond-false (int_lt y x) _ _ b)

later_first : (y z : ℤ) → int_lt y z ≡ false → later y z ≡ y
later_first y z e = cond-false (int_lt y z) _ _ e

later_second : (y z : ℤ) → int_lt z y ≡ false → later y z ≡ z
later_second y z e = ⊎_elim (λ less. cond-true (int_lt y z) _ _ less) (λ not. cond-false (int_lt y z) _ _ not ∙ same_number y z not e) (cases_Bool (int_lt y z))

-- ---- what is seen

abbrev pub Matches : Field → Option DraftNode → List ℕ → NodeMap → Type 0
Matches f o q t = draft_cell f o ≡ cell f (get t q)

-- The draft has a node that the server lacks, until it makes one there.
pub record IsStale (m : NodeMap) (cs : List Change) (d : DraftMap) (q : List ℕ) : Type 0 where
  pub kept : DraftNode
  pub there : get d q ≡ Some kept
  pub absent : get m q ≡ None
  pub made : Occurs m cs (λ t. There t q)

-- what may differ where records list no nodes: the zxid of children, and a stale node's fields but its owner
abbrev pub Excused : Closings → NodeMap → List Change → DraftMap → List ℕ → Field → Type 0
Excused closings m cs d q Pzxid = closings ≡ Unlisted
Excused closings m cs d q Owner = ⊥
Excused closings m cs d q _ = (closings ≡ Unlisted) × IsStale m cs d q

abbrev pub IsSeen : Closings → NodeMap → List Change → DraftMap → List ℕ → Field → Type 0
IsSeen closings m cs d q f = Lacks f d q ⊎ (Occurs m cs (Matches f (get d q) q) ⊎ Excused closings m cs d q f)

abbrev pub AllSeen : Closings → NodeMap → List Change → DraftMap → Type 0
AllSeen closings m cs d = (q : List ℕ) (f : Field) → IsSeen closings m cs d q f

pub no_lack : (f : Field) (d : DraftMap) (q : List ℕ) → get d q ≡ None → Lacks f d q → ⊥
no_lack Acls d q none lacks = none_some (sym none ∙ lacks.1.0)
no_lack _ d q none lacks = lacks

pub lack_kept : (f : Field) (d d' : DraftMap) (q : List ℕ) (x y : DraftNode) → get d q ≡ Some x → get d' q ≡ Some y → y.lacks_acl ≡ x.lacks_acl → Lacks f d q → Lacks f d' q
lack_kept Acls d d' q x y old new same lacks = (y, (new, same ∙ ap (λ z. z.lacks_acl) (some_inj (sym old ∙ lacks.1.0)) ∙ lacks.1.1))
lack_kept _ d d' q x y old new same lacks = lacks

pub lack_same : (f : Field) (d d' : DraftMap) (q : List ℕ) → get d' q ≡ get d q → Lacks f d q → Lacks f d' q
lack_same Acls d d' q same lacks = (lacks.0, (same ∙ lacks.1.0, lacks.1.1))
lack_same _ d d' q same lacks = lacks

pub cell_none : (f : Field) (o : Option Node) → None ≡ cell f o → o ≡ None
cell_none f None e = refl
cell_none f (Some n) e = absurd (none_some e)

-- ---- what is excused

-- it stays excused where it is not the zxid of children
pub excused_stale : (closings : Closings) (f : Field) (m m' : NodeMap) (cs cs' : List Change) (d d' : DraftMap) (q : List ℕ) → (IsStale m cs d q → IsStale m' cs' d' q) → Excused closings m cs d q f → Excused closings m' cs' d' q f
excused_stale closings Content m m' cs cs' d d' q still e = (e.0, still e.1)
excused_stale closings Acls m m' cs cs' d d' q still e = (e.0, still e.1)
excused_stale closings Czxid m m' cs cs' d d' q still e = (e.0, still e.1)
excused_stale closings Mzxid m m' cs cs' d d' q still e = (e.0, still e.1)
excused_stale closings Pzxid m m' cs cs' d d' q still e = e
excused_stale closings Ctime m m' cs cs' d d' q still e = (e.0, still e.1)
excused_stale closings Mtime m m' cs cs' d d' q still e = (e.0, still e.1)
excused_stale closings Version m m' cs cs' d d' q still e = (e.0, still e.1)
excused_stale closings Creates m m' cs cs' d d' q still e = (e.0, still e.1)
excused_stale closings Aversion m m' cs cs' d d' q still e = (e.0, still e.1)
excused_stale closings Owner m m' cs cs' d d' q still e = e

draft_there : (f : Field) (o : Option DraftNode) (x : DraftNode) → draft_cell f o ≡ draft_cell f (Some x) → (y : DraftNode) × (o ≡ Some y)
draft_there f None x e = absurd (none_some e)
draft_there f (Some y) x e = (y, refl)

-- ---- one step at one field

module _ (closings : Closings) (m : NodeMap) (c : Change) (cs : List Change) (d d' : DraftMap) (q : List ℕ) (f : Field) where
  -- it is as on the server now
  pub sure : draft_cell f (get d' q) ≡ cell f (get (applied m c) q) → IsSeen closings (applied m c) cs d' q f
  sure e = inr (inl (occurs_now (applied m c) cs _ e))

  -- neither side changes it
  still_stale : draft_cell f (get d' q) ≡ draft_cell f (get d q) → cell f (get (applied m c) q) ≡ cell f (get m q) → IsStale m (c ∷ cs) d q → IsStale (applied m c) cs d' q
  still_stale draft server stale =
      let kept = draft_there f (get d' q) stale.kept (draft ∙ ap (draft_cell f) stale.there) in
      record {
        kept = kept.0;
        there = kept.1;
        absent = cell_none f (get (applied m c) q) (sym (server ∙ ap (cell f) stale.absent));
        made = ⊎_elim (λ now. absurd (none_some (sym stale.absent ∙ now.1))) (λ then. then) stale.made;
      }

  pub carry : IsSeen closings m (c ∷ cs) d q f → draft_cell f (get d' q) ≡ draft_cell f (get d q) → cell f (get (applied m c) q) ≡ cell f (get m q) → (Lacks f d q → Lacks f d' q) → IsSeen closings (applied m c) cs d' q f
  carry seen draft server lack =
      ⊎_elim
      (λ lacks. inl (lack lacks))
      (λ known. inr (⊎_elim
      (λ occurs. inl (⊎_elim (λ now. occurs_now (applied m c) cs _ (draft ∙ now ∙ sym server)) (λ then. occurs_map (applied m c) cs _ _ (λ t e. draft ∙ e) then) occurs))
      (λ excused. inr (excused_stale closings f m (applied m c) (c ∷ cs) cs d d' q (still_stale draft server) excused))
      known))
      seen

  -- the draft has no node there, where the server has one now
  pub missed : IsSeen closings m (c ∷ cs) d q f → get d q ≡ None → get d' q ≡ None → There m q → IsSeen closings (applied m c) cs d' q f
  missed seen none none' there =
      ⊎_elim
      (λ lacks. absurd (no_lack f d q none lacks))
      (λ known. inr (⊎_elim
      (λ occurs. inl (⊎_elim
      (λ now. absurd (none_some (sym (cell_none f (get m q) (ap (draft_cell f) (sym none) ∙ now)) ∙ there.1)))
      (λ then. occurs_map (applied m c) cs _ _ (λ t e. ap (draft_cell f) (none' ∙ sym none) ∙ e) then)
      occurs))
      (λ excused. inr (excused_stale closings f m (applied m c) (c ∷ cs) cs d d' q (λ stale. absurd (none_some (sym none ∙ stale.there))) excused))
      known))
      seen

-- an absent node is absent on the server, now or later
pub absent_seen : (closings : Closings) (m : NodeMap) (cs : List Change) (d : DraftMap) (q : List ℕ) → AllSeen closings m cs d → get d q ≡ None → Occurs m cs (λ t. get t q ≡ None)
absent_seen closings m cs d q seen none =
    ⊎_elim
    (λ lacks. absurd lacks)
    (λ known. ⊎_elim
    (λ occurs. occurs_map m cs _ _ (λ t e. cell_none Czxid (get t q) (ap (draft_cell Czxid) (sym none) ∙ e)) occurs)
    (λ excused. absurd (none_some (sym none ∙ excused.1.there)))
    known)
    (seen q Czxid)

-- ---- the parent's zxid of children

module _ (closings : Closings) (m : NodeMap) (c : Change) (cs : List Change) (h : IsHistory m (c ∷ cs)) (d d' : DraftMap) (q : List ℕ) (zxid : ℤ) (old : DraftNode) (there : get d q ≡ Some old) (server_old server_new : Node) (server_there : get m q ≡ Some server_old) (server_then : get (applied m c) q ≡ Some server_new) (is : server_new.pzxid ≡ zxid) (draft_is : draft_cell Pzxid (get d' q) ≡ Some (later old.node.pzxid zxid)) (bounded : int_lt zxid server_old.pzxid ≡ false) (from : AllFrom zxid cs) where
  later_matches : (t : NodeMap) → IsAbove zxid q t → Matches Pzxid (get d q) q t → Matches Pzxid (get d' q) q t
  later_matches t above e = at (get t q) refl
    where
      at : (o : Option Node) → get t q ≡ o → draft_cell Pzxid (get d' q) ≡ cell Pzxid (get t q)
      at None none = absurd (none_some (sym (sym (ap (draft_cell Pzxid) there) ∙ e ∙ ap (cell Pzxid) none)))
      at (Some n) some =
          let same : old.node.pzxid ≡ n.pzxid = some_inj (sym (ap (draft_cell Pzxid) there) ∙ e ∙ ap (cell Pzxid) some) in
          draft_is ∙ ap Some (later_first old.node.pzxid zxid (ap (λ x. int_lt x zxid) same ∙ above n some) ∙ same) ∙ sym (ap (cell Pzxid) some)

  pub pzxid_seen : IsSeen closings m (c ∷ cs) d q Pzxid → IsSeen closings (applied m c) cs d' q Pzxid
  pzxid_seen seen =
      ⊎_elim
      (λ lacks. absurd lacks)
      (λ known. inr (⊎_elim
      (λ occurs. inl (⊎_elim
      (λ now.
      let same : old.node.pzxid ≡ server_old.pzxid = some_inj (sym (ap (draft_cell Pzxid) there) ∙ now ∙ ap (cell Pzxid) server_there) in
      occurs_now (applied m c) cs _ (draft_is ∙ ap Some (later_second old.node.pzxid zxid (ap (int_lt zxid) same ∙ bounded) ∙ sym is) ∙ sym (ap (cell Pzxid) server_then)))
      (λ then. occurs_if (applied m c) cs _ _ _ later_matches
      (always_above (applied m c) cs zxid q h.taken.1 (closed_after m c h.taken.0 h.closed) from (λ n some. ap (λ x. int_lt x.pzxid zxid) (some_inj (sym some ∙ server_then)) ∙ ap (λ x. int_lt x zxid) is ∙ not_below_itself zxid))
      then)
      occurs))
      (λ excused. inr excused)
      known))
      seen
