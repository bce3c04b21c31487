-- A session that ends without a list: what a draft has of its nodes, and what it lacks.
use Rattle.std.proofs.Common.{◌≡◌, ◌≢◌, ◌⊎◌, inl, inr, ℕ, ℤ, ◌<◌, List, [], ◌∷◌, ◌++◌, length, true, false, ◌||◌, Option, Some, None, refl, sym, ap, subst, ◌∙◌, ⊎_elim}
use Rattle.std.proofs.lemmas.Bool.{both_ways, or_left, or_right, or_parts}
use Rattle.std.specs.FinMap.{get}
use Rattle.std.specs.Ordering.{int_eq}
use Rattle.zk_path.specs.Paths.{parent_of}
use Rattle.zk_table.specs.declared.node.Node.{Node}
use Rattle.zk_table.specs.Nodes as nodes
use Rattle.zk_table.specs.States.{NodeMap}
use Rattle.zk_replay.specs.Drafts.{DraftMap}
use Rattle.zk_replay.specs.declared.draft_node.DraftNode.{DraftNode}
use Rattle.zk_replay_laws.specs.Histories.{Closings, Unlisted}
use Rattle.zk_replay_laws.proofs.Paths.{some_inj, none_some}
use Rattle.zk_replay_laws.proofs.Gets.{cases_path, cases_below, paths_differ, paths_equal, path_is_itself}
use Rattle.zk_replay_laws.proofs.Changes.{Field, Content, Acls, Czxid, Mzxid, Pzxid, Ctime, Mtime, Version, Creates, Aversion, Owner, value, cell, draft_cell, Change, Deletes, applied, replayed, Deleted, There, lost_effect}
use Rattle.zk_replay_laws.proofs.Servers.{IsClosedMap, closed_after, gone_at, gone_above, gone_elsewhere, gone_closed, parent_of_gone}
use Rattle.zk_replay_laws.proofs.Timelines.{Occurs, Always, occurs_if, occurs_map, occurs_always, AreTaken, IsHistory, history_after}
use Rattle.zk_replay_laws.proofs.Transactions.{applied_all, replayed_all}
use Rattle.zk_replay_laws.proofs.Removals.{IsDraftTree}
use Rattle.zk_replay_laws.proofs.Replays.{lost_at, lost_above, lost_no_parent, lost_below, lost_elsewhere, lost_tree}
use Rattle.zk_replay_laws.proofs.Simulation.{Matches, IsStale, Excused, IsSeen, AllSeen, excused_stale, sure, carry}
use Rattle.zk_replay_laws.proofs.Owners.{AllNeverOwn, made_unowned, owner_after}
use Rattle.zk_replay_laws.proofs.Taking.{deletes}
use Rattle.zk_replay_laws.proofs.Closing.{is_in, AreDistinct, AllReady, ready_deleted, all_ready_still, deletes_all}

-- ---- what a session owns later, if it creates nothing, it owns now

abbrev pub OwnedAt : ℤ → NodeMap → List ℕ → Type 0
OwnedAt session m q = (n : Node) × ((get m q ≡ Some n) × (int_eq n.owner session ≡ true))

pub owned_back : (session : ℤ) (m : NodeMap) (cs : List Change) → AreTaken m cs → IsClosedMap m → AllNeverOwn session cs → (q : List ℕ) (G : Type 0) → (OwnedAt session m q → G) → Always m cs (λ t. OwnedAt session t q → G)
owned_back session m [] taken closed never q G back = back
owned_back session m (c ∷ cs) taken closed never q G back = (
  back,
  owned_back session (applied m c) cs taken.1 (closed_after m c taken.0 closed) never.1 q G
      (λ owned. ⊎_elim
      (λ made. absurd (both_ways _ (made_unowned session c q owned.0 never.0 made) owned.1.1))
      (λ old. back (old.node, (old.there, ap (λ o. int_eq o session) (sym old.same) ∙ owned.1.1)))
      (owner_after m c taken.0 closed q owned.0 owned.1.0)),
)

matched_owner : (session : ℤ) (d : DraftMap) (q : List ℕ) (x : DraftNode) (t : NodeMap) → get d q ≡ Some x → Matches Owner (get d q) q t → (n : Node) × ((get t q ≡ Some n) × (x.node.owner ≡ n.owner))
matched_owner session d q x t there matches = at (get t q) refl
  where
    at : (o : Option Node) → get t q ≡ o → (n : Node) × ((get t q ≡ Some n) × (x.node.owner ≡ n.owner))
    at None e = absurd (none_some (sym (sym (ap (draft_cell Owner) there) ∙ matches ∙ ap (cell Owner) e)))
    at (Some n) e = (n, (e, some_inj (sym (ap (draft_cell Owner) there) ∙ matches ∙ ap (cell Owner) e)))

-- what it owns in a draft, it owns on the server now
pub draft_owned : (closings : Closings) (session : ℤ) (m : NodeMap) (cs : List Change) → AreTaken m cs → IsClosedMap m → AllNeverOwn session cs → (d : DraftMap) → AllSeen closings m cs d → (q : List ℕ) (x : DraftNode) → get d q ≡ Some x → int_eq x.node.owner session ≡ true → OwnedAt session m q
draft_owned closings session m cs taken closed never d seen q x there owned =
    ⊎_elim
    (λ lacks. absurd lacks)
    (λ known. ⊎_elim
    (λ occurs. occurs_always m cs (OwnedAt session m q) (occurs_if m cs _ _ _
    (λ t back matches.
    let at = matched_owner session d q x t there matches in
    back (at.0, (at.1.0, ap (λ o. int_eq o session) (sym at.1.1) ∙ owned)))
    (owned_back session m cs taken closed never q (OwnedAt session m q) (λ here. here)) occurs))
    (λ excused. absurd excused)
    known)
    (seen q Owner)

-- ---- owners in a draft after deletes

pub record OldDraft (d : DraftMap) (q : List ℕ) (owner : ℤ) : Type 0 where
  pub node : DraftNode
  pub there : get d q ≡ Some node
  pub same : owner ≡ node.node.owner

module _ (d : DraftMap) (tree : IsDraftTree d) (zxid : ℤ) (path above : List ℕ) (filled : path ≢ []) (parent : parent_of path ≡ Some above) (shorter : length above < length path) (q : List ℕ) (x : DraftNode) (there : get (replayed d (Deletes zxid path above)) q ≡ Some x) where
  not_path : q ≢ path
  not_path e = none_some (sym (lost_at d zxid path above filled parent shorter) ∙ ap (get (replayed d (Deletes zxid path above))) (sym e) ∙ there)

  from_above : q ≡ above → (o : Option DraftNode) → get d above ≡ o → OldDraft d q x.node.owner
  from_above e None none = absurd (none_some (sym (lost_no_parent d zxid path above filled parent shorter none) ∙ ap (get (replayed d (Deletes zxid path above))) (sym e) ∙ there))
  from_above e (Some y) some = record {
    node = y;
    there = ap (get d) e ∙ some;
    same = ap (λ k. k.node.owner) (some_inj (sym there ∙ ap (get (replayed d (Deletes zxid path above))) e ∙ lost_above d zxid path above filled parent shorter y some));
  }

  lost_owner : (q ≢ path) × OldDraft d q x.node.owner
  lost_owner = (
    not_path,
    ⊎_elim
        (λ e. from_above e (get d above) refl)
        (λ else. ⊎_elim
        (λ below. absurd (none_some (sym (lost_below d zxid path above filled parent shorter tree q below) ∙ there)))
        (λ apart. record { node = x; there = sym (lost_elsewhere d zxid path above filled parent shorter q not_path else apart) ∙ there; same = refl })
        (cases_below path q))
        (cases_path q above),
  )

-- what is left was there, and was not deleted
pub owner_left : (m : NodeMap) (zxid : ℤ) (paths : List (List ℕ)) → AllReady m paths → (d : DraftMap) → IsDraftTree d → (q : List ℕ) (x : DraftNode) → get (replayed_all d (deletes_all zxid paths)) q ≡ Some x → (is_in q paths ≡ false) × OldDraft d q x.node.owner
owner_left m zxid [] all d tree q x there = (refl, record { node = x; there = there; same = refl })
owner_left m zxid (p ∷ ps) all d tree q x there =
    let ready = all.0 in
    let next = replayed d (Deletes zxid p ready.above) in
    let rest = owner_left m zxid ps all.1 next (lost_tree d zxid p ready.above ready.filled ready.parent ready.shorter tree) q x (sym (ap (λ o. get (replayed_all d (deletes o zxid p ++ deletes_all zxid ps)) q) ready.parent) ∙ there) in
    let first = lost_owner d tree zxid p ready.above ready.filled ready.parent ready.shorter q rest.1.node rest.1.there in
    (ap (λ b. b || is_in q ps) (paths_differ q p first.0) ∙ rest.0, record { node = first.1.node; there = first.1.there; same = rest.1.same ∙ first.1.same })

-- ---- deletes of other nodes leave the owners of nodes

owned_still : (session : ℤ) (m : NodeMap) (zxid : ℤ) (path above : List ℕ) (is : Deleted m path above) → IsClosedMap m → (q : List ℕ) → q ≢ path → OwnedAt session m q → OwnedAt session (applied m (Deletes zxid path above)) q
owned_still session m zxid path above is closed q not_path at =
    ⊎_elim
    (λ e.
    let parent = parent_of_gone m zxid path above is closed in
    (nodes.without_child zxid parent.0, (ap (get (applied m (Deletes zxid path above))) e ∙ gone_above m zxid path above is closed, ap (λ n. int_eq n.owner session) (some_inj (sym parent.1 ∙ ap (get m) (sym e) ∙ at.1.0)) ∙ at.1.1)))
    (λ else. (at.0, (gone_elsewhere m zxid path above is closed q not_path else ∙ at.1.0, at.1.1)))
    (cases_path q above)

pub owned_after : (session : ℤ) (m : NodeMap) (zxid : ℤ) (paths : List (List ℕ)) → IsClosedMap m → AreDistinct paths → AllReady m paths → (q : List ℕ) → is_in q paths ≡ false → OwnedAt session m q → OwnedAt session (applied_all m (deletes_all zxid paths)) q
owned_after session m zxid [] closed distinct all q not_in owned = owned
owned_after session m zxid (p ∷ ps) closed distinct all q not_in owned =
    let ready = all.0 in
    let is = ready_deleted m p ready in
    let parts = or_parts _ _ not_in in
    subst (λ o. OwnedAt session (applied_all m (deletes o zxid p ++ deletes_all zxid ps)) q) (sym ready.parent)
    (owned_after session (applied m (Deletes zxid p ready.above)) zxid ps (gone_closed m zxid p ready.above is closed) distinct.1 (all_ready_still m zxid p ready closed ps distinct.0 all.1) q parts.1
    (owned_still session m zxid p ready.above is closed q (λ e. both_ways _ parts.0 (paths_equal q p e)) owned))

-- ---- a delete on the server alone

module _ (closings : Closings) (unlisted : closings ≡ Unlisted) (session : ℤ) (m : NodeMap) (zxid : ℤ) (path above : List ℕ) (cs : List Change) (is : Deleted m path above) (h : IsHistory m (Deletes zxid path above ∷ cs)) (d : DraftMap) (owned : OwnedAt session m path) (other : (x : DraftNode) → get d path ≡ Some x → int_eq x.node.owner session ≡ false) (seen : AllSeen closings m (Deletes zxid path above ∷ cs) d) where
  abbrev c : Change
  c = Deletes zxid path above

  gone : get (applied m c) path ≡ None
  gone = gone_at m zxid path above is h.closed

  not_now : (x : DraftNode) → get d path ≡ Some x → Matches Owner (get d path) path m → ⊥
  not_now x there now =
      let at = matched_owner session d path x m there now in
      both_ways _ (other x there) (ap (λ o. int_eq o session) (at.1.1 ∙ ap (λ n. n.owner) (some_inj (sym at.1.0 ∙ owned.1.0))) ∙ owned.1.1)

  made_later : (x : DraftNode) → get d path ≡ Some x → Occurs (applied m c) cs (λ t. There t path)
  made_later x there =
      ⊎_elim
      (λ lacks. absurd lacks)
      (λ known. ⊎_elim
      (λ occurs. ⊎_elim
      (λ now. absurd (not_now x there now))
      (λ then. occurs_map (applied m c) cs _ _ (λ t e. let at = matched_owner session d path x t there e in (at.0, at.1.0)) then)
      occurs)
      (λ excused. absurd excused)
      known)
      (seen path Owner)

  stale : (x : DraftNode) → get d path ≡ Some x → IsStale (applied m c) cs d path
  stale x there = record { kept = x; there = there; absent = gone; made = made_later x there }

  excused_now : (x : DraftNode) → get d path ≡ Some x → (f : Field) → (f ≡ Owner) ⊎ Excused closings (applied m c) cs d path f
  excused_now x there Content = inr (unlisted, stale x there)
  excused_now x there Acls = inr (unlisted, stale x there)
  excused_now x there Czxid = inr (unlisted, stale x there)
  excused_now x there Mzxid = inr (unlisted, stale x there)
  excused_now x there Pzxid = inr unlisted
  excused_now x there Ctime = inr (unlisted, stale x there)
  excused_now x there Mtime = inr (unlisted, stale x there)
  excused_now x there Version = inr (unlisted, stale x there)
  excused_now x there Creates = inr (unlisted, stale x there)
  excused_now x there Aversion = inr (unlisted, stale x there)
  excused_now x there Owner = inl refl

  skipped_at : (f : Field) (o : Option DraftNode) → get d path ≡ o → IsSeen closings (applied m c) cs d path f
  skipped_at f None none = sure closings m c cs d d path f (ap (draft_cell f) none ∙ sym (ap (cell f) gone))
  skipped_at f (Some x) there =
      ⊎_elim
      (λ lacks. inl lacks)
      (λ known. inr (⊎_elim
      (λ occurs. ⊎_elim
      (λ now. ⊎_elim (λ e. absurd (not_now x there (subst (λ g. Matches g (get d path) path m) e now))) (λ excused. inr excused) (excused_now x there f))
      (λ then. inl then)
      occurs)
      (λ excused. inr (excused_stale closings f m (applied m c) (c ∷ cs) cs d d path (λ old. absurd (none_some (sym old.absent ∙ is.there))) excused))
      known))
      (seen path f)

  skipped_above : (f : Field) → IsSeen closings (applied m c) cs d above f
  skipped_above f = with_effect (lost_effect f)
    where
      with_effect : (f ≡ Pzxid) ⊎ ((z : ℤ) (n : Node) → value f (nodes.without_child z n) ≡ value f n) → IsSeen closings (applied m c) cs d above f
      with_effect (inl e) = subst (λ g. IsSeen closings (applied m c) cs d above g) (sym e) (inr (inr unlisted))
      with_effect (inr same) =
          let parent = parent_of_gone m zxid path above is h.closed in
          carry closings m c cs d d above f (seen above f) refl
          (ap (cell f) (gone_above m zxid path above is h.closed) ∙ ap Some (same zxid parent.0) ∙ sym (ap (cell f) parent.1))
          (λ l. l)

  pub skip_seen : AllSeen closings (applied m (Deletes zxid path above)) cs d
  skip_seen q f =
      ⊎_elim
      (λ e. subst (λ p. IsSeen closings (applied m c) cs d p f) (sym e) (skipped_at f (get d path) refl))
      (λ not_path. ⊎_elim
      (λ e. subst (λ p. IsSeen closings (applied m c) cs d p f) (sym e) (skipped_above f))
      (λ else. carry closings m c cs d d q f (seen q f) refl (ap (cell f) (gone_elsewhere m zxid path above is h.closed q not_path else)) (λ l. l))
      (cases_path q above))
      (cases_path q path)

-- ---- deletes on the server alone, of nodes that the draft does not have with this owner

pub skip_all : (closings : Closings) → closings ≡ Unlisted → (session : ℤ) (m : NodeMap) (zxid : ℤ) (paths : List (List ℕ)) (later : List Change) → AllReady m paths → AreDistinct paths → IsHistory m (deletes_all zxid paths ++ later) → (d : DraftMap) → ((q : List ℕ) (x : DraftNode) → get d q ≡ Some x → int_eq x.node.owner session ≡ false) → ((q : List ℕ) → is_in q paths ≡ true → OwnedAt session m q) → AllSeen closings m (deletes_all zxid paths ++ later) d → AllSeen closings (applied_all m (deletes_all zxid paths)) later d
skip_all closings unlisted session m zxid [] later all distinct h d none owned seen = seen
skip_all closings unlisted session m zxid (p ∷ ps) later all distinct h d none owned seen =
    let ready = all.0 in
    let is = ready_deleted m p ready in
    let history : IsHistory m (Deletes zxid p ready.above ∷ (deletes_all zxid ps ++ later)) = subst (λ o. IsHistory m ((deletes o zxid p ++ deletes_all zxid ps) ++ later)) ready.parent h in
    let before : AllSeen closings m (Deletes zxid p ready.above ∷ (deletes_all zxid ps ++ later)) d = subst (λ o. AllSeen closings m ((deletes o zxid p ++ deletes_all zxid ps) ++ later) d) ready.parent seen in
    let first = owned p (or_left _ _ (path_is_itself p)) in
    let after = skip_seen closings unlisted session m zxid p ready.above (deletes_all zxid ps ++ later) is history d first (none p) before in
    subst (λ o. AllSeen closings (applied_all m (deletes o zxid p ++ deletes_all zxid ps)) later d) (sym ready.parent)
    (skip_all closings unlisted session (applied m (Deletes zxid p ready.above)) zxid ps later (all_ready_still m zxid p ready history.closed ps distinct.0 all.1) distinct.1 (history_after m (Deletes zxid p ready.above) (deletes_all zxid ps ++ later) history) d none
    (λ q has. owned_still session m zxid p ready.above is history.closed q (λ e. both_ways _ distinct.0 (ap (λ k. is_in k ps) (sym e) ∙ has)) (owned q (or_right _ _ has)))
    after)
