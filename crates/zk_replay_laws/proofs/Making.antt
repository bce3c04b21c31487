-- Replaying a create keeps a draft seen.
use Rattle.std.proofs.Common.{◌≡◌, ◌≢◌, inl, inr, ℕ, ℤ, List, [], ◌∷◌, length, Bool, true, false, is_some, Option, Some, None, refl, sym, ap, subst, ◌∙◌, ⊎_elim, arith}
use Rattle.std.specs.FinMap.{get}
use Rattle.zk_table.specs.declared.node.Node.{Node}
use Rattle.zk_table.specs.Nodes as nodes
use Rattle.zk_table.specs.States.{NodeMap}
use Rattle.zk_replay.specs.Drafts as drafts
use Rattle.zk_replay.specs.declared.draft_node.DraftNode.{DraftNode}
use Rattle.zk_replay.specs.Drafts.{DraftMap, later, fresh}
use Rattle.zk_replay_laws.specs.Histories.{Closings}
use Rattle.zk_replay_laws.proofs.Paths.{IsBelow, absent_below, none_some}
use Rattle.zk_replay_laws.proofs.Gets.{cases_path, cases_below}
use Rattle.zk_replay_laws.proofs.Changes.{Field, Pzxid, cell, draft_cell, Change, Makes, applied, replayed, Created, ParentEffect, is_pzxid, else_keeps, else_sets, parent_effect}
use Rattle.zk_replay_laws.proofs.Servers.{IsClosedMap, closed_after, made_at, made_above, made_elsewhere}
use Rattle.zk_replay_laws.proofs.Timelines.{occurs_if, always_closed, IsHistory}
use Rattle.zk_replay_laws.proofs.Removals.{IsDraftTree}
use Rattle.zk_replay_laws.proofs.Replays.{below_longer, remade_at, remade_above, remade_below, remade_elsewhere, made_tree, unmade}
use Rattle.zk_replay_laws.proofs.Simulation.{IsSeen, AllSeen, excused_stale, sure, carry, missed, absent_seen, lack_kept, lack_same, pzxid_seen}

-- what is below a path that the server lacks is absent there
has : NodeMap → List ℕ → Bool
has m q = is_some (get m q)

there_if : (o : Option Node) → is_some o ≡ true → (n : Node) × (o ≡ Some n)
there_if None e = absurd (cc)
there_if (Some n) e = (n, refl)

none_if : (o : Option Node) → is_some o ≡ false → o ≡ None
none_if None e = refl
none_if (Some n) e = absurd (cc)

pub server_below : (m : NodeMap) → IsClosedMap m → (path q : List ℕ) → path ≢ [] → get m path ≡ None → IsBelow path q → get m q ≡ None
unfolding has
server_below m closed path q filled none below =
    none_if (get m q) (absent_below (has m) (λ p above there parent. ap is_some (closed p above (there_if (get m p) there) parent).1) path q filled (ap is_some none) below)

module _ (closings : Closings) (m : NodeMap) (zxid : ℤ) (path above : List ℕ) (node : Node) (count : ℤ) (cs : List Change) (is : Created m zxid path above node count) (h : IsHistory m (Makes zxid path above node count ∷ cs)) (d : DraftMap) (tree : IsDraftTree d) (seen : AllSeen closings m (Makes zxid path above node count ∷ cs) d) where
  abbrev c : Change
  c = Makes zxid path above node count

  -- the draft lacks the parent
  unmade_path : get d above ≡ None → (f : Field) → IsSeen closings (applied m c) cs d path f
  unmade_path none f =
      ⊎_elim
      (λ lacks. inl lacks)
      (λ known. inr (⊎_elim
      (λ occurs. inl (⊎_elim
      (λ now. occurs_if (applied m c) cs _ _ _
      (λ t closed gone. now ∙ ap (cell f) (is.absent ∙ sym (server_gone t closed gone)))
      (always_closed (applied m c) cs h.taken.1 (closed_after m c h.taken.0 h.closed))
      (⊎_elim (λ first. absurd (none_some (sym first ∙ is.parent_there))) (λ then. then) (absent_seen closings m (c ∷ cs) d above seen none)))
      (λ then. then)
      occurs))
      (λ excused. inr (excused_stale closings f m (applied m c) (c ∷ cs) cs d d path (λ stale. absurd (none_some (sym none ∙ (tree.closed path above (stale.kept, stale.there) is.parent).1.0))) excused))
      known))
      (seen path f)
    where
      server_gone : (t : NodeMap) → IsClosedMap t → get t above ≡ None → get t path ≡ None
      server_gone t closed gone = at (get t path) refl
        where
          at : (o : Option Node) → get t path ≡ o → get t path ≡ None
          at None e = e
          at (Some n) e = absurd (none_some (sym gone ∙ (closed path above (n, e) is.parent).1))

  unmade_seen : get d above ≡ None → AllSeen closings (applied m c) cs d
  unmade_seen none q f =
      ⊎_elim
      (λ e. subst (λ p. IsSeen closings (applied m c) cs d p f) (sym e) (unmade_path none f))
      (λ other. ⊎_elim
      (λ e. subst (λ p. IsSeen closings (applied m c) cs d p f) (sym e) (missed closings m c cs d d above f (seen above f) none none (is.parent_node, is.parent_there)))
      (λ else. carry closings m c cs d d q f (seen q f) refl (ap (cell f) (made_elsewhere m zxid path above node count is q other else)) (λ l. l))
      (cases_path q above))
      (cases_path q path)

  -- the draft has the parent
  module _ (parent_node : DraftNode) (there : get d above ≡ Some parent_node) where
    abbrev d' : DraftMap
    d' = replayed d c

    at_above : get d' above ≡ Some (drafts.with_child zxid count parent_node)
    at_above = remade_above d zxid path above node count is.filled is.parent is.shorter parent_node there

    above_with : (f : Field) → ParentEffect f zxid count → IsSeen closings (applied m c) cs d' above f
    above_with f (is_pzxid e) =
        subst (λ g. IsSeen closings (applied m c) cs d' above g) (sym e)
        (pzxid_seen closings m c cs h d d' above zxid parent_node there is.parent_node (nodes.with_child zxid count is.parent_node) is.parent_there (made_above m zxid path above node count is) refl (ap (draft_cell Pzxid) at_above) (h.bounded.0 above is.parent_node is.parent_there) h.rising.0 (seen above Pzxid))
    above_with f (else_keeps same) =
        carry closings m c cs d d' above f (seen above f)
        (ap (draft_cell f) at_above ∙ ap Some (same (later parent_node.node.pzxid zxid) parent_node.node) ∙ sym (ap (draft_cell f) there))
        (ap (cell f) (made_above m zxid path above node count is) ∙ ap Some (same zxid is.parent_node) ∙ sym (ap (cell f) is.parent_there))
        (lack_kept f d d' above parent_node (drafts.with_child zxid count parent_node) there at_above refl)
    above_with f (else_sets v same) =
        sure closings m c cs d d' above f
        (ap (draft_cell f) at_above ∙ ap Some (same (later parent_node.node.pzxid zxid) parent_node.node) ∙ sym (ap Some (same zxid is.parent_node)) ∙ sym (ap (cell f) (made_above m zxid path above node count is)))

    made_apart : (q : List ℕ) (f : Field) → q ≢ path → IsSeen closings (applied m c) cs d' q f
    made_apart q f not_path =
        ⊎_elim
        (λ below.
        let longer = below_longer path q below in
        let shorter = is.shorter in
        sure closings m c cs d d' q f
        (ap (draft_cell f) (remade_below d zxid path above node count is.filled is.parent is.shorter parent_node there tree q below)
        ∙ sym (ap (cell f) (made_elsewhere m zxid path above node count is q not_path (λ e. let same = ap length e in absurd (omega (arith, same, longer, shorter))) ∙ server_below m h.closed path q is.filled is.absent below))))
        (λ apart_from. ⊎_elim
        (λ e. subst (λ p. IsSeen closings (applied m c) cs d' p f) (sym e) (above_with f (parent_effect zxid count is.counted f)))
        (λ else.
        let same = remade_elsewhere d zxid path above node count is.filled is.parent is.shorter parent_node there q not_path else apart_from in
        carry closings m c cs d d' q f (seen q f) (ap (draft_cell f) same) (ap (cell f) (made_elsewhere m zxid path above node count is q not_path else)) (lack_same f d d' q same))
        (cases_path q above))
        (cases_below path q)

    made_seen : AllSeen closings (applied m c) cs d'
    made_seen q f =
        ⊎_elim
        (λ e. subst (λ p. IsSeen closings (applied m c) cs d' p f) (sym e)
        (sure closings m c cs d d' path f (ap (draft_cell f) (remade_at d zxid path above node count is.filled is.parent is.shorter parent_node there) ∙ sym (ap (cell f) (made_at m zxid path above node count is)))))
        (λ other. made_apart q f other)
        (cases_path q path)

  makes_with : (o : Option DraftNode) → get d above ≡ o → AllSeen closings (applied m c) cs (replayed d c) × IsDraftTree (replayed d c)
  makes_with None e = let same = unmade d zxid path above node count e in (subst (AllSeen closings (applied m c) cs) (sym same) (unmade_seen e), subst IsDraftTree (sym same) tree)
  makes_with (Some x) e = (made_seen x e, made_tree d zxid path above node count is.filled is.parent is.shorter x e tree)

  pub makes_step : AllSeen closings (applied m (Makes zxid path above node count)) cs (replayed d (Makes zxid path above node count)) × IsDraftTree (replayed d (Makes zxid path above node count))
  makes_step = makes_with (get d above) refl
