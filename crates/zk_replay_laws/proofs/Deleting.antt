-- Replaying a delete keeps a draft seen.
use Rattle.std.proofs.Common.{◌≡◌, ◌≢◌, ◌⊎◌, inl, inr, ℕ, ℤ, List, ◌∷◌, Option, Some, None, refl, sym, ap, subst, ◌∙◌, ⊎_elim}
use Rattle.std.specs.FinMap.{get}
use Rattle.zk_table.specs.declared.node.Node.{Node}
use Rattle.zk_table.specs.Nodes as nodes
use Rattle.zk_table.specs.States.{NodeMap}
use Rattle.zk_replay.specs.Drafts as drafts
use Rattle.zk_replay.specs.declared.draft_node.DraftNode.{DraftNode}
use Rattle.zk_replay.specs.Drafts.{DraftMap, later, fresh}
use Rattle.zk_replay_laws.specs.Histories.{Closings}
use Rattle.zk_replay_laws.proofs.Gets.{cases_path, cases_below}
use Rattle.zk_replay_laws.proofs.Changes.{Field, Pzxid, value, cell, draft_cell, Change, Deletes, applied, replayed, Deleted, lost_effect}
use Rattle.zk_replay_laws.proofs.Servers.{gone_at, gone_above, gone_elsewhere, gone_closed, parent_of_gone}
use Rattle.zk_replay_laws.proofs.Timelines.{IsHistory}
use Rattle.zk_replay_laws.proofs.Removals.{IsDraftTree}
use Rattle.zk_replay_laws.proofs.Replays.{lost_at, lost_above, lost_no_parent, lost_below, lost_elsewhere, lost_tree}
use Rattle.zk_replay_laws.proofs.Simulation.{IsSeen, AllSeen, sure, carry, missed, lack_kept, lack_same, pzxid_seen}
use Rattle.zk_replay_laws.proofs.Making.{server_below}

module _ (closings : Closings) (m : NodeMap) (zxid : ℤ) (path above : List ℕ) (cs : List Change) (is : Deleted m path above) (h : IsHistory m (Deletes zxid path above ∷ cs)) (d : DraftMap) (tree : IsDraftTree d) (seen : AllSeen closings m (Deletes zxid path above ∷ cs) d) where
  abbrev c : Change
  c = Deletes zxid path above

  abbrev d' : DraftMap
  d' = replayed d c

  abbrev parent_node : Node
  parent_node = (parent_of_gone m zxid path above is h.closed).0

  parent_there : get m above ≡ Some parent_node
  parent_there = (parent_of_gone m zxid path above is h.closed).1

  above_of : (f : Field) (o : Option DraftNode) → get d above ≡ o → IsSeen closings (applied m c) cs d' above f
  above_of f None none = missed closings m c cs d d' above f (seen above f) none (lost_no_parent d zxid path above is.filled is.parent is.shorter none) (parent_node, parent_there)
  above_of f (Some x) there = with_effect (lost_effect f)
    where
      at_above : get d' above ≡ Some (drafts.without_child zxid x)
      at_above = lost_above d zxid path above is.filled is.parent is.shorter x there

      server_above : get (applied m c) above ≡ Some (nodes.without_child zxid parent_node)
      server_above = gone_above m zxid path above is h.closed

      with_effect : (f ≡ Pzxid) ⊎ ((z : ℤ) (n : Node) → value f (nodes.without_child z n) ≡ value f n) → IsSeen closings (applied m c) cs d' above f
      with_effect (inl e) =
          subst (λ g. IsSeen closings (applied m c) cs d' above g) (sym e)
          (pzxid_seen closings m c cs h d d' above zxid x there parent_node (nodes.without_child zxid parent_node) parent_there server_above refl (ap (draft_cell Pzxid) at_above) (h.bounded.0 above parent_node parent_there) h.rising.0 (seen above Pzxid))
      with_effect (inr same) =
          carry closings m c cs d d' above f (seen above f)
          (ap (draft_cell f) at_above ∙ ap Some (same (later x.node.pzxid zxid) x.node) ∙ sym (ap (draft_cell f) there))
          (ap (cell f) server_above ∙ ap Some (same zxid parent_node) ∙ sym (ap (cell f) parent_there))
          (lack_kept f d d' above x (drafts.without_child zxid x) there at_above refl)

  gone_apart : (q : List ℕ) (f : Field) → q ≢ path → IsSeen closings (applied m c) cs d' q f
  gone_apart q f not_path =
      ⊎_elim
      (λ below. sure closings m c cs d d' q f
      (ap (draft_cell f) (lost_below d zxid path above is.filled is.parent is.shorter tree q below)
      ∙ sym (ap (cell f) (server_below (applied m c) (gone_closed m zxid path above is h.closed) path q is.filled (gone_at m zxid path above is h.closed) below))))
      (λ apart_from. ⊎_elim
      (λ e. subst (λ p. IsSeen closings (applied m c) cs d' p f) (sym e) (above_of f (get d above) refl))
      (λ else.
      let same = lost_elsewhere d zxid path above is.filled is.parent is.shorter q not_path else apart_from in
      carry closings m c cs d d' q f (seen q f) (ap (draft_cell f) same) (ap (cell f) (gone_elsewhere m zxid path above is h.closed q not_path else)) (lack_same f d d' q same))
      (cases_path q above))
      (cases_below path q)

  deletes_seen : AllSeen closings (applied m c) cs d'
  deletes_seen q f =
      ⊎_elim
      (λ e. subst (λ p. IsSeen closings (applied m c) cs d' p f) (sym e)
      (sure closings m c cs d d' path f (ap (draft_cell f) (lost_at d zxid path above is.filled is.parent is.shorter) ∙ sym (ap (cell f) (gone_at m zxid path above is h.closed)))))
      (λ other. gone_apart q f other)
      (cases_path q path)

  pub deletes_step : AllSeen closings (applied m (Deletes zxid path above)) cs (replayed d (Deletes zxid path above)) × IsDraftTree (replayed d (Deletes zxid path above))
  deletes_step = (deletes_seen, lost_tree d zxid path above is.filled is.parent is.shorter tree)
