-- Replaying content that was set keeps a draft seen.
use Rattle.std.proofs.Common.{◌≡◌, ℕ, ℤ, List, ◌∷◌, Option, Some, None, refl, sym, ap, subst, ◌∙◌, ⊎_elim}
use Rattle.std.specs.FinMap.{get}
use Rattle.zk_table.specs.declared.txn.Txn.{Txn}
use Rattle.zk_table.specs.Nodes as nodes
use Rattle.zk_table.specs.States.{NodeMap}
use Rattle.zk_replay.specs.Drafts as drafts
use Rattle.zk_replay.specs.declared.draft_node.DraftNode.{DraftNode}
use Rattle.zk_replay.specs.Drafts.{DraftMap, later, fresh}
use Rattle.zk_replay_laws.specs.Histories.{Closings}
use Rattle.zk_replay_laws.proofs.Gets.{cases_path, changed_at, changed_elsewhere, draft_changed_at, draft_changed_elsewhere, draft_changed_absent}
use Rattle.zk_replay_laws.proofs.Changes.{Field, cell, draft_cell, Change, Writes, applied, replayed, There, Effect, keeps, sets, effect_written}
use Rattle.zk_replay_laws.proofs.Timelines.{IsHistory}
use Rattle.zk_replay_laws.proofs.Removals.{IsDraftTree}
use Rattle.zk_replay_laws.proofs.Replays.{turned_tree}
use Rattle.zk_replay_laws.proofs.Simulation.{IsSeen, AllSeen, sure, carry, missed, lack_kept, lack_same}

module _ (closings : Closings) (m : NodeMap) (txn : Txn) (path : List ℕ) (content : Option (List ℕ)) (version : ℤ) (cs : List Change) (is : There m path) (h : IsHistory m (Writes txn path content version ∷ cs)) (d : DraftMap) (tree : IsDraftTree d) (seen : AllSeen closings m (Writes txn path content version ∷ cs) d) where
  abbrev c : Change
  c = Writes txn path content version

  abbrev d' : DraftMap
  d' = replayed d c

  server_at : get (applied m c) path ≡ Some (nodes.written txn content version is.0)
  server_at = changed_at m path (nodes.written txn content version) is.0 is.1

  written_at : (f : Field) (o : Option DraftNode) → get d path ≡ o → IsSeen closings (applied m c) cs d' path f
  written_at f None none = missed closings m c cs d d' path f (seen path f) none (ap (λ k. get k path) (draft_changed_absent d path (drafts.written txn content version) none) ∙ none) is
  written_at f (Some x) there = with_effect (effect_written txn content version f)
    where
      at : get d' path ≡ Some (drafts.written txn content version x)
      at = draft_changed_at d path (drafts.written txn content version) x there

      with_effect : Effect f (nodes.written txn content version) → IsSeen closings (applied m c) cs d' path f
      with_effect (keeps same) =
          carry closings m c cs d d' path f (seen path f)
          (ap (draft_cell f) at ∙ ap Some (same x.node) ∙ sym (ap (draft_cell f) there))
          (ap (cell f) server_at ∙ ap Some (same is.0) ∙ sym (ap (cell f) is.1))
          (lack_kept f d d' path x (drafts.written txn content version x) there at refl)
      with_effect (sets v same) =
          sure closings m c cs d d' path f (ap (draft_cell f) at ∙ ap Some (same x.node ∙ sym (same is.0)) ∙ sym (ap (cell f) server_at))

  writes_seen : AllSeen closings (applied m c) cs d'
  writes_seen q f =
      ⊎_elim
      (λ e. subst (λ p. IsSeen closings (applied m c) cs d' p f) (sym e) (written_at f (get d path) refl))
      (λ other.
      let same = draft_changed_elsewhere d path (drafts.written txn content version) q other in
      carry closings m c cs d d' q f (seen q f) (ap (draft_cell f) same) (ap (cell f) (changed_elsewhere m path (nodes.written txn content version) q other)) (lack_same f d d' q same))
      (cases_path q path)

  pub writes_step : AllSeen closings (applied m (Writes txn path content version)) cs (replayed d (Writes txn path content version)) × IsDraftTree (replayed d (Writes txn path content version))
  writes_step = (writes_seen, turned_tree d path (drafts.written txn content version) (λ x. refl) (λ x h. h) tree)
