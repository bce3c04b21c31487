-- Replaying a list of access rights that was set keeps a draft seen.
use Rattle.std.proofs.Common.{◌≡◌, ℕ, ℤ, List, ◌∷◌, Option, Some, None, refl, sym, ap, subst, ◌∙◌, ⊎_elim}
use Rattle.std.specs.FinMap.{get}
use Rattle.zk_acl.specs.declared.acl.Acl.{Acl}
use Rattle.zk_table.specs.declared.node.Node.{Node}
use Rattle.zk_table.specs.Nodes as nodes
use Rattle.zk_table.specs.States.{NodeMap}
use Rattle.zk_replay.specs.Drafts as drafts
use Rattle.zk_replay.specs.declared.draft_node.DraftNode.{DraftNode}
use Rattle.zk_replay.specs.Drafts.{DraftMap, later, fresh}
use Rattle.zk_replay_laws.specs.Histories.{Closings}
use Rattle.zk_replay_laws.proofs.Gets.{cases_path, changed_at, changed_elsewhere, draft_changed_at, draft_changed_elsewhere, draft_changed_absent}
use Rattle.zk_replay_laws.proofs.Changes.{Field, Acls, Pzxid, Content, Czxid, Mzxid, Ctime, Mtime, Version, Creates, Aversion, Owner, Value, value, cell, draft_cell, Change, Guards, applied, replayed, There}
use Rattle.zk_replay_laws.proofs.Timelines.{IsHistory}
use Rattle.zk_replay_laws.proofs.Removals.{IsDraftTree}
use Rattle.zk_replay_laws.proofs.Replays.{turned_tree}
use Rattle.zk_replay_laws.proofs.Simulation.{Lacks, IsSeen, AllSeen, sure, carry, missed, lack_same}

module _ (closings : Closings) (m : NodeMap) (zxid : ℤ) (path : List ℕ) (acl : List Acl) (version : ℤ) (cs : List Change) (is : There m path) (h : IsHistory m (Guards zxid path acl version ∷ cs)) (d : DraftMap) (tree : IsDraftTree d) (seen : AllSeen closings m (Guards zxid path acl version ∷ cs) d) where
  abbrev c : Change
  c = Guards zxid path acl version

  abbrev d' : DraftMap
  d' = replayed d c

  server_at : get (applied m c) path ≡ Some (nodes.guarded acl version is.0)
  server_at = changed_at m path (nodes.guarded acl version) is.0 is.1

  module _ (x : DraftNode) (there : get d path ≡ Some x) where
    at : get d' path ≡ Some (drafts.guarded acl version x)
    at = draft_changed_at d path (drafts.guarded acl version) x there

    kept : (f : Field) → (Lacks f d path → Lacks f d' path) → ((n : Node) → value f (nodes.guarded acl version n) ≡ value f n) → IsSeen closings (applied m c) cs d' path f
    kept f lack same =
        carry closings m c cs d d' path f (seen path f)
        (ap (draft_cell f) at ∙ ap Some (same x.node) ∙ sym (ap (draft_cell f) there))
        (ap (cell f) server_at ∙ ap Some (same is.0) ∙ sym (ap (cell f) is.1))
        lack

    set : (f : Field) (v : Value f) → ((n : Node) → value f (nodes.guarded acl version n) ≡ v) → IsSeen closings (applied m c) cs d' path f
    set f v same = sure closings m c cs d d' path f (ap (draft_cell f) at ∙ ap Some (same x.node ∙ sym (same is.0)) ∙ sym (ap (cell f) server_at))

    guarded_there : (f : Field) → IsSeen closings (applied m c) cs d' path f
    guarded_there Content = kept Content (λ l. l) (λ n. refl)
    guarded_there Acls = set Acls acl (λ n. refl)
    guarded_there Czxid = kept Czxid (λ l. l) (λ n. refl)
    guarded_there Mzxid = kept Mzxid (λ l. l) (λ n. refl)
    guarded_there Pzxid = kept Pzxid (λ l. l) (λ n. refl)
    guarded_there Ctime = kept Ctime (λ l. l) (λ n. refl)
    guarded_there Mtime = kept Mtime (λ l. l) (λ n. refl)
    guarded_there Version = kept Version (λ l. l) (λ n. refl)
    guarded_there Creates = kept Creates (λ l. l) (λ n. refl)
    guarded_there Aversion = set Aversion version (λ n. refl)
    guarded_there Owner = kept Owner (λ l. l) (λ n. refl)

  guarded_at : (f : Field) (o : Option DraftNode) → get d path ≡ o → IsSeen closings (applied m c) cs d' path f
  guarded_at f None none = missed closings m c cs d d' path f (seen path f) none (ap (λ k. get k path) (draft_changed_absent d path (drafts.guarded acl version) none) ∙ none) is
  guarded_at f (Some x) there = guarded_there x there f

  guards_seen : AllSeen closings (applied m c) cs d'
  guards_seen q f =
      ⊎_elim
      (λ e. subst (λ p. IsSeen closings (applied m c) cs d' p f) (sym e) (guarded_at f (get d path) refl))
      (λ other.
      let same = draft_changed_elsewhere d path (drafts.guarded acl version) q other in
      carry closings m c cs d d' q f (seen q f) (ap (draft_cell f) same) (ap (cell f) (changed_elsewhere m path (nodes.guarded acl version) q other)) (lack_same f d d' q same))
      (cases_path q path)

  pub guards_step : AllSeen closings (applied m (Guards zxid path acl version)) cs (replayed d (Guards zxid path acl version)) × IsDraftTree (replayed d (Guards zxid path acl version))
  guards_step = (guards_seen, turned_tree d path (drafts.guarded acl version) (λ x. refl) (λ x h. h) tree)
