-- A change of one draft.
use Rattle.std.proofs.Common.{◌≡◌, ℕ, List, Some, None, sym, ap, ◌∙◌}
use Rattle.std.specs.FinMap as finite
use Rattle.zk_replay.specs.declared.draft_node.DraftNode.{DraftNode}
use Rattle.zk_replay.specs.Drafts.{DraftMap, changed, changed_found}

pub changed_draft : (m : DraftMap) (path : List ℕ) (change : DraftNode → DraftNode) (draft new : DraftNode) → finite.get m path ≡ Some draft → new ≡ change draft → finite.insert m path new ≡ changed m path change
changed_draft m path change draft new there is = ap (finite.insert m path) is ∙ ap (changed_found m path change) (sym there)

pub missing_draft : (m : DraftMap) (path : List ℕ) (change : DraftNode → DraftNode) → finite.get m path ≡ None → m ≡ changed m path change
missing_draft m path change none = ap (changed_found m path change) (sym none)
