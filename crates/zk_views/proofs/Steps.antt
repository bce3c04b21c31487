-- Each step keeps the rule.
use Rattle.std.proofs.Common.{◌≡◌, ◌≢◌, ℕ, List, [], ◌∷◌, set, refl, sym, subst, ⊎_elim}
use mathlib.Core.Option.{some, some-ne-none}
use lib.ListN.{get_elem?}
use Rattle.atomic_table.proofs.Lists.{at_set, at_snoc}
use Rattle.left_right.specs.Register.{Admits, TurnsAt}
use Rattle.zk_table.specs.declared.txn.Txn.{Txn}
use Rattle.zk_views.specs.Views.{IsPrefix, BeginsWithAll, Publishes, Enters}
use Rattle.zk_views.proofs.Prefixes.{prefix_same, prefix_append, prefix_trans}

-- a new token knows nothing
pub admits : Admits BeginsWithAll []
admits published tokens kept seat known at =
    ⊎_elim (kept seat known) (λ (new : [] ≡ known). subst (λ (l : List Txn). IsPrefix l published) new (prefix_append [] published)) (at_snoc tokens [] known seat at)

-- at first one token knows nothing
pub starts : (published : List Txn) → BeginsWithAll published ([] ∷ [])
starts published = admits published [] (λ seat known at. absurd (some-ne-none known (sym at)))

-- what is published continues what it was, and one token knows it
grown : (seat : ℕ) (before after : List Txn) (tokens : List (List Txn)) → IsPrefix before after → BeginsWithAll before tokens → BeginsWithAll after (set tokens seat after)
grown seat before after tokens more kept other known at =
    ⊎_elim
    (λ (here : (other ≡ seat) × (after ≡ known)). subst (λ (l : List Txn). IsPrefix l after) here.1 (prefix_same after))
    (λ (there : (other ≢ seat) × (get_elem? tokens other ≡ some known)). prefix_trans known before after (kept other known there.1) more)
    (at_set tokens seat other after known at)

pub publishes : (seat : ℕ) (known before after : List Txn) → IsPrefix before after → TurnsAt BeginsWithAll seat known before after Publishes
publishes seat known before after more tokens kept at = (after, grown seat before after tokens more kept, (more, refl))

pub enters : (seat : ℕ) (known published : List Txn) → TurnsAt BeginsWithAll seat known published published Enters
enters seat known published tokens kept at = (published, grown seat published published tokens (prefix_same published) kept, (kept seat known at, refl))
