-- How a view catches up with what its server has delivered. Own.
use Rattle.std.specs.Prelude.{◌≡◌, ◌⊎◌, ℕ, Bool, false, List, length, replicate}
use Rattle.atomic_table.specs.Seated.{TableId}
use Rattle.zk_views.specs.declared.published_view.PublishedView.{PublishedView}
use Rattle.zk_table.specs.declared.txn.Txn.{Txn}
use Rattle.zk_views.specs.Views.{IsPrefix, Publishing, Entering, unpublished, unentered}

-- of what the view was offered and what the server has delivered, one is a prefix of the other
pub record MayCatchUp (view : Publishing) (delivered : List Txn) : Type 0 where
  pub agree : IsPrefix view.offered delivered ⊎ IsPrefix delivered view.offered
  pub shown : IsPrefix view.published view.offered

pub record HasCaughtUp (before : Publishing) (delivered : List Txn) (view : Publishing) (late : Bool) : Type 0 where
  -- nothing is offered but what was offered before, or what the server has delivered
  pub offered : (view.offered ≡ before.offered) ⊎ IsPrefix view.offered delivered
  pub shown : IsPrefix view.published view.offered
  pub grows : IsPrefix before.published view.published
  pub caught : late ≡ false → IsPrefix delivered view.published

-- ---- at first

abbrev pub IsUnpublished : PublishedView → Type 0
IsUnpublished kept = (table : TableId) × (kept.publisher.value ≡ unpublished table) × (kept.late ≡ false)

-- `n` readers over one table, which have entered nothing
abbrev pub AreOfOneView : ℕ → List Entering → Type 0
AreOfOneView count readers = (table : TableId) × (readers ≡ replicate count (unentered table))

-- each of `servers` servers has a view, or none has
abbrev pub AreOfServers : ℕ → List PublishedView → Type 0
AreOfServers servers views = (length views ≡ 0) ⊎ (length views ≡ servers)
