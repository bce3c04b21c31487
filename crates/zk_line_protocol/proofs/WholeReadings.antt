-- The reading of a whole text is the value whose form the text has.
use Rattle.std.proofs.Common.{◌≡◌, ℕ, eqb, List, ◌++◌, length, Option, Some, Result, Ok, Err, sym, ap, subst, ◌∙◌, append-nil}
use Rattle.std.proofs.lemmas.Option.{cond_some}
use Rattle.zk_listing.specs.declared.list_fault.ListCause.{ListCause}
use Rattle.zk_listing.specs.declared.list_fault.ListCause.TheVariants as causes
use Rattle.zk_listing.specs.Reading.{Makes}
use Rattle.zk_listing.proofs.Exact.{bind_some}
use Rattle.zk_request_syntax.specs.Promises.{ReadsAll}
use Rattle.zk_request_syntax.specs.Reading.{whole, if_nothing_left}
use Rattle.zk_request_syntax.proofs.Ended.{none_of}
use Rattle.zk_request_syntax.proofs.Readings.{ReadsWhole, nothing_left}

module _ {X : Type 0} (Spells : X → List ℕ → Type 0) (at : List ℕ → Option (X × List ℕ)) (f : ReadsWhole Spells at) (text : List ℕ) where
  pub spells : (x : X) → whole (at text) ≡ Some x → Spells x text
  spells x h =
      let p = bind_some {B = X} (at text) if_nothing_left x h in
      let q = cond_some (eqb (length p.0.1) 0) p.0.0 x p.2 in
      let t = f.takes text p.0.0 p.0.1 p.1 in
      let same : text ≡ t.0 = t.2 ∙ ap (λ (r : List ℕ). t.0 ++ r) (nothing_left p.0.1 q.0) ∙ append-nil t.0 in
      subst (λ (v : X). Spells v text) q.1 (subst (λ (l : List ℕ). Spells p.0.0 l) (sym same) t.1)

  pub reads : (x : X) → Spells x text → whole (at text) ≡ Some x
  reads x s = ap whole (f.again x text s)

  pub makes : (r : Result X ListCause) → ReadsAll Spells text r → Makes r (whole (at text))
  makes (Ok x) h = reads x h.0
  makes (Err causes.NoMemory) h = tt
  makes (Err causes.Fields) h = none_of (whole (at text)) (λ x e. h x (spells x e))
  makes (Err causes.Number) h = none_of (whole (at text)) (λ x e. h x (spells x e))
  makes (Err causes.Quote) h = none_of (whole (at text)) (λ x e. h x (spells x e))
  makes (Err causes.Hex) h = none_of (whole (at text)) (λ x e. h x (spells x e))
  makes (Err causes.Word) h = none_of (whole (at text)) (λ x e. h x (spells x e))
  makes (Err causes.Path) h = none_of (whole (at text)) (λ x e. h x (spells x e))
  makes (Err causes.NoNewline) h = none_of (whole (at text)) (λ x e. h x (spells x e))
