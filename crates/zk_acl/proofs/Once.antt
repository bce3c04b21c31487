-- Growing a list of entries without duplicates.
use Rattle.std.proofs.Common.{◌≡◌, ℕ, ℤ, Bool, true, false, not, cond, ◌&&◌, ◌||◌, List, [], ◌∷◌, ◌++◌, filter, refl, ap, ap₂, sym, ◌∙◌, append-nil}
use Rattle.std.specs.List.{list_any}
use Rattle.std.proofs.lemmas.Bool.{and_parts}
use Rattle.std.proofs.lemmas.Bool.Decides.{Decides-int_eq}
use Rattle.std.proofs.lemmas.List.Elements.{filter-append}
use Rattle.std.proofs.lemmas.Map.Views.{any-filter_same}
use Rattle.std.proofs.lemmas.Slice.Eq.{bytes_eq-Decides}
use Rattle.zk_acl.specs.Access.{same_id, same_acl, each_once}
use Rattle.zk_acl.specs.Keeping.{Keeps}
use Rattle.zk_acl.specs.declared.acl.Acl.{Acl}
use Rattle.zk_acl.specs.declared.acl.Id.{Id}

abbrev id_by : List ℕ → List ℕ → Id
id_by scheme id = record { scheme = scheme; id = id }

abbrev pub entry_by : ℤ → Id → Acl
entry_by perms id = record { perms = perms; id = id }

equal_ids : (a b : Id) → same_id a b ≡ true → a ≡ b
equal_ids a b same =
    let parts = and_parts _ _ same in
    ap₂ id_by ((bytes_eq-Decides a.scheme b.scheme).0 parts.0) ((bytes_eq-Decides a.id b.id).0 parts.1)

equal_entries : (a b : Acl) → same_acl a b ≡ true → a ≡ b
equal_entries a b same =
    let parts = and_parts _ _ same in
    ap₂ entry_by ((Decides-int_eq a.perms b.perms).0 parts.0) (equal_ids a.id b.id parts.1)

abbrev others : Acl → List Acl → List Acl
others first = filter (λ later. not (same_acl first later))

abbrev pub is_kept : Acl → List Acl → Bool
is_kept entry = list_any (λ earlier. same_acl earlier entry)

is_kept-others : (first entry : Acl) (kept : List Acl) → is_kept entry (others first kept) ≡ (not (same_acl first entry) && is_kept entry kept)
is_kept-others first entry =
    any-filter_same (λ earlier. same_acl earlier entry) (λ later. not (same_acl first later)) (not (same_acl first entry)) (λ earlier same. ap (λ other. not (same_acl first other)) (equal_entries earlier entry same))

abbrev with_entry : Bool → List Acl → Acl → List Acl
with_entry there kept entry = cond there kept (kept ++ entry ∷ [])

others-more : (first entry : Acl) (kept : List Acl) (same there : Bool) → same_acl first entry ≡ same → others first (with_entry there kept entry) ≡ with_entry (same || (not same && there)) (others first kept) entry
others-more first entry kept true true is = refl
others-more first entry kept false true is = refl
others-more first entry kept true false is =
    filter-append (λ later. not (same_acl first later)) kept (entry ∷ []) ∙ ap (λ same. others first kept ++ cond (not same) (entry ∷ []) []) is ∙ append-nil (others first kept)
others-more first entry kept false false is =
    filter-append (λ later. not (same_acl first later)) kept (entry ∷ []) ∙ ap (λ same. others first kept ++ cond (not same) (entry ∷ []) []) is

behind_first : (first : Acl) (there : Bool) (kept : List Acl) (entry : Acl) → first ∷ with_entry there kept entry ≡ with_entry there (first ∷ kept) entry
behind_first first true kept entry = refl
behind_first first false kept entry = refl

-- one more entry is stored, unless an equal one is
pub each_once-more : (entries : List Acl) (entry : Acl) → each_once (entries ++ entry ∷ []) ≡ cond (is_kept entry (each_once entries)) (each_once entries) (each_once entries ++ entry ∷ [])
each_once-more [] entry = refl
each_once-more (first ∷ entries) entry =
    let kept = each_once entries in
    ap (λ later. first ∷ others first later) (each_once-more entries entry)
    ∙ ap (λ later. first ∷ later) (others-more first entry kept (same_acl first entry) (is_kept entry kept) refl)
    ∙ behind_first first (same_acl first entry || (not (same_acl first entry) && is_kept entry kept)) (others first kept) entry
    ∙ ap (λ there. with_entry (same_acl first entry || there) (first ∷ others first kept) entry) (sym (is_kept-others first entry kept))

-- an entry that is stored already
pub Keeps-same : (kept : List Acl) (entry : Acl) → is_kept entry kept ≡ true → Keeps kept kept (entry ∷ [])
Keeps-same kept entry there before is =
    is ∙ ap (λ there. with_entry there (each_once before) entry) (sym (ap (is_kept entry) (sym is) ∙ there)) ∙ sym (each_once-more before entry)

-- an entry that is not
pub Keeps-new : (old new : List Acl) (entry : Acl) → is_kept entry old ≡ false → new ≡ old ++ entry ∷ [] → Keeps old new (entry ∷ [])
Keeps-new old new entry missing more before is =
    more ∙ ap (λ kept. kept ++ entry ∷ []) is ∙ ap (λ there. with_entry there (each_once before) entry) (sym (ap (is_kept entry) (sym is) ∙ missing)) ∙ sym (each_once-more before entry)
