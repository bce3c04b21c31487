-- Owners, entry by entry, as loops iterate over lists.
use Rattle.std.proofs.Common.{◌≡◌, ℕ, ℤ, ◌+◌, ◌<◌, Bool, true, false, cond, ◌||◌, List, length, drop, get_or, Option, Some, None, refl, sym, ap, ◌∙◌}
use Rattle.std.proofs.lemmas.Cmp.{nat_list_cmp_total}
use Rattle.std.specs.FinMap as finite
use Rattle.std.specs.List.{list_any}
use Rattle.std.specs.Ordering.{eq_by_cmp}
use Rattle.std.specs.Str.{bytes_eq}
use Rattle.zk_table.specs.declared.sub.Sub.{Sub}
use Rattle.zk_table.specs.States.{path_cmp}
use Rattle.zk_tree.proofs.Kept.{tests_alike}
use Rattle.zk_snapshot.specs.declared.snapshot.Stored.{Stored}
use Rattle.zk_replay.proofs.Turning.{next_is}
use Rattle.zk_mend.specs.Owning.{OwnerMap, with_owner}
use Rattle.zk_replay.specs.Owning.{part_creates, raw_owner, stored_from}

get-with_owner : (owners : OwnerMap) (p : List ℕ) (owner : Option ℤ) (q : List ℕ) → finite.get (with_owner owners p owner) q ≡ cond (eq_by_cmp path_cmp q p) owner (finite.get owners q)
get-with_owner owners p None q = finite.get-remove nat_list_cmp_total owners p q
get-with_owner owners p (Some owner) q = finite.get-insert nat_list_cmp_total owners p owner q

pub stored_step : (stored : List Stored) (i : ℕ) (s : Stored) → i < length stored → s ≡ get_or stored i s → (owners new : OwnerMap) (q : List ℕ) → new ≡ with_owner owners s.path (raw_owner s.kept.owner) → stored_from (finite.get new q) (drop (i + 1) stored) q ≡ stored_from (finite.get owners q) (drop i stored) q
stored_step stored i s within is owners new q set =
    ap (λ m. stored_from (finite.get m q) (drop (i + 1) stored) q) set
    ∙ ap (λ o. stored_from o (drop (i + 1) stored) q) (get-with_owner owners s.path (raw_owner s.kept.owner) q ∙ ap (λ b. cond b (raw_owner s.kept.owner) (finite.get owners q)) (sym (tests_alike s.path q)))
    ∙ ap (λ l. stored_from (finite.get owners q) l q) (sym (next_is stored i s within is))

-- ---- removed owners

pub forgotten : (old new : OwnerMap) (p q : List ℕ) → new ≡ finite.remove old p → finite.get new q ≡ cond (bytes_eq p q) None (finite.get old q)
forgotten old new p q set =
    ap (λ m. finite.get m q) set ∙ finite.get-remove nat_list_cmp_total old p q ∙ ap (λ b. cond b None (finite.get old q)) (sym (tests_alike p q))

twice : (a b : Bool) (x : Option ℤ) → cond b None (cond a None x) ≡ cond (a || b) None x
twice true true x = refl
twice true false x = refl
twice false b x = refl

pub parts_step : (parts : List Sub) (i : ℕ) (part : Sub) → i < length parts → part ≡ get_or parts i part → (old new : OwnerMap) (q : List ℕ) → finite.get new q ≡ cond (part_creates q part) None (finite.get old q)
    → cond (list_any (part_creates q) (drop (i + 1) parts)) None (finite.get new q) ≡ cond (list_any (part_creates q) (drop i parts)) None (finite.get old q)
parts_step parts i part within is old new q one =
    ap (cond (list_any (part_creates q) (drop (i + 1) parts)) None) one
    ∙ twice (part_creates q part) (list_any (part_creates q) (drop (i + 1) parts)) (finite.get old q)
    ∙ ap (λ l. cond (list_any (part_creates q) l) None (finite.get old q)) (sym (next_is parts i part within is))
