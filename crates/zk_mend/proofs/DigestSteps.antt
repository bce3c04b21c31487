-- A digest that was updated for the touched paths is the digest of the resulting tree.
use Rattle.std.proofs.Common.{◌≡◌, ℕ, ℤ, ◌+◌, ◌%◌, ◌^◌, ◌<◌, Bool, true, false, cond, List, [], ◌∷◌, length, get_or, drop, Option, Some, None, refl, sym, ap, ◌∙◌, arith}
use Rattle.std.proofs.lemmas.Bool.{false≢true, and_parts}
use Rattle.std.proofs.lemmas.Bool.Decides.{Decides-int_eq}
use Rattle.std.proofs.lemmas.Cmp.{nat_list_cmp_total}
use Rattle.std.proofs.lemmas.List.{at_drop_more}
use Rattle.std.specs.Ordering.{eq_by_cmp}
use Rattle.std.specs.FinMap as finite
use Rattle.std.specs.FinMap.{find, is_sorted}
use Rattle.zk_table.specs.declared.node.Node.{Node}
use Rattle.zk_table.specs.States.{NodeMap, path_cmp}
use Rattle.zk_table.proofs.Sorted.{sorted_from_entries}
use Rattle.zk_machine.specs.Preimages.{Preimage}
use Rattle.zk_machine.specs.Undoing.{put_back, all_put_back}
use Rattle.zk_machine.proofs.PreimageLaws.{was, get-all_put_back}
use Rattle.zk_machine.proofs.Texts.{same_is}
use Rattle.zk_machine.proofs.Families.{same_itself}
use Rattle.zk_mend.specs.Digests.{Owners, digest_at, tree_digest}
use Rattle.zk_tree.proofs.Kept.{tests_alike}
use Rattle.zk_mend.specs.Following.{Given, own_of, given_from, given_at, owner_after, owners_after}
use Rattle.zk_mend.specs.Owning.{OwnerMap, with_owner}
use Rattle.zk_mend.specs.Stepping.{counted, replaced, owner_stepped, owners_step, sum_stepped, owners_stepped, sum_over}
use Rattle.zk_mend.proofs.Totals.{part, total_changed, find_least}

-- ---- maps changed at one path

get-with_owner : (owners : OwnerMap) (p : List ℕ) (owner : Option ℤ) (q : List ℕ) → finite.get (with_owner owners p owner) q ≡ cond (eq_by_cmp path_cmp q p) owner (finite.get owners q)
get-with_owner owners p None q = finite.get-remove nat_list_cmp_total owners p q
get-with_owner owners p (Some owner) q = finite.get-insert nat_list_cmp_total owners p owner q

get-put_back : (p : List ℕ) (x : Option Node) (nodes : NodeMap) (q : List ℕ) → finite.get (put_back p x nodes) q ≡ cond (eq_by_cmp path_cmp q p) x (finite.get nodes q)
get-put_back p None nodes q = finite.get-remove nat_list_cmp_total nodes p q
get-put_back p (Some node) nodes q = finite.get-insert nat_list_cmp_total nodes p node q

elsewhere : {X : Type 0} (b : Bool) (x y : X) → b ≡ false → cond b x y ≡ y
elsewhere true x y e = absurd (false≢true (sym e))
elsewhere false x y e = refl

here : {X : Type 0} (p : List ℕ) (x y : X) → cond (eq_by_cmp path_cmp p p) x y ≡ x
here p x y = ap (λ b. cond b x y) (same_itself p)

-- ---- one path

sums_replaced : (rest out comes : ℕ) → replaced ((rest + out) % 2 ^ 64) out comes ≡ (rest + comes) % 2 ^ 64
sums_replaced rest out comes = omega arith

counted-part : (owners : OwnerMap) (p : List ℕ) (x : Option Node) → counted p x (finite.get owners p) ≡ part (digest_at (finite.get owners)) p x
counted-part owners p None = refl
counted-part owners p (Some node) = refl

found : {X : Type 0} (m : finite.FinMap path_cmp X) (q : List ℕ) → find path_cmp q (finite.entries m) ≡ finite.get m q
found m q = sym (finite.get-entries m q)

in_order : {X : Type 0} (m : finite.FinMap path_cmp X) → is_sorted path_cmp (finite.entries m) ≡ true
in_order m = sorted_from_entries path_cmp _ m refl

-- the node before is subtracted, the one after is added
step_counts : (p : List ℕ) (before : Option Node) (owner : Option ℤ) (nodes : NodeMap) (owners : OwnerMap) (s : ℕ) →
    s ≡ tree_digest (finite.get owners) (put_back p before nodes) →
    replaced s (counted p before (finite.get owners p)) (counted p (finite.get nodes p) owner) ≡ tree_digest (finite.get (with_owner owners p owner)) nodes
step_counts p before owner nodes owners s is =
    let first = put_back p before nodes in
    let next = with_owner owners p owner in
    let count = digest_at (finite.get owners) in
    let other = digest_at (finite.get next) in
    let both = total_changed count other p (finite.entries first) (finite.entries nodes) (in_order first) (in_order nodes)
    (λ q at. found first q ∙ get-put_back p before nodes q ∙ elsewhere _ before (finite.get nodes q) at ∙ sym (found nodes q))
    (λ q node at. ap (λ o. digest_at (λ _. o) q node) (sym (get-with_owner owners p owner q ∙ elsewhere _ owner (finite.get owners q) at))) in
    let out : part count p (find path_cmp p (finite.entries first)) ≡ counted p before (finite.get owners p) =
    ap (part count p) (found first p ∙ get-put_back p before nodes p ∙ here p before (finite.get nodes p)) ∙ sym (counted-part owners p before) in
    let comes : part other p (find path_cmp p (finite.entries nodes)) ≡ counted p (finite.get nodes p) owner =
    ap (part other p) (found nodes p) ∙ sym (counted-part next p (finite.get nodes p)) ∙ ap (counted p (finite.get nodes p)) (get-with_owner owners p owner p ∙ here p owner (finite.get owners p)) in
    ap (λ n. replaced n (counted p before (finite.get owners p)) (counted p (finite.get nodes p) owner)) (is ∙ ap (λ n. n % 2 ^ 64) (both.1 ∙ ap (λ n. both.0 + n) out))
    ∙ sums_replaced both.0 (counted p before (finite.get owners p)) (counted p (finite.get nodes p) owner)
    ∙ ap (λ n. n % 2 ^ 64) (sym (both.2 ∙ ap (λ n. both.0 + n) comes))

-- ---- the paths in order

-- later preimages leave a path as it is now
untouched : (note : Preimage) (notes : List Preimage) (nodes : NodeMap) → is_sorted path_cmp (note ∷ notes) ≡ true → finite.get (all_put_back notes nodes) note.0 ≡ finite.get nodes note.0
untouched note notes nodes sorted = get-all_put_back notes nodes note.0 ∙ ap (λ x. was x (finite.get nodes note.0)) (find_least note.0 notes (and_parts _ _ sorted).0)

pub sum_followed : (notes : List Preimage) (nodes : NodeMap) (given owners : OwnerMap) (s : ℕ) → is_sorted path_cmp notes ≡ true → s ≡ tree_digest (finite.get owners) (all_put_back notes nodes) → sum_over notes nodes given owners s ≡ tree_digest (finite.get (owners_stepped notes nodes given owners)) nodes
sum_followed [] nodes given owners s sorted is = is
sum_followed (note ∷ notes) nodes given owners s sorted is =
    let owner = owner_stepped note.0 note.1 nodes given owners in
    let between = all_put_back notes nodes in
    let now = untouched note notes nodes sorted in
    sum_followed notes nodes given (owners_step note.0 note.1 nodes given owners) (sum_stepped note.0 note.1 nodes given owners s) (and_parts _ _ sorted).1
    (ap (λ x. replaced s (counted note.0 note.1 (finite.get owners note.0)) (counted note.0 x owner)) (sym now)
    ∙ step_counts note.0 note.1 owner between owners s is)

-- ---- owners

-- at a path, by its preimage
abbrev pub owner_by : Option (Option Node) → Option Node → Option ℤ → Option ℤ → Option ℤ
owner_by None now given owner = owner
owner_by (Some before) now given owner = owner_after before now given owner

owner_by_cond : (b : Bool) (before : Option Node) (noted : Option (Option Node)) (now : Option Node) (given owner : Option ℤ) → (b ≡ true → noted ≡ None) → owner_by noted now given (cond b (owner_after before now given owner) owner) ≡ owner_by (cond b (Some before) noted) now given owner
owner_by_cond true before noted now given owner none = ap (λ x. owner_by x now given (owner_after before now given owner)) (none refl)
owner_by_cond false before noted now given owner none = refl

pub owners_followed : (notes : List Preimage) (nodes : NodeMap) (given owners : OwnerMap) → is_sorted path_cmp notes ≡ true → (q : List ℕ) → finite.get (owners_stepped notes nodes given owners) q ≡ owner_by (find path_cmp q notes) (finite.get nodes q) (finite.get given q) (finite.get owners q)
owners_followed [] nodes given owners sorted q = refl
owners_followed (note ∷ notes) nodes given owners sorted q =
    let next = owners_step note.0 note.1 nodes given owners in
    owners_followed notes nodes given next (and_parts _ _ sorted).1 q
    ∙ ap (owner_by (find path_cmp q notes) (finite.get nodes q) (finite.get given q)) (get-with_owner owners note.0 (owner_stepped note.0 note.1 nodes given owners) q ∙ moved_here _ refl)
    ∙ owner_by_cond (eq_by_cmp path_cmp q note.0) note.1 (find path_cmp q notes) (finite.get nodes q) (finite.get given q) (finite.get owners q) (λ at. ap (λ k. find path_cmp k notes) (same_is q note.0 at) ∙ find_least note.0 notes (and_parts _ _ sorted).0)
  where
    moved_here : (b : Bool) → eq_by_cmp path_cmp q note.0 ≡ b → cond b (owner_stepped note.0 note.1 nodes given owners) (finite.get owners q) ≡ cond b (owner_after note.1 (finite.get nodes q) (finite.get given q) (finite.get owners q)) (finite.get owners q)
    moved_here true at = ap (λ k. owner_stepped k note.1 nodes given owners) (sym (same_is q note.0 at))
    moved_here false at = refl

-- without a preimage the node is unchanged
owner_stays : (x : Option Node) (given owner : Option ℤ) → owner_after x x given owner ≡ owner
owner_stays None given owner = refl
owner_stays (Some node) given owner = ap (λ b. cond b owner given) ((Decides-int_eq node.czxid node.czxid).1 refl)

pub owner_of_was : (noted : Option (Option Node)) (now : Option Node) (given owner : Option ℤ) → owner_by noted now given owner ≡ owner_after (was noted now) now given owner
owner_of_was None now given owner = sym (owner_stays now given owner)
owner_of_was (Some before) now given owner = refl

-- ---- the given owners

pub given_step : (given : List Given) (i : ℕ) (item : Given) → i < length given → item ≡ get_or given i item → (owners : OwnerMap) (q : List ℕ) → given_from (finite.get (with_owner owners item.0 (own_of item.1)) q) (drop (i + 1) given) q ≡ given_from (finite.get owners q) (drop i given) q
given_step given i item within is owners q =
    ap (λ o. given_from o (drop (i + 1) given) q) (get-with_owner owners item.0 (own_of item.1) q ∙ ap (λ b. cond b (own_of item.1) (finite.get owners q)) (sym (tests_alike item.0 q)))
    ∙ ap (λ g. given_from (finite.get owners q) (g ∷ drop (i + 1) given) q) is
    ∙ sym (at_drop_more (λ gs. given_from (finite.get owners q) gs q) given i item within)

-- ---- both

module _ (notes : List Preimage) (nodes : NodeMap) (given old : OwnerMap) (gifts : List Given) (owners : Owners) (sorted : is_sorted path_cmp notes ≡ true) (gives : (q : List ℕ) → finite.get given q ≡ given_at gifts q) (kept : (q : List ℕ) → finite.get old q ≡ owners q) where
  pub owners_come : (q : List ℕ) → finite.get (owners_stepped notes nodes given old) q ≡ owners_after (all_put_back notes nodes) nodes gifts owners q
  owners_come q =
      owners_followed notes nodes given old sorted q
      ∙ owner_of_was (find path_cmp q notes) (finite.get nodes q) (finite.get given q) (finite.get old q)
      ∙ ap (λ x. owner_after x (finite.get nodes q) (finite.get given q) (finite.get old q)) (sym (get-all_put_back notes nodes q))
      ∙ (λ i. owner_after (finite.get (all_put_back notes nodes) q) (finite.get nodes q) (gives q i) (kept q i))

  pub sum_comes : (s : ℕ) → s ≡ tree_digest owners (all_put_back notes nodes) → sum_over notes nodes given old s ≡ tree_digest (owners_after (all_put_back notes nodes) nodes gifts owners) nodes
  sum_comes s is =
      sum_followed notes nodes given old s sorted (is ∙ ap (λ f. tree_digest f (all_put_back notes nodes)) (λ i q. sym (kept q) i))
      ∙ ap (λ f. tree_digest f nodes) (λ i q. owners_come q i)
