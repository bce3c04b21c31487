use Rattle.std.proofs.Common.{◌≡◌, false, true, not, ◌&&◌, nat_eq, ℤ, negsuc, pos, Some, None, w32, w64, to_z, of_z, rules, sym, ap, ◌∙◌}
use Rattle.std.proofs.lemmas.Bool.{false≢true}
use Rattle.std.proofs.lemmas.Bool.Decides.{Decides-int_eq}
use Rattle.std.specs.FinMap as finite
use Rattle.std.specs.Ordering.{int_eq}
use Rattle.zk_tree.proofs.Owning.{owns_some}
use Rattle.zk_fold.proofs.Counting.{some_copied}
use Rattle.zk_fold.proofs.Making.{free_owner, owner_test}
use Rattle.zk_fold.proofs.Inserting.{may, taken_path, above_all, takes, last_count}
use Rattle.zk_fold.proofs.node_index.NodeIndex.can_insert.Goals as goal

pub returns-then-is_some-clause-exact : goal.returns-then-is_some-clause-exact
returns-then-is_some-clause-exact c =
    let m = c.self.inside.places in
    let path = c.args.path.now in
    let there : finite.contains_key m path ≡ true = some_copied c.get.result (finite.get m path) (c.get.ensures ∙ ap (finite.get m) c.text.ensures.text) true (sym c.is_some.ensures ∙ c.if-is_some.true) in
    taken_path m c.args.self.now path c.self.view_is there

pub returns-in_default-clause-exact : goal.returns-in_default-clause-exact
returns-in_default-clause-exact c =
    let m = c.self.inside.places in
    let path = c.args.path.now in
    let free : finite.contains_key m path ≡ false = some_copied c.get.result (finite.get m path) (c.get.ensures ∙ ap (finite.get m) c.text.ensures.text) false (sym c.is_some.ensures ∙ c.if-is_some.false) in
    above_all m c.args.self.now path c.self.view_is (sym c.in_default.ensures) free

pub returns-in_default-get-clause-exact : goal.returns-in_default-get-clause-exact
returns-in_default-get-clause-exact c =
    let m = c.self.inside.places in
    let path = c.args.path.now in
    let free : finite.contains_key m path ≡ false = some_copied c.get.result (finite.get m path) (c.get.ensures ∙ ap (finite.get m) c.text.ensures.text) false (sym c.is_some.ensures ∙ c.if-is_some.false) in
    takes m c.args.self.now path c.in-Some.above.now None c.self.view_is c.in-Some.ensures free (sym c.in_default-get.ensures)

pub returns-then-place-eq0-clause-room : goal.returns-then-place-eq0-clause-room
returns-then-place-eq0-clause-room c = λ t.
    let m = c.self.inside.places in
    let path = c.args.path.now in
    let node = c.in-Some-get.place.now.node in
    let free : finite.contains_key m path ≡ false = some_copied c.get.result (finite.get m path) (c.get.ensures ∙ ap (finite.get m) c.text.ensures.text) false (sym c.is_some.ensures ∙ c.if-is_some.false) in
    let owner : node.owner ≡ pos 0 = (Decides-int_eq node.owner (pos 0)).0 (free_owner node.owner (search rules) c.if-place-eq0.true) in
    may m c.args.self.now path c.in-Some.above.now c.in-Some-get.place.now c.self.view_is c.in-Some.ensures free c.in-Some-get.ensures owner
    (λ e. false≢true (sym (ap (λ (z : ℤ). not (nat_eq (of_z w32 z) 4294967295)) e) ∙ t))

pub returns-then-place-eq0-clause-exact : goal.returns-then-place-eq0-clause-exact
returns-then-place-eq0-clause-exact c =
    let m = c.self.inside.places in
    let path = c.args.path.now in
    let node = c.in-Some-get.place.now.node in
    let free : finite.contains_key m path ≡ false = some_copied c.get.result (finite.get m path) (c.get.ensures ∙ ap (finite.get m) c.text.ensures.text) false (sym c.is_some.ensures ∙ c.if-is_some.false) in
    let read : to_z w64 (of_z w64 node.owner) ≡ node.owner = search rules in
    let counted : to_z w32 (of_z w32 node.creates) ≡ node.creates = search rules in
    ap not (last_count node.creates counted)
    ∙ ap (λ b. b && not (int_eq node.creates (negsuc 0))) (sym (free_owner node.owner read c.if-place-eq0.true))
    ∙ takes m c.args.self.now path c.in-Some.above.now (Some c.in-Some-get.place.now) c.self.view_is c.in-Some.ensures free (sym c.in-Some-get.ensures)

pub returns-else-place-eq0-clause-exact : goal.returns-else-place-eq0-clause-exact
returns-else-place-eq0-clause-exact c =
    let m = c.self.inside.places in
    let path = c.args.path.now in
    let node = c.in-Some-get.place.now.node in
    let free : finite.contains_key m path ≡ false = some_copied c.get.result (finite.get m path) (c.get.ensures ∙ ap (finite.get m) c.text.ensures.text) false (sym c.is_some.ensures ∙ c.if-is_some.false) in
    let read : to_z w64 (of_z w64 node.owner) ≡ node.owner = search rules in
    let owned : int_eq node.owner (pos 0) ≡ false = owns_some node.owner c.if-place-eq0.false in
    owner_test node.owner read
    ∙ owned
    ∙ ap (λ b. b && not (int_eq node.creates (negsuc 0))) (sym owned)
    ∙ takes m c.args.self.now path c.in-Some.above.now (Some c.in-Some-get.place.now) c.self.view_is c.in-Some.ensures free (sym c.in-Some-get.ensures)
