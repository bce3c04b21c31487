use Rattle.std.proofs.Common.{◌≡◌, Some, None, is_some, w32, w64, to_z, of_z, rules, sym, ap, ◌∙◌}
use Rattle.std.proofs.lemmas.Cmp.{nat_list_cmp_total}
use Rattle.std.specs.FinMap as finite
use Rattle.zk_tree.proofs.Kept.{get-insert_itself}
use Rattle.zk_fold.specs.Slots.{new_place, place_changed, with_child}
use Rattle.zk_fold.proofs.Making.{made_there, made_fit, made_unfit, room}
use Rattle.zk_fold.proofs.node_table.NodeTable.create.Goals as goal

pub put_back-requires : goal.put_back-requires
put_back-requires c =
    let m = c.args.self.now in
    let path = c.args.path.now in
    let put : c.put.new.self ≡ finite.insert m path (new_place path c.args.node) = c.in_ok-stood.ensures.there ∙ ap (λ k. finite.insert m k (new_place k c.args.node)) c.in_ok-copy.ensures in
    ap (finite.contains_key c.put.new.self) c.text-key.ensures.text ∙ ap (λ t. finite.contains_key t path) put ∙ ap is_some (get-insert_itself nat_list_cmp_total m path (new_place path c.args.node))

pub returns-in-Some-2-clause-made : goal.returns-in-Some-2-clause-made
returns-in-Some-2-clause-made c =
    let m = c.args.self.now in
    let path = c.args.path.now in
    let put : c.put.new.self ≡ finite.insert m path (new_place path c.args.node) = c.in_ok-stood.ensures.there ∙ ap (λ k. finite.insert m k (new_place k c.args.node)) c.in_ok-copy.ensures in
    let before : Some c.in-Some-2.stood ≡ finite.get m path = sym c.in-Some-2.is ∙ c.in_ok-stood.ensures.before ∙ ap (finite.get m) c.in_ok-copy.ensures in
    made_there m path c.args.node c.args.zxid c.args.count c.in-Some.parent.now c.in-Some.ensures c.in-Some-2.stood before c.put_back.new.self c.put.new.self put (c.put_back.ensures ∙ ap (λ k. finite.insert c.put.new.self k c.in-Some-2.stood) c.text-key.ensures.text)

pub add_child-requires : goal.add_child-requires
add_child-requires c =
    let m = c.args.self.now in
    let path = c.args.path.now in
    let put : c.put.new.self ≡ finite.insert m path (new_place path c.args.node) = c.in_ok-stood.ensures.there ∙ ap (λ k. finite.insert m k (new_place k c.args.node)) c.in_ok-copy.ensures in
    let free : None ≡ finite.get m path = sym c.in_default-2.is ∙ c.in_ok-stood.ensures.before ∙ ap (finite.get m) c.in_ok-copy.ensures in
    room m path c.args.node c.args.zxid c.args.count c.in-Some.parent.now c.in-Some.ensures c.text-key.ensures.is_path free c.put.new.self put c.requires c.counts.ensures

pub returns-then-not-add_child-clause-made : goal.returns-then-not-add_child-clause-made
returns-then-not-add_child-clause-made c =
    let m = c.args.self.now in
    let path = c.args.path.now in
    let put : c.put.new.self ≡ finite.insert m path (new_place path c.args.node) = c.in_ok-stood.ensures.there ∙ ap (λ k. finite.insert m k (new_place k c.args.node)) c.in_ok-copy.ensures in
    let free : None ≡ finite.get m path = sym c.in_default-2.is ∙ c.in_ok-stood.ensures.before ∙ ap (finite.get m) c.in_ok-copy.ensures in
    let unfit = sym c.if-not-add_child.true ∙ c.add_child.ensures.fit in
    made_unfit m path c.args.node c.args.zxid c.args.count c.in-Some.parent.now c.in-Some.ensures c.text-key.ensures.is_path free c.put.new.self put unfit c.add_child.new.self c.remove.new.self (c.add_child.ensures.unchanged c.if-not-add_child.true) (c.remove.ensures.rest ∙ ap (finite.remove c.add_child.new.self) c.text-key.ensures.text)

pub returns-else-not-add_child-clause-made : goal.returns-else-not-add_child-clause-made
returns-else-not-add_child-clause-made c =
    let m = c.args.self.now in
    let path = c.args.path.now in
    let above = c.in-Some.parent.now in
    let zxid : to_z w64 (of_z w64 c.args.zxid) ≡ c.args.zxid = search rules in
    let count : to_z w32 (of_z w32 c.args.count) ≡ c.args.count = search rules in
    let put : c.put.new.self ≡ finite.insert m path (new_place path c.args.node) = c.in_ok-stood.ensures.there ∙ ap (λ k. finite.insert m k (new_place k c.args.node)) c.in_ok-copy.ensures in
    let free : None ≡ finite.get m path = sym c.in_default-2.is ∙ c.in_ok-stood.ensures.before ∙ ap (finite.get m) c.in_ok-copy.ensures in
    let fit = sym c.if-not-add_child.false ∙ c.add_child.ensures.fit in
    let counted : c.add_child.new.self ≡ place_changed c.put.new.self above (with_child c.args.zxid c.args.count) = c.add_child.ensures.counted c.if-not-add_child.false ∙ ap (λ z. place_changed c.put.new.self above (with_child z (to_z w32 (of_z w32 c.args.count)))) zxid ∙ ap (λ k. place_changed c.put.new.self above (with_child c.args.zxid k)) count in
    made_fit m path c.args.node c.args.zxid c.args.count above c.in-Some.ensures c.text-key.ensures.is_path free c.put.new.self put fit c.add_child.new.self counted
