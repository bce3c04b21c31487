use Rattle.std.proofs.Common.{◌≡◌, true, false, map, codes, sym, ap, ◌∙◌, arith, Some, []}
use Rattle.std.proofs.lemmas.Bool.{false≢true}
use Rattle.std.proofs.lemmas.Slice.Eq.{bytes_eq-Decides}
use Rattle.std.specs.FinMap as finite
use Rattle.std.specs.Option.{option_copied}
use Rattle.std.specs.Str.{bytes_eq}
use Rattle.zk_tree.specs.Entries.{lent, entries_of}
use Rattle.zk_fold.proofs.Replanting.{grown_from, next_skips, next_free, next_below, next_puts, grown_all, root_there, root_node, root_owner}
use Rattle.zk_fold.proofs.node_index.NodeIndex.tree.Goals as goal

pub unreachable-requires : goal.unreachable-requires
unreachable-requires c = root_there c.self.inside.places c.args.self.now c.stands.ensures c.self.view_is (sym c.get.ensures ∙ ap option_copied c.in_default.is)

pub from_root-requires : goal.from_root-requires
from_root-requires c = ap (λ n. n.owner) c.in_ok-copy.ensures ∙ root_owner c.self.inside.places c.args.self.now c.stands.ensures c.self.view_is c.in-Some.root.now c.in-Some.ensures

pub loop-entry-init : goal.loop-entry-init
loop-entry-init c =
    c.in_ok-tree.ensures
    ∙ ap (finite.insert finite.empty (codes "/")) c.in_ok-copy.ensures
    ∙ ap (λ r. grown_from r []) (sym (root_node c.self.inside.places c.args.self.now c.stands.ensures c.self.view_is c.in-Some.root.now c.in-Some.ensures))

pub loop-entry-preserved-then-eq : goal.loop-entry-preserved-then-eq
loop-entry-preserved-then-eq c =
    let at_root = root_node c.self.inside.places c.args.self.now c.stands.ensures c.self.view_is c.in-Some.root.now c.in-Some.ensures in
    let same : bytes_eq c.text.result.now (codes "/") ≡ true = sym c.eq.ensures ∙ c.if-eq.true in
    next_skips c.args.self.now c.stands.ensures c.as_slice-entry-items.result.now (ap (map lent) c.as_slice-entry-items.ensures.value ∙ c.in_ok-entries.ensures) c.loop-entry.entry-index c.entry-item.result c.loop-entry-test.true c.entry-item.is c.loop-entry.tree c.loop-entry.invariant c.in-Some.root.now.node at_root (sym c.text.ensures.text ∙ (bytes_eq-Decides c.text.result.now (codes "/")).0 same)

pub put_child-requires-clause-free : goal.put_child-requires-clause-free
put_child-requires-clause-free c =
    let at_root = root_node c.self.inside.places c.args.self.now c.stands.ensures c.self.view_is c.in-Some.root.now c.in-Some.ensures in
    let other : bytes_eq c.text.result.now (codes "/") ≡ false = sym c.eq.ensures ∙ c.if-eq.false in
    next_free c.args.self.now c.stands.ensures c.as_slice-entry-items.result.now (ap (map lent) c.as_slice-entry-items.ensures.value ∙ c.in_ok-entries.ensures) c.loop-entry.entry-index c.entry-item.result c.loop-entry-test.true c.entry-item.is c.loop-entry.tree c.loop-entry.invariant c.in-Some.root.now.node at_root c.text.ensures.is_path
    (λ e. false≢true (sym other ∙ (bytes_eq-Decides c.text.result.now (codes "/")).1 (c.text.ensures.text ∙ e)))

pub put_child-requires-clause-below : goal.put_child-requires-clause-below
put_child-requires-clause-below c =
    let at_root = root_node c.self.inside.places c.args.self.now c.stands.ensures c.self.view_is c.in-Some.root.now c.in-Some.ensures in
    let other : bytes_eq c.text.result.now (codes "/") ≡ false = sym c.eq.ensures ∙ c.if-eq.false in
    next_below c.args.self.now c.stands.ensures c.as_slice-entry-items.result.now (ap (map lent) c.as_slice-entry-items.ensures.value ∙ c.in_ok-entries.ensures) c.loop-entry.entry-index c.entry-item.result c.loop-entry-test.true c.entry-item.is c.loop-entry.tree c.loop-entry.invariant c.in-Some.root.now.node at_root c.text.ensures.is_path
    (λ e. false≢true (sym other ∙ (bytes_eq-Decides c.text.result.now (codes "/")).1 (c.text.ensures.text ∙ e)))

pub loop-entry-preserved : goal.loop-entry-preserved
loop-entry-preserved c =
    let at_root = root_node c.self.inside.places c.args.self.now c.stands.ensures c.self.view_is c.in-Some.root.now c.in-Some.ensures in
    let other : bytes_eq c.text.result.now (codes "/") ≡ false = sym c.eq.ensures ∙ c.if-eq.false in
    next_puts c.args.self.now c.stands.ensures c.as_slice-entry-items.result.now (ap (map lent) c.as_slice-entry-items.ensures.value ∙ c.in_ok-entries.ensures) c.loop-entry.entry-index c.entry-item.result c.loop-entry-test.true c.entry-item.is c.loop-entry.tree c.loop-entry.invariant c.in-Some.root.now.node at_root c.text.ensures.is_path
    (λ e. false≢true (sym other ∙ (bytes_eq-Decides c.text.result.now (codes "/")).1 (c.text.ensures.text ∙ e)))
    c.put_child.new.tree c.in_ok-put_child.ensures

pub returns : goal.returns
returns c =
    let at_root = root_node c.self.inside.places c.args.self.now c.stands.ensures c.self.view_is c.in-Some.root.now c.in-Some.ensures in
    grown_all c.args.self.now c.in-Some.root.now.node at_root c.as_slice-entry-items.result.now (ap (map lent) c.as_slice-entry-items.ensures.value ∙ c.in_ok-entries.ensures) c.loop-entry.entry-index (omega (arith, c.loop-entry-test.false)) c.loop-entry.tree c.loop-entry.invariant
