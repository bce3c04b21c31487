use Rattle.std.proofs.Common.{◌≡◌, Some, None, w64, rules, to_z, of_z, int_cmp, ap, sym, ◌∙◌}
use Rattle.std.proofs.lemmas.Cmp.{int_cmp_total}
use Rattle.std.proofs.lemmas.Int.{to_z-of_z}
use Rattle.std.proofs.lemmas.Result.{err_from_is_err_and}
use Rattle.std.specs.BTreeMap as tree
use Rattle.std.specs.FinMap as finite
use Rattle.std.specs.FinMap.{int_cmp-IsAntisymmetric}
use Rattle.std.specs.Option.{option_copied_mut}
use Rattle.std.specs.String.{string_bytes}
use Rattle.zk_tree.specs.Owners.{set_found}
use Rattle.zk_tree.proofs.Kept.{get-sessions, sessions_inserted, insert_same}
use Rattle.zk_tree.proofs.Owning.{owned_added, owns_some}
use Rattle.zk_fold.proofs.owners.Owners.add.Goals as goal

pub returns-in_err-insert-clause-unchanged : goal.returns-in_err-insert-clause-unchanged
returns-in_err-insert-clause-unchanged c =
    let same : to_z w64 (of_z w64 c.args.session) ≡ c.args.session = to_z-of_z w64 c.args.session c.ranges.session in
    let there : finite.get c.args.self.now c.args.session ≡ Some c.in-Some.set.now = ap (λ m. finite.get m c.args.session) (sym c.self.view_is) ∙ get-sessions c.self.inside.sets c.args.session ∙ ap (λ s. tree.get_by (int_cmp s) c.self.inside.sets) (sym same) ∙ sym c.in-Some.ensures.value in
    let p = err_from_is_err_and c.from_residual-in_err-insert.result c.from_residual-in_err-insert.ensures.1 in
    rw p.1 (sessions_inserted _ c.self.inside.sets (c.get_mut.follows.lender _) _ ((c.get_mut.follows.holds _).3 (search rules))
    ∙ ap (λ m. finite.insert m (to_z w64 (of_z w64 c.args.session)) c.insert.new.self) c.self.view_is
    ∙ ap (λ s. finite.insert c.args.self.now s c.insert.new.self) same
    ∙ ap (finite.insert c.args.self.now c.args.session) c.in_err-insert.ensures.unchanged
    ∙ insert_same int_cmp_total int_cmp-IsAntisymmetric c.args.self.now c.args.session c.in-Some.set.now there)

pub returns-in-Some-clause-noted : goal.returns-in-Some-clause-noted
returns-in-Some-clause-noted c =
    let same : to_z w64 (of_z w64 c.args.session) ≡ c.args.session = to_z-of_z w64 c.args.session c.ranges.session in
    let there : finite.get c.args.self.now c.args.session ≡ Some c.in-Some.set.now = ap (λ m. finite.get m c.args.session) (sym c.self.view_is) ∙ get-sessions c.self.inside.sets c.args.session ∙ ap (λ s. tree.get_by (int_cmp s) c.self.inside.sets) (sym same) ∙ sym c.in-Some.ensures.value in
    sessions_inserted _ c.self.inside.sets (c.get_mut.follows.lender _) _ ((c.get_mut.follows.holds _).3 (search rules))
    ∙ ap (λ m. finite.insert m (to_z w64 (of_z w64 c.args.session)) c.insert.new.self) c.self.view_is
    ∙ ap (λ s. finite.insert c.args.self.now s c.insert.new.self) same
    ∙ owned_added c.args.self.now c.args.session c.args.path.now (owns_some c.args.session c.if-session-eq0.false) c.in-Some.set.now c.insert.new.self (ap set_found there) (c.in_ok-insert.ensures.inserted ∙ ap (λ t. finite.insert c.in-Some.set.now t tt) c.in_ok-text.ensures.ok)

pub returns-clause-noted : goal.returns-clause-noted
returns-clause-noted c =
    let same : to_z w64 (of_z w64 c.args.session) ≡ c.args.session = to_z-of_z w64 c.args.session c.ranges.session in
    let none : finite.get c.args.self.now c.args.session ≡ None = ap (λ m. finite.get m c.args.session) (sym c.self.view_is) ∙ get-sessions c.self.inside.sets c.args.session ∙ ap (λ s. tree.get_by (int_cmp s) c.self.inside.sets) (sym same) ∙ sym c.get_mut.ensures.value ∙ ap option_copied_mut c.in_default.is in
    let before : finite.from_entries {R = int_cmp} c.get_mut.follows.lender-at-none.entries ≡ c.args.self.now = ap (λ m. finite.from_entries m.entries) c.get_mut.follows.holds-at-none ∙ c.self.view_is in
    sessions_inserted _ c.get_mut.follows.lender-at-none c.insert-3.new.self _ c.in_ok-insert-3.ensures.updates
    ∙ ap (λ m. finite.insert m (to_z w64 (of_z w64 c.args.session)) c.insert-2.new.self) before
    ∙ ap (λ s. finite.insert c.args.self.now s c.insert-2.new.self) same
    ∙ owned_added c.args.self.now c.args.session c.args.path.now (owns_some c.args.session c.if-session-eq0.false) finite.empty c.insert-2.new.self (ap set_found none) (c.in_ok-insert-2.ensures.inserted ∙ ap (λ s. finite.insert s (string_bytes c.in_ok-text.text) tt) c.new-set.ensures ∙ ap (λ t. finite.insert finite.empty t tt) c.in_ok-text.ensures.ok)
