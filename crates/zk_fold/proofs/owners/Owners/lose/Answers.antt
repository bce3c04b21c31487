use Rattle.std.proofs.Common.{◌≡◌, Some, None, arith, w64, rules, to_z, of_z, int_cmp, ap, sym, ◌∙◌}
use Rattle.std.proofs.lemmas.Int.{to_z-of_z}
use Rattle.std.specs.BTreeMap as tree
use Rattle.std.specs.FinMap as finite
use Rattle.std.specs.Option.{option_copied_mut}
use Rattle.zk_tree.specs.Owners.{set_found}
use Rattle.zk_tree.proofs.Kept.{get-sessions, sessions_inserted, sessions_removed}
use Rattle.zk_tree.proofs.Owning.{owns_some, one_lost, last_lost, none_lost}
use Rattle.zk_fold.proofs.owners.Owners.lose.Goals as goal

pub returns-in_default : goal.returns-in_default
returns-in_default c =
    let same : to_z w64 (of_z w64 c.args.session) ≡ c.args.session = to_z-of_z w64 c.args.session c.ranges.session in
    let none : finite.get c.args.self.now c.args.session ≡ None = ap (λ m. finite.get m c.args.session) (sym c.self.view_is) ∙ get-sessions c.self.inside.sets c.args.session ∙ ap (λ s. tree.get_by (int_cmp s) c.self.inside.sets) (sym same) ∙ sym c.get_mut.ensures.value ∙ ap option_copied_mut c.in_default.is in
    ap (λ m. finite.from_entries m.entries) c.get_mut.follows.holds-at-none ∙ c.self.view_is ∙ none_lost c.args.self.now c.args.session c.args.path.now (owns_some c.args.session c.if-session-eq0.false) none

pub returns-then-len-gt0 : goal.returns-then-len-gt0
returns-then-len-gt0 c =
    let same : to_z w64 (of_z w64 c.args.session) ≡ c.args.session = to_z-of_z w64 c.args.session c.ranges.session in
    let there : finite.get c.args.self.now c.args.session ≡ Some c.in-Some.set.now = ap (λ m. finite.get m c.args.session) (sym c.self.view_is) ∙ get-sessions c.self.inside.sets c.args.session ∙ ap (λ s. tree.get_by (int_cmp s) c.self.inside.sets) (sym same) ∙ sym c.in-Some.ensures.value in
    sessions_inserted _ c.self.inside.sets (c.get_mut.follows.lender _) _ ((c.get_mut.follows.holds _).3 (search rules))
    ∙ ap (λ m. finite.insert m (to_z w64 (of_z w64 c.args.session)) c.remove.new.self) c.self.view_is
    ∙ ap (λ s. finite.insert c.args.self.now s c.remove.new.self) same
    ∙ one_lost c.args.self.now c.args.session c.args.path.now (owns_some c.args.session c.if-session-eq0.false) c.in-Some.set.now c.remove.new.self (ap set_found there) c.remove.ensures (λ e. absurd (omega (arith, e, c.len.ensures, c.if-len-gt0.true)))

pub returns : goal.returns
returns c =
    let same : to_z w64 (of_z w64 c.args.session) ≡ c.args.session = to_z-of_z w64 c.args.session c.ranges.session in
    let there : finite.get c.args.self.now c.args.session ≡ Some c.in-Some.set.now = ap (λ m. finite.get m c.args.session) (sym c.self.view_is) ∙ get-sessions c.self.inside.sets c.args.session ∙ ap (λ s. tree.get_by (int_cmp s) c.self.inside.sets) (sym same) ∙ sym c.in-Some.ensures.value in
    let none : finite.len c.remove.new.self ≡ 0 = omega (arith, c.len.ensures, c.if-len-gt0.false) in
    let written : finite.from_entries {R = int_cmp} (c.get_mut.follows.lender c.remove.new.self).entries ≡ finite.insert c.args.self.now c.args.session c.remove.new.self = sessions_inserted _ c.self.inside.sets (c.get_mut.follows.lender c.remove.new.self) _ ((c.get_mut.follows.holds _).3 (search rules)) ∙ ap (λ m. finite.insert m (to_z w64 (of_z w64 c.args.session)) c.remove.new.self) c.self.view_is ∙ ap (λ s. finite.insert c.args.self.now s c.remove.new.self) same in
    sessions_removed _ (c.get_mut.follows.lender c.remove.new.self) c.remove-2.new.self c.remove-2.ensures.updates
    ∙ ap (λ m. finite.remove m (to_z w64 (of_z w64 c.args.session))) written
    ∙ ap (λ s. finite.remove (finite.insert c.args.self.now c.args.session c.remove.new.self) s) same
    ∙ last_lost c.args.self.now c.args.session c.args.path.now (owns_some c.args.session c.if-session-eq0.false) c.in-Some.set.now c.remove.new.self (ap set_found there) c.remove.ensures none
