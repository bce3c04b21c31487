use Rattle.std.proofs.Common.{◌≡◌, ℕ, ℤ, Option, w64, to_z, of_z, int_cmp, ap, ◌∙◌, unwrap_or}
use Rattle.std.proofs.lemmas.Int.{to_z-of_z}
use Rattle.std.specs.BTreeMap as tree
use Rattle.zk_front.proofs.local_state.cursor_of.Goals as goal

pub returns : goal.returns
returns c =
    let same : to_z w64 (of_z w64 c.args.session) ≡ c.args.session = to_z-of_z w64 c.args.session c.ranges.session in
    c.unwrap_or.ensures ∙ ap (λ (o : Option ℕ). unwrap_or o 0) (c.copied.ensures ∙ c.get.ensures.value ∙ ap (λ (s : ℤ). tree.get_by (int_cmp s) c.args.told.now) same)
