use Rattle.std.proofs.Common.{pos, ◌-ℤ◌, ◌*ℤ◌, neg_ℤ, ◌%◌, ◌*◌, ap, ◌∙◌, of_z, w32, rules, mod-lt}
use Rattle.std.proofs.lemmas.Int.{wrapping_sub_onto, wrapping_mul_is, int_wrap-add_left, int_wrap-sub_right}
use Rattle.std.specs.Int.{int_wrap}
use Rattle.zk_table.proofs.node.child_version.Goals as goal

pub returns : goal.returns
returns c =
    let twice = pos 2 *ℤ c.args.creates in
    wrapping_sub_onto w32 ((2 * of_z w32 c.args.creates) % 4294967296) c.wrapped.result (search (rules, mod-lt)) (record { sfits = c.wrapped.type_inv })
    ∙ ap (λ z. int_wrap w32 (z -ℤ c.wrapped.result)) (wrapping_mul_is w32 (pos 2) c.args.creates (search rules) c.ranges.creates)
    ∙ int_wrap-add_left w32 twice (neg_ℤ c.wrapped.result)
    ∙ ap (λ z. int_wrap w32 (twice -ℤ z)) c.wrapped.ensures
    ∙ int_wrap-sub_right w32 twice (pos c.args.children)
