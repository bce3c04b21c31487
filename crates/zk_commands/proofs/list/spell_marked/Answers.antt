use Rattle.std.proofs.Common.{◌≡◌, ◌≢◌, ◌-◌, ◌<◌, ◌++◌, ℕ, List, length, OnOk, sym, subst, arith, rules}
use Rattle.std.specs.String.{string_bytes}
use Rattle.zk_commands.proofs.ListLaws.{marked_by}
use Rattle.zk_commands.proofs.list.spell_marked.Goals as goal

pub returns : goal.returns
returns c =
    let behind : c.args.place ≢ 0 = search rules in
    let within : c.args.place - 1 < length c.args.txns.now = omega (arith, behind, c.requires) in
    subst (λ (l : List ℕ). OnOk c.spell_marked_line.result (string_bytes c.spell_marked_line.new.page ≡ string_bytes c.args.page.now ++ l)) (sym (marked_by c.args.txns.now c.args.place c.index-txns-place.result behind within c.index-txns-place.is)) c.spell_marked_line.ensures
