use Rattle.std.proofs.Common.{◌≡◌, ℕ, List, Option, pos, Some, sym, ap, ap₂, ◌∙◌, w32, of_z, to_z}
use Rattle.std.proofs.lemmas.Int.{to_z-of_z}
use Rattle.zk_acl.specs.declared.stat.Stat.{Stat}
use Rattle.zk_table.specs.Nodes.{guarded}
use Rattle.zk_table.specs.Operations.{Done, done_unless}
use Rattle.zk_table.specs.States.{NodeMap, changed, stat_at}
use Rattle.zk_table.proofs.nodes.Nodes.set_acl.Goals as goal
use Rattle.zk_table.proofs.nodes.Nodes.set_acl.Goals.{After-done}

abbrev told : NodeMap → List ℕ → Option Stat → Done
told nodes path stat = record { nodes = nodes; answer = record { err = pos 0; path = Some path; stat = stat } }

changed_here : (c : After-done) → c.guard.new.self ≡ changed c.args.self.now c.args.path.now (guarded c.args.acl.now c.args.version)
changed_here c =
    c.guard.ensures
    ∙ ap₂ (λ text acl. changed c.args.self.now text (guarded acl (to_z w32 (of_z w32 c.args.version)))) c.text.ensures.text c.in_ok-acl.ensures
    ∙ ap (λ version. changed c.args.self.now c.args.path.now (guarded c.args.acl.now version)) (to_z-of_z w32 c.args.version c.ranges.version)

pub returns : goal.returns
returns c =
    let new = changed c.args.self.now c.args.path.now (guarded c.args.acl.now c.args.version) in
    record {
      done =
          ap (λ fault. done_unless fault c.args.self.now c.args.path.now new (stat_at new c.args.path.now)) (sym c.missing_fault.ensures ∙ c.in_default.is)
          ∙ ap (λ nodes. told nodes c.args.path.now (stat_at nodes c.args.path.now)) (sym (changed_here c))
          ∙ ap₂ (λ path text. told c.guard.new.self path (stat_at c.guard.new.self text)) (sym c.in_ok-told.ensures) (sym c.text-2.ensures.text)
          ∙ ap (told c.guard.new.self c.in_ok-told.told) (sym c.stat_at-stat.ensures)
          ∙ ap (λ answer. record { nodes = c.guard.new.self; answer = answer }) (sym c.done.ensures);
      unchanged = tt;
    }
