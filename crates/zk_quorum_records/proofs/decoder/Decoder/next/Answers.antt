use Rattle.std.proofs.Common.{◌≡◌, ◌-◌, ℕ, None, Ok, List, length, refl, sym, ap, ◌∙◌, subst, rules, arith}
use Rattle.zk_jute.proofs.Numbers.{IsBytes}
use Rattle.zk_quorum_records.specs.declared.item.Phase.{Phase}
use Rattle.zk_quorum_records.specs.Items.{after}
use Rattle.zk_quorum_records.specs.Reading.{item_at}
use Rattle.zk_quorum_records.specs.Streams.{Stream, without}
use Rattle.zk_quorum_records.proofs.Streams.{takes_one}
use Rattle.zk_quorum_records.proofs.decoder.Decoder.next.Goals as goal

pub returns-in-Ok-clause-item : goal.returns-in-Ok-clause-item
returns-in-Ok-clause-item c =
    let old : Stream = c.args.self.now in
    let item = c.in-Ok.item in
    let count = length c.rest-before.result.now - length c.read_item.new.input.now in
    let here : c.rest-before.result.now ≡ old.rest = c.rest-before.ensures in
    let fits : IsBytes old.rest = subst IsBytes c.rest-input.ensures c.are_bytes.ensures in
    let sound : old.fault ≡ None = search rules in
    let read : item_at old.phase old.rest ≡ Ok (item, c.read_item.new.input.now) =
    ap (λ (p : Phase). item_at p old.rest) (sym (ap (λ (s : Stream). s.phase) c.self.view_is)) ∙ ap (item_at c.self.inside.phase) (sym c.rest-input.ensures) ∙ c.in-Ok.ensures in
    let next : c.after.result ≡ after old.phase item = c.after.ensures ∙ ap (λ (p : Phase). after p item) (ap (λ (s : Stream). s.phase) c.remove.view_is) in
    takes_one old c.remove-in-Ok.new.self item c.read_item.new.input.now (length c.rest-before.result.now) count sound fits read (ap length here) refl
    (c.remove-in-Ok.ensures ∙ ap (λ (p : Phase). without count p old) next)
