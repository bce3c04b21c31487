use Rattle.std.proofs.Common.{rules, ◌≡◌, ◌∷◌, ◌++◌, [], refl}
use Rattle.zk_servers.specs.Calls.{made}
use Rattle.zk_servers.specs.declared.record.Receipt.{Receipt}
use Rattle.zk_front.specs.Calling.{Calling, CallsOne, IsGiven}
use Rattle.zk_front.proofs.Calling.{kept_call}
use Rattle.zk_front.proofs.seat_caller.SeatCaller.look.Goals as goal

pub invariant_of-self-in-Ok : goal.invariant_of-self-in-Ok
invariant_of-self-in-Ok g c =
    let old : Calling = record { calls = c.self.inside.seat; receipts = c.self.inside.receipts.items; tag = c.self.inside.tag } in
    let new : Calling = record { calls = c.look.new.seat; receipts = c.push_reserved.new.self.items; tag = c.self.inside.tag } in
    let receipt : Receipt = c.in-Ok.looked.receipt in
    let given : IsGiven old.tag c.args.event = search rules in
    let calls : new.calls ≡ old.calls ++ made receipt.number c.args.event ∷ [] = search rules in
    let receipts : new.receipts ≡ old.receipts ++ receipt ∷ [] = search rules in
    kept_call old c.args.event receipt new c.self.invariant given calls receipts refl

pub returns-in-Ok-clause-called : goal.returns-in-Ok-clause-called
returns-in-Ok-clause-called g c =
    let receipt : Receipt = c.in-Ok.looked.receipt in
    let calls : c.look.new.seat ≡ c.args.self.now.calls ++ made receipt.number c.args.event ∷ [] = search rules in
    let receipts : c.push_reserved.new.self.items ≡ c.args.self.now.receipts ++ receipt ∷ [] = search rules in
    record { receipt = receipt; added = calls; kept = receipts }
