use Rattle.std.proofs.Common.{◌≡◌, Some, None, Err, sym, ap, subst, ◌∙◌, arith}
use Rattle.std.specs.Int.{w32}
use Rattle.std.proofs.lemmas.Int.{to_z-of_z}
use Rattle.zk_frames.specs.Reading.{known_kind, request_in, unreadable, IsRead}
use Rattle.zk_frames.specs.declared.fault.RequestFault.{RequestFault}
use Rattle.zk_frames.proofs.Bodies.{header_field}
use Rattle.zk_frames.proofs.Whole.{is_unknown, is_whole, is_unreadable}
use Rattle.zk_frames.proofs.reading.request.Goals as goal

pub returns-in_default : goal.returns-in_default
returns-in_default c =
    let h = c.in-Ok.ensures in
    let is = (header_field.takes c.args.bytes.now _ (λ i. omega (arith, c.type_inv.bytes i)) h).1 in
    let k : known_kind c.in-Ok.header.kind ≡ None = ap known_kind (sym (to_z-of_z w32 c.in-Ok.header.kind is.kind)) ∙ sym c.read.ensures ∙ c.in_default.is in
    rw (to_z-of_z w32 c.in-Ok.header.xid is.xid) (is_unknown c.args.bytes.now c.in-Ok.header _ h k)

pub returns-in-Ok-whole_body : goal.returns-in-Ok-whole_body
returns-in-Ok-whole_body c =
    let h = c.in-Ok.ensures in
    let is = (header_field.takes c.args.bytes.now _ (λ i. omega (arith, c.type_inv.bytes i)) h).1 in
    let k : known_kind c.in-Ok.header.kind ≡ Some c.in-Some.kind = ap known_kind (sym (to_z-of_z w32 c.in-Ok.header.kind is.kind)) ∙ sym c.read.ensures ∙ c.in-Some.is in
    rw (to_z-of_z w32 c.in-Ok.header.xid is.xid) (is_whole c.args.bytes.now c.in-Ok.header _ c.in-Some.kind c.in-Ok-whole_body.body h k c.in-Ok-whole_body.ensures)

pub returns-in-Err-whole_body : goal.returns-in-Err-whole_body
returns-in-Err-whole_body c =
    let h = c.in-Ok.ensures in
    let is = (header_field.takes c.args.bytes.now _ (λ i. omega (arith, c.type_inv.bytes i)) h).1 in
    let k : known_kind c.in-Ok.header.kind ≡ Some c.in-Some.kind = ap known_kind (sym (to_z-of_z w32 c.in-Ok.header.kind is.kind)) ∙ sym c.read.ensures ∙ c.in-Some.is in
    let read = is_unreadable c.args.bytes.now c.in-Ok.header _ c.in-Some.kind c.in-Err-whole_body.fault h k c.in-Err-whole_body.ensures in
    let xid = ap (λ z. unreadable z c.in-Err-whole_body.fault) (to_z-of_z w32 c.in-Ok.header.xid is.xid) in
    subst (λ (f : RequestFault). IsRead (Err f) (request_in c.args.bytes.now)) (sym (c.unreadable.ensures ∙ xid)) read
