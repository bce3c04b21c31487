-- No frame changes the session or what the client has seen, or takes an identity away.
use Rattle.std.proofs.Common.{◌≡◌, refl, ℕ, ℤ, List, [], ◌∷◌, ◌++◌, sym, append-nil}
use Rattle.std.specs.Prelude.{Bool, true, false, if◌then◌else◌, Option, Some, None, Result, Ok, Err, codes}
use Rattle.std.specs.Str.{bytes_eq}
use Rattle.zk_acl.specs.declared.acl.Id.{Id}
use Rattle.zk_frames.specs.Reading.{request_in}
use Rattle.zk_frames.specs.declared.fault.RequestFault.{RequestFault}
use Rattle.zk_frames.specs.declared.fault.RequestFault.TheVariants as faults
use Rattle.zk_frames.specs.declared.records.AuthPacket.{AuthPacket}
use Rattle.zk_frames.specs.declared.request.ClientRequest.{ClientRequest}
use Rattle.zk_frames.specs.declared.request.RequestBody.{RequestBody}
use Rattle.zk_frames.specs.declared.request.RequestBody.TheVariants as bodies
use Rattle.zk_client_session.specs.LinkLaws.{Continues}
use Rattle.zk_client_session.specs.Links.{are_all, with_another, without_another, with_identity, authenticated, action_by, action_read, action_of, digest_in}
use Rattle.zk_client_session.specs.declared.ask.Action.{Action}
use Rattle.zk_client_session.specs.declared.link.Link.{Link}

same : (link : Link) → Continues link link
same link = record { session = refl; seen = refl; auths = ([], sym (append-nil link.auths)) }

either : (link : Link) (b : Bool) (one other : Link × Action) → Continues link one.0 → Continues link other.0 → Continues link (if b then one else other).0
either link true one other is _ = is
either link false one other _ is = is

identified : (link : Link) (xid : ℤ) (id : Option Id) → Continues link (with_identity link xid id).0
identified link xid None = same link
identified link xid (Some id) = either link (are_all link.auths) (without_another link xid) (with_another link xid id) (same link) (record { session = refl; seen = refl; auths = (id ∷ [], refl) })

proved : (link : Link) (xid : ℤ) (r : AuthPacket) → Continues link (authenticated link xid r).0
proved link xid r = either link (bytes_eq r.scheme (codes "ip")) _ _ (same link) (either link (bytes_eq r.scheme (codes "digest")) _ _ (identified link xid (digest_in r.auth)) (same link))

acted : (link : Link) (xid : ℤ) (body : RequestBody) → Continues link (action_by link xid body).0
acted link xid (bodies.Auth r) = proved link xid r
acted link xid body = same link

failed : (link : Link) (fault : RequestFault) → Continues link (action_read link (Err fault)).0
failed link fault = elim fault as (λ fault. Continues link (action_read link (Err fault)).0) [ faults.Header ↦ same link | faults.Type xid ↦ same link | faults.Body xid it ↦ same link | faults.NoMemory ↦ same link ]

read : (link : Link) (request : Result ClientRequest RequestFault) → Continues link (action_read link request).0
read link (Ok request) = acted link request.xid request.body
read link (Err fault) = failed link fault

pub frame_continues : (link : Link) (frame : List ℕ) → Continues link (action_of link frame).0
frame_continues link frame = read link (request_in frame)
