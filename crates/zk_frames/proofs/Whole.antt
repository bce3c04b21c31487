-- Whole requests: reading is the inverse of writing.
use Rattle.std.proofs.Common.{◌≡◌, ◌≢◌, ℕ, ℤ, pos, negsuc, Bool, true, false, cond, eqb, List, [], ◌++◌, length, Option, Some, None, Result, Ok, Err, refl, sym, ap, subst, ◌∙◌, append_assoc, lit<}
use Rattle.std.specs.Prelude.{FitsSigned, IfOk}
use Rattle.std.specs.Int.{w32}
use Rattle.std.specs.Ordering.{int_eq}
use Rattle.std.proofs.lemmas.Bool.{ne_eqb}
use Rattle.std.proofs.lemmas.Bool.Decides.{Decides-int_eq}
use Rattle.std.proofs.lemmas.List.{append-nil, nil_from_length}
use Rattle.zk_frames.specs.declared.fault.RequestFault.{RequestFault}
use Rattle.zk_frames.specs.declared.fault.RequestFault.TheVariants as request_faults
use Rattle.zk_frames.specs.declared.records.RequestHeader.{RequestHeader}
use Rattle.zk_frames.specs.declared.request.ClientRequest.{ClientRequest}
use Rattle.zk_frames.specs.declared.request.RequestBody.{RequestBody}
use Rattle.zk_frames.specs.declared.request.RequestBody.TheVariants as bodies
use Rattle.zk_frames.specs.declared.request_kind.RequestKind.{RequestKind}
use Rattle.zk_frames.specs.declared.request_kind.RequestKind.TheVariants as kinds
use Rattle.zk_jute.specs.declared.fault.JuteFault.{JuteFault}
use Rattle.zk_jute.specs.declared.fault.JuteFault.TheVariants as faults
use Rattle.zk_jute.specs.Reading.{Fails, whole}
use Rattle.zk_jute.proofs.Numbers.{IsBytes, TakesFront, TakesFront-then, took_all, at_ok, made_takes, whole_ok}
use Rattle.zk_jute.proofs.Texts.{text_field}
use Rattle.zk_frames.specs.Requests.{request_header, header_of, kind_of, body_of, request_of, IsBody, IsRequest, IsRequestOf}
use Rattle.zk_frames.specs.Reading.{known_kind, body_at, header_at, request_by, typed_request, request_after, request_in, unreadable, IsRead}
use Rattle.zk_frames.proofs.MultiLaws.{multi_field}
use Rattle.zk_frames.proofs.Bodies.{IsHeader, header_field, create_field, delete_field, path_request_field, set_data_field, set_acl_field, remove_watches_field, auth_field, set_watches_field}

-- ---- bodies

-- the number of a type
abbrev number_of : RequestKind → ℤ
number_of kinds.Create = pos 1
number_of kinds.Delete = pos 2
number_of kinds.Exists = pos 3
number_of kinds.GetData = pos 4
number_of kinds.SetData = pos 5
number_of kinds.GetAcl = pos 6
number_of kinds.SetAcl = pos 7
number_of kinds.GetChildren = pos 8
number_of kinds.Sync = pos 9
number_of kinds.Ping = pos 11
number_of kinds.GetChildren2 = pos 12
number_of kinds.Multi = pos 14
number_of kinds.Create2 = pos 15
number_of kinds.RemoveWatches = pos 18
number_of kinds.Auth = pos 100
number_of kinds.SetWatches = pos 101
number_of kinds.GetEphemerals = pos 103
number_of kinds.GetAllChildrenNumber = pos 104
number_of kinds.CloseSession = negsuc 10

-- a type that is known by its number
or_else : (b : Bool) (here there : Option RequestKind) (kind : RequestKind) (P : Type 0) → ((b ≡ true) → here ≡ Some kind → P) → (there ≡ Some kind → P) → cond b here there ≡ Some kind → P
or_else true here there kind P one other e = one refl e
or_else false here there kind P one other e = other e

abbrev some : RequestKind → Option RequestKind
some kind = Some kind

some_is : (this kind : RequestKind) → some this ≡ some kind → this ≡ kind
some_is this kind e = cc

by_number : (number its_number : ℤ) (this kind : RequestKind) → its_number ≡ number_of this → int_eq number its_number ≡ true → some this ≡ some kind → number ≡ number_of kind
by_number number its_number this kind its same e = (Decides-int_eq number its_number).0 same ∙ its ∙ ap number_of (some_is this kind e)

kind_known : (number : ℤ) (kind : RequestKind) → known_kind number ≡ Some kind → number ≡ number_of kind
kind_known number kind e =
    let P : Type 0 = number ≡ number_of kind in
    or_else _ _ _ kind P (λ same h. by_number number (pos 1) kinds.Create kind refl same h)
    (or_else _ _ _ kind P (λ same h. by_number number (pos 2) kinds.Delete kind refl same h)
    (or_else _ _ _ kind P (λ same h. by_number number (pos 3) kinds.Exists kind refl same h)
    (or_else _ _ _ kind P (λ same h. by_number number (pos 4) kinds.GetData kind refl same h)
    (or_else _ _ _ kind P (λ same h. by_number number (pos 5) kinds.SetData kind refl same h)
    (or_else _ _ _ kind P (λ same h. by_number number (pos 6) kinds.GetAcl kind refl same h)
    (or_else _ _ _ kind P (λ same h. by_number number (pos 7) kinds.SetAcl kind refl same h)
    (or_else _ _ _ kind P (λ same h. by_number number (pos 8) kinds.GetChildren kind refl same h)
    (or_else _ _ _ kind P (λ same h. by_number number (pos 9) kinds.Sync kind refl same h)
    (or_else _ _ _ kind P (λ same h. by_number number (pos 11) kinds.Ping kind refl same h)
    (or_else _ _ _ kind P (λ same h. by_number number (pos 12) kinds.GetChildren2 kind refl same h)
    (or_else _ _ _ kind P (λ same h. by_number number (pos 14) kinds.Multi kind refl same h)
    (or_else _ _ _ kind P (λ same h. by_number number (pos 15) kinds.Create2 kind refl same h)
    (or_else _ _ _ kind P (λ same h. by_number number (pos 18) kinds.RemoveWatches kind refl same h)
    (or_else _ _ _ kind P (λ same h. by_number number (pos 100) kinds.Auth kind refl same h)
    (or_else _ _ _ kind P (λ same h. by_number number (pos 101) kinds.SetWatches kind refl same h)
    (or_else _ _ _ kind P (λ same h. by_number number (pos 103) kinds.GetEphemerals kind refl same h)
    (or_else _ _ _ kind P (λ same h. by_number number (pos 104) kinds.GetAllChildrenNumber kind refl same h)
    (or_else _ _ _ kind P (λ same h. by_number number (negsuc 10) kinds.CloseSession kind refl same h)
    (λ h. absurd (cc)))))))))))))))))))) e

-- the type of a body
abbrev type_of : RequestBody → RequestKind
type_of (bodies.Create r) = kinds.Create
type_of (bodies.Delete r) = kinds.Delete
type_of (bodies.Exists r) = kinds.Exists
type_of (bodies.GetData r) = kinds.GetData
type_of (bodies.SetData r) = kinds.SetData
type_of (bodies.GetAcl r) = kinds.GetAcl
type_of (bodies.SetAcl r) = kinds.SetAcl
type_of (bodies.GetChildren r) = kinds.GetChildren
type_of (bodies.Sync r) = kinds.Sync
type_of bodies.Ping = kinds.Ping
type_of (bodies.GetChildren2 r) = kinds.GetChildren2
type_of (bodies.Multi r) = kinds.Multi
type_of (bodies.Create2 r) = kinds.Create2
type_of (bodies.RemoveWatches r) = kinds.RemoveWatches
type_of (bodies.Auth r) = kinds.Auth
type_of (bodies.SetWatches r) = kinds.SetWatches
type_of (bodies.GetEphemerals r) = kinds.GetEphemerals
type_of (bodies.GetAllChildrenNumber r) = kinds.GetAllChildrenNumber
type_of bodies.CloseSession = kinds.CloseSession

type_known : (body : RequestBody) → known_kind (kind_of body) ≡ Some (type_of body)
type_known (bodies.Create r) = refl
type_known (bodies.Delete r) = refl
type_known (bodies.Exists r) = refl
type_known (bodies.GetData r) = refl
type_known (bodies.SetData r) = refl
type_known (bodies.GetAcl r) = refl
type_known (bodies.SetAcl r) = refl
type_known (bodies.GetChildren r) = refl
type_known (bodies.Sync r) = refl
type_known bodies.Ping = refl
type_known (bodies.GetChildren2 r) = refl
type_known (bodies.Multi r) = refl
type_known (bodies.Create2 r) = refl
type_known (bodies.RemoveWatches r) = refl
type_known (bodies.Auth r) = refl
type_known (bodies.SetWatches r) = refl
type_known (bodies.GetEphemerals r) = refl
type_known (bodies.GetAllChildrenNumber r) = refl
type_known bodies.CloseSession = refl

-- a body of a type was read
pub record BodyRead (bytes : List ℕ) (kind : ℤ) (x : RequestBody × List ℕ) : Type 0 where
  pub took : TakesFront bytes (body_of x.0) x.1
  pub typed : kind_of x.0 ≡ kind
  pub fits : IsBody x.0

abbrev body_read : List ℕ → ℤ → RequestBody × List ℕ → Type 0
body_read bytes kind x = BodyRead bytes kind x

body_takes : (kind : RequestKind) (bytes : List ℕ) (x : RequestBody × List ℕ) → IsBytes bytes → body_at kind bytes ≡ Ok x → BodyRead bytes (number_of kind) x
body_takes kinds.Create bytes x fits e = made_takes _ _ _ create_field bodies.Create bytes x (body_read bytes (pos 1)) fits e (λ body rest took is. record { took = took; typed = refl; fits = is })
body_takes kinds.Delete bytes x fits e = made_takes _ _ _ delete_field bodies.Delete bytes x (body_read bytes (pos 2)) fits e (λ body rest took is. record { took = took; typed = refl; fits = is })
body_takes kinds.Exists bytes x fits e = made_takes _ _ _ path_request_field bodies.Exists bytes x (body_read bytes (pos 3)) fits e (λ body rest took is. record { took = took; typed = refl; fits = is })
body_takes kinds.GetData bytes x fits e = made_takes _ _ _ path_request_field bodies.GetData bytes x (body_read bytes (pos 4)) fits e (λ body rest took is. record { took = took; typed = refl; fits = is })
body_takes kinds.SetData bytes x fits e = made_takes _ _ _ set_data_field bodies.SetData bytes x (body_read bytes (pos 5)) fits e (λ body rest took is. record { took = took; typed = refl; fits = is })
body_takes kinds.GetAcl bytes x fits e = made_takes _ _ _ text_field bodies.GetAcl bytes x (body_read bytes (pos 6)) fits e (λ body rest took is. record { took = took; typed = refl; fits = is })
body_takes kinds.SetAcl bytes x fits e = made_takes _ _ _ set_acl_field bodies.SetAcl bytes x (body_read bytes (pos 7)) fits e (λ body rest took is. record { took = took; typed = refl; fits = is })
body_takes kinds.GetChildren bytes x fits e = made_takes _ _ _ path_request_field bodies.GetChildren bytes x (body_read bytes (pos 8)) fits e (λ body rest took is. record { took = took; typed = refl; fits = is })
body_takes kinds.Sync bytes x fits e = made_takes _ _ _ text_field bodies.Sync bytes x (body_read bytes (pos 9)) fits e (λ body rest took is. record { took = took; typed = refl; fits = is })
body_takes kinds.Ping bytes x fits e = at_ok (body_read bytes (pos 11)) (bodies.Ping, bytes) x e (record { took = record { parts = refl; rest_fits = fits }; typed = refl; fits = tt })
body_takes kinds.GetChildren2 bytes x fits e = made_takes _ _ _ path_request_field bodies.GetChildren2 bytes x (body_read bytes (pos 12)) fits e (λ body rest took is. record { took = took; typed = refl; fits = is })
body_takes kinds.Multi bytes x fits e = made_takes _ _ _ multi_field bodies.Multi bytes x (body_read bytes (pos 14)) fits e (λ body rest took is. record { took = took; typed = refl; fits = is })
body_takes kinds.Create2 bytes x fits e = made_takes _ _ _ create_field bodies.Create2 bytes x (body_read bytes (pos 15)) fits e (λ body rest took is. record { took = took; typed = refl; fits = is })
body_takes kinds.RemoveWatches bytes x fits e = made_takes _ _ _ remove_watches_field bodies.RemoveWatches bytes x (body_read bytes (pos 18)) fits e (λ body rest took is. record { took = took; typed = refl; fits = is })
body_takes kinds.Auth bytes x fits e = made_takes _ _ _ auth_field bodies.Auth bytes x (body_read bytes (pos 100)) fits e (λ body rest took is. record { took = took; typed = refl; fits = is })
body_takes kinds.SetWatches bytes x fits e = made_takes _ _ _ set_watches_field bodies.SetWatches bytes x (body_read bytes (pos 101)) fits e (λ body rest took is. record { took = took; typed = refl; fits = is })
body_takes kinds.GetEphemerals bytes x fits e = made_takes _ _ _ text_field bodies.GetEphemerals bytes x (body_read bytes (pos 103)) fits e (λ body rest took is. record { took = took; typed = refl; fits = is })
body_takes kinds.GetAllChildrenNumber bytes x fits e = made_takes _ _ _ text_field bodies.GetAllChildrenNumber bytes x (body_read bytes (pos 104)) fits e (λ body rest took is. record { took = took; typed = refl; fits = is })
body_takes kinds.CloseSession bytes x fits e = at_ok (body_read bytes (negsuc 10)) (bodies.CloseSession, bytes) x e (record { took = record { parts = refl; rest_fits = fits }; typed = refl; fits = tt })

body_again : (body : RequestBody) (rest : List ℕ) → IsBody body → body_at (type_of body) (body_of body ++ rest) ≡ Ok (body, rest)
body_again (bodies.Create r) rest is = rw (create_field.again r rest is) refl
body_again (bodies.Delete r) rest is = rw (delete_field.again r rest is) refl
body_again (bodies.Exists r) rest is = rw (path_request_field.again r rest is) refl
body_again (bodies.GetData r) rest is = rw (path_request_field.again r rest is) refl
body_again (bodies.SetData r) rest is = rw (set_data_field.again r rest is) refl
body_again (bodies.GetAcl r) rest is = rw (text_field.again r rest is) refl
body_again (bodies.SetAcl r) rest is = rw (set_acl_field.again r rest is) refl
body_again (bodies.GetChildren r) rest is = rw (path_request_field.again r rest is) refl
body_again (bodies.Sync r) rest is = rw (text_field.again r rest is) refl
body_again bodies.Ping rest is = refl
body_again (bodies.GetChildren2 r) rest is = rw (path_request_field.again r rest is) refl
body_again (bodies.Multi r) rest is = rw (multi_field.again r rest is) refl
body_again (bodies.Create2 r) rest is = rw (create_field.again r rest is) refl
body_again (bodies.RemoveWatches r) rest is = rw (remove_watches_field.again r rest is) refl
body_again (bodies.Auth r) rest is = rw (auth_field.again r rest is) refl
body_again (bodies.SetWatches r) rest is = rw (set_watches_field.again r rest is) refl
body_again (bodies.GetEphemerals r) rest is = rw (text_field.again r rest is) refl
body_again (bodies.GetAllChildrenNumber r) rest is = rw (text_field.again r rest is) refl
body_again bodies.CloseSession rest is = refl

kind_fits : (body : RequestBody) → FitsSigned w32 (kind_of body)
kind_fits (bodies.Create r) = record { sfits = lit< tt }
kind_fits (bodies.Delete r) = record { sfits = lit< tt }
kind_fits (bodies.Exists r) = record { sfits = lit< tt }
kind_fits (bodies.GetData r) = record { sfits = lit< tt }
kind_fits (bodies.SetData r) = record { sfits = lit< tt }
kind_fits (bodies.GetAcl r) = record { sfits = lit< tt }
kind_fits (bodies.SetAcl r) = record { sfits = lit< tt }
kind_fits (bodies.GetChildren r) = record { sfits = lit< tt }
kind_fits (bodies.Sync r) = record { sfits = lit< tt }
kind_fits bodies.Ping = record { sfits = lit< tt }
kind_fits (bodies.GetChildren2 r) = record { sfits = lit< tt }
kind_fits (bodies.Multi r) = record { sfits = lit< tt }
kind_fits (bodies.Create2 r) = record { sfits = lit< tt }
kind_fits (bodies.RemoveWatches r) = record { sfits = lit< tt }
kind_fits (bodies.Auth r) = record { sfits = lit< tt }
kind_fits (bodies.SetWatches r) = record { sfits = lit< tt }
kind_fits (bodies.GetEphemerals r) = record { sfits = lit< tt }
kind_fits (bodies.GetAllChildrenNumber r) = record { sfits = lit< tt }
kind_fits bodies.CloseSession = record { sfits = lit< tt }

-- all of the bytes are the body
whole_again : (body : RequestBody) → IsBody body → whole (body_at (type_of body) (body_of body)) ≡ Ok body
whole_again body is =
    let alone : body_at (type_of body) (body_of body) ≡ Ok (body, []) = ap (body_at (type_of body)) (sym (append-nil (body_of body))) ∙ body_again body [] is in
    rw alone refl

-- ---- requests

-- the body of a request that was returned
request_by_is : (xid : ℤ) (read : Result RequestBody JuteFault) (request : ClientRequest) → request_by xid read ≡ Ok request → (read ≡ Ok request.body) × (xid ≡ request.xid)
request_by_is xid (Ok body) request e = (cc, cc)
request_by_is xid (Err fault) request e = absurd cc

-- the header's type was known, and the body was read
typed_takes : (bytes : List ℕ) (header : RequestHeader) (kind : Option RequestKind) (rest : List ℕ) (request : ClientRequest) → TakesFront bytes (request_header header) rest → IsHeader header → known_kind header.kind ≡ kind → typed_request header.xid kind rest ≡ Ok request → IsRequestOf bytes request
unfolding request_of
typed_takes bytes header None rest request took is known e = absurd cc
typed_takes bytes header (Some kind) rest request took is known e =
    let read = request_by_is header.xid (whole (body_at kind rest)) request e in
    let body = body_takes kind rest (request.body, []) took.rest_fits (whole_ok (body_at kind rest) request.body read.0) in
    let typed : header.kind ≡ kind_of request.body = kind_known header.kind kind known ∙ sym body.typed in
    let both = took_all bytes (request_header header ++ body_of request.body) (TakesFront-then bytes (request_header header) rest (body_of request.body) [] took body.took) in
    let number : bytes ≡ request_header (record { xid = request.xid; kind = header.kind }) ++ body_of request.body = subst (λ (z : ℤ). bytes ≡ request_header (record { xid = z; kind = header.kind }) ++ body_of request.body) read.1 both in
    record {
      fits = record { xid = subst (FitsSigned w32) read.1 is.xid; body = body.fits };
      encoded = subst (λ (k : ℤ). bytes ≡ request_header (record { xid = request.xid; kind = k }) ++ body_of request.body) typed number;
    }

after_takes : (bytes : List ℕ) (header : Result (RequestHeader × List ℕ) JuteFault) (request : ClientRequest) → IsBytes bytes → header_at bytes ≡ header → request_after header ≡ Ok request → IsRequestOf bytes request
after_takes bytes (Ok x) request fits h e =
    let took = header_field.takes bytes x fits h in
    typed_takes bytes x.0 (known_kind x.0.kind) x.1 request took.0 took.1 refl e
after_takes bytes (Err fault) request fits h e = absurd cc

all_takes : (bytes : List ℕ) (request : ClientRequest) → IsBytes bytes → request_in bytes ≡ Ok request → IsRequestOf bytes request
all_takes bytes request fits e = after_takes bytes (header_at bytes) request fits refl e

-- the header of a request, and what follows it
header_again : (request : ClientRequest) (rest : List ℕ) → IsRequest request → header_at (request_of request ++ rest) ≡ Ok (header_of request, body_of request.body ++ rest)
unfolding request_of
header_again request rest is =
    ap header_at (append_assoc (request_header (header_of request)) (body_of request.body) rest)
    ∙ header_field.again (header_of request) (body_of request.body ++ rest) (record { xid = is.xid; kind = kind_fits request.body })

alone : (request : ClientRequest) → IsRequest request → header_at (request_of request) ≡ Ok (header_of request, body_of request.body)
alone request is =
    ap header_at (sym (append-nil (request_of request))) ∙ header_again request [] is ∙ ap (λ (rest : List ℕ). Ok (header_of request, rest)) (append-nil (body_of request.body))

pub all_again : (bytes : List ℕ) (request : ClientRequest) → IsRequestOf bytes request → request_in bytes ≡ Ok request
all_again bytes request is =
    ap request_in is.encoded ∙ rw (alone request is.fits, type_known request.body, whole_again request.body is.fits.body) refl

pub all_trails : (bytes front rest : List ℕ) (request : ClientRequest) → IsRequestOf front request → bytes ≡ front ++ rest → rest ≢ [] → request_in bytes ≡ Err (request_faults.Body request.xid faults.Trailing)
all_trails bytes front rest request is parts some =
    let filled : eqb (length rest) 0 ≡ false = ne_eqb (length rest) 0 (λ e. some (nil_from_length rest e)) in
    ap request_in (parts ∙ ap (λ (xs : List ℕ). xs ++ rest) is.encoded)
    ∙ rw (header_again request rest is.fits, type_known request.body, body_again request.body rest is.fits.body, filled) refl

pub is_found : (bytes : List ℕ) (result : Result ClientRequest RequestFault) → IsBytes bytes → IsRead result (request_in bytes) → IfOk result (λ request. IsRequestOf bytes request)
is_found bytes (Ok request) fits given = all_takes bytes request fits given
is_found bytes (Err fault) fits given = tt

-- ---- what the code reads

pub is_unknown : (bytes : List ℕ) (header : RequestHeader) (rest : List ℕ) → header_at bytes ≡ Ok (header, rest) → known_kind header.kind ≡ None → request_in bytes ≡ Err (request_faults.Type header.xid)
is_unknown bytes header rest h k = rw (h, k) refl

pub is_whole : (bytes : List ℕ) (header : RequestHeader) (rest : List ℕ) (kind : RequestKind) (body : RequestBody) → header_at bytes ≡ Ok (header, rest) → known_kind header.kind ≡ Some kind → whole (body_at kind rest) ≡ Ok body → request_in bytes ≡ Ok (record { xid = header.xid; body = body })
is_whole bytes header rest kind body h k read = rw (h, k, read) refl

unreadable_by : (xid : ℤ) (fault : JuteFault) (read : Result RequestBody JuteFault) → Fails fault read → IsRead (Err (unreadable xid fault)) (request_by xid read)
unreadable_by xid faults.NoMemory read fails = tt
unreadable_by xid fault read fails = ap (request_by xid) fails

pub is_unreadable : (bytes : List ℕ) (header : RequestHeader) (rest : List ℕ) (kind : RequestKind) (fault : JuteFault) → header_at bytes ≡ Ok (header, rest) → known_kind header.kind ≡ Some kind → Fails fault (whole (body_at kind rest)) → IsRead (Err (unreadable header.xid fault)) (request_in bytes)
is_unreadable bytes header rest kind fault h k fails =
    let same : request_by header.xid (whole (body_at kind rest)) ≡ request_in bytes = sym (rw (h, k) refl) in
    subst (λ (read : Result ClientRequest RequestFault). IsRead (Err (unreadable header.xid fault)) read) same (unreadable_by header.xid fault (whole (body_at kind rest)) fails)
