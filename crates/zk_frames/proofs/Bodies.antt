-- Records of requests: reading is the inverse of writing.
use Rattle.std.proofs.Common.{◌≡◌, ℕ, List, ◌++◌, Ok, refl, ap, ◌∙◌}
use Rattle.std.specs.Prelude.{FitsSigned}
use Rattle.std.specs.Int.{w32}
use Rattle.zk_frames.specs.declared.records.AuthPacket.{AuthPacket}
use Rattle.zk_frames.specs.declared.records.CreateRequest.{CreateRequest}
use Rattle.zk_frames.specs.declared.records.DeleteRequest.{DeleteRequest}
use Rattle.zk_frames.specs.declared.records.PathRequest.{PathRequest}
use Rattle.zk_frames.specs.declared.records.RemoveWatchesRequest.{RemoveWatchesRequest}
use Rattle.zk_frames.specs.declared.records.RequestHeader.{RequestHeader}
use Rattle.zk_frames.specs.declared.records.SetAclRequest.{SetAclRequest}
use Rattle.zk_frames.specs.declared.records.SetDataRequest.{SetDataRequest}
use Rattle.zk_frames.specs.declared.records.SetWatches.{SetWatches}
use Rattle.zk_jute.specs.Reading.{◌>>=◌, number_at, text_at, content_at, boolean_at, vector_at}
use Rattle.zk_jute.proofs.Numbers.{IsBytes, TakesFront, TakesFront-then, IsField, first_read, at_ok}
use Rattle.zk_jute.proofs.Texts.{int_field, long_field, text_field, content_field, boolean_field}
use Rattle.zk_records.specs.Records.{int, long, boolean, ustring, buffer, vector}
use Rattle.zk_frames.specs.Reading.{acl_records_at, header_at, create_at, delete_at, path_request_at, set_data_at, set_acl_at, remove_watches_at, auth_at, set_watches_at}
use Rattle.zk_frames.specs.Requests.{acl_records, create_request, delete_request, path_request, set_data_request, set_acl_request, remove_watches_request, auth_packet, set_watches, request_header, IsCreate, IsDelete, IsPathRequest, IsSetData, IsSetAcl, IsRemoveWatches, IsAuth, IsSetWatches}
use Rattle.zk_frames.proofs.Nulls.{regroup2, regroup3, regroup4, texts_field, acl_records_field}

-- ---- headers

pub record IsHeader (h : RequestHeader) : Type 0 where
  pub xid : FitsSigned w32 h.xid
  pub kind : FitsSigned w32 h.kind

header_takes : (bytes : List ℕ) (x : RequestHeader × List ℕ) → IsBytes bytes → header_at bytes ≡ Ok x → TakesFront bytes (request_header x.0) x.1 × IsHeader x.0
unfolding header_at
header_takes bytes x fits e =
    let a = first_read _ _ _ int_field bytes (λ xid. number_at w32 xid.1 >>= λ kind. Ok (record { xid = xid.0; kind = kind.0 }, kind.1)) x fits e in
    let b = first_read _ _ _ int_field a.got.1 (λ kind. Ok (record { xid = a.got.0; kind = kind.0 }, kind.1)) x a.took.rest_fits a.goes in
    let all = TakesFront-then bytes (int a.got.0) a.got.1 (int b.got.0) b.got.1 a.took b.took in
    let made : RequestHeader × List ℕ = (record { xid = a.got.0; kind = b.got.0 }, b.got.1) in
    at_ok (λ (y : RequestHeader × List ℕ). TakesFront bytes (request_header y.0) y.1 × IsHeader y.0) made x b.goes (all, record { xid = a.fits; kind = b.fits })

header_again : (h : RequestHeader) (rest : List ℕ) → IsHeader h → header_at (request_header h ++ rest) ≡ Ok (h, rest)
unfolding header_at
header_again h rest is =
    ap header_at (regroup2 (int h.xid) (int h.kind) rest)
    ∙ rw (
      int_field.again h.xid (int h.kind ++ rest) is.xid,
      int_field.again h.kind rest is.kind,
    ) refl

pub header_field : IsField header_at request_header IsHeader
header_field = record { takes = header_takes; again = header_again }

create_takes : (bytes : List ℕ) (x : CreateRequest × List ℕ) → IsBytes bytes → create_at bytes ≡ Ok x → TakesFront bytes (create_request x.0) x.1 × IsCreate x.0
unfolding create_at
create_takes bytes x fits e =
    let a = first_read _ _ _ text_field bytes (λ path. content_at path.1 >>= λ content. acl_records_at content.1 >>= λ acl. number_at w32 acl.1 >>= λ flags. Ok (record { path = path.0; content = content.0; acl = acl.0; flags = flags.0 }, flags.1)) x fits e in
    let b = first_read _ _ _ content_field a.got.1 (λ content. acl_records_at content.1 >>= λ acl. number_at w32 acl.1 >>= λ flags. Ok (record { path = a.got.0; content = content.0; acl = acl.0; flags = flags.0 }, flags.1)) x a.took.rest_fits a.goes in
    let c = first_read _ _ _ acl_records_field b.got.1 (λ acl. number_at w32 acl.1 >>= λ flags. Ok (record { path = a.got.0; content = b.got.0; acl = acl.0; flags = flags.0 }, flags.1)) x b.took.rest_fits b.goes in
    let d = first_read _ _ _ int_field c.got.1 (λ flags. Ok (record { path = a.got.0; content = b.got.0; acl = c.got.0; flags = flags.0 }, flags.1)) x c.took.rest_fits c.goes in
    let ab = TakesFront-then bytes (ustring a.got.0) a.got.1 (buffer b.got.0) b.got.1 a.took b.took in
    let abc = TakesFront-then bytes (ustring a.got.0 ++ buffer b.got.0) b.got.1 (acl_records c.got.0) c.got.1 ab c.took in
    let all = TakesFront-then bytes (ustring a.got.0 ++ buffer b.got.0 ++ acl_records c.got.0) c.got.1 (int d.got.0) d.got.1 abc d.took in
    let made : CreateRequest × List ℕ = (record { path = a.got.0; content = b.got.0; acl = c.got.0; flags = d.got.0 }, d.got.1) in
    at_ok (λ (y : CreateRequest × List ℕ). TakesFront bytes (create_request y.0) y.1 × IsCreate y.0) made x d.goes (all, (a.fits, b.fits, c.fits, d.fits))

create_again : (r : CreateRequest) (rest : List ℕ) → IsCreate r → create_at (create_request r ++ rest) ≡ Ok (r, rest)
unfolding create_at
create_again r rest is =
    ap create_at (regroup4 (ustring r.path) (buffer r.content) (acl_records r.acl) (int r.flags) rest)
    ∙ rw (
      text_field.again r.path (buffer r.content ++ (acl_records r.acl ++ (int r.flags ++ rest))) is.0,
      content_field.again r.content (acl_records r.acl ++ (int r.flags ++ rest)) is.1,
      acl_records_field.again r.acl (int r.flags ++ rest) is.2,
      int_field.again r.flags rest is.3,
    ) refl

pub create_field : IsField create_at create_request IsCreate
create_field = record { takes = create_takes; again = create_again }

delete_takes : (bytes : List ℕ) (x : DeleteRequest × List ℕ) → IsBytes bytes → delete_at bytes ≡ Ok x → TakesFront bytes (delete_request x.0) x.1 × IsDelete x.0
unfolding delete_at
delete_takes bytes x fits e =
    let a = first_read _ _ _ text_field bytes (λ path. number_at w32 path.1 >>= λ version. Ok (record { path = path.0; version = version.0 }, version.1)) x fits e in
    let b = first_read _ _ _ int_field a.got.1 (λ version. Ok (record { path = a.got.0; version = version.0 }, version.1)) x a.took.rest_fits a.goes in
    let all = TakesFront-then bytes (ustring a.got.0) a.got.1 (int b.got.0) b.got.1 a.took b.took in
    let made : DeleteRequest × List ℕ = (record { path = a.got.0; version = b.got.0 }, b.got.1) in
    at_ok (λ (y : DeleteRequest × List ℕ). TakesFront bytes (delete_request y.0) y.1 × IsDelete y.0) made x b.goes (all, (a.fits, b.fits))

delete_again : (r : DeleteRequest) (rest : List ℕ) → IsDelete r → delete_at (delete_request r ++ rest) ≡ Ok (r, rest)
unfolding delete_at
delete_again r rest is =
    ap delete_at (regroup2 (ustring r.path) (int r.version) rest)
    ∙ rw (
      text_field.again r.path (int r.version ++ rest) is.0,
      int_field.again r.version rest is.1,
    ) refl

pub delete_field : IsField delete_at delete_request IsDelete
delete_field = record { takes = delete_takes; again = delete_again }

path_request_takes : (bytes : List ℕ) (x : PathRequest × List ℕ) → IsBytes bytes → path_request_at bytes ≡ Ok x → TakesFront bytes (path_request x.0) x.1 × IsPathRequest x.0
unfolding path_request_at
path_request_takes bytes x fits e =
    let a = first_read _ _ _ text_field bytes (λ path. boolean_at path.1 >>= λ watch. Ok (record { path = path.0; watch = watch.0 }, watch.1)) x fits e in
    let b = first_read _ _ _ boolean_field a.got.1 (λ watch. Ok (record { path = a.got.0; watch = watch.0 }, watch.1)) x a.took.rest_fits a.goes in
    let all = TakesFront-then bytes (ustring a.got.0) a.got.1 (boolean b.got.0) b.got.1 a.took b.took in
    let made : PathRequest × List ℕ = (record { path = a.got.0; watch = b.got.0 }, b.got.1) in
    at_ok (λ (y : PathRequest × List ℕ). TakesFront bytes (path_request y.0) y.1 × IsPathRequest y.0) made x b.goes (all, a.fits)

path_request_again : (r : PathRequest) (rest : List ℕ) → IsPathRequest r → path_request_at (path_request r ++ rest) ≡ Ok (r, rest)
unfolding path_request_at
path_request_again r rest is =
    ap path_request_at (regroup2 (ustring r.path) (boolean r.watch) rest)
    ∙ rw (
      text_field.again r.path (boolean r.watch ++ rest) is,
      boolean_field.again r.watch rest tt,
    ) refl

pub path_request_field : IsField path_request_at path_request IsPathRequest
path_request_field = record { takes = path_request_takes; again = path_request_again }

set_data_takes : (bytes : List ℕ) (x : SetDataRequest × List ℕ) → IsBytes bytes → set_data_at bytes ≡ Ok x → TakesFront bytes (set_data_request x.0) x.1 × IsSetData x.0
unfolding set_data_at
set_data_takes bytes x fits e =
    let a = first_read _ _ _ text_field bytes (λ path. content_at path.1 >>= λ content. number_at w32 content.1 >>= λ version. Ok (record { path = path.0; content = content.0; version = version.0 }, version.1)) x fits e in
    let b = first_read _ _ _ content_field a.got.1 (λ content. number_at w32 content.1 >>= λ version. Ok (record { path = a.got.0; content = content.0; version = version.0 }, version.1)) x a.took.rest_fits a.goes in
    let c = first_read _ _ _ int_field b.got.1 (λ version. Ok (record { path = a.got.0; content = b.got.0; version = version.0 }, version.1)) x b.took.rest_fits b.goes in
    let ab = TakesFront-then bytes (ustring a.got.0) a.got.1 (buffer b.got.0) b.got.1 a.took b.took in
    let all = TakesFront-then bytes (ustring a.got.0 ++ buffer b.got.0) b.got.1 (int c.got.0) c.got.1 ab c.took in
    let made : SetDataRequest × List ℕ = (record { path = a.got.0; content = b.got.0; version = c.got.0 }, c.got.1) in
    at_ok (λ (y : SetDataRequest × List ℕ). TakesFront bytes (set_data_request y.0) y.1 × IsSetData y.0) made x c.goes (all, (a.fits, b.fits, c.fits))

set_data_again : (r : SetDataRequest) (rest : List ℕ) → IsSetData r → set_data_at (set_data_request r ++ rest) ≡ Ok (r, rest)
unfolding set_data_at
set_data_again r rest is =
    ap set_data_at (regroup3 (ustring r.path) (buffer r.content) (int r.version) rest)
    ∙ rw (
      text_field.again r.path (buffer r.content ++ (int r.version ++ rest)) is.0,
      content_field.again r.content (int r.version ++ rest) is.1,
      int_field.again r.version rest is.2,
    ) refl

pub set_data_field : IsField set_data_at set_data_request IsSetData
set_data_field = record { takes = set_data_takes; again = set_data_again }

set_acl_takes : (bytes : List ℕ) (x : SetAclRequest × List ℕ) → IsBytes bytes → set_acl_at bytes ≡ Ok x → TakesFront bytes (set_acl_request x.0) x.1 × IsSetAcl x.0
unfolding set_acl_at
set_acl_takes bytes x fits e =
    let a = first_read _ _ _ text_field bytes (λ path. acl_records_at path.1 >>= λ acl. number_at w32 acl.1 >>= λ version. Ok (record { path = path.0; acl = acl.0; version = version.0 }, version.1)) x fits e in
    let b = first_read _ _ _ acl_records_field a.got.1 (λ acl. number_at w32 acl.1 >>= λ version. Ok (record { path = a.got.0; acl = acl.0; version = version.0 }, version.1)) x a.took.rest_fits a.goes in
    let c = first_read _ _ _ int_field b.got.1 (λ version. Ok (record { path = a.got.0; acl = b.got.0; version = version.0 }, version.1)) x b.took.rest_fits b.goes in
    let ab = TakesFront-then bytes (ustring a.got.0) a.got.1 (acl_records b.got.0) b.got.1 a.took b.took in
    let all = TakesFront-then bytes (ustring a.got.0 ++ acl_records b.got.0) b.got.1 (int c.got.0) c.got.1 ab c.took in
    let made : SetAclRequest × List ℕ = (record { path = a.got.0; acl = b.got.0; version = c.got.0 }, c.got.1) in
    at_ok (λ (y : SetAclRequest × List ℕ). TakesFront bytes (set_acl_request y.0) y.1 × IsSetAcl y.0) made x c.goes (all, (a.fits, b.fits, c.fits))

set_acl_again : (r : SetAclRequest) (rest : List ℕ) → IsSetAcl r → set_acl_at (set_acl_request r ++ rest) ≡ Ok (r, rest)
unfolding set_acl_at
set_acl_again r rest is =
    ap set_acl_at (regroup3 (ustring r.path) (acl_records r.acl) (int r.version) rest)
    ∙ rw (
      text_field.again r.path (acl_records r.acl ++ (int r.version ++ rest)) is.0,
      acl_records_field.again r.acl (int r.version ++ rest) is.1,
      int_field.again r.version rest is.2,
    ) refl

pub set_acl_field : IsField set_acl_at set_acl_request IsSetAcl
set_acl_field = record { takes = set_acl_takes; again = set_acl_again }

remove_watches_takes : (bytes : List ℕ) (x : RemoveWatchesRequest × List ℕ) → IsBytes bytes → remove_watches_at bytes ≡ Ok x → TakesFront bytes (remove_watches_request x.0) x.1 × IsRemoveWatches x.0
unfolding remove_watches_at
remove_watches_takes bytes x fits e =
    let a = first_read _ _ _ text_field bytes (λ path. number_at w32 path.1 >>= λ kind. Ok (record { path = path.0; kind = kind.0 }, kind.1)) x fits e in
    let b = first_read _ _ _ int_field a.got.1 (λ kind. Ok (record { path = a.got.0; kind = kind.0 }, kind.1)) x a.took.rest_fits a.goes in
    let all = TakesFront-then bytes (ustring a.got.0) a.got.1 (int b.got.0) b.got.1 a.took b.took in
    let made : RemoveWatchesRequest × List ℕ = (record { path = a.got.0; kind = b.got.0 }, b.got.1) in
    at_ok (λ (y : RemoveWatchesRequest × List ℕ). TakesFront bytes (remove_watches_request y.0) y.1 × IsRemoveWatches y.0) made x b.goes (all, (a.fits, b.fits))

remove_watches_again : (r : RemoveWatchesRequest) (rest : List ℕ) → IsRemoveWatches r → remove_watches_at (remove_watches_request r ++ rest) ≡ Ok (r, rest)
unfolding remove_watches_at
remove_watches_again r rest is =
    ap remove_watches_at (regroup2 (ustring r.path) (int r.kind) rest)
    ∙ rw (
      text_field.again r.path (int r.kind ++ rest) is.0,
      int_field.again r.kind rest is.1,
    ) refl

pub remove_watches_field : IsField remove_watches_at remove_watches_request IsRemoveWatches
remove_watches_field = record { takes = remove_watches_takes; again = remove_watches_again }

auth_takes : (bytes : List ℕ) (x : AuthPacket × List ℕ) → IsBytes bytes → auth_at bytes ≡ Ok x → TakesFront bytes (auth_packet x.0) x.1 × IsAuth x.0
unfolding auth_at
auth_takes bytes x fits e =
    let a = first_read _ _ _ int_field bytes (λ kind. text_at kind.1 >>= λ scheme. content_at scheme.1 >>= λ auth. Ok (record { kind = kind.0; scheme = scheme.0; auth = auth.0 }, auth.1)) x fits e in
    let b = first_read _ _ _ text_field a.got.1 (λ scheme. content_at scheme.1 >>= λ auth. Ok (record { kind = a.got.0; scheme = scheme.0; auth = auth.0 }, auth.1)) x a.took.rest_fits a.goes in
    let c = first_read _ _ _ content_field b.got.1 (λ auth. Ok (record { kind = a.got.0; scheme = b.got.0; auth = auth.0 }, auth.1)) x b.took.rest_fits b.goes in
    let ab = TakesFront-then bytes (int a.got.0) a.got.1 (ustring b.got.0) b.got.1 a.took b.took in
    let all = TakesFront-then bytes (int a.got.0 ++ ustring b.got.0) b.got.1 (buffer c.got.0) c.got.1 ab c.took in
    let made : AuthPacket × List ℕ = (record { kind = a.got.0; scheme = b.got.0; auth = c.got.0 }, c.got.1) in
    at_ok (λ (y : AuthPacket × List ℕ). TakesFront bytes (auth_packet y.0) y.1 × IsAuth y.0) made x c.goes (all, (a.fits, b.fits, c.fits))

auth_again : (r : AuthPacket) (rest : List ℕ) → IsAuth r → auth_at (auth_packet r ++ rest) ≡ Ok (r, rest)
unfolding auth_at
auth_again r rest is =
    ap auth_at (regroup3 (int r.kind) (ustring r.scheme) (buffer r.auth) rest)
    ∙ rw (
      int_field.again r.kind (ustring r.scheme ++ (buffer r.auth ++ rest)) is.0,
      text_field.again r.scheme (buffer r.auth ++ rest) is.1,
      content_field.again r.auth rest is.2,
    ) refl

pub auth_field : IsField auth_at auth_packet IsAuth
auth_field = record { takes = auth_takes; again = auth_again }

set_watches_takes : (bytes : List ℕ) (x : SetWatches × List ℕ) → IsBytes bytes → set_watches_at bytes ≡ Ok x → TakesFront bytes (set_watches x.0) x.1 × IsSetWatches x.0
unfolding set_watches_at
set_watches_takes bytes x fits e =
    let a = first_read _ _ _ long_field bytes (λ relative_zxid. vector_at text_at relative_zxid.1 >>= λ data_watches. vector_at text_at data_watches.1 >>= λ exist_watches. vector_at text_at exist_watches.1 >>= λ child_watches. Ok (record { relative_zxid = relative_zxid.0; data_watches = data_watches.0; exist_watches = exist_watches.0; child_watches = child_watches.0 }, child_watches.1)) x fits e in
    let b = first_read _ _ _ texts_field a.got.1 (λ data_watches. vector_at text_at data_watches.1 >>= λ exist_watches. vector_at text_at exist_watches.1 >>= λ child_watches. Ok (record { relative_zxid = a.got.0; data_watches = data_watches.0; exist_watches = exist_watches.0; child_watches = child_watches.0 }, child_watches.1)) x a.took.rest_fits a.goes in
    let c = first_read _ _ _ texts_field b.got.1 (λ exist_watches. vector_at text_at exist_watches.1 >>= λ child_watches. Ok (record { relative_zxid = a.got.0; data_watches = b.got.0; exist_watches = exist_watches.0; child_watches = child_watches.0 }, child_watches.1)) x b.took.rest_fits b.goes in
    let d = first_read _ _ _ texts_field c.got.1 (λ child_watches. Ok (record { relative_zxid = a.got.0; data_watches = b.got.0; exist_watches = c.got.0; child_watches = child_watches.0 }, child_watches.1)) x c.took.rest_fits c.goes in
    let ab = TakesFront-then bytes (long a.got.0) a.got.1 (vector ustring b.got.0) b.got.1 a.took b.took in
    let abc = TakesFront-then bytes (long a.got.0 ++ vector ustring b.got.0) b.got.1 (vector ustring c.got.0) c.got.1 ab c.took in
    let all = TakesFront-then bytes (long a.got.0 ++ vector ustring b.got.0 ++ vector ustring c.got.0) c.got.1 (vector ustring d.got.0) d.got.1 abc d.took in
    let made : SetWatches × List ℕ = (record { relative_zxid = a.got.0; data_watches = b.got.0; exist_watches = c.got.0; child_watches = d.got.0 }, d.got.1) in
    at_ok (λ (y : SetWatches × List ℕ). TakesFront bytes (set_watches y.0) y.1 × IsSetWatches y.0) made x d.goes (all, (a.fits, b.fits, c.fits, d.fits))

set_watches_again : (r : SetWatches) (rest : List ℕ) → IsSetWatches r → set_watches_at (set_watches r ++ rest) ≡ Ok (r, rest)
unfolding set_watches_at
set_watches_again r rest is =
    ap set_watches_at (regroup4 (long r.relative_zxid) (vector ustring r.data_watches) (vector ustring r.exist_watches) (vector ustring r.child_watches) rest)
    ∙ rw (
      long_field.again r.relative_zxid (vector ustring r.data_watches ++ (vector ustring r.exist_watches ++ (vector ustring r.child_watches ++ rest))) is.0,
      texts_field.again r.data_watches (vector ustring r.exist_watches ++ (vector ustring r.child_watches ++ rest)) is.1,
      texts_field.again r.exist_watches (vector ustring r.child_watches ++ rest) is.2,
      texts_field.again r.child_watches rest is.3,
    ) refl

pub set_watches_field : IsField set_watches_at set_watches IsSetWatches
set_watches_field = record { takes = set_watches_takes; again = set_watches_again }
