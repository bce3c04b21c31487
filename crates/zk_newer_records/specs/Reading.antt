-- Reading a 3.5 to 3.8 server's record from left to right, up to the first fault.
use Rattle.std.specs.Prelude.{◌≡◌, ℕ, ℤ, pos, negsuc, List, [], ◌∷◌, Bool, false, length, map, Option, Some, None, Result, Ok, Err, ◌==◌, if◌then◌else◌}
use Rattle.std.specs.Int.{w32, w64}
use Rattle.std.specs.Ordering.{int_eq}
use Rattle.zk_acl.specs.declared.acl.Acl.{Acl}
use Rattle.zk_jute.specs.declared.fault.JuteFault.{JuteFault}
use Rattle.zk_jute.specs.declared.fault.JuteFault.TheVariants as faults
use Rattle.zk_jute.specs.declared.bodies.CreateTxn.{CreateTxn}
use Rattle.zk_jute.specs.Reading.{◌>>=◌, number_at, counted_at, path_at, content_at, boolean_at, acl_at, vector_at, create_at, set_data_at, check_at, made_of, whole, create_part, create_op, set_data_part, set_data_op, op_at, header_at}
use Rattle.zk_newer_records.specs.NewerRecords.{tells_why}
use Rattle.zk_newer_records.specs.declared.fault.NewerFault.{NewerFault}
use Rattle.zk_newer_records.specs.declared.fault.NewerFault.TheVariants as newer_faults
use Rattle.zk_newer_records.specs.declared.newer_record.NewerRecord.{NewerRecord}
use Rattle.zk_newer_records.specs.declared.newer_record.Encoding.{Encoding}
use Rattle.zk_newer_records.specs.declared.newer_record.Encoding.TheVariants as forms
use Rattle.zk_newer_records.specs.declared.operations.EncodedOp.{EncodedOp}
use Rattle.zk_newer_records.specs.declared.parts.PartEncoding.{PartEncoding}
use Rattle.zk_newer_records.specs.declared.parts.PartEncoding.TheVariants as parts
use Rattle.zk_newer_records.specs.declared.parts.NewerPart.{NewerPart}
use Rattle.zk_table.specs.declared.txn.Op.{Op}
use Rattle.zk_table.specs.declared.txn.Op.TheVariants as ops
use Rattle.zk_table.specs.declared.sub.Sub.{Sub}
use Rattle.zk_table.specs.declared.sub.Sub.TheVariants as subs

-- ---- bodies

abbrev pub plain_create : List ℕ → Option (List ℕ) → List Acl → Bool → ℤ → CreateTxn
plain_create path content acl ephemeral count = record { front = record { path = path; content = content; acl = acl; ephemeral = ephemeral }; count = count }

-- a container's: no session owns the node
unfoldable pub container_at : List ℕ → Result (CreateTxn × List ℕ) JuteFault
container_at bytes = do
  path ← path_at bytes
  content ← content_at path.1
  acl ← vector_at acl_at content.1
  count ← number_at w32 acl.1
  Ok (plain_create path.0 content.0 acl.0 false count.0, count.1)

-- ---- parts of a multi

abbrev pub part_with : PartEncoding → Sub → NewerPart
part_with form sub = record { sub = sub; form = form }

-- a part after which the time to live follows
unfoldable pub ttl_part_at : (ℤ → PartEncoding) → List ℕ → Result (NewerPart × List ℕ) JuteFault
ttl_part_at form bytes = do
  body ← container_at bytes
  ttl ← number_at w64 body.1
  Ok (part_with (form ttl.0) (create_part body.0), ttl.1)

-- the request in an error that kept its body: a container's create has only a count after its
-- access control list
unfoldable pub kept_container_at : List ℕ → Option (List ℕ) → List Acl → List ℕ → Result (NewerPart × List ℕ) JuteFault
kept_container_at path content acl rest = do
  count ← number_at w32 rest
  Ok (part_with parts.KeptContainer (create_part (plain_create path content acl false count.0)), count.1)

-- a plain node's has a boolean before the count
unfoldable pub kept_plain_at : List ℕ → Option (List ℕ) → List Acl → List ℕ → Result (NewerPart × List ℕ) JuteFault
kept_plain_at path content acl rest = do
  ephemeral ← boolean_at rest
  count ← number_at w32 ephemeral.1
  Ok (part_with parts.Kept (create_part (plain_create path content acl ephemeral.0 count.0)), count.1)

-- that of a node with a time to live has the milliseconds after the count
unfoldable pub kept_ttl_at : List ℕ → Option (List ℕ) → List Acl → List ℕ → Result (NewerPart × List ℕ) JuteFault
kept_ttl_at path content acl rest = do
  count ← number_at w32 rest
  ttl ← number_at w64 count.1
  Ok (part_with (parts.KeptTtl ttl.0) (create_part (plain_create path content acl false count.0)), ttl.1)

-- the number of remaining bytes decides between them
unfoldable pub kept_create_at : List ℕ → Option (List ℕ) → List Acl → List ℕ → Result (NewerPart × List ℕ) JuteFault
kept_create_at path content acl rest = if length rest == 4 then kept_container_at path content acl rest else (if length rest == 5 then kept_plain_at path content acl rest else kept_ttl_at path content acl rest)

-- after its content
unfoldable pub kept_content_at : List ℕ → Option (List ℕ) → List ℕ → Result (NewerPart × List ℕ) JuteFault
kept_content_at path content rest = if length rest == 4 then (do
  version ← number_at w32 rest
  Ok (part_with parts.Kept (subs.SetData path content version.0), version.1)) else (do
    acl ← vector_at acl_at rest
    kept_create_at path content acl.0 acl.1)

-- after its path
unfoldable pub kept_path_at : List ℕ → List ℕ → Result (NewerPart × List ℕ) JuteFault
kept_path_at path rest = if length rest == 0 then Ok (part_with parts.Kept (subs.Delete path), rest) else (if length rest == 4 then (do
  version ← number_at w32 rest
  Ok (part_with parts.Kept (subs.Check path version.0), version.1)) else (do
    content ← content_at rest
    kept_content_at path content.0 content.1))

-- exactly four bytes are an error's code, since no path is empty
unfoldable pub error_at : List ℕ → Result (NewerPart × List ℕ) JuteFault
error_at bytes = if length bytes == 4 then made_of (λ code. part_with parts.Own (subs.Error code)) (number_at w32 bytes) else (do
  path ← path_at bytes
  kept_path_at path.0 path.1)

-- the body for a type
unfoldable pub newer_body_at : ℤ → List ℕ → Result (NewerPart × List ℕ) JuteFault
newer_body_at kind bytes = if int_eq kind (pos 1) then made_of (λ body. part_with parts.Own (create_part body)) (create_at bytes) else (if int_eq kind (pos 2) then made_of (λ path. part_with parts.Own (subs.Delete path)) (path_at bytes) else (if int_eq kind (pos 5) then made_of (λ body. part_with parts.Own (set_data_part body)) (set_data_at bytes) else (if int_eq kind (pos 13) then made_of (part_with parts.Own) (check_at bytes) else (if int_eq kind (pos 19) then made_of (λ body. part_with parts.Container (create_part body)) (container_at bytes) else (if int_eq kind (pos 20) then made_of (λ path. part_with parts.DeletedContainer (subs.Delete path)) (path_at bytes) else (if int_eq kind (pos 21) then ttl_part_at parts.Ttl bytes else (if int_eq kind (negsuc 0) then error_at bytes else Err faults.Kind)))))))

-- the body is read inside its buffer
unfoldable pub newer_part_at : List ℕ → Result (NewerPart × List ℕ) JuteFault
newer_part_at bytes = do
  kind ← number_at w32 bytes
  body ← counted_at kind.1
  part ← whole (newer_body_at kind.0 body.0)
  Ok (part, body.1)

-- ---- operations

abbrev pub with_form : Encoding → Op → EncodedOp
with_form form op = record { op = op; form = form }

abbrev pub sub_of : NewerPart → Sub
sub_of part = part.sub

abbrev pub form_of : NewerPart → PartEncoding
form_of part = part.form

abbrev pub multi_of : List NewerPart → EncodedOp
multi_of read = with_form (forms.Parts (map form_of read)) (ops.Multi (map sub_of read))

abbrev pub check_alone : Sub → EncodedOp
check_alone check = with_form forms.CheckAlone (ops.Multi (check ∷ []))

unfoldable pub ttl_at : List ℕ → Result (EncodedOp × List ℕ) JuteFault
ttl_at bytes = do
  body ← container_at bytes
  ttl ← number_at w64 body.1
  Ok (with_form (forms.Ttl ttl.0) (create_op body.0), ttl.1)

abbrev pub bare_close : List ℕ → Result (EncodedOp × List ℕ) JuteFault
bare_close bytes = Ok (with_form forms.Own ops.CloseSession, bytes)

unfoldable pub listing_close_at : List ℕ → Result (EncodedOp × List ℕ) JuteFault
listing_close_at bytes = made_of (λ listed. with_form (forms.ClosePaths listed) ops.CloseSession) (vector_at path_at bytes)

-- twelve bytes that start with a 2 are a digest, since two paths need more
unfoldable pub close_at : List ℕ → Result (EncodedOp × List ℕ) JuteFault
close_at bytes = if length bytes == 0 then bare_close bytes else (if length bytes == 12 then (do
  version ← number_at w32 bytes
  if int_eq version.0 (pos 2) then bare_close bytes else listing_close_at bytes) else listing_close_at bytes)

-- the body for a type
unfoldable pub written_at : ℤ → List ℕ → Result (EncodedOp × List ℕ) JuteFault
written_at kind bytes = if int_eq kind (pos 13) then made_of check_alone (check_at bytes) else (if int_eq kind (pos 14) then made_of multi_of (vector_at newer_part_at bytes) else (if int_eq kind (pos 15) then made_of (λ body. with_form forms.Create2 (create_op body)) (create_at bytes) else (if int_eq kind (pos 16) then made_of (λ body. with_form forms.Reconfig (set_data_op body)) (set_data_at bytes) else (if int_eq kind (pos 19) then made_of (λ body. with_form forms.Container (create_op body)) (container_at bytes) else (if int_eq kind (pos 20) then made_of (λ path. with_form forms.DeletedContainer (ops.Delete path)) (path_at bytes) else (if int_eq kind (pos 21) then ttl_at bytes else (if int_eq kind (negsuc 10) then close_at bytes else made_of (with_form forms.Own) (op_at kind bytes))))))))

-- ---- whole records

-- after a body: nothing, or a digest of version 2
unfoldable pub digest_at : List ℕ → Result (Option ℤ) JuteFault
digest_at bytes = if length bytes == 0 then Ok None else (do
  version ← number_at w32 bytes
  if int_eq version.0 (pos 2) then (do
    sum ← whole (number_at w64 version.1)
    Ok (Some sum)) else Err faults.Trailing)

unfoldable pub spelled_at : List ℕ → Result NewerRecord JuteFault
spelled_at bytes = do
  header ← header_at bytes
  written ← written_at header.0.kind header.1
  digest ← digest_at written.1
  Ok (record { txn = record { session = header.0.session; cxid = header.0.cxid; zxid = header.0.zxid; time = header.0.time; op = written.0.op }; form = written.0.form; digest = digest })

-- a record whose only fault is the missing error code has a fault of its own
abbrev pub with_reason : Result NewerRecord JuteFault → Result NewerRecord NewerFault
with_reason (Ok newer) = if tells_why newer then Ok newer else Err newer_faults.Reasonless
with_reason (Err fault) = Err newer_faults.Record

abbrev pub newer_of : List ℕ → Result NewerRecord NewerFault
newer_of bytes = with_reason (spelled_at bytes)

-- the result is that of the reading, except for an allocation failure
abbrev pub Answers : Result NewerRecord NewerFault → Result NewerRecord NewerFault → Type 0
Answers (Ok newer) read = read ≡ Ok newer
Answers (Err newer_faults.NoMemory) read = Unit {0}
Answers (Err fault) read = read ≡ Err fault
