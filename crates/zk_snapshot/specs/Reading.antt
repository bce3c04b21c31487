-- Reading a snapshot from left to right, with the first fault that is met.
use Rattle.std.specs.Prelude.{◌≡◌, ℕ, zero, suc, ◌-◌, ℤ, pos, List, [], ◌∷◌, ◌&&◌, Bool, length, take, Option, Some, None, is_none, Result, Ok, Err, ◌==◌, if◌then◌else◌}
use Rattle.std.specs.Int.{w32, w64}
use Rattle.std.specs.Ordering.{int_eq}
use Rattle.std.specs.Str.{bytes_eq}
use Rattle.zk_jute.specs.declared.fault.JuteFault.{JuteFault}
use Rattle.zk_jute.specs.declared.fault.JuteFault.TheVariants as faults
use Rattle.zk_jute.specs.Reading.{◌>>=◌, number_at, text_at, content_at, vector_at, acl_at, whole}
use Rattle.zk_path.specs.Paths.{fault_of}
use Rattle.zk_records.specs.Checksum.{adler_of}
use Rattle.zk_snapshot.specs.declared.snapshot.Access.{Access}
use Rattle.zk_snapshot.specs.declared.snapshot.Claim.{Claim}
use Rattle.zk_snapshot.specs.declared.snapshot.Contents.{Contents}
use Rattle.zk_snapshot.specs.declared.snapshot.Kept.{Kept}
use Rattle.zk_snapshot.specs.declared.snapshot.Lease.{Lease}
use Rattle.zk_snapshot.specs.declared.snapshot.Moments.{Moments}
use Rattle.zk_snapshot.specs.declared.snapshot.Snapshot.{Snapshot}
use Rattle.zk_snapshot.specs.declared.snapshot.Stored.{Stored}
use Rattle.zk_snapshot.specs.declared.snapshot.Versions.{Versions}
use Rattle.zk_snapshot.specs.Snapshots.{slash}

abbrev pub known_header : ℤ → ℤ → ℤ → List ℕ → Result (ℤ × List ℕ) JuteFault
known_header magic version dbid rest = if int_eq magic (pos 0x5a4b534e) && int_eq version (pos 2) then Ok (dbid, rest) else Err faults.Kind

unfoldable pub header_at : List ℕ → Result (ℤ × List ℕ) JuteFault
header_at bytes = do
  magic ← number_at w32 bytes
  version ← number_at w32 magic.1
  dbid ← number_at w64 version.1
  known_header magic.0 version.0 dbid.0 dbid.1

unfoldable pub lease_at : List ℕ → Result (Lease × List ℕ) JuteFault
lease_at bytes = do
  session ← number_at w64 bytes
  timeout ← number_at w32 session.1
  Ok (record { session = session.0; timeout = timeout.0 }, timeout.1)

unfoldable pub access_at : List ℕ → Result (Access × List ℕ) JuteFault
access_at bytes = do
  number ← number_at w64 bytes
  acl ← vector_at acl_at number.1
  Ok (record { number = number.0; acl = acl.0 }, acl.1)

unfoldable pub moments_at : List ℕ → Result (Moments × List ℕ) JuteFault
moments_at bytes = do
  czxid ← number_at w64 bytes
  mzxid ← number_at w64 czxid.1
  ctime ← number_at w64 mzxid.1
  mtime ← number_at w64 ctime.1
  Ok (record { czxid = czxid.0; mzxid = mzxid.0; ctime = ctime.0; mtime = mtime.0 }, mtime.1)

unfoldable pub versions_at : List ℕ → Result (Versions × List ℕ) JuteFault
versions_at bytes = do
  version ← number_at w32 bytes
  creates ← number_at w32 version.1
  aversion ← number_at w32 creates.1
  Ok (record { version = version.0; creates = creates.0; aversion = aversion.0 }, aversion.1)

unfoldable pub kept_at : List ℕ → Result (Kept × List ℕ) JuteFault
kept_at bytes = do
  content ← content_at bytes
  access ← number_at w64 content.1
  moments ← moments_at access.1
  versions ← versions_at moments.1
  owner ← number_at w64 versions.1
  pzxid ← number_at w64 owner.1
  Ok (record { content = content.0; access = access.0; moments = moments.0; versions = versions.0; owner = owner.0; pzxid = pzxid.0 }, pzxid.1)

-- the path of a text that is not "/": the root is written as the empty text
abbrev pub position_of : List ℕ → Result (List ℕ) JuteFault
position_of [] = Ok slash
position_of (b ∷ bs) = if is_none (fault_of (b ∷ bs)) then Ok (b ∷ bs) else Err faults.Path

unfoldable pub stored_at : List ℕ → List ℕ → Result (Option Stored × List ℕ) JuteFault
stored_at text bytes = do
  path ← position_of text
  kept ← kept_at bytes
  Ok (Some (record { path = path; kept = kept.0 }), kept.1)

-- the next node, or the end of the nodes
unfoldable pub next_at : List ℕ → Result (Option Stored × List ℕ) JuteFault
next_at bytes = do
  text ← text_at bytes
  if bytes_eq text.0 slash then Ok (None, text.1) else stored_at text.0 text.1

abbrev pub then_more : (List ℕ → Result (List Stored × List ℕ) JuteFault) → Option Stored → List ℕ → Result (List Stored × List ℕ) JuteFault
then_more more None rest = Ok ([], rest)
then_more more (Some node) rest = do
  others ← more rest
  Ok (node ∷ others.0, others.1)

-- nodes up to their end, which comes after fewer than n
unfoldable pub some_at : ℕ → List ℕ → Result (List Stored × List ℕ) JuteFault
some_at zero bytes = Err faults.Short
some_at (suc n) bytes = do
  next ← next_at bytes
  then_more (some_at n) next.0 next.1

abbrev pub nodes_at : List ℕ → Result (List Stored × List ℕ) JuteFault
nodes_at bytes = some_at (length bytes) bytes

unfoldable pub contents_at : List ℕ → Result (Contents × List ℕ) JuteFault
contents_at bytes = do
  dbid ← header_at bytes
  leases ← vector_at lease_at dbid.1
  accesses ← vector_at access_at leases.1
  nodes ← nodes_at accesses.1
  Ok (record { dbid = dbid.0; leases = leases.0; accesses = accesses.0; nodes = nodes.0 }, nodes.1)

-- no field of a snapshot is a boolean: its fault represents a checksum mismatch
abbrev pub wrong_sum : JuteFault
wrong_sum = faults.Boolean

abbrev pub right_sum : List ℕ → ℤ → List ℕ → Result (ℤ × List ℕ) JuteFault
right_sum front sum rest = if int_eq sum (pos (adler_of front)) then Ok (sum, rest) else Err wrong_sum

abbrev pub right_end : ℤ → List ℕ → List ℕ → Result (ℤ × List ℕ) JuteFault
right_end sum end rest = if bytes_eq end slash then Ok (sum, rest) else Err faults.Text

-- a seal over the bytes before it: the checksum is compared before the text is read
unfoldable pub seal_at : List ℕ → List ℕ → Result (ℤ × List ℕ) JuteFault
seal_at front bytes = do
  sum ← number_at w64 bytes
  right ← right_sum front sum.0 sum.1
  end ← text_at right.1
  right_end right.0 end.0 end.1

unfoldable pub claim_at : List ℕ → Result (Claim × List ℕ) JuteFault
claim_at bytes = do
  zxid ← number_at w64 bytes
  version ← number_at w32 zxid.1
  sum ← number_at w64 version.1
  Ok (record { zxid = zxid.0; version = version.0; sum = sum.0 }, sum.1)

-- the bytes before a rest
abbrev pub before : List ℕ → List ℕ → List ℕ
before bytes rest = take (length bytes - length rest) bytes

unfoldable pub sealed_claim_at : List ℕ → List ℕ → Result (Option Claim × List ℕ) JuteFault
sealed_claim_at all bytes = if length bytes == 0 then Ok (None, bytes) else (do
  claim ← claim_at bytes
  sum ← seal_at (before all claim.1) claim.1
  Ok (Some claim.0, sum.1))

unfoldable pub snapshot_at : List ℕ → Result (Snapshot × List ℕ) JuteFault
snapshot_at bytes = do
  contents ← contents_at bytes
  sum ← seal_at (before bytes contents.1) contents.1
  claim ← sealed_claim_at bytes sum.1
  Ok (record { contents = contents.0; claim = claim.0 }, claim.1)

abbrev pub all_of : List ℕ → Result Snapshot JuteFault
all_of bytes = whole (snapshot_at bytes)
