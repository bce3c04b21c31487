-- Whole snapshots: reading and encoding are inverse.
use Rattle.std.proofs.Common.{◌≡◌, ℕ, ℤ, pos, ◌-◌, Bool, true, false, cond, List, [], ◌∷◌, ◌++◌, length, take, eqb, Option, Some, None, Result, Ok, Err, inl, inr, refl, sym, ap, subst, ◌∙◌, append_assoc, arith}
use Rattle.std.specs.Prelude.{IfOk}
use Rattle.std.specs.Int.{w32, w64}
use Rattle.std.proofs.lemmas.List.{append-nil, length-append, take_at}
use Rattle.zk_jute.specs.declared.fault.JuteFault.{JuteFault}
use Rattle.zk_jute.specs.declared.fault.JuteFault.TheVariants as faults
use Rattle.zk_jute.specs.Reading.{◌>>=◌, Fails, vector_at}
use Rattle.zk_jute.proofs.Numbers.{IsBytes, TakesFront, TakesFront-then, IsField, took_all, first_read, bind_ok, ok_is, at_ok, whole_ok}
use Rattle.zk_jute.proofs.Vectors.{vector_field}
use Rattle.zk_records.specs.Checksum.{adler_of}
use Rattle.zk_records.specs.Records.{long, int, ustring, vector, AreElements}
use Rattle.zk_snapshot.specs.declared.snapshot.Claim.{Claim}
use Rattle.zk_snapshot.specs.declared.snapshot.Contents.{Contents}
use Rattle.zk_snapshot.specs.declared.snapshot.Snapshot.{Snapshot}
use Rattle.zk_snapshot.specs.Faults.{fault_of, IsAnswer, Refused}
use Rattle.zk_snapshot.specs.Snapshots.{slash, header, lease, access, stored_nodes, contents, sealed, claim, with_claim, snapshot_bytes, IsLease, IsAccess, IsContents, IsClaim, MayClaim, IsSnapshotOf}
use Rattle.zk_snapshot.specs.Reading.{header_at, lease_at, access_at, nodes_at, contents_at, seal_at, claim_at, before, sealed_claim_at, snapshot_at, all_of}
use Rattle.zk_snapshot.proofs.Entries.{nodes_field}
use Rattle.zk_snapshot.proofs.Spellings.{lease_field, access_field, header_field, sum_seal, IsSumOf, seal_field, claim_field}

leases_field : IsField (vector_at lease_at) (vector lease) (AreElements IsLease)
leases_field = vector_field lease_at lease IsLease lease_field

accesses_field : IsField (vector_at access_at) (vector access) (AreElements IsAccess)
accesses_field = vector_field access_at access IsAccess access_field

contents_takes : (bytes : List ℕ) (x : Contents × List ℕ) → IsBytes bytes → contents_at bytes ≡ Ok x → TakesFront bytes (contents x.0) x.1 × IsContents x.0
unfolding contents_at
contents_takes bytes x fits e =
    let r0 = first_read _ _ _ header_field bytes (λ dbid. vector_at lease_at dbid.1 >>= λ leases. vector_at access_at leases.1 >>= λ accesses. nodes_at accesses.1 >>= λ nodes. Ok (record { dbid = dbid.0; leases = leases.0; accesses = accesses.0; nodes = nodes.0 }, nodes.1)) x fits e in
    let r1 = first_read _ _ _ leases_field r0.got.1 (λ leases. vector_at access_at leases.1 >>= λ accesses. nodes_at accesses.1 >>= λ nodes. Ok (record { dbid = r0.got.0; leases = leases.0; accesses = accesses.0; nodes = nodes.0 }, nodes.1)) x r0.took.rest_fits r0.goes in
    let r2 = first_read _ _ _ accesses_field r1.got.1 (λ accesses. nodes_at accesses.1 >>= λ nodes. Ok (record { dbid = r0.got.0; leases = r1.got.0; accesses = accesses.0; nodes = nodes.0 }, nodes.1)) x r1.took.rest_fits r1.goes in
    let r3 = first_read _ _ _ nodes_field r2.got.1 (λ nodes. Ok (record { dbid = r0.got.0; leases = r1.got.0; accesses = r2.got.0; nodes = nodes.0 }, nodes.1)) x r2.took.rest_fits r2.goes in
    let t1 = TakesFront-then bytes (header r0.got.0) r0.got.1 (vector lease r1.got.0) r1.got.1 r0.took r1.took in
    let t2 = TakesFront-then bytes (header r0.got.0 ++ vector lease r1.got.0) r1.got.1 (vector access r2.got.0) r2.got.1 t1 r2.took in
    let t3 = TakesFront-then bytes (header r0.got.0 ++ vector lease r1.got.0 ++ vector access r2.got.0) r2.got.1 (stored_nodes r3.got.0) r3.got.1 t2 r3.took in
    let made : Contents × List ℕ = (record { dbid = r0.got.0; leases = r1.got.0; accesses = r2.got.0; nodes = r3.got.0 }, r3.got.1) in
    at_ok (λ (y : Contents × List ℕ). TakesFront bytes (contents y.0) y.1 × IsContents y.0) made x r3.goes (t3, record { dbid = r0.fits; leases = r1.fits; accesses = r2.fits; nodes = r3.fits })

regroup_contents : (f0 f1 f2 f3 r : List ℕ) → (((f0 ++ f1) ++ f2) ++ f3) ++ r ≡ f0 ++ (f1 ++ (f2 ++ (f3 ++ r)))
regroup_contents f0 f1 f2 f3 r = simp append_assoc

contents_again : (v : Contents) (rest : List ℕ) → IsContents v → contents_at (contents v ++ rest) ≡ Ok (v, rest)
unfolding contents_at
contents_again v rest is =
    ap contents_at (regroup_contents (header v.dbid) (vector lease v.leases) (vector access v.accesses) (stored_nodes v.nodes) rest)
    ∙ rw (
      header_field.again v.dbid (vector lease v.leases ++ (vector access v.accesses ++ (stored_nodes v.nodes ++ rest))) is.dbid,
      leases_field.again v.leases (vector access v.accesses ++ (stored_nodes v.nodes ++ rest)) is.leases,
      accesses_field.again v.accesses (stored_nodes v.nodes ++ rest) is.accesses,
      nodes_field.again v.nodes rest is.nodes,
    ) refl

pub contents_field : IsField contents_at contents IsContents
contents_field = record { takes = contents_takes; again = contents_again }

-- ---- the bytes before a rest

before_is : (bytes front rest : List ℕ) → bytes ≡ front ++ rest → before bytes rest ≡ front
before_is bytes front rest parts =
    ap (λ (b : List ℕ). take (length b - length rest) b) parts ∙ take_at front rest (length (front ++ rest) - length rest) (omega (arith, length-append front rest))

-- a seal that was read is that of the bytes before it
seal_on : (bytes front rest : List ℕ) (x : ℤ × List ℕ) → TakesFront bytes front rest → IsSumOf (before bytes rest) x.0 → TakesFront rest (sum_seal x.0) x.1 → TakesFront bytes (sealed front) x.1
seal_on bytes front rest x took is seal =
    let both = TakesFront-then bytes front rest (sum_seal x.0) x.1 took seal in
    let sum : x.0 ≡ pos (adler_of front) = is ∙ ap (λ (f : List ℕ). pos (adler_of f)) (before_is bytes front rest took.parts) in
    subst (λ (z : ℤ). TakesFront bytes (front ++ sum_seal z) x.1) sum both

-- ---- the claim

claim_by : (b : Bool) (bytes front rest : List ℕ) (x : Option Claim × List ℕ) → TakesFront bytes front rest → cond b (Ok (None, rest)) (claim_at rest >>= λ claim. seal_at (before bytes claim.1) claim.1 >>= λ sum. Ok (Some claim.0, sum.1)) ≡ Ok x
    → TakesFront bytes (with_claim front x.0) x.1 × MayClaim x.0
claim_by true bytes front rest x took e =
    let made : Option Claim × List ℕ = (None, rest) in
    at_ok (λ (y : Option Claim × List ℕ). TakesFront bytes (with_claim front y.0) y.1 × MayClaim y.0) made x e (took, tt)
claim_by false bytes front rest x took e =
    let a = first_read claim_at claim IsClaim claim_field rest (λ claim. seal_at (before bytes claim.1) claim.1 >>= λ sum. Ok (Some claim.0, sum.1)) x took.rest_fits e in
    let both = TakesFront-then bytes front rest (claim a.got.0) a.got.1 took a.took in
    let s = first_read (seal_at (before bytes a.got.1)) sum_seal (IsSumOf (before bytes a.got.1)) (seal_field (before bytes a.got.1)) a.got.1 (λ sum. Ok (Some a.got.0, sum.1)) x a.took.rest_fits a.goes in
    let all = seal_on bytes (front ++ claim a.got.0) a.got.1 s.got both s.fits s.took in
    let made : Option Claim × List ℕ = (Some a.got.0, s.got.1) in
    at_ok (λ (y : Option Claim × List ℕ). TakesFront bytes (with_claim front y.0) y.1 × MayClaim y.0) made x s.goes (all, a.fits)

claim_takes : (bytes front rest : List ℕ) (x : Option Claim × List ℕ) → TakesFront bytes front rest → sealed_claim_at bytes rest ≡ Ok x → TakesFront bytes (with_claim front x.0) x.1 × MayClaim x.0
unfolding sealed_claim_at
claim_takes bytes front rest x took e = claim_by (eqb (length rest) 0) bytes front rest x took e

-- ---- what is read

pub record Read (bytes : List ℕ) (x : Snapshot × List ℕ) : Type 0 where
  pub front : TakesFront bytes (snapshot_bytes x.0) x.1
  pub contents : IsContents x.0.contents
  pub claim : MayClaim x.0.claim

snapshot_takes : (bytes : List ℕ) (x : Snapshot × List ℕ) → IsBytes bytes → snapshot_at bytes ≡ Ok x → Read bytes x
unfolding snapshot_at
snapshot_takes bytes x fits e =
    let a = first_read contents_at contents IsContents contents_field bytes (λ contents. seal_at (before bytes contents.1) contents.1 >>= λ sum. sealed_claim_at bytes sum.1 >>= λ claim. Ok (record { contents = contents.0; claim = claim.0 }, claim.1)) x fits e in
    let s = first_read (seal_at (before bytes a.got.1)) sum_seal (IsSumOf (before bytes a.got.1)) (seal_field (before bytes a.got.1)) a.got.1 (λ sum. sealed_claim_at bytes sum.1 >>= λ claim. Ok (record { contents = a.got.0; claim = claim.0 }, claim.1)) x a.took.rest_fits a.goes in
    let front = seal_on bytes (contents a.got.0) a.got.1 s.got a.took s.fits s.took in
    let k = bind_ok {A = Option Claim × List ℕ} {B = Snapshot × List ℕ} (sealed_claim_at bytes s.got.1) (λ claim. Ok (record { contents = a.got.0; claim = claim.0 }, claim.1)) x s.goes in
    let t = claim_takes bytes (sealed (contents a.got.0)) s.got.1 k.0 front k.1 in
    let made : Snapshot × List ℕ = (record { contents = a.got.0; claim = k.0.0 }, k.0.1) in
    at_ok (λ (y : Snapshot × List ℕ). Read bytes y) made x k.2 (record { front = t.0; contents = a.fits; claim = t.1 })

pub snapshot_found : (bytes : List ℕ) (s : Snapshot) → IsBytes bytes → all_of bytes ≡ Ok s → IsSnapshotOf bytes s
snapshot_found bytes s fits e =
    let read = snapshot_takes bytes (s, []) fits (whole_ok (snapshot_at bytes) s e) in
    record { contents = read.contents; claim = read.claim; spelled = took_all bytes (snapshot_bytes s) read.front }

-- ---- reading what was encoded

snapshot_by : (c : Contents) (bytes rest : List ℕ) (k : Option Claim) → IsContents c → bytes ≡ contents c ++ (sum_seal (pos (adler_of (contents c))) ++ rest) → sealed_claim_at bytes rest ≡ Ok (k, []) → snapshot_at bytes ≡ Ok (record { contents = c; claim = k }, [])
unfolding snapshot_at
snapshot_by c bytes rest k is parts claimed =
    let sum = pos (adler_of (contents c)) in
    let behind = sum_seal sum ++ rest in
    let read : contents_at bytes ≡ Ok (c, behind) = ap contents_at parts ∙ contents_field.again c behind is in
    let seal : seal_at (before bytes behind) behind ≡ Ok (sum, rest) = ap (λ (f : List ℕ). seal_at f behind) (before_is bytes (contents c) behind parts) ∙ (seal_field (contents c)).again sum rest refl in
    rw (read, seal, claimed) refl

no_claim : (bytes : List ℕ) → sealed_claim_at bytes [] ≡ Ok (None, [])
unfolding sealed_claim_at
no_claim bytes = refl

some_claim : (bytes front : List ℕ) (k : Claim) → IsClaim k → bytes ≡ sealed (front ++ claim k) → sealed_claim_at bytes (claim k ++ sum_seal (pos (adler_of (front ++ claim k)))) ≡ Ok (Some k, [])
unfolding sealed_claim_at
some_claim bytes front k is parts =
    let all = front ++ claim k in
    let sum = pos (adler_of all) in
    let seal : seal_at (before bytes (sum_seal sum)) (sum_seal sum) ≡ Ok (sum, []) =
    ap (λ (f : List ℕ). seal_at f (sum_seal sum)) (before_is bytes all (sum_seal sum) parts) ∙ ap (seal_at all) (sym (append-nil (sum_seal sum))) ∙ (seal_field all).again sum [] refl in
    rw (claim_field.again k (sum_seal sum) is, seal) refl

claimed_again : (k : Option Claim) (c : Contents) → IsContents c → MayClaim k → snapshot_at (with_claim (sealed (contents c)) k) ≡ Ok (record { contents = c; claim = k }, [])
claimed_again None c is claims =
    let bytes = sealed (contents c) in
    snapshot_by c bytes [] None is (ap (λ (s : List ℕ). contents c ++ s) (sym (append-nil (sum_seal (pos (adler_of (contents c))))))) (no_claim bytes)
claimed_again (Some k) c is claims =
    let front = sealed (contents c) in
    let seal = sum_seal (pos (adler_of (contents c))) in
    let last = sum_seal (pos (adler_of (front ++ claim k))) in
    let bytes = sealed (front ++ claim k) in
    let parts : bytes ≡ contents c ++ (seal ++ (claim k ++ last)) = append_assoc front (claim k) last ∙ append_assoc (contents c) seal (claim k ++ last) in
    snapshot_by c bytes (claim k ++ last) (Some k) is parts (some_claim bytes front k claims refl)

pub all_again : (bytes : List ℕ) (s : Snapshot) → IsSnapshotOf bytes s → all_of bytes ≡ Ok s
all_again bytes s is =
    ap all_of is.spelled ∙ rw (claimed_again s.claim s.contents is.contents is.claim) refl

-- ---- faults

refused_is : (bytes : List ℕ) (fault : JuteFault) (read : Result Snapshot JuteFault) (s : Snapshot) → Fails fault read → read ≡ Ok s → IsAnswer (Err (fault_of bytes fault)) s
refused_is bytes faults.NoMemory read s fails e = refl
refused_is bytes faults.Short read s fails e = absurd cc
refused_is bytes faults.Length read s fails e = absurd cc
refused_is bytes faults.Text read s fails e = absurd cc
refused_is bytes faults.Boolean read s fails e = absurd cc
refused_is bytes faults.Kind read s fails e = absurd cc
refused_is bytes faults.Trailing read s fails e = absurd cc
refused_is bytes faults.Path read s fails e = absurd cc

pub refused : (bytes : List ℕ) (fault : JuteFault) (s : Snapshot) → Fails fault (all_of bytes) → IsSnapshotOf bytes s → IsAnswer (Err (fault_of bytes fault)) s
refused bytes fault s fails is = refused_is bytes fault (all_of bytes) s fails (all_again bytes s is)

-- the fault is the one that reading meets
pub exact : (bytes : List ℕ) (fault : JuteFault) (read : Result Snapshot JuteFault) → Fails fault read → Refused bytes (Err (fault_of bytes fault)) read
exact bytes faults.NoMemory read fails = inl refl
exact bytes faults.Short read fails = inr (faults.Short, fails, refl)
exact bytes faults.Length read fails = inr (faults.Length, fails, refl)
exact bytes faults.Text read fails = inr (faults.Text, fails, refl)
exact bytes faults.Boolean read fails = inr (faults.Boolean, fails, refl)
exact bytes faults.Kind read fails = inr (faults.Kind, fails, refl)
exact bytes faults.Trailing read fails = inr (faults.Trailing, fails, refl)
exact bytes faults.Path read fails = inr (faults.Path, fails, refl)

pub same_snapshot : (bytes : List ℕ) (found s : Snapshot) → all_of bytes ≡ Ok found → IsSnapshotOf bytes s → found ≡ s
same_snapshot bytes found s e is = ok_is found s (sym e ∙ all_again bytes s is)
