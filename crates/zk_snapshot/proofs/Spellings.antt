-- Records of fields: reading and encoding are inverse.
use Rattle.std.proofs.Common.{◌≡◌, ℕ, ℤ, pos, ◌^◌, ◌<◌, Bool, true, false, List, [], ◌∷◌, ◌++◌, ◌&&◌, length, Result, Ok, Err, refl, sym, ap, subst, ◌∙◌, append_assoc, arith, lit<}
use Rattle.std.specs.Prelude.{FitsSigned}
use Rattle.std.specs.Int.{w32, w64}
use Rattle.std.specs.Ordering.{int_eq}
use Rattle.std.specs.Str.{bytes_eq}
use Rattle.std.proofs.Math.Nat.{mod-lt}
use Rattle.std.proofs.lemmas.Bool.Decides.{Decides-int_eq}
use Rattle.std.proofs.lemmas.Slice.Eq.{bytes_eq-Decides}
use Rattle.std.proofs.lemmas.Str.{IsUtf8-from_ascii}
use Rattle.std.proofs.lemmas.Str.Ascii.{IsAscii-cons, IsAscii-nil}
use Rattle.zk_jute.specs.declared.fault.JuteFault.{JuteFault}
use Rattle.zk_jute.specs.declared.fault.JuteFault.TheVariants as faults
use Rattle.zk_jute.specs.Reading.{◌>>=◌, number_at, text_at, content_at, vector_at, acl_at}
use Rattle.zk_jute.proofs.Numbers.{IsBytes, TakesFront, TakesFront-then, IsField, first_read, bind_ok, guard_ended, at_ok}
use Rattle.zk_jute.proofs.Texts.{int_field, long_field, text_field, content_field}
use Rattle.zk_jute.proofs.Vectors.{acl_vector_field}
use Rattle.zk_records.specs.Checksum.{adler_of, sum_one, sum_two}
use Rattle.zk_records.specs.Records.{int, long, ustring, buffer, acl_vector, IsText}
use Rattle.zk_snapshot.specs.declared.snapshot.Access.{Access}
use Rattle.zk_snapshot.specs.declared.snapshot.Claim.{Claim}
use Rattle.zk_snapshot.specs.declared.snapshot.Kept.{Kept}
use Rattle.zk_snapshot.specs.declared.snapshot.Lease.{Lease}
use Rattle.zk_snapshot.specs.declared.snapshot.Moments.{Moments}
use Rattle.zk_snapshot.specs.declared.snapshot.Versions.{Versions}
use Rattle.zk_snapshot.specs.Snapshots.{slash, header, lease, access, moments, versions, kept, claim, IsLease, IsAccess, IsMoments, IsVersions, IsKept, IsClaim}
use Rattle.zk_snapshot.specs.Reading.{known_header, header_at, lease_at, access_at, moments_at, versions_at, kept_at, wrong_sum, right_sum, right_end, seal_at, claim_at}

lease_takes : (bytes : List ℕ) (x : Lease × List ℕ) → IsBytes bytes → lease_at bytes ≡ Ok x → TakesFront bytes (lease x.0) x.1 × IsLease x.0
unfolding lease_at
lease_takes bytes x fits e =
    let r0 = first_read _ _ _ long_field bytes (λ session. number_at w32 session.1 >>= λ timeout. Ok (record { session = session.0; timeout = timeout.0 }, timeout.1)) x fits e in
    let r1 = first_read _ _ _ int_field r0.got.1 (λ timeout. Ok (record { session = r0.got.0; timeout = timeout.0 }, timeout.1)) x r0.took.rest_fits r0.goes in
    let t1 = TakesFront-then bytes (long r0.got.0) r0.got.1 (int r1.got.0) r1.got.1 r0.took r1.took in
    let made : Lease × List ℕ = (record { session = r0.got.0; timeout = r1.got.0 }, r1.got.1) in
    at_ok (λ (y : Lease × List ℕ). TakesFront bytes (lease y.0) y.1 × IsLease y.0) made x r1.goes (t1, record { session = r0.fits; timeout = r1.fits })

regroup_lease : (f0 f1 r : List ℕ) → (f0 ++ f1) ++ r ≡ f0 ++ (f1 ++ r)
regroup_lease f0 f1 r = simp append_assoc

lease_again : (v : Lease) (rest : List ℕ) → IsLease v → lease_at (lease v ++ rest) ≡ Ok (v, rest)
unfolding lease_at
lease_again v rest is =
    ap lease_at (regroup_lease (long v.session) (int v.timeout) rest)
    ∙ rw (
      long_field.again v.session (int v.timeout ++ rest) is.session,
      int_field.again v.timeout rest is.timeout,
    ) refl

pub lease_field : IsField lease_at lease IsLease
lease_field = record { takes = lease_takes; again = lease_again }

access_takes : (bytes : List ℕ) (x : Access × List ℕ) → IsBytes bytes → access_at bytes ≡ Ok x → TakesFront bytes (access x.0) x.1 × IsAccess x.0
unfolding access_at
access_takes bytes x fits e =
    let r0 = first_read _ _ _ long_field bytes (λ number. vector_at acl_at number.1 >>= λ acl. Ok (record { number = number.0; acl = acl.0 }, acl.1)) x fits e in
    let r1 = first_read _ _ _ acl_vector_field r0.got.1 (λ acl. Ok (record { number = r0.got.0; acl = acl.0 }, acl.1)) x r0.took.rest_fits r0.goes in
    let t1 = TakesFront-then bytes (long r0.got.0) r0.got.1 (acl_vector r1.got.0) r1.got.1 r0.took r1.took in
    let made : Access × List ℕ = (record { number = r0.got.0; acl = r1.got.0 }, r1.got.1) in
    at_ok (λ (y : Access × List ℕ). TakesFront bytes (access y.0) y.1 × IsAccess y.0) made x r1.goes (t1, record { number = r0.fits; acl = r1.fits })

regroup_access : (f0 f1 r : List ℕ) → (f0 ++ f1) ++ r ≡ f0 ++ (f1 ++ r)
regroup_access f0 f1 r = simp append_assoc

access_again : (v : Access) (rest : List ℕ) → IsAccess v → access_at (access v ++ rest) ≡ Ok (v, rest)
unfolding access_at
access_again v rest is =
    ap access_at (regroup_access (long v.number) (acl_vector v.acl) rest)
    ∙ rw (
      long_field.again v.number (acl_vector v.acl ++ rest) is.number,
      acl_vector_field.again v.acl rest is.acl,
    ) refl

pub access_field : IsField access_at access IsAccess
access_field = record { takes = access_takes; again = access_again }

moments_takes : (bytes : List ℕ) (x : Moments × List ℕ) → IsBytes bytes → moments_at bytes ≡ Ok x → TakesFront bytes (moments x.0) x.1 × IsMoments x.0
unfolding moments_at
moments_takes bytes x fits e =
    let r0 = first_read _ _ _ long_field bytes (λ czxid. number_at w64 czxid.1 >>= λ mzxid. number_at w64 mzxid.1 >>= λ ctime. number_at w64 ctime.1 >>= λ mtime. Ok (record { czxid = czxid.0; mzxid = mzxid.0; ctime = ctime.0; mtime = mtime.0 }, mtime.1)) x fits e in
    let r1 = first_read _ _ _ long_field r0.got.1 (λ mzxid. number_at w64 mzxid.1 >>= λ ctime. number_at w64 ctime.1 >>= λ mtime. Ok (record { czxid = r0.got.0; mzxid = mzxid.0; ctime = ctime.0; mtime = mtime.0 }, mtime.1)) x r0.took.rest_fits r0.goes in
    let r2 = first_read _ _ _ long_field r1.got.1 (λ ctime. number_at w64 ctime.1 >>= λ mtime. Ok (record { czxid = r0.got.0; mzxid = r1.got.0; ctime = ctime.0; mtime = mtime.0 }, mtime.1)) x r1.took.rest_fits r1.goes in
    let r3 = first_read _ _ _ long_field r2.got.1 (λ mtime. Ok (record { czxid = r0.got.0; mzxid = r1.got.0; ctime = r2.got.0; mtime = mtime.0 }, mtime.1)) x r2.took.rest_fits r2.goes in
    let t1 = TakesFront-then bytes (long r0.got.0) r0.got.1 (long r1.got.0) r1.got.1 r0.took r1.took in
    let t2 = TakesFront-then bytes (long r0.got.0 ++ long r1.got.0) r1.got.1 (long r2.got.0) r2.got.1 t1 r2.took in
    let t3 = TakesFront-then bytes (long r0.got.0 ++ long r1.got.0 ++ long r2.got.0) r2.got.1 (long r3.got.0) r3.got.1 t2 r3.took in
    let made : Moments × List ℕ = (record { czxid = r0.got.0; mzxid = r1.got.0; ctime = r2.got.0; mtime = r3.got.0 }, r3.got.1) in
    at_ok (λ (y : Moments × List ℕ). TakesFront bytes (moments y.0) y.1 × IsMoments y.0) made x r3.goes (t3, record { czxid = r0.fits; mzxid = r1.fits; ctime = r2.fits; mtime = r3.fits })

regroup_moments : (f0 f1 f2 f3 r : List ℕ) → (((f0 ++ f1) ++ f2) ++ f3) ++ r ≡ f0 ++ (f1 ++ (f2 ++ (f3 ++ r)))
regroup_moments f0 f1 f2 f3 r = simp append_assoc

moments_again : (v : Moments) (rest : List ℕ) → IsMoments v → moments_at (moments v ++ rest) ≡ Ok (v, rest)
unfolding moments_at
moments_again v rest is =
    ap moments_at (regroup_moments (long v.czxid) (long v.mzxid) (long v.ctime) (long v.mtime) rest)
    ∙ rw (
      long_field.again v.czxid (long v.mzxid ++ (long v.ctime ++ (long v.mtime ++ rest))) is.czxid,
      long_field.again v.mzxid (long v.ctime ++ (long v.mtime ++ rest)) is.mzxid,
      long_field.again v.ctime (long v.mtime ++ rest) is.ctime,
      long_field.again v.mtime rest is.mtime,
    ) refl

pub moments_field : IsField moments_at moments IsMoments
moments_field = record { takes = moments_takes; again = moments_again }

versions_takes : (bytes : List ℕ) (x : Versions × List ℕ) → IsBytes bytes → versions_at bytes ≡ Ok x → TakesFront bytes (versions x.0) x.1 × IsVersions x.0
unfolding versions_at
versions_takes bytes x fits e =
    let r0 = first_read _ _ _ int_field bytes (λ version. number_at w32 version.1 >>= λ creates. number_at w32 creates.1 >>= λ aversion. Ok (record { version = version.0; creates = creates.0; aversion = aversion.0 }, aversion.1)) x fits e in
    let r1 = first_read _ _ _ int_field r0.got.1 (λ creates. number_at w32 creates.1 >>= λ aversion. Ok (record { version = r0.got.0; creates = creates.0; aversion = aversion.0 }, aversion.1)) x r0.took.rest_fits r0.goes in
    let r2 = first_read _ _ _ int_field r1.got.1 (λ aversion. Ok (record { version = r0.got.0; creates = r1.got.0; aversion = aversion.0 }, aversion.1)) x r1.took.rest_fits r1.goes in
    let t1 = TakesFront-then bytes (int r0.got.0) r0.got.1 (int r1.got.0) r1.got.1 r0.took r1.took in
    let t2 = TakesFront-then bytes (int r0.got.0 ++ int r1.got.0) r1.got.1 (int r2.got.0) r2.got.1 t1 r2.took in
    let made : Versions × List ℕ = (record { version = r0.got.0; creates = r1.got.0; aversion = r2.got.0 }, r2.got.1) in
    at_ok (λ (y : Versions × List ℕ). TakesFront bytes (versions y.0) y.1 × IsVersions y.0) made x r2.goes (t2, record { version = r0.fits; creates = r1.fits; aversion = r2.fits })

regroup_versions : (f0 f1 f2 r : List ℕ) → ((f0 ++ f1) ++ f2) ++ r ≡ f0 ++ (f1 ++ (f2 ++ r))
regroup_versions f0 f1 f2 r = simp append_assoc

versions_again : (v : Versions) (rest : List ℕ) → IsVersions v → versions_at (versions v ++ rest) ≡ Ok (v, rest)
unfolding versions_at
versions_again v rest is =
    ap versions_at (regroup_versions (int v.version) (int v.creates) (int v.aversion) rest)
    ∙ rw (
      int_field.again v.version (int v.creates ++ (int v.aversion ++ rest)) is.version,
      int_field.again v.creates (int v.aversion ++ rest) is.creates,
      int_field.again v.aversion rest is.aversion,
    ) refl

pub versions_field : IsField versions_at versions IsVersions
versions_field = record { takes = versions_takes; again = versions_again }

kept_takes : (bytes : List ℕ) (x : Kept × List ℕ) → IsBytes bytes → kept_at bytes ≡ Ok x → TakesFront bytes (kept x.0) x.1 × IsKept x.0
unfolding kept_at
kept_takes bytes x fits e =
    let r0 = first_read _ _ _ content_field bytes (λ content. number_at w64 content.1 >>= λ access. moments_at access.1 >>= λ moments. versions_at moments.1 >>= λ versions. number_at w64 versions.1 >>= λ owner. number_at w64 owner.1 >>= λ pzxid. Ok (record { content = content.0; access = access.0; moments = moments.0; versions = versions.0; owner = owner.0; pzxid = pzxid.0 }, pzxid.1)) x fits e in
    let r1 = first_read _ _ _ long_field r0.got.1 (λ access. moments_at access.1 >>= λ moments. versions_at moments.1 >>= λ versions. number_at w64 versions.1 >>= λ owner. number_at w64 owner.1 >>= λ pzxid. Ok (record { content = r0.got.0; access = access.0; moments = moments.0; versions = versions.0; owner = owner.0; pzxid = pzxid.0 }, pzxid.1)) x r0.took.rest_fits r0.goes in
    let r2 = first_read _ _ _ moments_field r1.got.1 (λ moments. versions_at moments.1 >>= λ versions. number_at w64 versions.1 >>= λ owner. number_at w64 owner.1 >>= λ pzxid. Ok (record { content = r0.got.0; access = r1.got.0; moments = moments.0; versions = versions.0; owner = owner.0; pzxid = pzxid.0 }, pzxid.1)) x r1.took.rest_fits r1.goes in
    let r3 = first_read _ _ _ versions_field r2.got.1 (λ versions. number_at w64 versions.1 >>= λ owner. number_at w64 owner.1 >>= λ pzxid. Ok (record { content = r0.got.0; access = r1.got.0; moments = r2.got.0; versions = versions.0; owner = owner.0; pzxid = pzxid.0 }, pzxid.1)) x r2.took.rest_fits r2.goes in
    let r4 = first_read _ _ _ long_field r3.got.1 (λ owner. number_at w64 owner.1 >>= λ pzxid. Ok (record { content = r0.got.0; access = r1.got.0; moments = r2.got.0; versions = r3.got.0; owner = owner.0; pzxid = pzxid.0 }, pzxid.1)) x r3.took.rest_fits r3.goes in
    let r5 = first_read _ _ _ long_field r4.got.1 (λ pzxid. Ok (record { content = r0.got.0; access = r1.got.0; moments = r2.got.0; versions = r3.got.0; owner = r4.got.0; pzxid = pzxid.0 }, pzxid.1)) x r4.took.rest_fits r4.goes in
    let t1 = TakesFront-then bytes (buffer r0.got.0) r0.got.1 (long r1.got.0) r1.got.1 r0.took r1.took in
    let t2 = TakesFront-then bytes (buffer r0.got.0 ++ long r1.got.0) r1.got.1 (moments r2.got.0) r2.got.1 t1 r2.took in
    let t3 = TakesFront-then bytes (buffer r0.got.0 ++ long r1.got.0 ++ moments r2.got.0) r2.got.1 (versions r3.got.0) r3.got.1 t2 r3.took in
    let t4 = TakesFront-then bytes (buffer r0.got.0 ++ long r1.got.0 ++ moments r2.got.0 ++ versions r3.got.0) r3.got.1 (long r4.got.0) r4.got.1 t3 r4.took in
    let t5 = TakesFront-then bytes (buffer r0.got.0 ++ long r1.got.0 ++ moments r2.got.0 ++ versions r3.got.0 ++ long r4.got.0) r4.got.1 (long r5.got.0) r5.got.1 t4 r5.took in
    let made : Kept × List ℕ = (record { content = r0.got.0; access = r1.got.0; moments = r2.got.0; versions = r3.got.0; owner = r4.got.0; pzxid = r5.got.0 }, r5.got.1) in
    at_ok (λ (y : Kept × List ℕ). TakesFront bytes (kept y.0) y.1 × IsKept y.0) made x r5.goes (t5, record { content = r0.fits; access = r1.fits; moments = r2.fits; versions = r3.fits; owner = r4.fits; pzxid = r5.fits })

regroup_kept : (f0 f1 f2 f3 f4 f5 r : List ℕ) → (((((f0 ++ f1) ++ f2) ++ f3) ++ f4) ++ f5) ++ r ≡ f0 ++ (f1 ++ (f2 ++ (f3 ++ (f4 ++ (f5 ++ r)))))
regroup_kept f0 f1 f2 f3 f4 f5 r = simp append_assoc

kept_again : (v : Kept) (rest : List ℕ) → IsKept v → kept_at (kept v ++ rest) ≡ Ok (v, rest)
unfolding kept_at
kept_again v rest is =
    ap kept_at (regroup_kept (buffer v.content) (long v.access) (moments v.moments) (versions v.versions) (long v.owner) (long v.pzxid) rest)
    ∙ rw (
      content_field.again v.content (long v.access ++ (moments v.moments ++ (versions v.versions ++ (long v.owner ++ (long v.pzxid ++ rest))))) is.content,
      long_field.again v.access (moments v.moments ++ (versions v.versions ++ (long v.owner ++ (long v.pzxid ++ rest)))) is.access,
      moments_field.again v.moments (versions v.versions ++ (long v.owner ++ (long v.pzxid ++ rest))) is.moments,
      versions_field.again v.versions (long v.owner ++ (long v.pzxid ++ rest)) is.versions,
      long_field.again v.owner (long v.pzxid ++ rest) is.owner,
      long_field.again v.pzxid rest is.pzxid,
    ) refl

pub kept_field : IsField kept_at kept IsKept
kept_field = record { takes = kept_takes; again = kept_again }

claim_takes : (bytes : List ℕ) (x : Claim × List ℕ) → IsBytes bytes → claim_at bytes ≡ Ok x → TakesFront bytes (claim x.0) x.1 × IsClaim x.0
unfolding claim_at
claim_takes bytes x fits e =
    let r0 = first_read _ _ _ long_field bytes (λ zxid. number_at w32 zxid.1 >>= λ version. number_at w64 version.1 >>= λ sum. Ok (record { zxid = zxid.0; version = version.0; sum = sum.0 }, sum.1)) x fits e in
    let r1 = first_read _ _ _ int_field r0.got.1 (λ version. number_at w64 version.1 >>= λ sum. Ok (record { zxid = r0.got.0; version = version.0; sum = sum.0 }, sum.1)) x r0.took.rest_fits r0.goes in
    let r2 = first_read _ _ _ long_field r1.got.1 (λ sum. Ok (record { zxid = r0.got.0; version = r1.got.0; sum = sum.0 }, sum.1)) x r1.took.rest_fits r1.goes in
    let t1 = TakesFront-then bytes (long r0.got.0) r0.got.1 (int r1.got.0) r1.got.1 r0.took r1.took in
    let t2 = TakesFront-then bytes (long r0.got.0 ++ int r1.got.0) r1.got.1 (long r2.got.0) r2.got.1 t1 r2.took in
    let made : Claim × List ℕ = (record { zxid = r0.got.0; version = r1.got.0; sum = r2.got.0 }, r2.got.1) in
    at_ok (λ (y : Claim × List ℕ). TakesFront bytes (claim y.0) y.1 × IsClaim y.0) made x r2.goes (t2, record { zxid = r0.fits; version = r1.fits; sum = r2.fits })

regroup_claim : (f0 f1 f2 r : List ℕ) → ((f0 ++ f1) ++ f2) ++ r ≡ f0 ++ (f1 ++ (f2 ++ r))
regroup_claim f0 f1 f2 r = simp append_assoc

claim_again : (v : Claim) (rest : List ℕ) → IsClaim v → claim_at (claim v ++ rest) ≡ Ok (v, rest)
unfolding claim_at
claim_again v rest is =
    ap claim_at (regroup_claim (long v.zxid) (int v.version) (long v.sum) rest)
    ∙ rw (
      long_field.again v.zxid (int v.version ++ (long v.sum ++ rest)) is.zxid,
      int_field.again v.version (long v.sum ++ rest) is.version,
      long_field.again v.sum rest is.sum,
    ) refl

pub claim_field : IsField claim_at claim IsClaim
claim_field = record { takes = claim_takes; again = claim_again }

-- ---- the header

both : (a b : Bool) → (a && b) ≡ true → (a ≡ true) × (b ≡ true)
both true true e = (refl, refl)
both true false e = absurd cc
both false b e = absurd cc

abbrev pub IsNumber : ℤ → Type 0
IsNumber number = FitsSigned w64 number

header_takes : (bytes : List ℕ) (x : ℤ × List ℕ) → IsBytes bytes → header_at bytes ≡ Ok x → TakesFront bytes (header x.0) x.1 × IsNumber x.0
unfolding header_at
header_takes bytes x fits e =
    let a = first_read _ _ _ int_field bytes (λ magic. number_at w32 magic.1 >>= λ version. number_at w64 version.1 >>= λ dbid. known_header magic.0 version.0 dbid.0 dbid.1) x fits e in
    let b = first_read _ _ _ int_field a.got.1 (λ version. number_at w64 version.1 >>= λ dbid. known_header a.got.0 version.0 dbid.0 dbid.1) x a.took.rest_fits a.goes in
    let c = first_read _ _ _ long_field b.got.1 (λ dbid. known_header a.got.0 b.got.0 dbid.0 dbid.1) x b.took.rest_fits b.goes in
    let made : ℤ × List ℕ = (c.got.0, c.got.1) in
    let g = guard_ended (int_eq a.got.0 (pos 0x5a4b534e) && int_eq b.got.0 (pos 2)) faults.Kind made x c.goes in
    let two = both _ _ g.0 in
    let magic = (Decides-int_eq a.got.0 (pos 0x5a4b534e)).0 two.0 in
    let version = (Decides-int_eq b.got.0 (pos 2)).0 two.1 in
    let ab = TakesFront-then bytes (int a.got.0) a.got.1 (int b.got.0) b.got.1 a.took b.took in
    let abc = TakesFront-then bytes (int a.got.0 ++ int b.got.0) b.got.1 (long c.got.0) c.got.1 ab c.took in
    let one = subst (λ (z : ℤ). TakesFront bytes (int z ++ int b.got.0 ++ long c.got.0) c.got.1) magic abc in
    let other = subst (λ (z : ℤ). TakesFront bytes (int (pos 0x5a4b534e) ++ int z ++ long c.got.0) c.got.1) version one in
    at_ok (λ (y : ℤ × List ℕ). TakesFront bytes (header y.0) y.1 × IsNumber y.0) made x (ap Ok g.1) (other, c.fits)

regroup_header : (a b c r : List ℕ) → ((a ++ b) ++ c) ++ r ≡ a ++ (b ++ (c ++ r))
regroup_header a b c r = simp append_assoc

header_again : (dbid : ℤ) (rest : List ℕ) → IsNumber dbid → header_at (header dbid ++ rest) ≡ Ok (dbid, rest)
unfolding header_at
header_again dbid rest is =
    ap header_at (regroup_header (int (pos 0x5a4b534e)) (int (pos 2)) (long dbid) rest)
    ∙ rw (
      int_field.again (pos 0x5a4b534e) (int (pos 2) ++ (long dbid ++ rest)) (record { sfits = lit< tt }),
      int_field.again (pos 2) (long dbid ++ rest) (record { sfits = lit< tt }),
      long_field.again dbid rest is,
    ) refl

pub header_field : IsField header_at header IsNumber
header_field = record { takes = header_takes; again = header_again }

-- ---- seals

pub slash_text : IsText slash
slash_text = record { utf8 = IsUtf8-from_ascii slash (IsAscii-cons 47 [] (lit< tt) IsAscii-nil); short = lit< tt }

abbrev pub sum_seal : ℤ → List ℕ
sum_seal sum = long sum ++ ustring slash

abbrev pub IsSumOf : List ℕ → ℤ → Type 0
IsSumOf front sum = sum ≡ pos (adler_of front)

sum_fits : (front : List ℕ) → FitsSigned w64 (pos (adler_of front))
sum_fits front =
    let one = mod-lt (sum_one 1 front) {m = 65521} (lit< tt) in
    let two = mod-lt (sum_two 1 0 front) {m = 65521} (lit< tt) in
    record { sfits = omega (arith, one, two) }

seal_takes : (front bytes : List ℕ) (x : ℤ × List ℕ) → IsBytes bytes → seal_at front bytes ≡ Ok x → TakesFront bytes (sum_seal x.0) x.1 × IsSumOf front x.0
unfolding seal_at
seal_takes front bytes x fits e =
    let a = first_read _ _ _ long_field bytes (λ sum. right_sum front sum.0 sum.1 >>= λ right. text_at right.1 >>= λ end. right_end right.0 end.0 end.1) x fits e in
    let p = bind_ok {A = ℤ × List ℕ} {B = ℤ × List ℕ} (right_sum front a.got.0 a.got.1) (λ right. text_at right.1 >>= λ end. right_end right.0 end.0 end.1) x a.goes in
    let read : ℤ × List ℕ = (a.got.0, a.got.1) in
    let s = guard_ended (int_eq a.got.0 (pos (adler_of front))) wrong_sum read p.0 p.1 in
    let goes : (text_at a.got.1 >>= λ end. right_end a.got.0 end.0 end.1) ≡ Ok x = subst (λ (c : ℤ × List ℕ). (text_at c.1 >>= λ end. right_end c.0 end.0 end.1) ≡ Ok x) (sym s.1) p.2 in
    let b = first_read _ _ _ text_field a.got.1 (λ end. right_end a.got.0 end.0 end.1) x a.took.rest_fits goes in
    let made : ℤ × List ℕ = (a.got.0, b.got.1) in
    let g = guard_ended (bytes_eq b.got.0 slash) faults.Text made x b.goes in
    let sum = (Decides-int_eq a.got.0 (pos (adler_of front))).0 s.0 in
    let end = (bytes_eq-Decides b.got.0 slash).0 g.0 in
    let ab = TakesFront-then bytes (long a.got.0) a.got.1 (ustring b.got.0) b.got.1 a.took b.took in
    let ended = subst (λ (text : List ℕ). TakesFront bytes (long a.got.0 ++ ustring text) b.got.1) end ab in
    at_ok (λ (y : ℤ × List ℕ). TakesFront bytes (sum_seal y.0) y.1 × IsSumOf front y.0) made x (ap Ok g.1) (ended, sum)

seal_again : (front : List ℕ) (sum : ℤ) (rest : List ℕ) → IsSumOf front sum → seal_at front (sum_seal sum ++ rest) ≡ Ok (sum, rest)
unfolding seal_at
seal_again front sum rest is =
    let sum = pos (adler_of front) in
    subst (λ (z : ℤ). seal_at front (sum_seal z ++ rest) ≡ Ok (z, rest)) (sym is)
    (ap (seal_at front) (append_assoc (long sum) (ustring slash) rest)
    ∙ rw (long_field.again sum (ustring slash ++ rest) (sum_fits front), (Decides-int_eq sum sum).1 refl, text_field.again slash rest slash_text) refl)

pub seal_field : (front : List ℕ) → IsField (seal_at front) sum_seal (IsSumOf front)
seal_field front = record { takes = seal_takes front; again = seal_again front }
