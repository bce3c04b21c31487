-- The tree after a SNAP: reading is the inverse of writing, and what is read of a prefix stays.
use Rattle.std.proofs.Common.{◌≡◌, ◌⊎◌, inl, inr, ℕ, Bool, true, false, cond, List, [], ◌∷◌, ◌++◌, Option, Some, None, Result, Ok, Err, refl, sym, ap, subst, ◌∙◌, lit<}
use Rattle.std.specs.Prelude.{is_none}
use Rattle.std.specs.Int.{w32, w64}
use Rattle.std.specs.Str.{bytes_eq, IsUtf8}
use Rattle.std.proofs.lemmas.Slice.Eq.{bytes_eq-Decides}
use Rattle.std.proofs.lemmas.Str.{IsUtf8-from_ascii}
use Rattle.std.proofs.lemmas.Str.Ascii.{IsAscii-cons, IsAscii-nil}
use Rattle.zk_jute.specs.declared.fault.JuteFault.{JuteFault}
use Rattle.zk_jute.specs.declared.fault.JuteFault.TheVariants as faults
use Rattle.zk_jute.specs.Reading.{◌>>=◌, number_at, count_at, text_at, content_at, vector_at, acl_at, made_of}
use Rattle.zk_jute.proofs.Numbers.{IsBytes, TakesFront, IsField, first_read, made_takes, at_ok}
use Rattle.zk_jute.proofs.Texts.{count_field, text_field}
use Rattle.zk_path.specs.Paths.{fault_of}
use Rattle.zk_records.specs.Records.{ustring, IsText}
use Rattle.zk_snapshot.specs.declared.snapshot.Stored.{Stored}
use Rattle.zk_snapshot.specs.Snapshots.{slash, lease, access, stored, IsLease, IsAccess, IsStored}
use Rattle.zk_snapshot.specs.Reading.{lease_at, access_at, moments_at, versions_at, kept_at, position_of, stored_at, next_at}
use Rattle.zk_snapshot.proofs.Entries.{next_takes, end_again, node_again, step_bytes, IsStep}
use Rattle.zk_snapshot.proofs.Spellings.{lease_field, access_field}
use Rattle.zk_quorum_records.specs.declared.item.Item.{Item}
use Rattle.zk_quorum_records.specs.declared.item.Item.TheVariants as items
use Rattle.zk_quorum_records.specs.Items.{bytes_of, count, signature, IsCount, IsMade, IsNodeOrEnd}
use Rattle.zk_quorum_records.specs.Reading.{node_or_end, signature_at}
use Rattle.zk_quorum_records.proofs.Steady.{Later, IsSteady, later_bind, later_err, later_if, made_steady, number_steady, count_steady, text_steady, content_steady, vector_steady, acl_steady}
use Rattle.zk_quorum_records.proofs.Fields.{IsSound}

pub count_sound : IsSound count_at count IsCount
count_sound = record { field = count_field; steady = count_steady }

lease_steady : IsSteady lease_at
unfolding lease_at
lease_steady bytes more = later_bind _ _ more _ (number_steady w64 bytes more) (λ session. later_bind _ _ more _ (number_steady w32 session.1 more) (λ timeout. refl))

pub lease_sound : IsSound lease_at lease IsLease
lease_sound = record { field = lease_field; steady = lease_steady }

access_steady : IsSteady access_at
unfolding access_at
access_steady bytes more = later_bind _ _ more _ (number_steady w64 bytes more) (λ number. later_bind _ _ more _ (vector_steady acl_at acl_steady number.1 more) (λ acl. refl))

pub access_sound : IsSound access_at access IsAccess
access_sound = record { field = access_field; steady = access_steady }

-- ---- nodes

moments_steady : IsSteady moments_at
unfolding moments_at
moments_steady bytes more =
    later_bind _ _ more _ (number_steady w64 bytes more) (λ czxid. later_bind _ _ more _ (number_steady w64 czxid.1 more)
    (λ mzxid. later_bind _ _ more _ (number_steady w64 mzxid.1 more) (λ ctime. later_bind _ _ more _ (number_steady w64 ctime.1 more) (λ mtime. refl))))

versions_steady : IsSteady versions_at
unfolding versions_at
versions_steady bytes more =
    later_bind _ _ more _ (number_steady w32 bytes more) (λ version. later_bind _ _ more _ (number_steady w32 version.1 more)
    (λ creates. later_bind _ _ more _ (number_steady w32 creates.1 more) (λ aversion. refl)))

kept_steady : IsSteady kept_at
unfolding kept_at
kept_steady bytes more =
    later_bind _ _ more _ (content_steady bytes more) (λ content. later_bind _ _ more _ (number_steady w64 content.1 more)
    (λ access. later_bind _ _ more _ (moments_steady access.1 more) (λ moments. later_bind _ _ more _ (versions_steady moments.1 more)
    (λ versions. later_bind _ _ more _ (number_steady w64 versions.1 more) (λ owner. later_bind _ _ more _ (number_steady w64 owner.1 more) (λ pzxid. refl))))))

-- the path of a text decides before any byte is read
placed : (place : Result (List ℕ) JuteFault) (bytes more : List ℕ)
    → Later {A = Option Stored} (place >>= λ path. kept_at bytes >>= λ kept. Ok (Some (record { path = path; kept = kept.0 }), kept.1)) more
    (place >>= λ path. kept_at (bytes ++ more) >>= λ kept. Ok (Some (record { path = path; kept = kept.0 }), kept.1))
placed (Ok path) bytes more = later_bind _ _ more _ (kept_steady bytes more) (λ kept. refl)
placed (Err fault) bytes more = later_err (Option Stored) fault more

stored_steady : (text : List ℕ) → IsSteady (stored_at text)
unfolding stored_at
stored_steady text bytes more = placed (position_of text) bytes more

next_steady : IsSteady next_at
unfolding next_at
next_steady bytes more =
    later_bind _ _ more (λ text. cond (bytes_eq text.0 slash) (Ok (None, text.1)) (stored_at text.0 text.1)) (text_steady bytes more)
    (λ text. later_if (bytes_eq text.0 slash) (Ok (None, text.1)) (stored_at text.0 text.1) (Ok (None, text.1 ++ more)) (stored_at text.0 (text.1 ++ more)) more refl (stored_steady text.0 text.1 more))

node_takes : (bytes : List ℕ) (next : Option Stored) (rest : List ℕ) → TakesFront bytes (step_bytes next) rest → IsStep next → TakesFront bytes (bytes_of (node_or_end next)) rest × IsNodeOrEnd (node_or_end next)
node_takes bytes None rest took is = (took, inr refl)
node_takes bytes (Some node) rest took is = (took, inl (node, (refl, is)))

step_takes : (bytes : List ℕ) (x : Item × List ℕ) → IsBytes bytes → made_of node_or_end (next_at bytes) ≡ Ok x → TakesFront bytes (bytes_of x.0) x.1 × IsNodeOrEnd x.0
step_takes bytes x fits e = step (next_at bytes) refl e
  where
    step : (r : Result (Option Stored × List ℕ) JuteFault) → next_at bytes ≡ r → made_of node_or_end r ≡ Ok x → TakesFront bytes (bytes_of x.0) x.1 × IsNodeOrEnd x.0
    step (Ok y) is made =
        let t = next_takes bytes y fits is in
        let it : Item × List ℕ = (node_or_end y.0, y.1) in
        at_ok (λ (z : Item × List ℕ). TakesFront bytes (bytes_of z.0) z.1 × IsNodeOrEnd z.0) it x made (node_takes bytes y.0 y.1 t.0 t.1)
    step (Err fault) is made = absurd cc

step_again : (item : Item) (rest : List ℕ) → IsNodeOrEnd item → made_of node_or_end (next_at (bytes_of item ++ rest)) ≡ Ok (item, rest)
step_again item rest (inl node) =
    ap (λ (it : Item). made_of node_or_end (next_at (bytes_of it ++ rest))) node.1.0 ∙ ap (made_of node_or_end) (node_again node.0 rest node.1.1) ∙ ap (λ (it : Item). Ok (it, rest)) (sym node.1.0)
step_again item rest (inr end) =
    ap (λ (it : Item). made_of node_or_end (next_at (bytes_of it ++ rest))) end ∙ ap (made_of node_or_end) (end_again rest) ∙ ap (λ (it : Item). Ok (it, rest)) (sym end)

pub step_sound : IsSound (λ bytes. made_of node_or_end (next_at bytes)) bytes_of IsNodeOrEnd
step_sound = record { field = record { takes = step_takes; again = step_again }; steady = made_steady next_at node_or_end next_steady }

-- ---- the signature

signature_text : IsText signature
signature_text =
    let a9 = IsAscii-cons 101 [] (lit< tt) IsAscii-nil in
    let a8 = IsAscii-cons 114 (101 ∷ []) (lit< tt) a9 in
    let a7 = IsAscii-cons 101 (114 ∷ 101 ∷ []) (lit< tt) a8 in
    let a6 = IsAscii-cons 72 (101 ∷ 114 ∷ 101 ∷ []) (lit< tt) a7 in
    let a5 = IsAscii-cons 115 (72 ∷ 101 ∷ 114 ∷ 101 ∷ []) (lit< tt) a6 in
    let a4 = IsAscii-cons 97 (115 ∷ 72 ∷ 101 ∷ 114 ∷ 101 ∷ []) (lit< tt) a5 in
    let a3 = IsAscii-cons 87 (97 ∷ 115 ∷ 72 ∷ 101 ∷ 114 ∷ 101 ∷ []) (lit< tt) a4 in
    let a2 = IsAscii-cons 110 (87 ∷ 97 ∷ 115 ∷ 72 ∷ 101 ∷ 114 ∷ 101 ∷ []) (lit< tt) a3 in
    let a1 = IsAscii-cons 101 (110 ∷ 87 ∷ 97 ∷ 115 ∷ 72 ∷ 101 ∷ 114 ∷ 101 ∷ []) (lit< tt) a2 in
    let a0 = IsAscii-cons 66 (101 ∷ 110 ∷ 87 ∷ 97 ∷ 115 ∷ 72 ∷ 101 ∷ 114 ∷ 101 ∷ []) (lit< tt) a1 in
    record { utf8 = IsUtf8-from_ascii signature a0; short = lit< tt }

abbrev pub IsSignature : Item → Type 0
IsSignature item = item ≡ items.Signature

signature_by : (bytes : List ℕ) (b : Bool) (text after : List ℕ) (x : Item × List ℕ) → bytes_eq text signature ≡ b → TakesFront bytes (ustring text) after → cond b (Ok (items.Signature, after)) (Err faults.Kind) ≡ Ok x → TakesFront bytes (bytes_of x.0) x.1 × IsSignature x.0
signature_by bytes true text after x same took e =
    let made : Item × List ℕ = (items.Signature, after) in
    let its = subst (λ (t : List ℕ). TakesFront bytes (ustring t) after) ((bytes_eq-Decides text signature).0 same) took in
    at_ok (λ (y : Item × List ℕ). TakesFront bytes (bytes_of y.0) y.1 × IsSignature y.0) made x e (its, refl)
signature_by bytes false text after x same took e = absurd cc

signature_takes : (bytes : List ℕ) (x : Item × List ℕ) → IsBytes bytes → signature_at bytes ≡ Ok x → TakesFront bytes (bytes_of x.0) x.1 × IsSignature x.0
unfolding signature_at
signature_takes bytes x fits e =
    let a = first_read text_at ustring IsText text_field bytes (λ text. cond (bytes_eq text.0 signature) (Ok (items.Signature, text.1)) (Err faults.Kind)) x fits e in
    signature_by bytes (bytes_eq a.got.0 signature) a.got.0 a.got.1 x refl a.took a.goes

signature_read : (rest : List ℕ) → signature_at (ustring signature ++ rest) ≡ Ok (items.Signature, rest)
unfolding signature_at
signature_read rest = rw (text_field.again signature rest signature_text) refl

signature_again : (item : Item) (rest : List ℕ) → IsSignature item → signature_at (bytes_of item ++ rest) ≡ Ok (item, rest)
signature_again item rest is = ap (λ (it : Item). signature_at (bytes_of it ++ rest)) is ∙ signature_read rest ∙ ap (λ (it : Item). Ok (it, rest)) (sym is)

signature_steady : IsSteady signature_at
unfolding signature_at
signature_steady bytes more =
    later_bind _ _ more (λ text. cond (bytes_eq text.0 signature) (Ok (items.Signature, text.1)) (Err faults.Kind)) (text_steady bytes more)
    (λ text. later_if (bytes_eq text.0 signature) (Ok (items.Signature, text.1)) (Err faults.Kind) (Ok (items.Signature, text.1 ++ more)) (Err faults.Kind) more refl refl)

pub signature_sound : IsSound signature_at bytes_of IsSignature
signature_sound = record { field = record { takes = signature_takes; again = signature_again }; steady = signature_steady }
