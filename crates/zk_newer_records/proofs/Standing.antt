-- Records of 3.4 among those of later servers.
use Rattle.std.proofs.Common.{◌≡◌, ℕ, suc, ◌<◌, ◌^◌, ◌&&◌, ℤ, pos, Bool, true, false, cond, List, [], ◌∷◌, ◌++◌, length, map, Option, Some, None, refl, sym, ap, subst, ◌∙◌}
use Rattle.std.specs.Prelude.{if◌then◌else◌}
use Rattle.std.specs.List.{flat_map, AllByRecursion, list_any, list_all}
use Rattle.std.proofs.lemmas.List.{append-nil}
use Rattle.std.proofs.lemmas.List.Concat.{flat_map-cons}
use Rattle.zk_table.specs.declared.txn.Op.{Op}
use Rattle.zk_table.specs.declared.txn.Op.TheVariants as ops
use Rattle.zk_table.specs.declared.sub.Sub.{Sub}
use Rattle.zk_table.specs.declared.txn.Txn.{Txn}
use Rattle.zk_table.specs.Parts.{is_error}
use Rattle.zk_records.specs.Records.{int, vector, part_of, kind_of, body_of, txn_header, record_of, IsPart, IsOp, IsRecordOf}
use Rattle.zk_newer_records.specs.declared.newer_record.Encoding.{Encoding}
use Rattle.zk_newer_records.specs.declared.newer_record.Encoding.TheVariants as forms
use Rattle.zk_newer_records.specs.declared.newer_record.NewerRecord.{NewerRecord}
use Rattle.zk_newer_records.specs.declared.parts.PartEncoding.{PartEncoding}
use Rattle.zk_newer_records.specs.declared.parts.PartEncoding.TheVariants as parts
use Rattle.zk_newer_records.specs.Changes.{has_digest, is_own_part, is_own_form, is_unchanged}
use Rattle.zk_newer_records.specs.NewerRecords.{paired, is_kept, newer_part, IsNewerPart, IsEncoding, written_kind, written_body, header_with, digest_bytes, newer_record, form_tells_why, IsNewer, own_part_form, own_form, own}

-- ---- parts in the 3.4 encoding

as_many : (subs : List Sub) → length (map own_part_form subs) ≡ length subs
as_many [] = refl
as_many (sub ∷ subs) = ap suc (as_many subs)

paired_as_many : (subs : List Sub) → length (paired subs (map own_part_form subs)) ≡ length subs
paired_as_many [] = refl
paired_as_many (sub ∷ subs) = ap suc (paired_as_many subs)

each_own : (subs : List Sub) → AllByRecursion IsPart subs → AllByRecursion IsNewerPart (paired subs (map own_part_form subs))
each_own [] all = tt
each_own (sub ∷ subs) all = (record { fits = all.0.fits; form = tt; short = all.0.short }, each_own subs all.1)

none_kept : (subs : List Sub) → list_any is_kept (map own_part_form subs) ≡ false
none_kept [] = refl
none_kept (sub ∷ subs) = none_kept subs

all_own : (subs : List Sub) → list_all is_own_part (map own_part_form subs) ≡ true
all_own [] = refl
all_own (sub ∷ subs) = all_own subs

-- ---- bodies in the 3.4 encoding

own_part_is : (form : PartEncoding) → is_own_part form ≡ true → form ≡ parts.Own
own_part_is parts.Own e = refl
own_part_is parts.Container e = absurd cc
own_part_is (parts.Ttl ttl) e = absurd cc
own_part_is parts.DeletedContainer e = absurd cc
own_part_is parts.Kept e = absurd cc
own_part_is parts.KeptContainer e = absurd cc
own_part_is (parts.KeptTtl ttl) e = absurd cc

both_true : (a b : Bool) → (a && b) ≡ true → (a ≡ true) × (b ≡ true)
both_true true b e = (refl, e)
both_true false b e = absurd cc

as_long : (subs : List Sub) (written : List PartEncoding) → length written ≡ length subs → length (paired subs written) ≡ length subs
as_long [] written e = refl
as_long (sub ∷ subs) [] e = absurd cc
as_long (sub ∷ subs) (form ∷ written) e = ap suc (as_long subs written cc)

own_elements : (subs : List Sub) (written : List PartEncoding) → length written ≡ length subs → list_all is_own_part written ≡ true → flat_map newer_part (paired subs written) ≡ flat_map part_of subs
own_elements [] written e plain = refl
own_elements (sub ∷ subs) [] e plain = absurd cc
own_elements (sub ∷ subs) (form ∷ written) e plain =
    let both = both_true (is_own_part form) (list_all is_own_part written) plain in
    flat_map-cons newer_part (record { sub = sub; form = form }) (paired subs written)
    ∙ ap (λ (f : PartEncoding). newer_part (record { sub = sub; form = f }) ++ flat_map newer_part (paired subs written)) (own_part_is form both.0)
    ∙ ap (λ (bytes : List ℕ). part_of sub ++ bytes) (own_elements subs written (cc) both.1)
    ∙ sym (flat_map-cons part_of sub subs)

own_vector : (subs : List Sub) (written : List PartEncoding) → length written ≡ length subs → list_all is_own_part written ≡ true → vector newer_part (paired subs written) ≡ vector part_of subs
own_vector subs written e own =
    ap (λ (n : ℕ). int (pos n) ++ flat_map newer_part (paired subs written)) (as_long subs written e)
    ∙ ap (λ (bytes : List ℕ). int (pos (length subs)) ++ bytes) (own_elements subs written e own)

own_parts_bytes : (op : Op) (written : List PartEncoding) → IsEncoding op (forms.Parts written) → list_all is_own_part written ≡ true → (pos 14 ≡ kind_of op) × (written_body op (forms.Parts written) ≡ body_of op)
own_parts_bytes (ops.Multi subs) written is own = (refl, own_vector subs written is.as_many own)
own_parts_bytes (ops.Create path content acl ephemeral count) written is own = absurd is
own_parts_bytes (ops.CreateOld path content acl ephemeral) written is own = absurd is
own_parts_bytes (ops.Delete path) written is own = absurd is
own_parts_bytes (ops.SetData path content version) written is own = absurd is
own_parts_bytes (ops.SetAcl path acl version) written is own = absurd is
own_parts_bytes (ops.OpenSession timeout) written is own = absurd is
own_parts_bytes ops.CloseSession written is own = absurd is
own_parts_bytes (ops.Error code) written is own = absurd is

own_bytes : (op : Op) (form : Encoding) → IsEncoding op form → is_own_form form ≡ true → (written_kind op form ≡ kind_of op) × (written_body op form ≡ body_of op)
own_bytes op forms.Own is own = (refl, refl)
own_bytes op forms.Create2 is own = absurd cc
own_bytes op forms.Container is own = absurd cc
own_bytes op (forms.Ttl ttl) is own = absurd cc
own_bytes op forms.DeletedContainer is own = absurd cc
own_bytes op forms.Reconfig is own = absurd cc
own_bytes op forms.CheckAlone is own = absurd cc
own_bytes op (forms.ClosePaths listed) is own = absurd cc
own_bytes op (forms.Parts written) is own = own_parts_bytes op written is own

-- ---- operations

own_is : (op : Op) → IsOp op → IsEncoding op (own_form op)
own_is (ops.Create path content acl ephemeral count) is = is
own_is (ops.CreateOld path content acl ephemeral) is = is
own_is (ops.Delete path) is = is
own_is (ops.SetData path content version) is = is
own_is (ops.SetAcl path acl version) is = is
own_is (ops.OpenSession timeout) is = is
own_is ops.CloseSession is = is
own_is (ops.Error code) is = is
own_is (ops.Multi subs) is = record { each = record { count = subst (λ (n : ℕ). n < 2 ^ 31) (sym (paired_as_many subs)) is.count; each = each_own subs is.each }; as_many = as_many subs }

own_is_own : (op : Op) → is_own_form (own_form op) ≡ true
own_is_own (ops.Create path content acl ephemeral count) = refl
own_is_own (ops.CreateOld path content acl ephemeral) = refl
own_is_own (ops.Delete path) = refl
own_is_own (ops.SetData path content version) = refl
own_is_own (ops.SetAcl path acl version) = refl
own_is_own (ops.OpenSession timeout) = refl
own_is_own ops.CloseSession = refl
own_is_own (ops.Error code) = refl
own_is_own (ops.Multi subs) = all_own subs

own_tells : (op : Op) → form_tells_why op (own_form op) ≡ true
own_tells (ops.Create path content acl ephemeral count) = refl
own_tells (ops.CreateOld path content acl ephemeral) = refl
own_tells (ops.Delete path) = refl
own_tells (ops.SetData path content version) = refl
own_tells (ops.SetAcl path acl version) = refl
own_tells (ops.OpenSession timeout) = refl
own_tells ops.CloseSession = refl
own_tells (ops.Error code) = refl
own_tells (ops.Multi subs) = ap (λ (kept : Bool). if kept then list_any is_error subs else true) (none_kept subs)

-- ---- laws

-- the record in the 3.4 encoding is the transaction's own
own_record : (newer : NewerRecord) → IsEncoding newer.txn.op newer.form → is_own_form newer.form ≡ true → newer.digest ≡ None → newer_record newer ≡ record_of newer.txn
unfolding newer_record record_of
own_record newer is own none =
    let bytes = own_bytes newer.txn.op newer.form is own in
    ap (λ (digest : Option ℤ). header_with (written_kind newer.txn.op newer.form) newer.txn ++ written_body newer.txn.op newer.form ++ digest_bytes digest) none
    ∙ append-nil (header_with (written_kind newer.txn.op newer.form) newer.txn ++ written_body newer.txn.op newer.form)
    ∙ ap (λ (kind : ℤ). header_with kind newer.txn ++ written_body newer.txn.op newer.form) bytes.0
    ∙ ap (λ (body : List ℕ). txn_header newer.txn ++ body) bytes.1

pub old_ones_stand : (bytes : List ℕ) (txn : Txn) → IsRecordOf bytes txn → IsNewer bytes (own txn)
old_ones_stand bytes txn is =
    let form = own_is txn.op is.fits.op in
    record {
      written = record {
        session = is.fits.session;
        cxid = is.fits.cxid;
        zxid = is.fits.zxid;
        time = is.fits.time;
        form = form;
        digest = tt;
        spelled = is.spelled ∙ sym (own_record (own txn) form (own_is_own txn.op) refl);
      };
      tells = own_tells txn.op;
    }

no_digest : (digest : Option ℤ) (b : Bool) → cond (has_digest digest) false b ≡ true → (digest ≡ None) × (b ≡ true)
no_digest None b e = (refl, e)
no_digest (Some sum) b e = absurd cc

pub unchanged_ones_are_old : (bytes : List ℕ) (newer : NewerRecord) → IsNewer bytes newer → is_unchanged newer ≡ true → bytes ≡ record_of newer.txn
unchanged_ones_are_old bytes newer is e =
    let both = no_digest newer.digest (is_own_form newer.form) e in
    is.written.spelled ∙ own_record newer is.written.form both.1 both.0

pub old_ones_are_unchanged : (txn : Txn) → is_unchanged (own txn) ≡ true
old_ones_are_unchanged txn = own_is_own txn.op
