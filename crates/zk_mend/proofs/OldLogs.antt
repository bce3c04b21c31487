-- A log of 3.4 is converted to itself.
use Rattle.std.proofs.Common.{◌≡◌, ℕ, ◌+◌, ◌≤◌, ℤ, ◌<ℤ◌, Bool, true, false, not, cond, List, [], ◌∷◌, ◌++◌, length, map, None, Some, refl, sym, ap, ◌∙◌, subst, arith, length-append}
use Rattle.std.proofs.lemmas.Bool.Decides.{nat_tests}
use Rattle.std.proofs.lemmas.Int.{ints}
use Rattle.std.proofs.lemmas.List.Sums.{sum_by-cons}
use Rattle.std.specs.List.{flat_map, list_all, AllByRecursion}
use Rattle.std.specs.Prelude.{count_by, int_le, nat_lt}
use Rattle.zk_mend.specs.Digests.{tree_digest}
use Rattle.zk_records.specs.Records.{record_of}
use Rattle.zk_records.specs.Sizes.{capped, size_of}
use Rattle.zk_records.specs.Checksum.{adler_of}
use Rattle.zk_records.specs.Written.{framed, entry_of, most_bytes, HasEntry, Rises}
use Rattle.zk_log.specs.Logs.{Ends, IsLogOf}
use Rattle.zk_log.specs.declared.loaded.Ending.{Ending}
use Rattle.zk_newer_records.proofs.Standing.{old_ones_stand}
use Rattle.zk_newer_records.specs.Changes.{is_own_part, is_part_change}
use Rattle.zk_newer_records.specs.NewerRecords.{newer_record, own, own_form, own_part_form, tells_why, IsNewer, IsSpelled}
use Rattle.zk_newer_records.specs.declared.changes.Change.{Change}
use Rattle.zk_newer_records.specs.declared.changes.Change.TheVariants as changes
use Rattle.zk_table.specs.States.{NodeMap}
use Rattle.zk_table.specs.Steps.{step}
use Rattle.zk_table.specs.declared.sub.Sub.{Sub}
use Rattle.zk_table.specs.declared.txn.Op.{Op}
use Rattle.zk_table.specs.declared.txn.Op.TheVariants as ops
use Rattle.zk_table.specs.declared.txn.Txn.{Txn}
use Rattle.zk_mend.specs.Mending.{IsMended}
use Rattle.zk_mend.specs.NewerLogs.{LogPosition, start_place, after_all, after_record, owners_next, newer_entry, txns_in, closes_others, lists_others, AllMayCome, HasNewerEntry, MayCome}
use Rattle.zk_directory.specs.Continuing.{starts_history}
use Rattle.zk_mend.specs.Telling.{added, told_after, told_by, told_of, unchanged_told}
use Rattle.zk_mend.specs.declared.fault.MendFault.{MendFault}
use Rattle.zk_mend.specs.declared.conversion_report.ConversionReport.{ConversionReport}

-- ---- the report on a record of 3.4

no_part_change : (change : Change) (sub : Sub) → is_part_change change (own_part_form sub) ≡ false
no_part_change changes.CreateContainer sub = refl
no_part_change changes.CreateTtl sub = refl
no_part_change changes.DeleteContainer sub = refl
no_part_change changes.KeptBody sub = refl
no_part_change change sub = refl

abbrev one_if : Bool → ℕ
one_if is = cond is 1 0

none_counted : (change : Change) (subs : List Sub) → count_by (is_part_change change) (map own_part_form subs) ≡ 0
none_counted change [] = refl
none_counted change (sub ∷ subs) =
    let first : one_if (is_part_change change (own_part_form sub)) ≡ one_if false = ap one_if (no_part_change change sub) in
    omega (arith, sum_by-cons (λ form. one_if (is_part_change change form)) (own_part_form sub) (map own_part_form subs), first, none_counted change subs)

all_own : (subs : List Sub) → list_all is_own_part (map own_part_form subs) ≡ true
all_own [] = refl
all_own (sub ∷ subs) = all_own subs

abbrev pub with_record : ConversionReport → ConversionReport
with_record told = record told { records = added told.records 1; unchanged = added told.unchanged 1 }

told_by_form : (told : ConversionReport) (at sum : ℕ) (txn : Txn) (op : Op) → told_after told at (record { txn = txn; form = own_form op; digest = None }) sum false ≡ with_record told
told_by_form told at sum txn (ops.Multi subs) =
    rw (all_own subs, none_counted changes.Create2 subs, none_counted changes.CreateContainer subs, none_counted changes.CreateTtl subs, none_counted changes.DeleteContainer subs, none_counted changes.KeptBody subs) refl
told_by_form told at sum txn op = refl

lists_none : (nodes : NodeMap) (session : ℤ) (op : Op) → lists_others nodes session (own_form op) ≡ false
lists_none nodes session (ops.Multi subs) = refl
lists_none nodes session op = refl

closes_none : (nodes : NodeMap) (txn : Txn) (op : Op) → closes_others nodes (record { txn = txn; form = own_form op; digest = None }) ≡ false
closes_none nodes txn (ops.Multi subs) = refl
closes_none nodes txn op = refl

-- ---- one record

own_record : (txn : Txn) → HasEntry txn → IsNewer (record_of txn) (own txn)
own_record txn e = old_ones_stand (record_of txn) txn (record { fits = e.fits; spelled = refl })

same_record : (txn : Txn) → HasEntry txn → record_of txn ≡ newer_record (own txn)
same_record txn e = (own_record txn e).written.spelled

same_entry : (txn : Txn) → HasEntry txn → newer_entry (own txn) ≡ entry_of txn
unfolding newer_entry entry_of
same_entry txn e = ap (λ l. framed (adler_of l) l) (sym (same_record txn e))

own_entry : (txn : Txn) → HasEntry txn → HasNewerEntry (own txn)
own_entry txn e = record {
  spelled = subst (λ l. IsSpelled l (own txn)) (same_record txn e) (own_record txn e).written;
  short = subst (λ l. length l ≤ most_bytes) (same_record txn e) e.short;
}

-- the checks for a fault, one by one
not_late : (last zxid : ℤ) → last <ℤ zxid → int_le zxid last ≡ false
not_late last zxid above = grind (arith, ints)

not_long : (size : ℕ) → size ≤ most_bytes → nat_lt most_bytes size ≡ false
not_long size short = grind (arith, nat_tests)

sized : (bytes : List ℕ) → length bytes ≤ most_bytes → size_of bytes ≤ most_bytes
sized bytes short = omega arith

all_pass : (tells long late others : Bool) (a b c d : MendFault) → tells ≡ true → long ≡ false → late ≡ false → others ≡ false
    → cond (not tells) (Some a) (cond long (Some b) (cond late (Some c) (cond others (Some d) None))) ≡ None
all_pass tells long late others a b c d p q r s = rw (p, q, r, s) refl

own_may_come : (place : LogPosition) (txn : Txn) → HasEntry txn → place.last <ℤ txn.zxid → MayCome place (own txn)
own_may_come place txn e above = record {
  entry = own_entry txn e;
  goes = all_pass (tells_why (own txn)) (nat_lt most_bytes (size_of (record_of txn))) (int_le txn.zxid place.last) (closes_others place.state.nodes (own txn)) _ _ _ _ (own_record txn e).tells (not_long (size_of (record_of txn)) (sized (record_of txn) e.short))
      (not_late place.last txn.zxid above) (closes_none place.state.nodes txn txn.op);
}

-- ---- one after another

come_all : (place : LogPosition) (txns : List Txn) → AllByRecursion HasEntry txns → Rises place.last txns → AllMayCome place (map own txns)
come_all place [] each rises = tt
come_all place (txn ∷ txns) each rises = (own_may_come place txn each.0 rises.0, come_all (after_record place (own txn)) txns each.1 rises.1)

same_entries : (txns : List Txn) → AllByRecursion HasEntry txns → flat_map newer_entry (map own txns) ≡ flat_map entry_of txns
same_entries [] each = refl
same_entries (txn ∷ txns) each = ap (λ l. l ++ flat_map newer_entry (map own txns)) (same_entry txn each.0) ∙ ap (λ l. entry_of txn ++ l) (same_entries txns each.1)

same_txns : (txns : List Txn) → txns_in (map own txns) ≡ txns
same_txns [] = refl
same_txns (txn ∷ txns) = ap (λ l. txn ∷ l) (same_txns txns)

place_after : (place : LogPosition) (txns : List Txn) → (after_all place (map own txns)).at ≡ place.at + length (flat_map newer_entry (map own txns))
place_after place [] = omega arith
place_after place (txn ∷ txns) = omega (arith, place_after (after_record place (own txn)) txns, length-append (newer_entry (own txn)) (flat_map newer_entry (map own txns)))

one_more : (count : ℕ) → added (capped count) 1 ≡ capped (count + 1)
one_more count = omega arith

told_next : (place : LogPosition) (count : ℕ) (txn : Txn) → place.told ≡ unchanged_told (capped count) → (after_record place (own txn)).told ≡ unchanged_told (capped (count + 1))
told_next place count txn e =
    let sum = tree_digest (owners_next place (own txn)) (step place.state txn).0.nodes in
    ap (λ b. told_after place.told place.at (own txn) sum b) (lists_none place.state.nodes txn.session txn.op)
    ∙ told_by_form place.told place.at sum txn txn.op ∙ ap with_record e ∙ ap unchanged_told (one_more count)

told_all : (place : LogPosition) (count : ℕ) (txns : List Txn) → place.told ≡ unchanged_told (capped count) → (after_all place (map own txns)).told ≡ unchanged_told (capped (count + length txns))
told_all place count [] e = e ∙ ap (λ k. unchanged_told (capped k)) (omega arith)
told_all place count (txn ∷ txns) e = told_all (after_record place (own txn)) (count + 1) txns (told_next place count txn e) ∙ ap (λ k. unchanged_told (capped k)) (omega arith)

-- no digest and no list of paths was counted
kept_by : (starts : Bool) (count : ℕ) → told_by starts (unchanged_told count) ≡ unchanged_told count
kept_by true count = refl
kept_by false count = refl

told_kept : (txns : List Txn) (count : ℕ) → told_of txns (unchanged_told count) ≡ unchanged_told count
told_kept [] count = refl
told_kept (txn ∷ txns) count = kept_by (starts_history txn.zxid) count

-- ---- whole logs

from_none : (txns : List Txn) → length txns ≡ 0 + length txns
from_none txns = omega arith

pub old_logs_come_back : (bytes : List ℕ) (dbid : ℤ) (txns : List Txn) (ending : Ending) → IsLogOf bytes dbid txns ending → IsMended bytes (record { dbid = dbid; journal = txns; ending = ending; told = unchanged_told (capped (length txns)) })
old_logs_come_back bytes dbid txns ending l =
    let h = l.entries in
    let entries = same_entries txns h.each in
    let at : 16 + length (flat_map entry_of txns) ≡ (after_all start_place (map own txns)).at = ap (λ b. 16 + length b) (sym entries) ∙ sym (place_after start_place txns) in
    record {
      dbid_fits = l.dbid_fits;
      body = l.body;
      spelled = l.spelled;
      entries = record {
        newers = map own txns;
        mends = record {
          rest = h.rest;
          spelled = h.spelled ∙ ap (λ b. b ++ h.rest) (sym entries);
          come = come_all start_place txns h.each h.rising;
          stops = subst (λ k. Ends k h.rest ending) at h.stops;
        };
        journal = sym (same_txns txns);
        told = ap (λ k. unchanged_told (capped k)) (from_none txns) ∙ sym (told_kept (txns_in (map own txns)) (capped (0 + length txns)))
            ∙ ap (told_of (txns_in (map own txns))) (sym (told_all start_place 0 txns refl));
      };
    }
