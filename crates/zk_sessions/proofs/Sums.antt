-- The sum of the writes of sessions.
use Rattle.std.proofs.Common.{◌≡◌, ◌+◌, ◌<◌, ◌≤◌, ◌^◌, ℕ, ℤ, Bool, true, false, cond, min, List, [], ◌∷◌, map, Option, Some, None, arith, refl, sym, ap, ◌∙◌}
use Rattle.std.proofs.lemmas.Map.Entries.{sum_by-insert_entry, sum_by-remove_entry}
use Rattle.std.proofs.lemmas.Cmp.{int_cmp_total}
use Rattle.std.specs.BTreeMap.{is_at}
use Rattle.std.specs.List.{fold, list_any}
use Rattle.std.specs.Map.{remove_entry}
use Rattle.std.specs.Option.{option_map, unwrap_or}
use Rattle.std.specs.Ordering.{int_cmp}
use Rattle.zk_newer_records.specs.declared.newer_record.NewerRecord.{NewerRecord}
use Rattle.zk_sessions.proofs.Sorted.{sorted_inserted}
use Rattle.zk_sessions.specs.Ephemerals.{owner_of}
use Rattle.zk_sessions.specs.Known.{after, after_all, after_op, after_part, after_parts, all_gone, closing, gone, gone_from, with_ephemeral, with_node}
use Rattle.zk_sessions.specs.Lives.{LifeTable, changed, found, life_of}
use Rattle.zk_sessions.specs.Moments.{moment_of}
use Rattle.zk_sessions.specs.Sessions as sessions
use Rattle.zk_sessions.specs.WriteSums.{IsOrdered, WritesAddUp, record_writes, session_writes, writes_in, writes_of}
use Rattle.zk_sessions.specs.declared.known.Known.{Known}
use Rattle.zk_sessions.specs.declared.session.Session.{Session}
use Rattle.zk_table.specs.Parts.{is_error}
use Rattle.zk_table.specs.declared.sub.Sub.{Sub}
use Rattle.zk_table.specs.declared.sub.Sub.TheVariants as subs
use Rattle.zk_table.specs.declared.txn.Op.{Op}
use Rattle.zk_table.specs.declared.txn.Op.TheVariants as ops

-- ---- one session

writes_found : (o : Option Session) → unwrap_or (option_map session_writes o) 0 ≡ session_writes (unwrap_or o sessions.unknown)
writes_found None = refl
writes_found (Some session) = refl

changed_sum : (lives : LifeTable) (session : ℤ) (change : Session → Session) → IsOrdered lives → writes_of (changed lives session change) + session_writes (life_of lives session) ≡ writes_of lives + session_writes (change (life_of lives session))
changed_sum lives session change ordered =
    ap (λ n. writes_of (changed lives session change) + n) (sym (writes_found (found lives session)))
    ∙ sum_by-insert_entry session_writes int_cmp_total lives session (change (life_of lives session)) ordered

small : (s c t : ℕ) → t + c ≡ s → c ≤ s
small s c t e = omega arith

-- a session has no more writes than all
one_small : (lives : LifeTable) (session : ℤ) → session_writes (life_of lives session) ≤ writes_of lives
one_small lives session =
    small (writes_of lives) (session_writes (life_of lives session)) (writes_of (remove_entry (is_at (int_cmp session)) lives))
    (ap (λ n. writes_of (remove_entry (is_at (int_cmp session)) lives) + n) (sym (writes_found (found lives session)))
    ∙ sum_by-remove_entry session_writes (is_at (int_cmp session)) lives)

-- ---- what adds no write

record Keeps (lives new : LifeTable) : Type 0 where
  pub ordered : IsOrdered new
  pub same : writes_of new ≡ writes_of lives

same_sum : (t s c : ℕ) → t + c ≡ s + c → t ≡ s
same_sum t s c e = omega arith

kept_changed : (lives : LifeTable) (session : ℤ) (change : Session → Session) → ((s : Session) → session_writes (change s) ≡ session_writes s) → IsOrdered lives → Keeps lives (changed lives session change)
kept_changed lives session change same ordered = record {
  ordered = sorted_inserted int_cmp_total lives session (change (life_of lives session)) ordered;
  same = same_sum (writes_of (changed lives session change)) (writes_of lives) (session_writes (life_of lives session)) (changed_sum lives session change ordered ∙ ap (λ n. writes_of lives + n) (same (life_of lives session)));
}

kept_still : (lives : LifeTable) → IsOrdered lives → Keeps lives lives
kept_still lives ordered = record { ordered = ordered; same = refl }

kept_then : (one two three : LifeTable) → Keeps one two → (IsOrdered two → Keeps two three) → Keeps one three
kept_then one two three h more = record { ordered = (more h.ordered).ordered; same = (more h.ordered).same ∙ h.same }

kept_gone_from : (known : Known) (path : List ℕ) (owner : Option ℤ) → IsOrdered known.lives → Keeps known.lives (gone_from known path owner).lives
kept_gone_from known path None ordered = kept_still known.lives ordered
kept_gone_from known path (Some owner) ordered = kept_changed known.lives owner sessions.with_deleted (λ s. refl) ordered

kept_gone : (known : Known) (path : List ℕ) → IsOrdered known.lives → Keeps known.lives (gone known path).lives
kept_gone known path ordered = kept_gone_from known path (owner_of known.owners path) ordered

kept_all_gone : (known : Known) (paths : List (List ℕ)) → IsOrdered known.lives → Keeps known.lives (all_gone known paths).lives
kept_all_gone known [] ordered = kept_still known.lives ordered
kept_all_gone known (path ∷ paths) ordered = kept_then known.lives (gone known path).lives (all_gone (gone known path) paths).lives (kept_gone known path ordered) (kept_all_gone (gone known path) paths)

kept_created : (known : Known) (path : List ℕ) (ephemeral : Bool) (session : ℤ) → IsOrdered known.lives → Keeps known.lives (with_node known path ephemeral session).lives
kept_created known path true session ordered =
    kept_then known.lives (gone known path).lives (with_ephemeral (gone known path) path session).lives (kept_gone known path ordered) (kept_changed (gone known path).lives session sessions.with_created (λ s. refl))
kept_created known path false session ordered = kept_gone known path ordered

kept_part : (session : ℤ) (known : Known) (part : Sub) → IsOrdered known.lives → Keeps known.lives (after_part session known part).lives
kept_part session known (subs.Create path content acl ephemeral count) ordered = kept_created known path ephemeral session ordered
kept_part session known (subs.Delete path) ordered = kept_gone known path ordered
kept_part session known (subs.SetData path content version) ordered = kept_still known.lives ordered
kept_part session known (subs.Check path version) ordered = kept_still known.lives ordered
kept_part session known (subs.Error code) ordered = kept_still known.lives ordered

kept_parts : (session : ℤ) (known : Known) (parts : List Sub) → IsOrdered known.lives → Keeps known.lives (after_parts session known parts).lives
kept_parts session known [] ordered = kept_still known.lives ordered
kept_parts session known (part ∷ parts) ordered =
    kept_then known.lives (after_part session known part).lives (after_parts session (after_part session known part) parts).lives (kept_part session known part ordered) (kept_parts session (after_part session known part) parts)

kept_multi : (b : Bool) (newer : NewerRecord) (known : Known) (parts : List Sub) → IsOrdered known.lives → Keeps known.lives (cond b known (after_parts newer.txn.session known parts)).lives
kept_multi true newer known parts ordered = kept_still known.lives ordered
kept_multi false newer known parts ordered = kept_parts newer.txn.session known parts ordered

kept_op : (newer : NewerRecord) (known : Known) (op : Op) → IsOrdered known.lives → Keeps known.lives (after_op newer known op).lives
kept_op newer known (ops.Create path content acl ephemeral count) ordered = kept_created known path ephemeral newer.txn.session ordered
kept_op newer known (ops.CreateOld path content acl ephemeral) ordered = kept_created known path ephemeral newer.txn.session ordered
kept_op newer known (ops.Delete path) ordered = kept_gone known path ordered
kept_op newer known (ops.SetData path content version) ordered = kept_still known.lives ordered
kept_op newer known (ops.SetAcl path acl version) ordered = kept_still known.lives ordered
kept_op newer known (ops.OpenSession timeout) ordered = kept_changed known.lives newer.txn.session (sessions.with_opening (moment_of newer.txn) timeout) (λ s. refl) ordered
kept_op newer known ops.CloseSession ordered =
    let left = all_gone known (closing known.owners newer) in
    kept_then known.lives left.lives (changed left.lives newer.txn.session (sessions.with_ending (moment_of newer.txn) (sessions.expires newer.txn.cxid))) (kept_all_gone known (closing known.owners newer) ordered)
    (kept_changed left.lives newer.txn.session (sessions.with_ending (moment_of newer.txn) (sessions.expires newer.txn.cxid)) (λ s. refl))
kept_op newer known (ops.Multi parts) ordered = kept_multi (list_any is_error parts) newer known parts ordered
kept_op newer known (ops.Error code) ordered = kept_still known.lives ordered

-- ---- records

grown : (s c t m n : ℕ) → t + c ≡ s + min (c + n) m → c ≤ s → s + n ≤ m → t ≡ s + n
grown s c t m n e le few = omega arith

fewer : (t s n m : ℕ) → t ≡ s → s + n ≤ m → t + n ≤ m
fewer t s n m e few = omega arith

first_few : (s n k m : ℕ) → s + (n + k) ≤ m → s + n ≤ m
first_few s n k m few = omega arith

rest_few : (s n k m t : ℕ) → t ≡ s + n → s + (n + k) ≤ m → t + k ≤ m
rest_few s n k m t e few = omega arith

fitting : (s w t m : ℕ) → w ≡ t → s + w ≤ m → s + t ≤ m
fitting s w t m e few = omega arith

joined : (s n k t u : ℕ) → t ≡ s + n → u ≡ t + k → u ≡ s + (n + k)
joined s n k t u e f = omega arith

one_more : (newer : NewerRecord) (known : Known) → IsOrdered known.lives → writes_of known.lives + record_writes newer ≤ sessions.most → IsOrdered (after known newer).lives × (writes_of (after known newer).lives ≡ writes_of known.lives + record_writes newer)
one_more newer known ordered few =
    let middle = after_op newer known newer.txn.op in
    let h = kept_op newer known newer.txn.op ordered in
    let n = record_writes newer in
    let change = sessions.with_writes n in
    let s = newer.txn.session in (
      sorted_inserted int_cmp_total middle.lives s (change (life_of middle.lives s)) h.ordered,
      grown (writes_of middle.lives) (session_writes (life_of middle.lives s)) (writes_of (changed middle.lives s change)) sessions.most n
          (changed_sum middle.lives s change h.ordered) (one_small middle.lives s) (fewer (writes_of middle.lives) (writes_of known.lives) n sessions.most h.same few)
          ∙ ap (λ t. t + n) h.same,
    )

plain : (n : ℕ) → n ≡ n + 0
plain n = omega arith

-- a sum that begins with a number is that number and the sum
regrouped : (a x k p q : ℕ) → p ≡ (a + x) + k → q ≡ (0 + x) + k → p ≡ a + q
regrouped a x k p q e f = omega arith

summed_from : (a : ℕ) (numbers : List ℕ) → fold ◌+◌ a numbers ≡ a + fold ◌+◌ 0 numbers
summed_from a [] = plain a
summed_from a (x ∷ numbers) = regrouped a x (fold ◌+◌ 0 numbers) (fold ◌+◌ (a + x) numbers) (fold ◌+◌ (0 + x) numbers) (summed_from (a + x) numbers) (summed_from (0 + x) numbers)

from_nothing : (n k s : ℕ) → s ≡ (0 + n) + k → s ≡ n + k
from_nothing n k s e = omega arith

-- the writes of one record, and those of the others
first_writes : (newer : NewerRecord) (records : List NewerRecord) → writes_in (newer ∷ records) ≡ record_writes newer + writes_in records
first_writes newer records = from_nothing (record_writes newer) (writes_in records) (writes_in (newer ∷ records)) (summed_from (0 + record_writes newer) (map record_writes records))

all_more : (known : Known) (records : List NewerRecord) → IsOrdered known.lives → writes_of known.lives + writes_in records ≤ sessions.most → writes_of (after_all known records).lives ≡ writes_of known.lives + writes_in records
all_more known [] ordered few = plain (writes_of known.lives)
all_more known (newer ∷ records) ordered few =
    let n = record_writes newer in
    let k = writes_in records in
    let split = first_writes newer records in
    let fits = fitting (writes_of known.lives) (writes_in (newer ∷ records)) (n + k) sessions.most split few in
    let one = one_more newer known ordered (first_few (writes_of known.lives) n k sessions.most fits) in
    let more = all_more (after known newer) records one.0 (rest_few (writes_of known.lives) n k sessions.most (writes_of (after known newer).lives) one.1 fits) in
    joined (writes_of known.lives) n k (writes_of (after known newer).lives) (writes_of (after_all (after known newer) records).lives) one.1 more
    ∙ ap (λ t. writes_of known.lives + t) (sym split)

at_most : (n : ℕ) → n < 2 ^ 64 → n ≤ sessions.most
at_most n lt = omega arith

pub add_up : WritesAddUp
add_up known records ordered few = all_more known records ordered (at_most (writes_of known.lives + writes_in records) few)
