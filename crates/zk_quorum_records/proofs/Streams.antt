-- Streams of items.
use Rattle.std.proofs.Common.{◌≡◌, ◌≢◌, ℕ, ◌+◌, ◌-◌, ◌<◌, ◌≤◌, ◌⊎◌, inl, inr, Bool, true, false, ltb, List, [], ◌∷◌, ◌++◌, length, take, drop, Option, Some, None, Result, Ok, Err, refl, sym, ap, subst, ◌∙◌, append_assoc, append-nil, arith}
use Rattle.std.specs.List.{AllByRecursion}
use Rattle.std.proofs.lemmas.Bool.{cases_lt}
use Rattle.std.proofs.lemmas.Grind.{flat_map-append}
use Rattle.std.proofs.lemmas.List.{length-append, take_at, drop_at, take-append-drop, take-append-le, length-take}
use Rattle.std.proofs.lemmas.List.Concat.{flat_map-cons}
use Rattle.zk_jute.specs.declared.fault.JuteFault.{JuteFault}
use Rattle.zk_jute.specs.declared.fault.JuteFault.TheVariants as jute
use Rattle.zk_jute.specs.Reading.{Fails, count_at, counted_at, text_at}
use Rattle.zk_jute.proofs.Numbers.{IsBytes, TakesFront}
use Rattle.zk_records.specs.Sizes.{capped}
use Rattle.zk_snapshot.specs.Reading.{lease_at, access_at, next_at}
use Rattle.zk_quorum_records.specs.declared.fault.BadItem.{BadItem}
use Rattle.zk_quorum_records.specs.declared.fault.DecodeFault.{DecodeFault}
use Rattle.zk_quorum_records.specs.declared.fault.DecodeFault.TheVariants as decode_faults
use Rattle.zk_quorum_records.specs.declared.fault.StreamFault.{StreamFault}
use Rattle.zk_quorum_records.specs.declared.fault.StreamFault.TheVariants as faults
use Rattle.zk_quorum_records.specs.declared.item.Item.{Item}
use Rattle.zk_quorum_records.specs.declared.item.Phase.{Phase}
use Rattle.zk_quorum_records.specs.declared.item.Phase.TheVariants as phases
use Rattle.zk_quorum_records.specs.Items.{after, all_bytes_of, bytes_of, Follows, IsItem, IsWithin}
use Rattle.zk_quorum_records.specs.Packets.{most_bytes}
use Rattle.zk_quorum_records.specs.Reading.{item_at, packet_at, hello_at, notification_at, frame_at, length_in, signature_at}
use Rattle.zk_quorum_records.specs.Streams.{Decodes, IsPartial, IsBroken, IsExact, Stream, TakesItem, Breaks, IsFaultAt, IfBroken, without, stopped_at, bad_at}
use Rattle.zk_quorum_records.proofs.Steady.{Later}
use Rattle.zk_quorum_records.proofs.ItemFields.{item_sound}

-- ---- chunks

follows_both : (first between last : Phase) (its others : List Item) → Follows first its between → Follows between others last → Follows first (its ++ others) last
follows_both first between last [] others one other = subst (λ (p : Phase). Follows p others last) (sym one) other
follows_both first between last (item ∷ its) others one other = (one.0, follows_both (after first item) between last its others one.1 other)

bytes-append : (its others : List Item) → all_bytes_of (its ++ others) ≡ all_bytes_of its ++ all_bytes_of others
bytes-append its others = flat_map-append bytes_of its others

pub composes : (first between last : Phase) (rest bytes more waiting next : List ℕ) (its others : List Item) → Decodes first rest bytes its between waiting → Decodes between waiting more others last next → Decodes first rest (bytes ++ more) (its ++ others) last next
composes first between last rest bytes more waiting next its others one other = record {
  whole =
      sym (append_assoc rest bytes more) ∙ ap (λ (l : List ℕ). l ++ more) one.whole ∙ append_assoc (all_bytes_of its) waiting more
      ∙ ap (λ (l : List ℕ). all_bytes_of its ++ l) other.whole ∙ sym (append_assoc (all_bytes_of its) (all_bytes_of others) next)
      ∙ ap (λ (l : List ℕ). l ++ next) (sym (bytes-append its others));
  order = follows_both first between last its others one.order other.order;
}

-- ---- one item

abbrev Read : Type 0
Read = Result (Item × List ℕ) JuteFault

abbrev ok : Item × List ℕ → Read
ok x = Ok x

ok_pair : (x y : Item × List ℕ) → ok x ≡ ok y → x ≡ y
ok_pair x y e = cc

same_read : (x y : Item × List ℕ) (read : Read) → read ≡ ok x → read ≡ ok y → (x.0 ≡ y.0) × (x.1 ≡ y.1)
same_read x y read one other =
    let same : x ≡ y = ok_pair x y (sym one ∙ other) in
    (ap (λ (p : Item × List ℕ). p.0) same, ap (λ (p : Item × List ℕ). p.1) same)

pub items_are_of_one : (phase : Phase) (one other : Item) (rest others : List ℕ) → IsItem phase one → IsItem phase other → bytes_of one ++ rest ≡ bytes_of other ++ others → (one ≡ other) × (rest ≡ others)
items_are_of_one phase one other rest others is are same =
    same_read (one, rest) (other, others) (item_at phase (bytes_of one ++ rest)) ((item_sound phase).field.again one rest is) (ap (item_at phase) same ∙ (item_sound phase).field.again other others are)

abbrev err : JuteFault → Read
err fault = Err fault

fault_is : (one other : JuteFault) → err one ≡ err other → other ≡ one
fault_is one other e = cc

-- a fault that more bytes would not undo
undone : (read whole : Read) (more : List ℕ) (fault : JuteFault) (x : Item × List ℕ) → Later read more whole → read ≡ err fault → fault ≢ jute.Short → whole ≡ Ok x → ⊥
undone (Ok y) whole more fault x later e other found = absurd cc
undone (Err jute.Short) whole more fault x later e other found = other (fault_is jute.Short fault e)
undone (Err jute.Length) whole more fault x later e other found = absurd cc
undone (Err jute.Text) whole more fault x later e other found = absurd cc
undone (Err jute.Boolean) whole more fault x later e other found = absurd cc
undone (Err jute.Kind) whole more fault x later e other found = absurd cc
undone (Err jute.Trailing) whole more fault x later e other found = absurd cc
undone (Err jute.Path) whole more fault x later e other found = absurd cc
undone (Err jute.NoMemory) whole more fault x later e other found = absurd cc

-- an item that is there is read
there : (phase : Phase) (item : Item) (rest more others : List ℕ) → IsItem phase item → rest ++ more ≡ bytes_of item ++ others → length (bytes_of item) ≤ length rest → item_at phase rest ≡ Err jute.Short → ⊥
there phase item rest more others is same enough short =
    let n = length (bytes_of item) in
    let front : take n rest ≡ bytes_of item = sym (take-append-le n rest more enough) ∙ ap (take n) same ∙ take_at (bytes_of item) others n refl in
    let whole : rest ≡ bytes_of item ++ drop n rest = sym (take-append-drop n rest) ∙ ap (λ (l : List ℕ). l ++ drop n rest) front in
    let read : item_at phase rest ≡ Ok (item, drop n rest) = ap (item_at phase) whole ∙ (item_sound phase).field.again item (drop n rest) is in
    absurd cc

empty_waits : (phase : Phase) → item_at phase [] ≡ Err jute.Short
unfolding packet_at count_at lease_at access_at next_at text_at counted_at signature_at hello_at notification_at frame_at length_in
empty_waits phases.Packets = refl
empty_waits phases.SessionCount = refl
empty_waits (phases.Sessions n) = refl
empty_waits phases.AccessCount = refl
empty_waits (phases.Accesses n) = refl
empty_waits phases.Nodes = refl
empty_waits phases.Signature = refl
empty_waits phases.Hello = refl
empty_waits phases.Notifications = refl

nothing : (rest more : List ℕ) → rest ++ more ≡ [] → rest ≡ []
nothing [] more e = refl
nothing (b ∷ rest) more e = absurd cc

two_faults : (read : Read) (one other : JuteFault) → read ≡ Err one → read ≡ Err other → other ≡ one
two_faults read one other e f = cc

-- no prefix of the bytes of items is broken
pub not_broken : (phase last : Phase) (sent : List Item) (rest more : List ℕ) (fault : StreamFault) → Follows phase sent last → AllByRecursion IsWithin sent → rest ++ more ≡ all_bytes_of sent → IsBroken phase rest fault → ⊥
not_broken phase last [] rest more faults.TooLong order within same broken =
    let none : rest ≡ [] = nothing rest more same in
    let some : most_bytes ≤ length rest = broken.1 in
    omega (arith, some, ap length none)
not_broken phase last [] rest more (faults.Field fault) order within same broken =
    broken.1 (two_faults (item_at phase rest) jute.Short fault (ap (item_at phase) (nothing rest more same) ∙ empty_waits phase) broken.0)
not_broken phase last (item ∷ sent) rest more faults.TooLong order within same broken =
    let long : length (bytes_of item) ≤ length rest = omega (arith, within.0, broken.1) in
    there phase item rest more (all_bytes_of sent) order.0 (same ∙ flat_map-cons bytes_of item sent) long broken.0
not_broken phase last (item ∷ sent) rest more (faults.Field fault) order within same broken =
    let found : item_at phase (rest ++ more) ≡ Ok (item, all_bytes_of sent) = ap (item_at phase) (same ∙ flat_map-cons bytes_of item sent) ∙ (item_sound phase).field.again item (all_bytes_of sent) order.0 in
    undone (item_at phase rest) (item_at phase (rest ++ more)) more fault (item, all_bytes_of sent) ((item_sound phase).steady rest more) broken.0 broken.1 found

-- ---- every prefix

-- an item has bytes
filled : (phase : Phase) (item : Item) (rest : List ℕ) → IsItem phase item → bytes_of item ++ rest ≡ [] → ⊥
filled phase item rest is e =
    let read : item_at phase [] ≡ Ok (item, rest) = ap (item_at phase) (sym e) ∙ (item_sound phase).field.again item rest is in
    let waits = empty_waits phase in
    absurd cc

pub exact : (first last between : Phase) (sent found : List Item) (bytes more rest : List ℕ) → Follows first sent last → AllByRecursion IsWithin sent → Follows first found between → bytes ++ more ≡ all_bytes_of sent → bytes ≡ all_bytes_of found ++ rest
    → IsExact sent more found between rest
exact first last between sent [] bytes more rest order within its same read =
    let left : rest ++ more ≡ all_bytes_of sent = ap (λ (l : List ℕ). l ++ more) (sym read) ∙ same in
    let here : Follows between sent last = subst (λ (p : Phase). Follows p sent last) its order in
    record { left = sent; sent_is = refl; waits = left; right = λ fault broken. not_broken between last sent rest more fault here within left broken }
exact first last between [] (one ∷ found) bytes more rest order within its same read =
    let front : (bytes_of one ++ (all_bytes_of found ++ rest)) ++ more ≡ [] =
    ap (λ (l : List ℕ). l ++ more) (sym (read ∙ ap (λ (l : List ℕ). l ++ rest) (flat_map-cons bytes_of one found) ∙ append_assoc (bytes_of one) (all_bytes_of found) rest)) ∙ same in
    absurd (filled first one ((all_bytes_of found ++ rest) ++ more) its.0 (sym (append_assoc (bytes_of one) (all_bytes_of found ++ rest) more) ∙ front))
exact first last between (item ∷ sent) (one ∷ found) bytes more rest order within its same read =
    let later = all_bytes_of found ++ rest in
    let front : bytes_of one ++ (later ++ more) ≡ bytes_of item ++ all_bytes_of sent =
    sym (append_assoc (bytes_of one) later more)
    ∙ ap (λ (l : List ℕ). l ++ more) (sym (read ∙ ap (λ (l : List ℕ). l ++ rest) (flat_map-cons bytes_of one found) ∙ append_assoc (bytes_of one) (all_bytes_of found) rest))
    ∙ same ∙ flat_map-cons bytes_of item sent in
    let parts = items_are_of_one first one item (later ++ more) (all_bytes_of sent) its.0 order.0 front in
    let order_on : Follows (after first one) sent last = subst (λ (it : Item). Follows (after first it) sent last) (sym parts.0) order.1 in
    let others = exact (after first one) last between sent found later more rest order_on within.1 its.1 parts.1 refl in
    record {
      left = others.left;
      sent_is = ap (λ (it : Item). it ∷ sent) (sym parts.0) ∙ ap (λ (l : List Item). one ∷ l) others.sent_is;
      waits = others.waits;
      right = others.right;
    }

-- ---- what the decoder does

-- the first bytes of a stream were read as an item
pub takes_one : (old new : Stream) (item : Item) (rest : List ℕ) (before count : ℕ) → old.fault ≡ None → IsBytes old.rest → item_at old.phase old.rest ≡ Ok (item, rest) → before ≡ length old.rest → count ≡ before - length rest
    → new ≡ without count (after old.phase item) old → TakesItem old item new
takes_one old new item rest before count sound fits read all counted same =
    let t = (item_sound old.phase).field.takes old.rest (item, rest) fits read in
    let n : count ≡ length (bytes_of item) = omega (arith, counted, all, ap length t.0.parts, length-append (bytes_of item) rest) in
    let left : drop count old.rest ≡ rest = ap (drop count) t.0.parts ∙ drop_at (bytes_of item) rest count (sym n) in
    let now : new.rest ≡ rest = ap (λ (s : Stream). s.rest) same ∙ left in
    record {
      sound = sound;
      whole = t.0.parts ∙ ap (λ (l : List ℕ). bytes_of item ++ l) (sym now);
      is = t.1;
      phase = ap (λ (s : Stream). s.phase) same;
      taken = ap (λ (s : Stream). s.taken) same ∙ ap (λ (k : ℕ). capped (old.taken + k)) n;
      still = ap (λ (s : Stream). s.fault) same ∙ sound;
    }

pub within_bytes : (phase : Phase) (bytes rest : List ℕ) (item : Item) → IsBytes bytes → item_at phase bytes ≡ Ok (item, rest) → length rest ≤ length bytes
within_bytes phase bytes rest item fits read =
    let t = (item_sound phase).field.takes bytes (item, rest) fits read in
    omega (arith, ap length t.0.parts, length-append (bytes_of item) rest)

pub breaks_at : (old new : Stream) (fault : StreamFault) (result : DecodeFault) → old.fault ≡ None → IsBroken old.phase old.rest fault → result ≡ decode_faults.Broken (bad_at old fault) → new ≡ stopped_at (bad_at old fault) old
    → IfBroken result (λ bad. Breaks old bad new)
breaks_at old new fault result sound broken at stopped =
    let bad = bad_at old fault in
    let is : IsFaultAt old.fault bad old = subst (λ (earlier : Option BadItem). IsFaultAt earlier bad old) (sym sound) (refl, broken) in
    subst (λ (it : DecodeFault). IfBroken it (λ b. Breaks old b new)) (sym at) (record { fault = is; stopped = stopped })

-- a fault that is no allocation failure is that of the reading
pub broken_field : (phase : Phase) (rest : List ℕ) (fault : JuteFault) → fault ≢ jute.Short → fault ≢ jute.NoMemory → Fails fault (item_at phase rest) → IsBroken phase rest (faults.Field fault)
broken_field phase rest jute.Short other memory fails = absurd (other refl)
broken_field phase rest jute.Length other memory fails = (fails, other)
broken_field phase rest jute.Text other memory fails = (fails, other)
broken_field phase rest jute.Boolean other memory fails = (fails, other)
broken_field phase rest jute.Kind other memory fails = (fails, other)
broken_field phase rest jute.Trailing other memory fails = (fails, other)
broken_field phase rest jute.Path other memory fails = (fails, other)
broken_field phase rest jute.NoMemory other memory fails = absurd (memory refl)

-- ---- for who takes items one by one

follows_last : (first between last : Phase) (its : List Item) (item : Item) → Follows first its between → IsItem between item → last ≡ after between item → Follows first (its ++ item ∷ []) last
follows_last first between last [] item order is next = (subst (λ (p : Phase). IsItem p item) (sym order) is, ap (λ (p : Phase). after p item) order ∙ sym next)
follows_last first between last (it ∷ its) item order is next = (order.0, follows_last (after first it) between last its item order.1 is next)

pub one_more : (first between last : Phase) (rest mid next : List ℕ) (its : List Item) (item : Item) → Decodes first rest [] its between mid → mid ≡ bytes_of item ++ next → IsItem between item → last ≡ after between item
    → Decodes first rest [] (its ++ item ∷ []) last next
one_more first between last rest mid next its item so_far taken is phase = record {
  whole =
      so_far.whole ∙ ap (λ (l : List ℕ). all_bytes_of its ++ l) taken ∙ sym (append_assoc (all_bytes_of its) (bytes_of item) next)
      ∙ ap (λ (l : List ℕ). l ++ next) (ap (λ (l : List ℕ). all_bytes_of its ++ l) (sym (alone item)) ∙ sym (bytes-append its (item ∷ [])));
  order = follows_last first between last its item so_far.order is phase;
}
  where
    alone : (it : Item) → all_bytes_of (it ∷ []) ≡ bytes_of it
    alone it = flat_map-cons bytes_of it [] ∙ append-nil (bytes_of it)

has_some : (bytes : List ℕ) → (bytes ≡ [] → ⊥) → 1 ≤ length bytes
has_some [] none = absurd (none refl)
has_some (b ∷ bytes) none = omega arith

pub some_bytes : (phase : Phase) (item : Item) → IsItem phase item → 1 ≤ length (bytes_of item)
some_bytes phase item is = has_some (bytes_of item) (λ e. filled phase item [] is (append-nil (bytes_of item) ∙ e))

no_bytes : (rest : List ℕ) → length rest ≡ 0 → rest ≡ []
no_bytes [] is = refl
no_bytes (b ∷ rest) is = absurd (omega arith)

pub nothing_waits : (phase : Phase) (rest : List ℕ) → length rest ≡ 0 → IsPartial phase rest
nothing_waits phase rest is = record { short = ap (item_at phase) (no_bytes rest is) ∙ empty_waits phase; within = omega (arith, is) }
