-- One direction of a connection between servers, in any chunks.
use Rattle.std.specs.Prelude.{◌≡◌, ◌≢◌, ℕ, ◌+◌, ◌≤◌, ◌<◌, List, [], ◌++◌, length, drop, Option, Some, None, Ok, Err}
use Rattle.std.specs.List.{AllByRecursion}
use Rattle.zk_jute.specs.declared.fault.JuteFault.TheVariants as jute
use Rattle.zk_quorum_records.specs.declared.fault.BadItem.{BadItem}
use Rattle.zk_quorum_records.specs.declared.fault.DecodeFault.{DecodeFault}
use Rattle.zk_quorum_records.specs.declared.fault.DecodeFault.TheVariants as decode_faults
use Rattle.zk_quorum_records.specs.declared.fault.StreamFault.{StreamFault}
use Rattle.zk_quorum_records.specs.declared.fault.StreamFault.TheVariants as faults
use Rattle.zk_quorum_records.specs.declared.item.Item.{Item}
use Rattle.zk_quorum_records.specs.declared.item.Phase.{Phase}
use Rattle.zk_quorum_records.specs.Items.{after, all_bytes_of, bytes_of, Follows, IsItem, IsWithin}
use Rattle.zk_quorum_records.specs.Packets.{most_bytes}
use Rattle.zk_quorum_records.specs.Reading.{item_at}
use Rattle.zk_records.specs.Sizes.{capped}

-- The bytes that have come and were not taken, and then these, are those of the items, and then the
-- next bytes that wait. The items lead from the first phase to the last.
pub record Decodes (first : Phase) (rest bytes : List ℕ) (its : List Item) (last : Phase) (next : List ℕ) : Type 0 where
  pub whole : rest ++ bytes ≡ all_bytes_of its ++ next
  pub order : Follows first its last

-- no whole item waits, and the first one may still come
pub record IsPartial (phase : Phase) (rest : List ℕ) : Type 0 where
  pub short : item_at phase rest ≡ Err jute.Short
  pub within : length rest < most_bytes

-- the first item is too long, or one of its fields cannot be read
abbrev pub IsBroken : Phase → List ℕ → StreamFault → Type 0
IsBroken phase rest faults.TooLong = (item_at phase rest ≡ Err jute.Short) × (most_bytes ≤ length rest)
IsBroken phase rest (faults.Field fault) = (item_at phase rest ≡ Err fault) × (fault ≢ jute.Short)

-- ---- the decoder

-- how many bytes were taken, those that wait, what comes next, and the fault at which it stopped
pub record Stream : Type 0 where
  pub taken : ℕ
  pub rest : List ℕ
  pub phase : Phase
  pub fault : Option BadItem

abbrev pub new_stream : Phase → Stream
new_stream phase = record { taken = 0; rest = []; phase = phase; fault = None }

abbrev pub more_by : Option BadItem → List ℕ → List ℕ → List ℕ
more_by None rest bytes = rest ++ bytes
more_by (Some fault) rest bytes = rest

-- a stream that has a fault takes no more bytes
abbrev pub with_bytes : List ℕ → Stream → Stream
with_bytes bytes stream = record {
  taken = stream.taken;
  rest = more_by stream.fault stream.rest bytes;
  phase = stream.phase;
  fault = stream.fault;
}

-- the first bytes are taken as the item
pub record TakesItem (old : Stream) (item : Item) (new : Stream) : Type 0 where
  pub sound : old.fault ≡ None
  pub whole : old.rest ≡ bytes_of item ++ new.rest
  pub is : IsItem old.phase item
  pub phase : new.phase ≡ after old.phase item
  pub taken : new.taken ≡ capped (old.taken + length (bytes_of item))
  pub still : new.fault ≡ None

-- no whole item waits
pub record Waits (old new : Stream) : Type 0 where
  pub sound : old.fault ≡ None
  pub partial : IsPartial old.phase old.rest
  pub same : new ≡ old

abbrev pub IsFaultAt : Option BadItem → BadItem → Stream → Type 0
IsFaultAt None bad stream = (bad.place ≡ stream.taken) × IsBroken stream.phase stream.rest bad.fault
IsFaultAt (Some earlier) bad stream = bad ≡ earlier

abbrev pub stopped_at : BadItem → Stream → Stream
stopped_at bad stream = record { taken = stream.taken; rest = stream.rest; phase = stream.phase; fault = Some bad }

-- the stream has a fault, and keeps it
pub record Breaks (old : Stream) (bad : BadItem) (new : Stream) : Type 0 where
  pub fault : IsFaultAt old.fault bad old
  pub stopped : new ≡ stopped_at bad old

-- the property of the place of a fault
abbrev pub IfBroken : DecodeFault → (BadItem → Type 0) → Type 0
IfBroken (decode_faults.Broken bad) P = P bad
IfBroken decode_faults.NoMemory P = Unit {0}

-- without the first bytes, before another phase
abbrev pub without : ℕ → Phase → Stream → Stream
without count phase stream = record {
  taken = capped (stream.taken + count);
  rest = drop count stream.rest;
  phase = phase;
  fault = stream.fault;
}

abbrev pub bad_at : Stream → StreamFault → BadItem
bad_at stream fault = record { place = stream.taken; fault = fault }

-- ---- laws

-- what two chunks decode to, one after the other, is what they decode to as one
abbrev pub DecodingComposes : Type 0
DecodingComposes =
    (first between last : Phase) (rest bytes more waiting next : List ℕ) (its others : List Item)
    → Decodes first rest bytes its between waiting → Decodes between waiting more others last next
    → Decodes first rest (bytes ++ more) (its ++ others) last next

-- the items found are the first ones that were sent, the bytes that wait begin those of the others,
-- and there is no fault
pub record IsExact (sent : List Item) (more : List ℕ) (found : List Item) (phase : Phase) (rest : List ℕ) : Type 0 where
  pub left : List Item
  pub sent_is : sent ≡ found ++ left
  pub waits : rest ++ more ≡ all_bytes_of left
  pub right : (fault : StreamFault) → IsBroken phase rest fault → ⊥

-- each prefix of the bytes of items decodes to a prefix of the items
abbrev pub DecodingIsExact : Type 0
DecodingIsExact =
    (first last between : Phase) (sent found : List Item) (bytes more rest : List ℕ)
    → Follows first sent last → AllByRecursion IsWithin sent → all_bytes_of sent ≡ bytes ++ more
    → Decodes first [] bytes found between rest → IsExact sent more found between rest

-- in a phase, two items have different bytes, and those of none begin those of another
abbrev pub ItemsAreOfOne : Type 0
ItemsAreOfOne =
    (phase : Phase) (one other : Item) (rest others : List ℕ) → IsItem phase one → IsItem phase other
    → bytes_of one ++ rest ≡ bytes_of other ++ others → (one ≡ other) × (rest ≡ others)
