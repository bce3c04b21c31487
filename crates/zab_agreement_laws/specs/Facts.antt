-- The four facts of a run on which agreement stands. They name no message. Junqueira, Reed,
-- Serafini: Zab: High-performance broadcast for primary-backup systems (DSN 2011), phases 1 to 3.
use Rattle.std.specs.Prelude.{◌≡◌, ℕ, ◌+◌, ◌*◌, ◌^◌, ◌<◌, pos, ◌⊎◌, List, [], take}
use Rattle.zab_epoch.specs.declared.history.Entry.{Entry}
use Rattle.zab_laws.specs.Prefixes.{IsPrefix}
use Rattle.zab_model.specs.declared.event.Event.{Event}
use Rattle.zab_model.specs.Worlds.{Profile}
use Rattle.zab_model.specs.Runs.{delivered_after}
use Rattle.zab_agreement_laws.specs.Moments.{Held, Started, IsAcknowledged}

-- one leader an epoch: at most one enters synchronization in it, with one history
abbrev pub OneLeaderAnEpoch : {C : Type 0} → Profile C → ℕ → List (Event C) → Type 0
OneLeaderAnEpoch profile servers events =
    (epoch one other : ℕ) (start another : List Entry)
    → Started profile servers events one epoch start → Started profile servers events other epoch another
    → (one ≡ other) × (start ≡ another)

-- what a quorum acknowledged lasts: it is a prefix of the starting history of each later epoch
abbrev pub AcknowledgedLasts : {C : Type 0} → Profile C → ℕ → List (Event C) → Type 0
AcknowledgedLasts profile servers events =
    (epoch later leader : ℕ) (list start : List Entry)
    → IsAcknowledged profile servers events epoch list → epoch < later → Started profile servers events leader later start
    → IsPrefix list start

-- a history of an epoch: it begins with the epoch's starting history, and is a prefix of the
-- longest that its leader held in it
pub record IsOfEpoch {C : Type 0} (profile : Profile C) (servers : ℕ) (events : List (Event C)) (epoch : ℕ) (history : List Entry) : Type 0 where
  pub leader : ℕ
  pub start : List Entry
  pub started : Started profile servers events leader epoch start
  pub starts : IsPrefix start history
  pub longest : List Entry
  pub held : Held profile servers events leader epoch longest
  pub most : (list : List Entry) → Held profile servers events leader epoch list → IsPrefix list longest
  pub within : IsPrefix history longest

-- a history begins with its epoch, at any moment, where the current epoch is above 0
abbrev pub HistoriesBeginWithTheirEpoch : {C : Type 0} → Profile C → ℕ → List (Event C) → Type 0
HistoriesBeginWithTheirEpoch profile servers events =
    (server epoch : ℕ) (history : List Entry)
    → Held profile servers events server epoch history → 0 < epoch → IsOfEpoch profile servers events epoch history

-- what is delivered was acknowledged by then, by a quorum in one epoch above 0
abbrev pub DeliveredWasAcknowledged : {C : Type 0} → Profile C → ℕ → List (Event C) → Type 0
DeliveredWasAcknowledged profile servers events =
    (count server : ℕ) → (delivered_after profile servers events count server ≡ [])
    ⊎ ((epoch : ℕ) × (0 < epoch) × IsAcknowledged profile servers (take count events) epoch (delivered_after profile servers events count server))

-- agreement follows from the four facts: of two delivered lists one is a prefix of the other
abbrev pub FactsGiveOneOrder : {C : Type 0} → Profile C → ℕ → List (Event C) → Type 0
FactsGiveOneOrder profile servers events =
    OneLeaderAnEpoch profile servers events → AcknowledgedLasts profile servers events
    → HistoriesBeginWithTheirEpoch profile servers events → DeliveredWasAcknowledged profile servers events
    → (i j p q : ℕ) → IsPrefix (delivered_after profile servers events i p) (delivered_after profile servers events j q)
    ⊎ IsPrefix (delivered_after profile servers events j q) (delivered_after profile servers events i p)

-- ---- entries and their epochs

-- an entry of an epoch, by its zxid: the epoch in the upper 32 bits
abbrev pub IsEntryOf : ℕ → Entry → Type 0
IsEntryOf epoch entry = (number : ℕ) × (entry.txn.zxid ≡ pos (epoch * 2 ^ 32 + number)) × (number < 2 ^ 32)

-- a quorum has taken the NewLeader of the epoch: it acknowledged the epoch's starting history
pub record HasQuorum {C : Type 0} (profile : Profile C) (servers : ℕ) (events : List (Event C)) (epoch : ℕ) : Type 0 where
  pub leader : ℕ
  pub start : List Entry
  pub started : Started profile servers events leader epoch start
  pub acknowledged : IsAcknowledged profile servers events epoch start
