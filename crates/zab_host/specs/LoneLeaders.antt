-- A leader that is alone in its ensemble acknowledges itself.
-- ZooKeeper, class Leader, method lead: getEpochToPropose, waitForEpochAck and waitForNewLeaderAck
-- with the leader's own number.
-- Junqueira, Reed, Serafini: Zab: High-performance broadcast for primary-backup systems (DSN 2011),
-- phases 1 and 2: CEPOCH, ACK-E and ACK-LD.
use Rattle.std.specs.Prelude.{◌≡◌, ◌<◌, ◌≤◌, ℕ, ℤ, ◌+◌, true, List, [], ◌∷◌, ◌++◌, length, Option, Some, None, Ok}
use Rattle.zab_broadcast.specs.declared.state.State.{State}
use Rattle.zab_broadcast.specs.Calls.{Setting}
use Rattle.zab_broadcast.specs.Rules as rules
use Rattle.zab_broadcast.specs.Rules.{next_zxid}
use Rattle.zab_epoch.specs.declared.message.Body.TheVariants as say
use Rattle.zab_epoch.specs.declared.message.Message.{Message}
use Rattle.zab_epoch.specs.declared.role.Role.{Role}
use Rattle.zab_epoch.specs.declared.role.Role.TheVariants.{Discover, Broadcast}
use Rattle.zab_epoch.specs.declared.stable.Stable.{Stable}
use Rattle.zab_epoch.specs.Rules.{next_epoch}
use Rattle.zab_epoch.specs.Sending.{message}
use Rattle.zab_epoch.specs.Tables.{said_by}
use Rattle.zab_host.specs.declared.vote.Vote.{Vote}
use Rattle.zab_host.specs.Votes.{vote_of}
use Rattle.zab_model.specs.Worlds.{receives}

-- ---- what it sends itself

-- the epoch that a leader has promised, as it has heard from itself
abbrev pub own_promise : Role → ℕ → Option ℕ
own_promise (Discover heard) server = said_by heard server
own_promise role server = None

-- what it has promised; its vote for itself in the next epoch; and that it has taken its own
-- history, whose length it knows
abbrev pub acknowledgments : {C : Type 0} → Vote → ℕ → ℕ → List (Message C)
acknowledgments vote promised epoch =
    message vote.server vote.server (say.CEpoch promised)
    ∷ message vote.server vote.server (say.AckEpoch epoch true vote.epoch vote.zxid)
    ∷ message vote.server vote.server (say.AckLeader epoch 0) ∷ []

abbrev pub acknowledgments_in : {C : Type 0} → Vote → ℕ → Option ℕ → List (Message C)
acknowledgments_in vote promised None = []
acknowledgments_in vote promised (Some epoch) = acknowledgments vote promised epoch

abbrev pub acknowledgments_by : {C : Type 0} → Vote → Option ℕ → List (Message C)
acknowledgments_by vote None = []
acknowledgments_by vote (Some promised) = acknowledgments_in vote promised (next_epoch promised)

-- none if it does not begin to lead, or if no epoch is left
abbrev pub own_messages : {C : Type 0} → Role → Vote → List (Message C)
own_messages role vote = acknowledgments_by vote (own_promise role vote.server)

-- ---- the laws

-- the server after messages, in order
abbrev pub after_messages : {C : Type 0} → Setting C → State → List (Message C) → State
after_messages setting state [] = state
after_messages setting state (it ∷ messages) =
    after_messages setting (receives setting it.sender it.body state).0 messages

-- the only server of its ensemble leads and accepts calls; all of its history is delivered
pub record LeadsAlone (state : State) : Type 0 where
  pub number : state.peer.me ≡ 1
  pub servers : state.peer.servers ≡ 1
  pub role : state.peer.role ≡ Broadcast
  pub has : state.has ≡ Some (length state.peer.stable.history) ∷ []
  pub top : state.top ≡ length state.peer.stable.history
  pub delivered : state.delivered ≡ length state.peer.stable.history

-- it leads in the epoch after the one that it had promised, with the history that it had
pub record BeginsAlone (before : Stable) (state : State) : Type 0 where
  pub leads : LeadsAlone state
  pub promised : state.peer.stable.promised ≡ before.promised + 1
  pub current : state.peer.stable.current ≡ before.promised + 1
  pub history : state.peer.stable.history ≡ before.history

-- the state of a server that begins to lead and receives what it sends itself
abbrev pub after_own : {C : Type 0} → Setting C → State → State
after_own {C} setting state =
    after_messages setting (rules.lead {C = C} state).0
    (own_messages (rules.lead {C = C} state).0.peer.role (vote_of (rules.lead {C = C} state).0))

-- the only server of its ensemble
pub record IsAlone (state : State) : Type 0 where
  pub number : state.peer.me ≡ 1
  pub servers : state.peer.servers ≡ 1
  pub within : state.delivered ≤ length state.peer.stable.history

-- if an epoch is left, a lone server that acknowledges itself leads
abbrev pub LoneServersLead : {C : Type 0} → Setting C → Type 0
LoneServersLead setting =
    (state : State) → IsAlone state → state.peer.stable.promised < 2147483647
    → BeginsAlone state.peer.stable (after_own setting state)

-- each call of its clients is an entry, which is delivered at once
pub record Accepts {C : Type 0} (setting : Setting C) (state : State) (call : C) (zxid : ℤ) : Type 0 where
  pub leads : LeadsAlone (rules.submit setting state call).0
  pub history : (rules.submit setting state call).0.peer.stable.history
      ≡ state.peer.stable.history ++ setting.made state.peer.stable.history call zxid ∷ []
  pub silent : (rules.submit setting state call).1 ≡ Ok []

abbrev pub LoneServersAccept : {C : Type 0} → Setting C → Type 0
LoneServersAccept {C} setting =
    (state : State) (call : C) (zxid : ℤ) → LeadsAlone state
    → next_zxid state.peer.stable.promised state.made ≡ Some zxid → Accepts setting state call zxid
