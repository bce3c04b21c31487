-- Elections of a leader. ZooKeeper, class FastLeaderElection, with a simpler end: the server with
-- the greatest vote leads, and says so, and the others follow whoever says so.
use Rattle.std.specs.Prelude.{ℕ, ◌+◌, ◌/◌, ◌==◌, ◌&&◌, ◌||◌, not, nat_eq, nat_le, nat_lt, Bool, true, false, List, [], ◌∷◌, ◌++◌, length, filter, find, Option, Some, None, if◌then◌else◌}
use Rattle.std.specs.List.{list_any, list_all}
use Rattle.zab_host.specs.Votes.{total_order_predicate}
use Rattle.zab_host.specs.declared.vote.Vote.{Vote}
use Rattle.zk_peer_links.specs.Notices.{is_from, is_leaders, beats}
use Rattle.zk_peer_links.specs.declared.arrival.Arrival.{Arrival}
use Rattle.zk_peer_links.specs.declared.arrival.Arrival.TheVariants as arrivals
use Rattle.zk_server.specs.declared.election.Choice.{Choice}
use Rattle.zk_server.specs.declared.election.Choice.TheVariants.{Wait, Lead, Follow}
use Rattle.zk_server.specs.declared.election.Position.{Position}
use Rattle.zk_server.specs.declared.election.Position.TheVariants.{Looking, Chosen, Leads, Follows}
use Rattle.zk_peer_links.specs.declared.notice.Notice.{Notice}

-- a server's position, its vote, and the last notice of each peer over a link that has not ended; the
-- peers that it has heard of since it was last supported, and the ticks since then
pub record ElectionView : Type 0 where
  pub servers : ℕ
  pub position : Position
  pub round : ℕ
  pub vote : Vote
  pub heard : List Notice
  pub alive : List ℕ
  pub silence : ℕ

abbrev pub election : ℕ → Position → ℕ → Vote → List Notice → List ℕ → ℕ → ElectionView
election servers position round vote heard alive silence =
    record { servers = servers; position = position; round = round; vote = vote; heard = heard; alive = alive; silence = silence }

abbrev pub new_election : ℕ → Vote → ElectionView
new_election servers vote = election servers Looking 0 vote [] [] 0

-- ---- a server's notice

abbrev pub leader_of : Position → ℕ → ℕ
leader_of Looking me = 0
leader_of Chosen me = 0
leader_of Leads me = me
leader_of (Follows leader) me = leader

abbrev pub notice_of : ElectionView → Notice
notice_of it = record { round = it.round; vote = it.vote; leader = leader_of it.position it.vote.server }

-- ---- what it hears

-- with itself, the peers that it hears are a majority
abbrev pub has_quorum : ElectionView → Bool
has_quorum it = nat_le (it.servers / 2) (length it.heard)

abbrev pub is_doubted_at : Position → Notice → ElectionView → Bool
is_doubted_at Looking notice it = false
is_doubted_at Chosen notice it = false
is_doubted_at Leads notice it = is_leaders notice && beats notice (notice_of it)
is_doubted_at (Follows leader) notice it = is_leaders notice || is_from leader notice

-- it looks again for a leader: a notice of its leader, or of another one that leads
abbrev pub is_doubted_by : Notice → ElectionView → Bool
is_doubted_by notice it = is_doubted_at it.position notice it

abbrev pub with_alive : ℕ → List ℕ → List ℕ
with_alive server alive = if list_any (nat_eq server) alive then alive else alive ++ server ∷ []

-- a peer was heard of
abbrev pub hearing_of : ℕ → ElectionView → ElectionView
hearing_of server it = record it { alive = with_alive server it.alive }

abbrev pub without : ℕ → List Notice → List Notice
without server heard = filter (λ notice. not (is_from server notice)) heard

abbrev pub after_notice : Notice → ElectionView → ElectionView
after_notice notice it = record it {
  position = if is_doubted_by notice it then Looking else it.position;
  heard = without notice.vote.server it.heard ++ notice ∷ [];
  alive = with_alive notice.vote.server it.alive;
}

abbrev pub is_lost_at : Position → ℕ → ElectionView → Bool
is_lost_at Looking peer it = false
is_lost_at Chosen peer it = false
is_lost_at Leads peer it = not (has_quorum it)
is_lost_at (Follows leader) peer it = leader == peer

-- it has no leader without the peer
abbrev pub is_lost_by : ℕ → ElectionView → Bool
is_lost_by peer it = is_lost_at it.position peer it

abbrev pub forgetting : ℕ → ElectionView → ElectionView
forgetting peer it = record it { heard = without peer it.heard }

abbrev pub after_close : ℕ → ElectionView → ElectionView
after_close peer it =
    record (forgetting peer it) { position = if is_lost_by peer (forgetting peer it) then Looking else it.position }

abbrev pub after_arrival : Arrival → ElectionView → ElectionView
after_arrival (arrivals.Mail line messages) it = it
after_arrival (arrivals.Notice notice) it = after_notice notice it
after_arrival (arrivals.Session notice) it = hearing_of notice.sender it
after_arrival (arrivals.Closed peer) it = after_close peer it
after_arrival arrivals.Lead it = record it { position = Chosen }

abbrev pub after_arrivals : List Arrival → ElectionView → ElectionView
after_arrivals [] it = it
after_arrivals (arrival ∷ arrivals) it = after_arrivals arrivals (after_arrival arrival it)

-- ---- ticks. Administrator's Guide, `syncLimit`; class Leader, lead: hasAllQuorums of those that are synced

-- in ticks, as in the guide's sample configuration
abbrev pub sync_limit : ℕ
sync_limit = 5

-- a leader has heard of a quorum with itself
abbrev pub is_supported_at : Position → ElectionView → Bool
is_supported_at Leads it = nat_le (it.servers / 2) (length it.alive)
is_supported_at position it = true

abbrev pub is_supported : ElectionView → Bool
is_supported it = is_supported_at it.position it

-- a leader that has heard of no quorum for five ticks looks again
abbrev pub after_silence : ElectionView → ElectionView
after_silence it =
    if nat_lt (it.silence + 1) sync_limit
    then record it { silence = it.silence + 1 }
    else record it { position = Looking; alive = []; silence = 0 }

abbrev pub after_tick : ElectionView → ElectionView
after_tick it = if is_supported it then record it { alive = []; silence = 0 } else after_silence it

abbrev pub after_tick_if : Bool → ElectionView → ElectionView
after_tick_if true it = after_tick it
after_tick_if false it = it

-- ---- what it decides

-- A server takes its vote while it looks for a leader, and keeps it while it leads or follows.
-- FastLeaderElection, lookForLeader: updateProposal, setCurrentVote; QuorumPeer, getCurrentVote.
abbrev pub vote_at : Position → Vote → Vote → Vote
vote_at Looking kept vote = vote
vote_at Chosen kept vote = vote
vote_at Leads kept vote = kept
vote_at (Follows leader) kept vote = kept

abbrev pub with_vote : Vote → ElectionView → ElectionView
with_vote vote it = record it { vote = vote_at it.position it.vote vote }

-- a leader whose notice beats this one
abbrev pub is_beaten_by : Notice → Notice → Bool
is_beaten_by notice other = is_leaders other && beats other notice

-- it leads, and no other leader beats it
abbrev pub is_best : List Notice → Notice → Bool
is_best heard notice = is_leaders notice && not (list_any (is_beaten_by notice) heard)

abbrev pub best_leader : List Notice → Option Notice
best_leader heard = find (is_best heard) heard

-- it looks for a leader too, and the vote wins over its own
abbrev pub loses_to : Vote → Notice → Bool
loses_to vote notice = (notice.leader == 0) && total_order_predicate vote notice.vote

-- a majority looks for a leader, and its vote is the greatest
abbrev pub is_elected : ElectionView → Bool
is_elected it = has_quorum it && list_all (loses_to it.vote) it.heard

abbrev pub chooses : Option Notice → Bool → Choice
chooses (Some notice) elected = Follow notice.vote.server
chooses None true = Lead
chooses None false = Wait

abbrev pub choice_among : ElectionView → Choice
choice_among it = chooses (best_leader it.heard) (is_elected it)

abbrev pub choice_at : Position → ElectionView → Choice
choice_at Chosen it = Lead
choice_at Looking it = choice_among it
choice_at Leads it = Wait
choice_at (Follows leader) it = Wait

abbrev pub choice_of : ElectionView → Choice
choice_of it = choice_at it.position it

abbrev pub next_round : ℕ → ℕ
next_round round = if round == 18446744073709551615 then round else round + 1

-- an operator's election is a new round
abbrev pub round_after : Position → ℕ → ℕ
round_after Chosen round = next_round round
round_after position round = round

abbrev pub after_choice : Choice → ElectionView → ElectionView
after_choice Wait it = it
after_choice Lead it = record it { position = Leads; round = round_after it.position it.round; alive = []; silence = 0 }
after_choice (Follow leader) it = record it { position = Follows leader; alive = []; silence = 0 }
