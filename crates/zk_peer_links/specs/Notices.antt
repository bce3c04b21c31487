-- Notices of an election. ZooKeeper, class FastLeaderElection: Notification, totalOrderPredicate.
use Rattle.std.specs.Prelude.{ℕ, pos, ◌==◌, ◌&&◌, ◌||◌, nat_lt, Bool, List, ◌++◌, FitsSigned}
use Rattle.std.specs.Int.{w64}
use Rattle.std.specs.Ordering.{int_eq}
use Rattle.zab_frames.specs.Messages.{word, long_word}
use Rattle.zab_frames.specs.Ranges.{IsWord, IsLongWord}
use Rattle.zab_host.specs.Votes.{total_order_predicate}
use Rattle.zk_peer_links.specs.declared.notice.Notice.{Notice}
use Rattle.zk_records.specs.Records.{int, long}

abbrev pub is_from : ℕ → Notice → Bool
is_from server notice = notice.vote.server == server

-- its sender leads
abbrev pub is_leaders : Notice → Bool
is_leaders notice = notice.leader == notice.vote.server

-- a later round; or the same round, and a vote that wins
abbrev pub beats : Notice → Notice → Bool
beats notice other =
    nat_lt other.round notice.round
    || ((notice.round == other.round) && total_order_predicate notice.vote other.vote)

abbrev pub is_same : Notice → Notice → Bool
is_same notice other =
    (notice.round == other.round)
    && ((notice.vote.epoch == other.vote.epoch)
    && (int_eq notice.vote.zxid other.vote.zxid
    && ((notice.vote.server == other.vote.server) && (notice.leader == other.leader))))

-- ---- the contents of a notice's frame

-- the sender, 0 for all addressees, a kind that no message has, and the fields
unfoldable pub contents_of_notice : Notice → List ℕ
contents_of_notice notice =
    long_word notice.vote.server ++ long_word 0 ++ int (pos 12) ++ long_word notice.round
    ++ word notice.vote.epoch ++ long notice.vote.zxid ++ long_word notice.leader

-- what the types guarantee
pub record IsNotice (notice : Notice) : Type 0 where
  pub server : IsLongWord notice.vote.server
  pub round : IsLongWord notice.round
  pub epoch : IsWord notice.vote.epoch
  pub zxid : FitsSigned w64 notice.vote.zxid
  pub leader : IsLongWord notice.leader
