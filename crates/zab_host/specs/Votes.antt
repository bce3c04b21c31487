-- Votes of the leader election. ZooKeeper, class FastLeaderElection, method totalOrderPredicate.
use Rattle.std.specs.Prelude.{◌==◌, ◌&&◌, ◌||◌, nat_lt, int_lt, Bool}
use Rattle.std.specs.Ordering.{int_eq}
use Rattle.zab_broadcast.specs.declared.state.State.{State}
use Rattle.zab_epoch.specs.Entries.{last_zxid}
use Rattle.zab_host.specs.declared.vote.Vote.{Vote}

-- the new vote has a greater epoch; or the same epoch, and a greater zxid; or the same epoch and
-- zxid, and a greater server
abbrev pub total_order_predicate : Vote → Vote → Bool
total_order_predicate new current =
    nat_lt current.epoch new.epoch
    || ((new.epoch == current.epoch)
    && (int_lt current.zxid new.zxid || (int_eq new.zxid current.zxid && nat_lt current.server new.server)))

-- a server's vote for itself
abbrev pub vote_of : State → Vote
vote_of state = record {
  epoch = state.peer.stable.current;
  zxid = last_zxid state.peer.stable.history;
  server = state.peer.me;
}
