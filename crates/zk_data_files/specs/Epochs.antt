-- The epochs that ZooKeeper keeps in files of a server's data directory. ZooKeeper, class
-- QuorumPeer, `acceptedEpoch` and `currentEpoch`.
use Rattle.zab_epoch.specs.declared.stable.Stable.{Stable}
use Rattle.zk_data_files.specs.declared.epochs.Epochs.{Epochs}

abbrev pub epochs_of : Stable → Epochs
epochs_of stable = record { accepted = stable.promised; current = stable.current }
