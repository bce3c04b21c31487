-- A server's replies to four-letter words. ZooKeeper Administrator's Guide, "The Four Letter
-- Words".
use Rattle.std.specs.Prelude.{ℕ, List, ◌++◌, false, Option, Some, None, codes}
use Rattle.std.specs.Fmt.{decimal, digits}
use Rattle.zk_connections.specs.declared.status.Mode.{Mode}
use Rattle.zk_connections.specs.declared.status.Mode.TheVariants as modes
use Rattle.zk_connections.specs.declared.status.Status.{Status}
use Rattle.zk_connections.specs.declared.word.Word.{Word}
use Rattle.zk_connections.specs.declared.word.Word.TheVariants.{Ruok, Srvr, Stat, Mntr, Envi, Isro, Cons, Dump}

abbrev pub mode_text : Mode → List ℕ
mode_text modes.Leader = codes "leader"
mode_text modes.Follower = codes "follower"
mode_text modes.Looking = codes "looking"

-- lines
abbrev pub counted : List ℕ → ℕ → List ℕ
counted name count = name ++ decimal count ++ codes "\n"

abbrev pub named : List ℕ → List ℕ → List ℕ
named name word = name ++ word ++ codes "\n"

abbrev pub zxid_line : ℕ → List ℕ
zxid_line zxid = codes "Zxid: 0x" ++ digits 16 false zxid ++ codes "\n"

abbrev pub srvr_text : Status → List ℕ
srvr_text status =
    codes "Zookeeper version: 3.4\n" ++ counted (codes "Connections: ") status.connections
    ++ counted (codes "Outstanding: ") status.outstanding ++ zxid_line status.last
    ++ named (codes "Mode: ") (mode_text status.mode) ++ counted (codes "Node count: ") status.nodes

abbrev pub mntr_text : Status → List ℕ
mntr_text status =
    codes "zk_version\t3.4\n" ++ counted (codes "zk_num_alive_connections\t") status.connections
    ++ counted (codes "zk_outstanding_requests\t") status.outstanding
    ++ named (codes "zk_server_state\t") (mode_text status.mode) ++ counted (codes "zk_znode_count\t") status.nodes

abbrev pub envi_text : List ℕ
envi_text = codes "Environment:\nzookeeper.version=3.4\n"

-- from a server that has a leader; the others list what is not in its statistics
abbrev pub serving_text : Word → Status → Option (List ℕ)
serving_text Ruok status = Some (codes "imok")
serving_text Isro status = Some (codes "rw")
serving_text Srvr status = Some (srvr_text status)
serving_text Stat status = Some (srvr_text status)
serving_text Mntr status = Some (mntr_text status)
serving_text Envi status = Some envi_text
serving_text Cons status = None
serving_text Dump status = None

-- from a server that has none
abbrev pub looking_text : Word → List ℕ
looking_text Ruok = codes "imok"
looking_text Isro = codes "null"
looking_text Envi = envi_text
looking_text other = codes "This ZooKeeper instance is not currently serving requests\n"

abbrev pub text_by : Mode → Word → Status → Option (List ℕ)
text_by modes.Looking word status = Some (looking_text word)
text_by other word status = serving_text word status

abbrev pub text_of : Word → Status → Option (List ℕ)
text_of word status = text_by status.mode word status
