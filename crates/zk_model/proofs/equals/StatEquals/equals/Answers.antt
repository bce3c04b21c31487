use Rattle.std.proofs.Common.{◌≡◌, rules}
use Rattle.zk_model.proofs.equals.StatEquals.equals.Goals as goal

pub returns-clause-yes : goal.returns-clause-yes
returns-clause-yes c = λ last.
    let czxid : c.args.self.now.czxid ≡ c.args.other.now.czxid = search rules in
    let mzxid : c.args.self.now.mzxid ≡ c.args.other.now.mzxid = search rules in
    let ctime : c.args.self.now.ctime ≡ c.args.other.now.ctime = search rules in
    let mtime : c.args.self.now.mtime ≡ c.args.other.now.mtime = search rules in
    let version : c.args.self.now.version ≡ c.args.other.now.version = search rules in
    let cversion : c.args.self.now.cversion ≡ c.args.other.now.cversion = search rules in
    let aversion : c.args.self.now.aversion ≡ c.args.other.now.aversion = search rules in
    let ephemeral-owner : c.args.self.now.ephemeral_owner ≡ c.args.other.now.ephemeral_owner = search rules in
    let data-length : c.args.self.now.data_length ≡ c.args.other.now.data_length = search rules in
    let num-children : c.args.self.now.num_children ≡ c.args.other.now.num_children = search rules in
    let pzxid : c.args.self.now.pzxid ≡ c.args.other.now.pzxid = search rules in
    λ i. record { czxid = czxid i; mzxid = mzxid i; ctime = ctime i; mtime = mtime i; version = version i; cversion = cversion i; aversion = aversion i; ephemeral_owner = ephemeral-owner i; data_length = data-length i; num_children = num-children i; pzxid = pzxid i }
