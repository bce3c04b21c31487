use Rattle.std.proofs.Common.{◌≡◌, rules, ℤ, to_z, of_z, w64, subst, refl}
use Rattle.zk_client_service.specs.Expiries.{Closes}
use Rattle.zk_peers.specs.Hosts.{setting_for}
use Rattle.zk_client_service.proofs.expiry.close_in.Goals as goal

pub returns : goal.returns
returns g c =
    let fits : to_z w64 (of_z w64 c.args.now) ≡ c.args.now = search rules in
    record {
      host = c.in-Up.host;
      was = c.in-Up.is;
      host_then = c.close_all.new.host;
      is = refl;
      closes = subst (λ (now : ℤ). Closes (setting_for c.args.quorums.now.servers) now c.args.sessions.now c.in-Up.host c.close_all.new.host) fits c.close_all.ensures;
    }
