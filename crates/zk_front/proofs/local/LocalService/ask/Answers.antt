use Rattle.std.proofs.Common.{◌≡◌, ℤ, w64, to_z, of_z, subst}
use Rattle.std.proofs.lemmas.Int.{to_z-of_z}
use Rattle.zk_front.specs.Locals.{Asks}
use Rattle.zk_front.proofs.local.LocalService.ask.Goals as goal

pub returns : goal.returns
returns g c =
    let now = c.now-now.result in
    let same : to_z w64 (of_z w64 now) ≡ now = to_z-of_z w64 now (record { sfits = c.now-now.type_inv }) in record {
      now = now;
      told = c.now-now.ensures;
      tag = c.next_tag-self.ensures;
      asks = subst (λ (z : ℤ). Asks c.args.self.now.home c.args.ask c.next_tag-self.result z c.ask.result c.ask.new.self) same c.ask.ensures;
    }
