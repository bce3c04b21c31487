use Rattle.std.proofs.Common.{◌∙◌, rules, ℕ, ℤ, List, ap}
use Rattle.zk_client_port.proofs.Lists.{lists, nothing_yet}
use Rattle.zk_client_port.specs.Listings.{owned_in, sessions_in}
use Rattle.zk_connections.specs.Listings.{connections_text, sessions_text}
use Rattle.zk_connections.specs.declared.connection.Connection.{Connection}
use Rattle.zk_connections.specs.declared.listing.OwnedNodes.{OwnedNodes}
use Rattle.zk_client_port.proofs.client_port.ClientPort.write_listings.Goals as goal

pub returns-in_err-owned-clause-lists : goal.returns-in_err-owned-clause-lists
returns-in_err-owned-clause-lists g c = nothing_yet c.args.host.now.tree.tree c.args.self.now.connections.items c.from_residual.result (search rules)

pub returns-in_err-connections-clause-lists : goal.returns-in_err-connections-clause-lists
returns-in_err-connections-clause-lists g c = nothing_yet c.args.host.now.tree.tree c.args.self.now.connections.items c.from_residual-in_err-connections.result (search rules)

pub returns-in_err-sessions-clause-lists : goal.returns-in_err-sessions-clause-lists
returns-in_err-sessions-clause-lists g c = nothing_yet c.args.host.now.tree.tree c.args.self.now.connections.items c.from_residual-in_err-sessions.result (search rules)

pub returns-clause-lists : goal.returns-clause-lists
returns-clause-lists g c =
    lists c.args.host.now.tree.tree c.args.self.now.connections.items c.write_listings.new.connections.items c.write_listings.result c.in_ok-owned.owned.items c.as_str.result.now c.as_str-2.result.now
    (c.as_str.ensures.value ∙ c.in_ok-connections.ensures ∙ ap connections_text c.deref-2.ensures.value)
    (c.as_str-2.ensures.value ∙ c.in_ok-sessions.ensures ∙ ap (λ (its : List Connection). sessions_text its c.sessions_of-sessions.result.now c.deref-4.result.now) c.deref-3.ensures.value
    ∙ ap (λ (its : List (ℕ × ℤ)). sessions_text c.args.self.now.connections.items its c.deref-4.result.now) c.sessions_of-sessions.ensures
    ∙ ap (λ (its : List OwnedNodes). sessions_text c.args.self.now.connections.items (sessions_in c.args.host.now.tree.tree) its) c.deref-4.ensures.value)
    (c.in_ok-owned.ensures ∙ ap (owned_in c.args.host.now.tree.tree.nodes) c.sessions_of-sessions.ensures)
    c.write_listings.ensures
