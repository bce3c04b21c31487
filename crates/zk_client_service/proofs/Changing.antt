-- Ports that change.
use Rattle.std.proofs.Common.{◌≡◌, ◌∙◌, ◌<◌, ◌+◌, ◌-◌, ◌==◌, ℕ, zero, suc, Bool, true, false, List, [], ◌∷◌, ◌++◌, length, map, take, drop, set, get_or, slice_get, Option, Some, None, if◌then◌else◌, refl, sym, ap, arith}
use Rattle.std.proofs.lemmas.Bool.Decides.{nat_tests}
use Rattle.zk_client_port.proofs.Each.{one_more}
use Rattle.zk_client_port.specs.Ports.{cut_off_if}
use Rattle.zk_client_port.specs.declared.client_port.ClientPort.{ClientPort}
use Rattle.zk_client_port.specs.declared.client_port.Selection.{Selection}
use Rattle.zk_client_port.specs.declared.expected.Expected.{Expected}
use Rattle.zk_client_service.specs.Ports.{Port, at_server, changed_at, connections_in, cut_off, port_of, ports_of, with_port}
use Rattle.zk_connections.specs.declared.connection.Connection.{Connection}
use Rattle.zk_hub.specs.declared.outcome.Outcome.{Outcome}
use Rattle.zk_hub.specs.declared.request.Outstanding.{Outstanding}

pub changed_is : (change : Port → Port) (ports : List ClientPort) (i : ℕ) (before after : ClientPort) → i < length ports → before ≡ get_or ports i before → port_of after ≡ change (port_of before)
    → ports_of (set ports i after) ≡ changed_at i change (ports_of ports)
changed_is change [] zero before after within is e = absurd (omega (arith, within))
changed_is change [] (suc i) before after within is e = absurd (omega (arith, within))
changed_is change (port ∷ ports) zero before after within is e = ap (λ (p : Port). p ∷ ports_of ports) (e ∙ ap (λ (p : ClientPort). change (port_of p)) is)
changed_is change (port ∷ ports) (suc i) before after within is e =
    let rest : ports_of (set ports i after) ≡ changed_at i change (ports_of ports) = changed_is change ports i before after (omega (arith, within)) is e in
    ap (λ (ps : List Port). port_of port ∷ ps) rest

pub ports_set : (ports : List ClientPort) (i : ℕ) (after : ClientPort) → ports_of (set ports i after) ≡ set (ports_of ports) i (port_of after)
ports_set [] zero after = refl
ports_set [] (suc i) after = refl
ports_set (port ∷ ports) zero after = refl
ports_set (port ∷ ports) (suc i) after = ap (λ (ps : List Port). port_of port ∷ ps) (ports_set ports i after)

ports_get : (ports : List ClientPort) (i : ℕ) (before : ClientPort) → port_of (get_or ports i before) ≡ get_or (ports_of ports) i (port_of before)
ports_get [] zero before = refl
ports_get [] (suc i) before = refl
ports_get (port ∷ ports) zero before = refl
ports_get (port ∷ ports) (suc i) before = ports_get ports i before

pub ports_length : (ports : List ClientPort) → length (ports_of ports) ≡ length ports
ports_length [] = refl
ports_length (port ∷ ports) = ap (λ (n : ℕ). suc n) (ports_length ports)

-- the ports before a place are changed, and now the next one
pub one_more_port : (change : Port → Port) (all : List Port) (ports : List ClientPort) (i : ℕ) (before after : ClientPort) → ports_of ports ≡ map change (take i all) ++ drop i all → i < length ports → before ≡ get_or ports i before
    → port_of after ≡ change (port_of before) → ports_of (set ports i after) ≡ map change (take (i + 1) all) ++ drop (i + 1) all
one_more_port change all ports i before after so_far within is e =
    ports_set ports i after
    ∙ one_more change all (ports_of ports) i (port_of before) (port_of after) so_far (omega (arith, within, ports_length ports)) (ap (λ (p : ClientPort). port_of p) is ∙ ports_get ports i before) e

pub at_number : (i : ℕ) (change : Port → Port) (ports : List Port) → with_port (i + 1) change ports ≡ changed_at i change ports
at_number i change ports =
    let above : (i + 1 == 0) ≡ false = grind (arith, nat_tests) in
    let before : i + 1 - 1 ≡ i = omega arith in
    rw (above, before) refl

pub unchanged_is : (ports : List ClientPort) (i : ℕ) (before after : ClientPort) → before ≡ get_or ports i before → port_of after ≡ port_of before → ports_of (set ports i after) ≡ ports_of ports
unchanged_is [] zero before after is e = refl
unchanged_is [] (suc i) before after is e = refl
unchanged_is (port ∷ ports) zero before after is e = ap (λ (p : Port). p ∷ ports_of ports) (e ∙ ap (λ (p : ClientPort). port_of p) is)
unchanged_is (port ∷ ports) (suc i) before after is e = ap (λ (ps : List Port). port_of port ∷ ps) (unchanged_is ports i before after is e)

pub cut_off_is : (selection : Selection) (before after : ClientPort) → after.connections.items ≡ map (cut_off_if selection) before.connections.items → after.hub ≡ before.hub → port_of after ≡ cut_off selection (port_of before)
cut_off_is selection before after connections hub =
    let first : port_of after ≡ record (port_of after) { connections = map (cut_off_if selection) before.connections.items } = ap (λ (its : List Connection). record (port_of after) { connections = its }) connections in
    first ∙ ap (λ (requests : List (Outstanding Expected Outcome)). record (cut_off selection (port_of before)) { hub = requests }) hub

pub got : (ports : List ClientPort) (i : ℕ) (port : ClientPort) → i < length ports → port ≡ get_or ports i port → slice_get (ports_of ports) i ≡ Some (port_of port)
got [] zero port within is = absurd (omega (arith, within))
got [] (suc i) port within is = absurd (omega (arith, within))
got (first ∷ ports) zero port within is = ap (λ (p : ClientPort). Some (port_of p)) (sym is)
got (first ∷ ports) (suc i) port within is = got ports i port (omega (arith, within)) is

pub count_at : (ports : List ClientPort) (i : ℕ) (port : ClientPort) → i < length ports → port ≡ get_or ports i port → length port.connections.items ≡ length (connections_in (slice_get (ports_of ports) i))
count_at ports i port within is = sym (ap (λ (it : Option Port). length (connections_in it)) (got ports i port within is))

pub at_index : (ports : List Port) (i server : ℕ) → 0 < server → i ≡ server - 1 → slice_get ports i ≡ at_server ports server
at_index ports i server above is =
    let not_zero : (server == 0) ≡ false = grind (arith, nat_tests) in
    rw not_zero (ap (slice_get ports) is)

-- ---- the port of a server

pub at_port : (i server : ℕ) (change : Port → Port) (old new : List Port) → 0 < server → i ≡ server - 1 → new ≡ changed_at i change old → new ≡ with_port server change old
at_port i server change old new above is changed =
    let not_zero : (server == 0) ≡ false = grind (arith, nat_tests) in
    rw not_zero (changed ∙ ap (λ (place : ℕ). changed_at place change old) is)

none_changed : (i : ℕ) (change : Port → Port) (ports : List Port) → slice_get ports i ≡ None → changed_at i change ports ≡ ports
none_changed zero change [] none = refl
none_changed (suc i) change [] none = refl
none_changed zero change (port ∷ ports) none = absurd cc
none_changed (suc i) change (port ∷ ports) none = ap (λ (ps : List Port). port ∷ ps) (none_changed i change ports none)

none_if : (zero : Bool) (i : ℕ) (change : Port → Port) (ports : List Port) → (if zero then None else slice_get ports i) ≡ None → (if zero then ports else changed_at i change ports) ≡ ports
none_if true i change ports none = refl
none_if false i change ports none = none_changed i change ports none

pub at_no_port : (server : ℕ) (change : Port → Port) (ports : List Port) → at_server ports server ≡ None → ports ≡ with_port server change ports
at_no_port server change ports none = sym (none_if (server == 0) (server - 1) change ports none)
