use Rattle.std.proofs.Common.{◌≡◌, ◌∙◌, ℕ, ℤ, ◌==◌, true, find, set, Some, OnOk, arith, rules, sym, ap, subst, to_z, of_z, w64}
use Rattle.std.proofs.lemmas.Bool.Decides.{nat_tests}
use Rattle.std.proofs.lemmas.Int.{to_z-of_z}
use Rattle.zk_client_port.specs.Outputs.{gained_if, is_numbered, with_first}
use Rattle.zk_client_port.specs.Results.{with_outcome}
use Rattle.zk_client_port.proofs.Each.{first_changed, first_found, none_changed, then_if, then_ok}
use Rattle.zk_client_port.proofs.outputs.write_outcome_to.Goals as goal

pub returns-clause-connections : goal.returns-clause-connections
returns-clause-connections c =
    subst (λ (last : ℤ). c.loop-index.connections.items ≡ with_first (is_numbered c.args.number) (with_outcome c.args.admission.now last c.args.expected c.args.outcome) c.args.connections.now.items) (to_z-of_z w64 c.args.last c.ranges.last)
    (none_changed (is_numbered c.args.number) (with_outcome c.args.admission.now (to_z w64 (of_z w64 c.args.last)) c.args.expected c.args.outcome) c.args.connections.now.items c.loop-index.connections.items c.loop-index.index
    c.loop-index.invariant.same c.loop-index.invariant.changed (search rules))

-- the first connection with the number is at this place
numbered : (m n k : ℕ) → m ≡ n → m ≡ k → (k == n) ≡ true
numbered m n k p q = grind (arith, nat_tests, p, q)

pub returns-then-number-clause-connections : goal.returns-then-number-clause-connections
returns-then-number-clause-connections c =
    subst (λ (last : ℤ). OnOk c.write_outcome.result (set c.loop-index.connections.items c.loop-index.index c.write_outcome.new.connection
    ≡ with_first (is_numbered c.args.number) (with_outcome c.args.admission.now last c.args.expected c.args.outcome) c.args.connections.now.items)) (to_z-of_z w64 c.args.last c.ranges.last)
    (then_ok c.write_outcome.result
    (first_changed (is_numbered c.args.number) c.args.connections.now.items c.loop-index.connections.items c.loop-index.index c.index_mut-connection.result.now c.loop-index.invariant.same
    (search rules) c.index_mut-connection.ensures.value (numbered c.number.result c.args.number c.index_mut-connection.result.now.number c.if-number.true c.number.ensures)
    (with_outcome c.args.admission.now (to_z w64 (of_z w64 c.args.last)) c.args.expected c.args.outcome) c.write_outcome.new.connection c.loop-index.invariant.changed)
    c.write_outcome.ensures.connection)

pub returns-then-number-clause-gained : goal.returns-then-number-clause-gained
returns-then-number-clause-gained c =
    let found : find (is_numbered c.args.number) c.args.connections.now.items ≡ Some c.index_mut-connection.result.now =
    first_found (is_numbered c.args.number) c.args.connections.now.items c.loop-index.connections.items c.loop-index.index c.index_mut-connection.result.now c.loop-index.invariant.same
    (search rules) c.index_mut-connection.ensures.value (numbered c.number.result c.args.number c.index_mut-connection.result.now.number c.if-number.true c.number.ensures)
    c.loop-index.invariant.found in
    then_if c.write_outcome.result (λ it is. is ∙ ap (gained_if c.args.admission.now c.args.expected c.args.outcome) (sym found)) c.write_outcome.ensures.gained
