-- The sessions of a snapshot, replayed.
use Rattle.std.proofs.Common.{◌≡◌, ℕ, ℤ, pos, zero, suc, List, [], ◌∷◌, map, take, Bool, true, false, cond, Option, Some, None, refl, sym, ap, ◌∙◌, ⊎_elim}
use Rattle.std.proofs.lemmas.Bool.{cond-true, cond-false, cases_Bool}
use Rattle.std.proofs.lemmas.Cmp.{nat_cmp_total}
use Rattle.std.specs.FinMap.{get, get-insert, get-remove, same_map, nat_cmp-IsAntisymmetric}
use Rattle.std.specs.Int.{w64, cast_unsigned}
use Rattle.std.specs.List.{list_any}
use Rattle.std.specs.Ordering.{eq_by_cmp, nat_cmp}
use Rattle.zk_table.specs.declared.txn.Op.{Op}
use Rattle.zk_table.specs.declared.txn.Op.TheVariants as ops
use Rattle.zk_table.specs.declared.txn.Txn.{Txn}
use Rattle.zk_table.specs.declared.sub.Sub.{Sub}
use Rattle.zk_table.specs.Parts.{is_error}
use Rattle.zk_table.specs.States.{SessionMap, State}
use Rattle.zk_table.specs.Histories.{state_after}
use Rattle.zk_table.specs.Steps.{step, step_by}
use Rattle.zk_table.specs.Multis.{told_parts, answers_unapplied, answers_of, nodes_after}
use Rattle.zk_newer_records.specs.declared.newer_record.NewerRecord.{NewerRecord}
use Rattle.zk_replay.specs.Rules.{sessions_by, sessions_replayed}
use Rattle.zk_replay_laws.proofs.Windows.{txn_of}

-- ---- a server's sessions

multi_keeps : (s : State) (txn : Txn) (parts : List Sub) (b : Bool) → (cond b (told_parts s txn s.nodes (answers_unapplied (pos 0) parts)) (told_parts s txn (nodes_after txn s.nodes parts) (answers_of txn s.nodes parts))).0.sessions ≡ s.sessions
multi_keeps s txn parts true = refl
multi_keeps s txn parts false = refl

server_sessions : (s : State) (txn : Txn) (op : Op) → (step_by s txn op).0.sessions ≡ sessions_by s.sessions txn op
server_sessions s txn (ops.Create path content acl ephemeral count) = refl
server_sessions s txn (ops.CreateOld path content acl ephemeral) = refl
server_sessions s txn (ops.Delete path) = refl
server_sessions s txn (ops.SetData path content version) = refl
server_sessions s txn (ops.SetAcl path acl version) = refl
server_sessions s txn (ops.OpenSession timeout) = refl
server_sessions s txn ops.CloseSession = refl
server_sessions s txn (ops.Multi parts) = multi_keeps s txn parts (list_any is_error parts)
server_sessions s txn (ops.Error code) = refl

-- ---- one session

-- a transaction sets a session the same way in any map, or leaves it
pub data Turn (txn : Txn) (op : Op) (k : ℕ) : Type 0 where
  sets : (o : Option ℤ) → ((m : SessionMap) → get (sessions_by m txn op) k ≡ o) → Turn txn op k
  leaves : ((m : SessionMap) → get (sessions_by m txn op) k ≡ get m k) → Turn txn op k

turn_of : (txn : Txn) (op : Op) (k : ℕ) → Turn txn op k
turn_of txn (ops.Create path content acl ephemeral count) k = leaves (λ m. refl)
turn_of txn (ops.CreateOld path content acl ephemeral) k = leaves (λ m. refl)
turn_of txn (ops.Delete path) k = leaves (λ m. refl)
turn_of txn (ops.SetData path content version) k = leaves (λ m. refl)
turn_of txn (ops.SetAcl path acl version) k = leaves (λ m. refl)
turn_of txn (ops.OpenSession timeout) k =
    ⊎_elim
    (λ here. sets (Some timeout) (λ m. get-insert nat_cmp_total m (cast_unsigned w64 txn.session) timeout k ∙ cond-true _ _ _ here))
    (λ else. leaves (λ m. get-insert nat_cmp_total m (cast_unsigned w64 txn.session) timeout k ∙ cond-false _ _ _ else))
    (cases_Bool (eq_by_cmp nat_cmp k (cast_unsigned w64 txn.session)))
turn_of txn ops.CloseSession k =
    ⊎_elim
    (λ here. sets None (λ m. get-remove nat_cmp_total m (cast_unsigned w64 txn.session) k ∙ cond-true _ _ _ here))
    (λ else. leaves (λ m. get-remove nat_cmp_total m (cast_unsigned w64 txn.session) k ∙ cond-false _ _ _ else))
    (cases_Bool (eq_by_cmp nat_cmp k (cast_unsigned w64 txn.session)))
turn_of txn (ops.Multi parts) k = leaves (λ m. refl)
turn_of txn (ops.Error code) k = leaves (λ m. refl)

-- ---- all of them

abbrev pub all_sessions : SessionMap → List NewerRecord → SessionMap
all_sessions d [] = d
all_sessions d (r ∷ rs) = all_sessions (sessions_replayed d r.txn) rs

abbrev SessionSeen : State → List NewerRecord → SessionMap → ℕ → Type 0
SessionSeen s rs d k = (moment : ℕ) × (get d k ≡ get (state_after s (take moment (map txn_of rs))).sessions k)

session_next : (s : State) (r : NewerRecord) (rs : List NewerRecord) (d : SessionMap) (k : ℕ) → SessionSeen s (r ∷ rs) d k → SessionSeen (step s r.txn).0 rs (sessions_replayed d r.txn) k
session_next s r rs d k seen = by_turn (turn_of r.txn r.txn.op k)
  where
    server : (step s r.txn).0.sessions ≡ sessions_by s.sessions r.txn r.txn.op
    server = server_sessions s r.txn r.txn.op

    by_moment : (m : ℕ) → get d k ≡ get (state_after s (take m (map txn_of (r ∷ rs)))).sessions k → ((n : SessionMap) → get (sessions_by n r.txn r.txn.op) k ≡ get n k) → SessionSeen (step s r.txn).0 rs (sessions_replayed d r.txn) k
    by_moment zero e same = (zero, same d ∙ e ∙ sym (same s.sessions) ∙ ap (λ x. get x k) (sym server) ∙ ap (λ l. get (state_after (step s r.txn).0 l).sessions k) (sym (none (map txn_of rs))))
      where
        none : (l : List Txn) → take 0 l ≡ []
        none [] = refl
        none (x ∷ xs) = refl
    by_moment (suc m) e same = (m, same d ∙ e)

    by_turn : Turn r.txn r.txn.op k → SessionSeen (step s r.txn).0 rs (sessions_replayed d r.txn) k
    by_turn (sets o same) = (zero, same d ∙ sym (same s.sessions) ∙ ap (λ x. get x k) (sym server) ∙ ap (λ l. get (state_after (step s r.txn).0 l).sessions k) (sym (none (map txn_of rs))))
      where
        none : (l : List Txn) → take 0 l ≡ []
        none [] = refl
        none (x ∷ xs) = refl
    by_turn (leaves same) = by_moment seen.0 seen.1 same

session_after : (s : State) (rs : List NewerRecord) (d : SessionMap) (k : ℕ) → SessionSeen s rs d k → get (all_sessions d rs) k ≡ get (state_after s (map txn_of rs)).sessions k
session_after s [] d k seen = seen.1 ∙ ap (λ l. get (state_after s l).sessions k) (nothing seen.0)
  where
    nothing : (n : ℕ) → take n (map txn_of []) ≡ map txn_of []
    nothing zero = refl
    nothing (suc n) = refl
session_after s (r ∷ rs) d k seen = session_after (step s r.txn).0 rs (sessions_replayed d r.txn) k (session_next s r rs d k seen)

pub sessions_after : (s : State) (rs : List NewerRecord) (d : SessionMap) → ((k : ℕ) → (moment : ℕ) × (get d k ≡ get (state_after s (take moment (map txn_of rs))).sessions k)) → all_sessions d rs ≡ (state_after s (map txn_of rs)).sessions
sessions_after s rs d seen = same_map nat_cmp_total nat_cmp-IsAntisymmetric _ _ (λ k. session_after s rs d k (seen k))
