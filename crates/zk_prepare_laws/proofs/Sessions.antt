-- The session in whose name a prepared transaction is.
use Rattle.std.proofs.Common.{◌≡◌, ◌≢◌, inl, inr, ℤ, Bool, true, false, ◌||◌, List, ◌∷◌, ◌++◌, Ok, refl, sym, ap, subst, ◌∙◌}
use Rattle.std.proofs.lemmas.Bool.{false≢true, cond-false, or_right, and_from, not_from_false, false_from_ne_true}
use Rattle.std.proofs.lemmas.Cmp.{nat_cmp_total}
use Rattle.std.proofs.lemmas.Int.{to_z-of_z}
use Rattle.std.specs.FinMap.{insert, remove, contains_key, nat_cmp-IsAntisymmetric}
use Rattle.std.specs.Int.{w64, cast_unsigned, cast_signed}
use Rattle.std.specs.Int.RustNames.{FitsSigned}
use Rattle.zk_acl.specs.declared.acl.Id.{Id}
use Rattle.zk_table.specs.declared.txn.Op.{Op}
use Rattle.zk_table.specs.declared.txn.Txn.{Txn}
use Rattle.zk_table.specs.Histories.{tree_of}
use Rattle.zk_table.specs.States.{State, SessionMap}
use Rattle.zk_tree.proofs.Kept.{tied, contains_key-insert, contains_key-remove}
use Rattle.zk_requests.specs.declared.call.Request.{Request}
use Rattle.zk_requests.specs.declared.call.Request.TheVariants as requested
use Rattle.zk_requests.specs.Requests.{opens, is_open, header_of, op_on}
use Rattle.zk_prepare_laws.specs.Prepared.{IsPrepared, ArePrepared, HaveSessions, is_in_session}
use Rattle.zk_prepare_laws.proofs.Meanings.{WasAsked, meant}
use Rattle.zk_prepare_laws.proofs.Tests.{same_ok}

-- ---- whose it is

-- what opens a session is not in one
opening : (state : State) (header : Txn) (auths : List Id) (request : Request) (op : Op) → opens request ≡ true → op_on state header auths request ≡ Ok op → is_in_session op ≡ false
opening state header auths (requested.Create path content acl flags) op e made = absurd (false≢true e)
opening state header auths (requested.Delete path version) op e made = absurd (false≢true e)
opening state header auths (requested.SetData path content version) op e made = absurd (false≢true e)
opening state header auths (requested.SetAcl path acl version) op e made = absurd (false≢true e)
opening state header auths (requested.Multi parts) op e made = absurd (false≢true e)
opening state header auths (requested.OpenSession timeout) op e made = ap is_in_session (same_ok _ op made)
opening state header auths requested.CloseSession op e made = absurd (false≢true e)

module _ (state : State) (txn : Txn) (prepared : IsPrepared state txn) (acts : is_in_session txn.op ≡ true) where
  abbrev IsItsCalls : Type 0
  IsItsCalls = (is_open state prepared.call.session ≡ true) × (txn.session ≡ prepared.call.session)

  of_asked : WasAsked state txn prepared.call prepared.zxid → IsItsCalls
  of_asked asked = by_kind (opens prepared.call.request) refl
    where
      by_kind : (b : Bool) → opens prepared.call.request ≡ b → IsItsCalls
      by_kind true e = absurd (false≢true (sym (ap (λ (t : Txn). is_in_session t.op) asked.is ∙ opening state (header_of prepared.call prepared.zxid) prepared.call.auths prepared.call.request asked.op e asked.made) ∙ acts))
      by_kind false e = (
        ap (λ b. b || is_open state prepared.call.session) (sym e) ∙ asked.allowed,
        ap (λ (t : Txn). t.session) asked.is ∙ cond-false (opens prepared.call.request) _ _ e,
      )

  its_calls : IsItsCalls
  its_calls = elim (meant state txn prepared) [
    | inl error ↦ absurd (false≢true (sym (ap is_in_session error.is) ∙ acts))
    | inr asked ↦ of_asked asked
  ]

  -- the header names the session that asked
  pub session_is_the_calls : txn.session ≡ prepared.call.session
  session_is_the_calls = its_calls.1

  -- and that session is open
  pub session_is_open : is_open state txn.session ≡ true
  session_is_open = ap (is_open state) its_calls.1 ∙ its_calls.0

-- sessions are numbers of 64 bits where those of the calls are
pub sessions_of_calls : (txns : List Txn) (prepared : ArePrepared txns) → ((before : List Txn) (txn : Txn) (after : List Txn) (is : txns ≡ before ++ txn ∷ after) → FitsSigned w64 (prepared before txn after is).call.session) → HaveSessions txns
sessions_of_calls txns prepared fits before txn after is acts =
    subst (FitsSigned w64) (sym (session_is_the_calls (tree_of before) txn (prepared before txn after is) acts)) (fits before txn after is)

-- ---- which sessions are open

-- numbers of 64 bits with the same bits are equal
same_number : (a b : ℤ) → FitsSigned w64 a → FitsSigned w64 b → cast_unsigned w64 a ≡ cast_unsigned w64 b → a ≡ b
same_number a b fits also same = sym (to_z-of_z w64 a fits) ∙ ap (cast_signed w64) same ∙ to_z-of_z w64 b also

pub still_open : (sessions : SessionMap) (opened session timeout : ℤ) → contains_key sessions (cast_unsigned w64 session) ≡ true → contains_key (insert sessions (cast_unsigned w64 opened) timeout) (cast_unsigned w64 session) ≡ true
still_open sessions opened session timeout e =
    contains_key-insert nat_cmp_total sessions (cast_unsigned w64 opened) timeout (cast_unsigned w64 session) ∙ or_right _ _ e

pub others_open : (sessions : SessionMap) (closed session : ℤ) → FitsSigned w64 closed → FitsSigned w64 session → session ≢ closed → contains_key sessions (cast_unsigned w64 session) ≡ true → contains_key (remove sessions (cast_unsigned w64 closed)) (cast_unsigned w64 session) ≡ true
others_open sessions closed session fits also other e =
    contains_key-remove nat_cmp_total sessions (cast_unsigned w64 closed) (cast_unsigned w64 session)
    ∙ and_from _ _ (not_from_false _ (false_from_ne_true _ (λ same. other (same_number session closed also fits (nat_cmp-IsAntisymmetric _ _ (tied _ same)))))) e
