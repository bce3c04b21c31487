-- What a prepared transaction is: an error, or what was asked, of a session that is open.
use Rattle.std.proofs.Common.{◌≡◌, ◌⊎◌, inl, inr, ℤ, true, ◌||◌, nat_lt, Result, Ok, Err, refl, ap}
use Rattle.std.proofs.lemmas.Bool.{cases_cond}
use Rattle.zk_records.specs.Records.{record_of}
use Rattle.zk_records.specs.Sizes.{size_of}
use Rattle.zk_table.specs.declared.txn.Op.{Op}
use Rattle.zk_table.specs.declared.txn.Op.TheVariants as ops
use Rattle.zk_table.specs.declared.txn.Txn.{Txn}
use Rattle.zk_table.specs.Codes.{bad_arguments, session_expired}
use Rattle.zk_table.specs.States.{State}
use Rattle.zk_requests.specs.declared.call.Call.{Call}
use Rattle.zk_requests.specs.Requests.{opens, is_open, header_of, asked_on, op_on, op_or_error, within_limit}
use Rattle.zk_prepare_laws.specs.Prepared.{IsPrepared}
use Rattle.zk_prepare_laws.proofs.Tests.{after_demand}

pub record WasRefused (txn : Txn) : Type 0 where
  pub code : ℤ
  pub is : txn.op ≡ ops.Error code

pub record WasAsked (state : State) (txn : Txn) (call : Call) (zxid : ℤ) : Type 0 where
  pub op : Op
  pub allowed : (opens call.request || is_open state call.session) ≡ true
  pub made : op_on state (header_of call zxid) call.auths call.request ≡ Ok op
  pub is : txn ≡ record (header_of call zxid) { op = op }

asked_for : (state : State) (txn : Txn) (call : Call) (zxid : ℤ) (made : Result Op ℤ) → asked_on state call zxid ≡ made → txn ≡ record (header_of call zxid) { op = op_or_error made } → WasRefused txn ⊎ WasAsked state txn call zxid
asked_for state txn call zxid (Ok op) made is =
    let passed = after_demand (opens call.request || is_open state call.session) session_expired (op_on state (header_of call zxid) call.auths call.request) op made in
    inr (record { op = op; allowed = passed.0; made = passed.1; is = is })
asked_for state txn call zxid (Err code) made is = inl (record { code = code; is = ap (λ (t : Txn). t.op) is })

limited : (t txn : Txn) → txn ≡ within_limit t → WasRefused txn ⊎ (txn ≡ t)
limited t txn is = elim (cases_cond (nat_lt 1048576 (size_of (record_of t))) (record t { op = ops.Error bad_arguments }) t txn is) [
  | inl long ↦ inl (record { code = bad_arguments; is = ap (λ (t : Txn). t.op) long })
  | inr same ↦ inr same
]

pub meant : (state : State) (txn : Txn) (prepared : IsPrepared state txn) → WasRefused txn ⊎ WasAsked state txn prepared.call prepared.zxid
meant state txn prepared = elim (limited (record (header_of prepared.call prepared.zxid) { op = op_or_error (asked_on state prepared.call prepared.zxid) }) txn prepared.is) [
  | inl refused ↦ inl refused
  | inr same ↦ asked_for state txn prepared.call prepared.zxid (asked_on state prepared.call prepared.zxid) refl same
]
