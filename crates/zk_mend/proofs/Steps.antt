-- One record: the state of an iteration after it.
use Rattle.std.proofs.Common.{◌≡◌, ℕ, ◌+◌, ℤ, pos, Bool, false, List, [], ◌∷◌, ◌++◌, length, refl, sym, ap, ◌∙◌, subst, arith}
use Rattle.zk_mend.specs.Digests.{Owners, tree_digest}
use Rattle.zk_mend.specs.Following.{IsDigestOf, owners_after}
use Rattle.zk_records.specs.Written.{last_of}
use Rattle.zk_newer_records.specs.Changes.{owners_of}
use Rattle.zk_newer_records.specs.NewerRecords.{newer_record}
use Rattle.zk_newer_records.specs.declared.newer_record.NewerRecord.{NewerRecord}
use Rattle.zk_table.specs.declared.txn.Txn.{Txn}
use Rattle.zk_table.specs.States.{State}
use Rattle.zk_table.specs.Steps.{step}
use Rattle.zk_mend.proofs.Walks.{length-newer_entry}
use Rattle.zk_mend.specs.NewerLogs.{LogPosition, owners_next, lists_others}
use Rattle.zk_mend.specs.Telling.{told_after}
use Rattle.zk_mend.specs.Walking.{IsAt, Follows}
use Rattle.zk_mend.specs.declared.walk.Walk.{Walk}

last_push : (start : ℤ) (txns : List Txn) (txn : Txn) → last_of start (txns ++ txn ∷ []) ≡ txn.zxid
last_push start [] txn = refl
last_push start (first ∷ txns) txn = last_push first.zxid txns txn

-- how a digest was updated
abbrev pub FollowsDigest : Walk → NewerRecord → Walk → Type 0
FollowsDigest old newer new = (owners : Owners) → IsDigestOf owners old.machine.state.nodes old.digest
    → IsDigestOf (owners_after old.machine.state.nodes (step old.machine.state newer.txn).0.nodes (owners_of newer) owners) (step old.machine.state newer.txn).0.nodes new.digest

pub followed : (place : LogPosition) (old new : Walk) (newer : NewerRecord) (count : ℕ) (others : Bool) → IsAt old place → count ≡ length (newer_record newer) → new.at ≡ old.at + (13 + count)
    → new.machine.state ≡ (step old.machine.state newer.txn).0 → new.machine.failed ≡ false → new.machine.steps ≡ old.machine.steps + 1 → FollowsDigest old newer new
    → new.journal ≡ old.journal ++ newer.txn ∷ [] → others ≡ lists_others old.machine.state.nodes newer.txn.session newer.form → new.told ≡ told_after old.told old.at newer new.digest.sum others → Follows place old newer new
followed place old new newer count others h count_e at_e state_e runs steps_e digest_e journal_e others_e told_e =
    let before : IsDigestOf place.owners old.machine.state.nodes old.digest = subst (λ (s : State). IsDigestOf place.owners s.nodes old.digest) (sym h.state) h.digest in
    let after : IsDigestOf (owners_next place newer) (step place.state newer.txn).0.nodes new.digest
    = subst (λ (s : State). IsDigestOf (owners_after s.nodes (step s newer.txn).0.nodes (owners_of newer) place.owners) (step s newer.txn).0.nodes new.digest) h.state (digest_e place.owners before) in
    let sum = tree_digest (owners_next place newer) (step place.state newer.txn).0.nodes in
    let others' : others ≡ lists_others place.state.nodes newer.txn.session newer.form = others_e ∙ ap (λ (s : State). lists_others s.nodes newer.txn.session newer.form) h.state in
    let told : new.told ≡ told_after place.told place.at newer sum (lists_others place.state.nodes newer.txn.session newer.form)
    = told_e ∙ ap (λ t. told_after t old.at newer new.digest.sum others) h.told ∙ ap (λ k. told_after place.told k newer new.digest.sum others) h.at ∙ ap (λ k. told_after place.told place.at newer k others) after.sum
    ∙ ap (λ b. told_after place.told place.at newer sum b) others' in
    record {
      comes = record {
        at = omega (arith, at_e, h.at, count_e, length-newer_entry newer);
        last = ap (last_of (pos 0)) journal_e ∙ last_push (pos 0) old.journal newer.txn;
        state = state_e ∙ ap (λ (s : State). (step s newer.txn).0) h.state;
        runs = runs;
        steps = omega (arith, steps_e, at_e, h.steps);
        digest = after;
        told = told;
      };
      pushed = journal_e;
    }
