-- The lines of a session's transactions.
use Rattle.std.proofs.Common.{◌≡◌, ℕ, ℤ, Bool, true, false, List, [], ◌++◌, Option, Result, OnOk, Some, refl, sym, ap, ◌∙◌, subst, append-nil}
use Rattle.zk_incidents.specs.Histories.{is_expiry, op_word}
use Rattle.zk_incidents.specs.Owners.{touched}
use Rattle.zk_newer_records.specs.declared.newer_record.NewerRecord.{NewerRecord}
use Rattle.zk_path.specs.declared.memory.NoMemory.{NoMemory}
use Rattle.zk_session_commands.specs.SessionLives.{IsFormedLine, IsLifeLine, IsLineBy, IsLineIf, IsSessionText, is_of}
use Rattle.zk_session_lines.specs.Appending.{Appends}
use Rattle.zk_session_lines.specs.Rows.{IsFormedRow}
use Rattle.zk_session_lines.specs.declared.line_form.LineForm.{LineForm}
use Rattle.zk_sessions.specs.Ephemerals.{Owned}
use Rattle.zk_sessions.specs.declared.session.Session.{Session}

abbrev Done : Type 0
Done = Result (Unit {0}) NoMemory

pub no_life_line : (form : LineForm) (session : ℤ) (owned : Owned) (newer : NewerRecord) (old : List ℕ) → is_of session newer ≡ false → Appends (IsLifeLine form session owned newer) old old
no_life_line form session owned newer old other =
    subst (λ (b : Bool). Appends (IsLineIf b form (touched owned newer) newer) old old) (sym other) ([], refl, sym (append-nil old))

pub life_line : (r : Done) (form : LineForm) (session : ℤ) (owned : Owned) (newer : NewerRecord) (old new : List ℕ) → is_of session newer ≡ true → OnOk r (Appends (IsFormedLine form (touched owned newer) newer) old new) → OnOk r (Appends (IsLifeLine form session owned newer) old new)
life_line r form session owned newer old new own h = subst (λ (b : Bool). OnOk r (Appends (IsLineIf b form (touched owned newer) newer) old new)) (sym own) h

pub own_line : (r : Done) (form : LineForm) (newer : NewerRecord) (shown paths : List (List ℕ)) (old new : List ℕ) → shown ≡ paths → OnOk r (Appends (IsFormedLine form shown newer) old new) → OnOk r (Appends (IsFormedLine form paths newer) old new)
own_line r form newer shown paths old new same h = subst (λ (ps : List (List ℕ)). OnOk r (Appends (IsFormedLine form ps newer) old new)) same h

pub text_found : (form : LineForm) (session : ℤ) (given : Option Session) (life : Session) (id : ℤ) (lines old middle new : List ℕ) → given ≡ Some life → old ≡ [] → Appends (IsFormedRow form (id, life)) old middle → new ≡ middle ++ lines → id ≡ session → IsSessionText form session given lines new
text_found form session given life id lines old middle new is empty h e same =
    let one = subst (λ (n : ℤ). Appends (IsFormedRow form (n, life)) old middle) same h in
    let row = one.2 ∙ ap (λ t. t ++ one.0) empty in
    subst (λ (o : Option Session). IsSessionText form session o lines new) (sym is) (one.0, lines, one.1, refl, e ∙ ap (λ t. t ++ lines) row)

-- by the word of its operation, and whether it ends an expired session
pub as_record : (r : Done) (form : LineForm) (paths : List (List ℕ)) (newer : NewerRecord) (kind : List ℕ) (expired : Bool) (cxid : ℤ) (old new : List ℕ) → kind ≡ op_word newer.txn.op newer.form → cxid ≡ newer.txn.cxid → expired ≡ is_expiry cxid newer.txn.op
    → OnOk r (Appends (IsLineBy form paths kind expired newer.txn) old new) → OnOk r (Appends (IsFormedLine form paths newer) old new)
as_record r form paths newer kind expired cxid old new of_kind of_cxid of_expired h =
    subst (λ (b : Bool). OnOk r (Appends (IsLineBy form paths (op_word newer.txn.op newer.form) b newer.txn) old new)) (of_expired ∙ ap (λ (n : ℤ). is_expiry n newer.txn.op) of_cxid)
    (subst (λ (k : List ℕ). OnOk r (Appends (IsLineBy form paths k expired newer.txn) old new)) of_kind h)
