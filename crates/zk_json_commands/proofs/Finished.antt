-- The texts of folds after all records.
use Rattle.std.proofs.Common.{◌≡◌, ◌==◌, ℕ, ℤ, suc, arith, Bool, true, false, List, [], ◌∷◌, ◌++◌, length, map, refl, sym, ap, ◌∙◌, subst, append_assoc, append-nil}
use Rattle.std.proofs.lemmas.Bool.{eqb-true}
use Rattle.std.specs.Borrow.{Bor}
use Rattle.std.specs.String.{string_bytes}
use Rattle.zk_incidents.specs.Histories.{is_expiry, op_word}
use Rattle.zk_incidents.specs.Owners.{Owned}
use Rattle.zk_json.specs.Incidents.{AppendsHistoryLine}
use Rattle.zk_incidents.specs.declared.scope.Scope.{Scope}
use Rattle.zk_newer_records.specs.declared.newer_record.NewerRecord.{NewerRecord}
use Rattle.zk_newer_records.specs.Folds.{AllFollow}
use Rattle.zk_json_commands.specs.Histories.{AppendsLineBy, AppendsRecordHistory, Follows, IsHistoryFrom}
use Rattle.zk_json_commands.specs.declared.history_lines.HistoryLines.{HistoryLines}

abbrev texts_of : List (Bor (List ℕ)) → List (List ℕ)
texts_of paths = map (λ (path : Bor (List ℕ)). path.now) paths

-- ---- a history

abbrev pub IsToldFrom : Scope → Owned → List NewerRecord → List ℕ → Type 0
IsToldFrom scope owned records text = IsHistoryFrom (string_bytes scope.root) scope.below owned records text

told_from : (start new : HistoryLines) (records : List NewerRecord) → AllFollow Follows start records new → (text : List ℕ) × IsToldFrom start.scope start.owners records text × (string_bytes new.text ≡ string_bytes start.text ++ text)
told_from start new [] e = ([], refl, ap (λ (h : HistoryLines). string_bytes h.text) e ∙ sym (append-nil (string_bytes start.text)))
told_from start new (newer ∷ records) f =
    let next = f.0 in
    let more = told_from next new records f.2 in
    let line = f.1.line in
    let rest = subst (λ (scope : Scope). IsToldFrom scope next.owners records more.0) f.1.scope more.1 in
    (line.0 ++ more.0, (line.0, more.0, line.1, subst (λ (owned : Owned). IsToldFrom start.scope owned records more.0) f.1.owners rest, refl), more.2 ∙ ap (λ l. l ++ more.0) line.2 ∙ append_assoc (string_bytes start.text) line.0 more.0)

pub history_told : (root : List ℕ) (owned : Owned) (start new : HistoryLines) (records : List NewerRecord) → string_bytes start.scope.root ≡ root → start.owners ≡ owned → string_bytes start.text ≡ [] → AllFollow Follows start records new
    → IsHistoryFrom root start.scope.below owned records (string_bytes new.text)
history_told root owned start new records of from empty f =
    let told = told_from start new records f in
    let text = told.2 ∙ ap (λ l. l ++ told.0) empty in
    subst (λ (l : List ℕ). IsHistoryFrom l start.scope.below owned records (string_bytes new.text)) of
    (subst (λ (o : Owned). IsToldFrom start.scope o records (string_bytes new.text)) from (subst (λ (l : List ℕ). IsToldFrom start.scope start.owners records l) (sym text) told.1))

-- ---- the line of a history

pub no_line : (paths : List (Bor (List ℕ))) (newer : NewerRecord) (old new : List ℕ) → (length paths == 0) ≡ true → new ≡ old → AppendsLineBy (texts_of paths) newer old new
no_line [] newer old new none is = ([], refl, is ∙ sym (append-nil old))
no_line (path ∷ paths) newer old new none is = absurd (let bad : suc (length paths) ≡ 0 = eqb-true (suc (length paths)) 0 none in omega arith)

pub one_line : (paths : List (Bor (List ℕ))) (newer : NewerRecord) (old new : List ℕ) → (length paths == 0) ≡ false → AppendsRecordHistory (texts_of paths) newer old new → AppendsLineBy (texts_of paths) newer old new
one_line [] newer old new some h = absurd (let bad : true ≡ false = some in cc)
one_line (path ∷ paths) newer old new some h = h

-- the line of a record, by its word and whether it closes an expired session
pub as_record : (paths : List (List ℕ)) (newer : NewerRecord) (kind : List ℕ) (expired : Bool) (cxid : ℤ) (old new : List ℕ) → kind ≡ op_word newer.txn.op newer.form → cxid ≡ newer.txn.cxid → expired ≡ is_expiry cxid newer.txn.op → AppendsHistoryLine paths kind expired newer.txn old new
    → AppendsRecordHistory paths newer old new
as_record paths newer kind expired cxid old new k c e h =
    subst (λ (word : List ℕ). AppendsHistoryLine paths word (is_expiry newer.txn.cxid newer.txn.op) newer.txn old new) k
    (subst (λ (b : Bool). AppendsHistoryLine paths kind b newer.txn old new) (e ∙ ap (λ (z : ℤ). is_expiry z newer.txn.op) c) h)
