-- The lines of sessions, and their objects.
use Rattle.std.proofs.Common.{◌≡◌, ℕ, ℤ, List, [], ◌∷◌, ◌++◌, Option, Result, OnOk, sym, ap, ◌∙◌, subst}
use Rattle.std.specs.Prelude.{codes, decimal}
use Rattle.json.specs.Json as json
use Rattle.std.proofs.lemmas.Result.{on_ok_weaker}
use Rattle.zk_json.specs.Json.{AppendsLineOf, Fields, id_of, object_of}
use Rattle.zk_json.specs.Times.{AppendsTime, IsTimeText}
use Rattle.zk_path.specs.declared.memory.NoMemory.{NoMemory}
use Rattle.zk_session_lines.specs.Appending.{Appends, Each}
use Rattle.zk_sessions.specs.Lives.{LifeTable}
use Rattle.zk_session_lines.specs.RowObjects.{IsRowObject, IsTimeOf, IsTimeoutText, end_moment, end_name, row_fields, time_of, timeout_of, zxid_of}
use Rattle.zk_session_lines.specs.Rows.{AreRows, IsFormedRow, IsRow}
use Rattle.zk_session_lines.specs.declared.line_form.LineForm.{LineForm}
use Rattle.zk_session_lines.specs.declared.line_form.LineForm.TheVariants.{Text, Json}
use Rattle.zk_sessions.specs.declared.moment.Moment.{Moment}
use Rattle.zk_sessions.specs.declared.session.Session.{Session}

abbrev Done : Type 0
Done = Result (Unit {0}) NoMemory

-- ---- objects

pub clock : (time : ℤ) (old new : List ℕ) → old ≡ [] → AppendsTime old time new → IsTimeText time new
clock time old new empty h = subst (IsTimeText time) (sym (h.2 ∙ ap (λ t. t ++ h.0) empty)) h.1

pub object_shown : (r : Done) (session : ℤ) (life : Session) (end : Option Moment) (opened timeout ended : List ℕ) (id : ℤ) (o t e old new : List ℕ) → end ≡ end_moment life.ended → IsTimeOf life.opened opened → IsTimeoutText life.timeout timeout → IsTimeOf end ended
    → OnOk r (AppendsLineOf (object_of (row_fields id life o t e)) old new) → id ≡ session → o ≡ opened → t ≡ timeout → e ≡ ended → OnOk r (Appends (IsRowObject (session, life)) old new)
object_shown r session life end opened timeout ended id o t e old new of_end a b c h i p q s =
    let shown = subst (λ (x : List ℕ). OnOk r (AppendsLineOf (object_of (row_fields session life opened timeout x)) old new)) s
    (subst (λ (x : List ℕ). OnOk r (AppendsLineOf (object_of (row_fields session life opened x e)) old new)) q
    (subst (λ (x : List ℕ). OnOk r (AppendsLineOf (object_of (row_fields session life x t e)) old new)) p
    (subst (λ (n : ℤ). OnOk r (AppendsLineOf (object_of (row_fields n life o t e)) old new)) i h))) in
    let time = subst (λ (m : Option Moment). IsTimeOf m ended) of_end c in
    on_ok_weaker r (λ l. (l.0, (opened, timeout, ended, a, b, time, l.1), l.2)) shown

-- the fields of an object
abbrev fields_of : ℤ → json.Json → json.Json → json.Json → ℕ → ℕ → ℕ → ℕ → List ℕ → json.Json → json.Json → Fields
fields_of id zxid time timeout writes created deleted left name end_zxid end_time =
    (codes "session", id_of id)
    ∷ (codes "openedZxid", zxid)
    ∷ (codes "openedTime", time)
    ∷ (codes "timeout", timeout)
    ∷ (codes "writes", json.number (decimal writes))
    ∷ (codes "created", json.number (decimal created))
    ∷ (codes "deleted", json.number (decimal deleted))
    ∷ (codes "left", json.number (decimal left))
    ∷ (codes "end", json.string name)
    ∷ (codes "endZxid", end_zxid)
    ∷ (codes "endTime", end_time)
    ∷ []

same_fields : (session : ℤ) (life : Session) (opened timeout ended : List ℕ) (id : ℤ) (zxid time lease : json.Json) (writes created deleted left : ℕ) (name : List ℕ) (end_zxid end_time : json.Json) → id ≡ session → zxid ≡ zxid_of life.opened → time ≡ time_of life.opened opened → lease ≡ timeout_of life.timeout timeout
    → writes ≡ life.writes → created ≡ life.created → deleted ≡ life.deleted → left ≡ life.left → name ≡ end_name life.ended → end_zxid ≡ zxid_of (end_moment life.ended) → end_time ≡ time_of (end_moment life.ended) ended
    → fields_of id zxid time lease writes created deleted left name end_zxid end_time ≡ row_fields session life opened timeout ended
same_fields session life opened timeout ended id zxid time lease writes created deleted left name end_zxid end_time a b c d e f g h i j k = cc

pub object_from : (r : Done) (session : ℤ) (life : Session) (opened timeout ended old new : List ℕ) (id : ℤ) (zxid time lease : json.Json) (writes created deleted left : ℕ) (name : List ℕ) (end_zxid end_time : json.Json)
    → OnOk r (AppendsLineOf (object_of (fields_of id zxid time lease writes created deleted left name end_zxid end_time)) old new) → id ≡ session → zxid ≡ zxid_of life.opened → time ≡ time_of life.opened opened → lease ≡ timeout_of life.timeout timeout
    → writes ≡ life.writes → created ≡ life.created → deleted ≡ life.deleted → left ≡ life.left → name ≡ end_name life.ended → end_zxid ≡ zxid_of (end_moment life.ended) → end_time ≡ time_of (end_moment life.ended) ended
    → OnOk r (AppendsLineOf (object_of (row_fields session life opened timeout ended)) old new)
object_from r session life opened timeout ended old new id zxid time lease writes created deleted left name end_zxid end_time shown a b c d e f g h i j k =
    subst (λ (fields : Fields). OnOk r (AppendsLineOf (object_of fields) old new)) (same_fields session life opened timeout ended id zxid time lease writes created deleted left name end_zxid end_time a b c d e f g h i j k) shown

-- ---- rows

pub rows_whole : (form : LineForm) (lives entries : LifeTable) (old new : List ℕ) → entries ≡ lives → old ≡ [] → Appends (Each (IsFormedRow form) entries) old new → AreRows form lives new
rows_whole form lives entries old new same empty h =
    subst (λ (l : LifeTable). AreRows form l new) same (subst (Each (IsFormedRow form) entries) (sym (h.2 ∙ ap (λ t. t ++ h.0) empty)) h.1)

pub formed_text : (r : Done) (form : LineForm) (session : ℤ) (life : Session) (s : ℤ) (old new : List ℕ) → form ≡ Text → OnOk r (Appends (IsRow (s, life)) old new) → s ≡ session → OnOk r (Appends (IsFormedRow form (session, life)) old new)
formed_text r form session life s old new is h e =
    subst (λ (f : LineForm). OnOk r (Appends (IsFormedRow f (session, life)) old new)) (sym is) (subst (λ (n : ℤ). OnOk r (Appends (IsRow (n, life)) old new)) e h)

pub formed_object : (r : Done) (form : LineForm) (session : ℤ) (life : Session) (s : ℤ) (old new : List ℕ) → form ≡ Json → OnOk r (Appends (IsRowObject (s, life)) old new) → s ≡ session → OnOk r (Appends (IsFormedRow form (session, life)) old new)
formed_object r form session life s old new is h e =
    subst (λ (f : LineForm). OnOk r (Appends (IsFormedRow f (session, life)) old new)) (sym is) (subst (λ (n : ℤ). OnOk r (Appends (IsRowObject (n, life)) old new)) e h)

pub as_entry : (r : Done) (form : LineForm) (entry : ℤ × Session) (session : ℤ) (life : Session) (old new : List ℕ) → OnOk r (Appends (IsFormedRow form (session, life)) old new) → session ≡ entry.0 → life ≡ entry.1 → OnOk r (Appends (IsFormedRow form entry) old new)
as_entry r form entry session life old new h s l =
    subst (λ (x : Session). OnOk r (Appends (IsFormedRow form (entry.0, x)) old new)) l (subst (λ (n : ℤ). OnOk r (Appends (IsFormedRow form (n, life)) old new)) s h)
