-- The lines of sessions and of records, part by part.
use Rattle.std.proofs.Common.{◌≡◌, ℕ, ℤ, Bool, List, [], ◌∷◌, ◌++◌, Result, OnOk, ap, ◌∙◌, subst}
use Rattle.std.proofs.lemmas.Result.{on_ok_weaker}
use Rattle.zk_format.specs.Spelling.{id_digits}
use Rattle.zk_json.specs.Times.{AppendsTime, IsTimeText}
use Rattle.zk_path.specs.declared.memory.NoMemory.{NoMemory}
use Rattle.zk_session_lines.proofs.Appended.{fixed, joined}
use Rattle.zk_session_lines.specs.Appending.{Appends, Is, Then}
use Rattle.zk_session_lines.specs.RecordLines.{IsRecordLine, rest_text}
use Rattle.zk_session_lines.specs.Rows.{IsEnding, IsFacts, IsMoment, IsOpening, IsRow, IsSpacedTime, counts_text, timeout_text}
use Rattle.zk_sessions.specs.declared.moment.Moment.{Moment}
use Rattle.zk_sessions.specs.declared.session.Session.{Session}
use Rattle.zk_table.specs.declared.txn.Txn.{Txn}

abbrev Done : Type 0
Done = Result (Unit {0}) NoMemory

pub fixed_ok : (r : Done) (words old new : List ℕ) → OnOk r (new ≡ old ++ words) → OnOk r (Appends (Is words) old new)
fixed_ok r words old new h = on_ok_weaker r (λ e. fixed old new words e) h

pub time_spaced : (r : Done) (time : ℤ) (old middle new : List ℕ) → middle ≡ old ++ 32 ∷ [] → OnOk r (AppendsTime middle time new) → OnOk r (Appends (IsSpacedTime time) old new)
time_spaced r time old middle new e h = on_ok_weaker r (λ t. joined (Is (32 ∷ [])) (IsTimeText time) old middle new (fixed old middle (32 ∷ []) e) t) h

moment_shown : (r : Done) (moment : Moment) (old middle new : List ℕ) → Appends (IsSpacedTime moment.time) old middle → OnOk r (new ≡ middle ++ 32 ∷ id_digits moment.zxid) → OnOk r (Appends (IsMoment moment) old new)
moment_shown r moment old middle new t h = on_ok_weaker r (λ e. joined (IsSpacedTime moment.time) (Is (32 ∷ id_digits moment.zxid)) old middle new t (fixed middle new (32 ∷ id_digits moment.zxid) e)) h

pub moment_from : (r : Done) (moment : Moment) (old middle new : List ℕ) (time zxid : ℤ) → time ≡ moment.time → zxid ≡ moment.zxid → Appends (IsSpacedTime time) old middle → OnOk r (new ≡ middle ++ 32 ∷ id_digits zxid) → OnOk r (Appends (IsMoment moment) old new)
moment_from r moment old middle new time zxid of_time of_zxid t h =
    moment_shown r moment old middle new (subst (λ (n : ℤ). Appends (IsSpacedTime n) old middle) of_time t) (subst (λ (n : ℤ). OnOk r (new ≡ middle ++ 32 ∷ id_digits n)) of_zxid h)

pub worded : (r : Done) (words : List ℕ) (moment : Moment) (old middle new : List ℕ) → middle ≡ old ++ words → OnOk r (Appends (IsMoment moment) middle new) → OnOk r (Appends (Then (Is words) (IsMoment moment)) old new)
worded r words moment old middle new e h = on_ok_weaker r (λ m. joined (Is words) (IsMoment moment) old middle new (fixed old middle words e) m) h

pub facts_shown : (r : Done) (life : Session) (old one two three new : List ℕ) → Appends (IsOpening life.opened) old one → two ≡ one ++ timeout_text life.timeout → three ≡ two ++ counts_text life → OnOk r (Appends (IsEnding life.ended) three new) → OnOk r (Appends (IsFacts life) old new)
facts_shown r life old one two three new a b c h =
    on_ok_weaker r (λ d. joined (IsOpening life.opened) (Then (Is (timeout_text life.timeout)) (Then (Is (counts_text life)) (IsEnding life.ended))) old one new a
    (joined (Is (timeout_text life.timeout)) (Then (Is (counts_text life)) (IsEnding life.ended)) one two new (fixed one two (timeout_text life.timeout) b)
    (joined (Is (counts_text life)) (IsEnding life.ended) two three new (fixed two three (counts_text life) c) d))) h

pub row_shown : (r : Done) (session : ℤ) (life : Session) (old one two new : List ℕ) → one ≡ old ++ id_digits session → Appends (IsFacts life) one two → OnOk r (new ≡ two ++ 10 ∷ []) → OnOk r (Appends (IsRow (session, life)) old new)
row_shown r session life old one two new a b h =
    on_ok_weaker r (λ c. joined (Is (id_digits session)) (Then (IsFacts life) (Is (10 ∷ []))) old one new (fixed old one (id_digits session) a)
    (joined (IsFacts life) (Is (10 ∷ [])) one two new b (fixed two new (10 ∷ []) c))) h

record_shown : (r : Done) (paths : List (List ℕ)) (kind : List ℕ) (expired : Bool) (txn : Txn) (old one two three four new : List ℕ) → AppendsTime old txn.time one → two ≡ one ++ 32 ∷ id_digits txn.zxid → three ≡ two ++ 32 ∷ kind → four ≡ three ++ 32 ∷ id_digits txn.session
    → OnOk r (new ≡ four ++ rest_text expired paths) → OnOk r (Appends (IsRecordLine paths kind expired txn) old new)
record_shown r paths kind expired txn old one two three four new a b c d h =
    let Time : List ℕ → Type 0 = IsTimeText txn.time in
    let Zxid : List ℕ → Type 0 = Is (32 ∷ id_digits txn.zxid) in
    let Word : List ℕ → Type 0 = Is (32 ∷ kind) in
    let Session : List ℕ → Type 0 = Is (32 ∷ id_digits txn.session) in
    let Rest : List ℕ → Type 0 = Is (rest_text expired paths) in
    on_ok_weaker r (λ e. joined Time (Then Zxid (Then Word (Then Session Rest))) old one new a
    (joined Zxid (Then Word (Then Session Rest)) one two new (fixed one two (32 ∷ id_digits txn.zxid) b)
    (joined Word (Then Session Rest) two three new (fixed two three (32 ∷ kind) c)
    (joined Session Rest three four new (fixed three four (32 ∷ id_digits txn.session) d) (fixed four new (rest_text expired paths) e))))) h

pub record_from : (r : Done) (paths : List (List ℕ)) (kind : List ℕ) (expired : Bool) (txn : Txn) (old one two three four new : List ℕ) (time zxid session : ℤ) → time ≡ txn.time → zxid ≡ txn.zxid → session ≡ txn.session
    → AppendsTime old time one → two ≡ one ++ 32 ∷ id_digits zxid → three ≡ two ++ 32 ∷ kind → four ≡ three ++ 32 ∷ id_digits session → OnOk r (new ≡ four ++ rest_text expired paths) → OnOk r (Appends (IsRecordLine paths kind expired txn) old new)
record_from r paths kind expired txn old one two three four new time zxid session of_time of_zxid of_session a b c d h =
    record_shown r paths kind expired txn old one two three four new
    (subst (λ (t : ℤ). AppendsTime old t one) of_time a)
    (b ∙ ap (λ (z : ℤ). one ++ 32 ∷ id_digits z) of_zxid)
    c
    (d ∙ ap (λ (s : ℤ). three ++ 32 ∷ id_digits s) of_session)
    h
