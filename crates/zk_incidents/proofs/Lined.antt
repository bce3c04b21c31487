-- The line of a record.
use Rattle.std.proofs.Common.{◌≡◌, ◌==◌, ℕ, ℤ, Bool, false, List, [], ◌∷◌, ◌++◌, length, map, ap, ◌∙◌, append_assoc, refl}
use Rattle.std.specs.Borrow.{Bor}
use Rattle.zk_json.specs.Times.{AppendsTime}
use Rattle.zk_newer_records.specs.declared.newer_record.Encoding.{Encoding}
use Rattle.zk_newer_records.specs.declared.newer_record.NewerRecord.{NewerRecord}
use Rattle.zk_table.specs.declared.txn.Txn.{Txn}
use Rattle.zk_format.specs.Spelling.{id_digits}
use Rattle.zk_incidents.specs.Histories.{AppendsLineBy, entry_text, expiry_of, head_text, op_word}

pub lined : (below : Bool) (paths : List (Bor (List ℕ))) (newer : NewerRecord) (old middle new : List ℕ) → (length paths == 0) ≡ false → AppendsTime old newer.txn.time middle → new ≡ middle ++ entry_text below (map (λ (path : Bor (List ℕ)). path.now) paths) newer → AppendsLineBy below (map (λ (path : Bor (List ℕ)). path.now) paths) newer old new
lined below [] newer old middle new some time entry = cc
lined below (path ∷ paths) newer old middle new some time entry =
    let text = entry_text below (map (λ (p : Bor (List ℕ)). p.now) (path ∷ paths)) newer in
    (time.0 ++ text, (time.0, time.1, refl), entry ∙ ap (λ l. l ++ text) time.2 ∙ append_assoc old time.0 text)

four_appended : (old one two three four a b c d : List ℕ) → one ≡ old ++ a → two ≡ one ++ b → three ≡ two ++ c → four ≡ three ++ d → four ≡ old ++ (((a ++ b) ++ c) ++ d)
four_appended old one two three four a b c d e f g h =
    h
    ∙ ap (λ t. t ++ d) (g ∙ ap (λ t. t ++ c) (f ∙ ap (λ t. t ++ b) e ∙ append_assoc old a b) ∙ append_assoc old (a ++ b) c)
    ∙ append_assoc old ((a ++ b) ++ c) d

pub headed : (txn : Txn) (form : Encoding) (old one two three four : List ℕ) (zxid session cxid : ℤ) → zxid ≡ txn.zxid → session ≡ txn.session → cxid ≡ txn.cxid
    → one ≡ old ++ 32 ∷ id_digits zxid → two ≡ one ++ 32 ∷ op_word txn.op form → three ≡ two ++ 32 ∷ id_digits session → four ≡ three ++ expiry_of cxid txn.op → four ≡ old ++ head_text txn form
headed txn form old one two three four zxid session cxid a b c e f g h =
    four_appended old one two three four (32 ∷ id_digits txn.zxid) (32 ∷ op_word txn.op form) (32 ∷ id_digits txn.session) (expiry_of txn.cxid txn.op)
    (e ∙ ap (λ (n : ℤ). old ++ 32 ∷ id_digits n) a) f (g ∙ ap (λ (n : ℤ). two ++ 32 ∷ id_digits n) b) (h ∙ ap (λ (n : ℤ). three ++ expiry_of n txn.op) c)
