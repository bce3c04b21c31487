-- The lines of transactions that are lost, and of a digest that is not that of its tree.
use Rattle.std.proofs.Common.{◌≡◌, ℕ, ℤ, List, ◌∷◌, [], Option, Result, Ok, Err, OnOk, refl, subst, codes}
use Rattle.json.specs.Json.{Json, string}
use Rattle.zk_json.specs.Json.{AppendsLineOf, id_of, object_of}
use Rattle.zk_json.specs.Times.{IsTimeText}
use Rattle.zk_json_commands.specs.Verifications.{AppendsMark, AppendsRecord, IsTimeOf, gap_fields, lost_fields, path_or_null, place_fields, record_fields, zxid_of}
use Rattle.zk_path.specs.declared.memory.NoMemory.{NoMemory}
use Rattle.zk_verification.specs.declared.mark.Damage.{Damage}
use Rattle.zk_verification.specs.declared.mark.Facts.{Facts}
use Rattle.zk_verification.specs.declared.mark.Mark.TheVariants as marks
use Rattle.zk_verification.specs.declared.mark.Moment.{Moment}

-- ---- numbers

pub placed : (r : Result (Unit {0}) NoMemory) (name stop : List ℕ) (at to : ℕ) (from before : Json) (next : ℤ) (after : Json) (old new : List ℕ) (at' to' : ℕ) (next' : ℤ)
    → OnOk r (AppendsLineOf (object_of (place_fields name stop at' to' from before next' after)) old new) → at' ≡ at → to' ≡ to → next' ≡ next → OnOk r (AppendsLineOf (object_of (place_fields name stop at to from before next after)) old new)
placed r name stop at to from before next after old new at' to' next' h a b c =
    subst (λ (n : ℕ). OnOk r (AppendsLineOf (object_of (place_fields name stop n to from before next after)) old new)) a
    (subst (λ (n : ℕ). OnOk r (AppendsLineOf (object_of (place_fields name stop at' n from before next after)) old new)) b
    (subst (λ (z : ℤ). OnOk r (AppendsLineOf (object_of (place_fields name stop at' to' from before z after)) old new)) c h))

pub recorded : (r : Result (Unit {0}) NoMemory) (zxid : ℤ) (time session path : Json) (old new : List ℕ) (zxid' : ℤ)
    → OnOk r (AppendsLineOf (object_of (record_fields zxid' time session path)) old new) → zxid' ≡ zxid → OnOk r (AppendsLineOf (object_of (record_fields zxid time session path)) old new)
recorded r zxid time session path old new zxid' h a = subst (λ (z : ℤ). OnOk r (AppendsLineOf (object_of (record_fields z time session path)) old new)) a h

pub missed : (r : Result (Unit {0}) NoMemory) (before : Option Moment) (time : Json) (after : Moment) (next : Json) (old new : List ℕ) (before' : Json) (after' : ℤ)
    → OnOk r (AppendsLineOf (object_of ((codes "fault", string (codes "D3")) ∷ (codes "before", before') ∷ (codes "beforeTime", time) ∷ (codes "after", id_of after') ∷ (codes "afterTime", next) ∷ [])) old new)
    → before' ≡ zxid_of before → after' ≡ after.zxid → OnOk r (AppendsLineOf (object_of (gap_fields before time after next)) old new)
missed r before time after next old new before' after' h a b =
    subst (λ (j : Json). OnOk r (AppendsLineOf (object_of ((codes "fault", string (codes "D3")) ∷ (codes "before", j) ∷ (codes "beforeTime", time) ∷ (codes "after", id_of after.zxid) ∷ (codes "afterTime", next) ∷ [])) old new)) a
    (subst (λ (z : ℤ). OnOk r (AppendsLineOf (object_of ((codes "fault", string (codes "D3")) ∷ (codes "before", before') ∷ (codes "beforeTime", time) ∷ (codes "after", id_of z) ∷ (codes "afterTime", next) ∷ [])) old new)) b h)

-- ---- times

pub gap_told : (r : Result (Unit {0}) NoMemory) (before : Option Moment) (after : Moment) (at : ℤ) (time time' : Json) (next next' old new : List ℕ)
    → IsTimeOf before time → time' ≡ time → IsTimeText at next → next' ≡ next → OnOk r (AppendsLineOf (object_of (gap_fields before time' after (string next'))) old new) → at ≡ after.time → OnOk r (AppendsMark (marks.Gap before after) old new)
gap_told (Ok done) before after at time time' next next' old new t a n b h e =
    let moved = subst (λ (j : Json). AppendsLineOf (object_of (gap_fields before j after (string next))) old new) a (subst (λ (l : List ℕ). AppendsLineOf (object_of (gap_fields before time' after (string l))) old new) b h) in
    (moved.0, (time, string next, t, (next, subst (λ (z : ℤ). IsTimeText z next) e n, refl), moved.1), moved.2)
gap_told (Err failed) before after at time time' next next' old new t a n b h e = tt

pub lost_told : (r : Result (Unit {0}) NoMemory) (damage : Damage) (at : ℤ) (time time' : Json) (next next' old new : List ℕ)
    → IsTimeOf damage.before time → time' ≡ time → IsTimeText at next → next' ≡ next → OnOk r (AppendsLineOf (object_of (lost_fields damage time' (string next'))) old new) → at ≡ damage.after.time → OnOk r (AppendsMark (marks.Lost damage) old new)
lost_told (Ok done) damage at time time' next next' old new t a n b h e =
    let moved = subst (λ (j : Json). AppendsLineOf (object_of (lost_fields damage j (string next))) old new) a (subst (λ (l : List ℕ). AppendsLineOf (object_of (lost_fields damage time' (string l))) old new) b h) in
    (moved.0, (time, string next, t, (next, subst (λ (z : ℤ). IsTimeText z next) e n, refl), moved.1), moved.2)
lost_told (Err failed) damage at time time' next next' old new t a n b h e = tt

pub facts_told : (r : Result (Unit {0}) NoMemory) (zxid : ℤ) (facts : Facts) (old new : List ℕ) (zxid' at session' : ℤ) (time time' : List ℕ) (path' : Json)
    → IsTimeText at time → time' ≡ time → OnOk r (AppendsLineOf (object_of (record_fields zxid' (string time') (id_of session') path')) old new)
    → zxid' ≡ zxid → at ≡ facts.time → session' ≡ facts.session → path' ≡ path_or_null facts.path → OnOk r (AppendsRecord zxid facts old new)
facts_told (Ok done) zxid facts old new zxid' at session' time time' path' t b h z a s p =
    let one = subst (λ (l : List ℕ). AppendsLineOf (object_of (record_fields zxid' (string l) (id_of session') path')) old new) b h in
    let two = subst (λ (i : ℤ). AppendsLineOf (object_of (record_fields i (string time) (id_of session') path')) old new) z one in
    let three = subst (λ (i : ℤ). AppendsLineOf (object_of (record_fields zxid (string time) (id_of i) path')) old new) s two in
    let four = subst (λ (j : Json). AppendsLineOf (object_of (record_fields zxid (string time) (id_of facts.session) j)) old new) p three in
    (four.0, (time, subst (λ (i : ℤ). IsTimeText i time) a t, four.1), four.2)
facts_told (Err failed) zxid facts old new zxid' at session' time time' path' t b h z a s p = tt
