-- The tokens of objects and arrays.
use Rattle.std.proofs.Common.{◌≡◌, ℕ, ℤ, Bool, true, false, List, [], ◌∷◌, ◌++◌, Option, Some, Result, Ok, Err, OnOk, map, refl, sym, ap, ◌∙◌, subst, append_assoc, append-nil}
use Rattle.std.specs.List.{flat_map}
use Rattle.std.specs.Prelude.{codes}
use Rattle.std.specs.Str.{IsUtf8, is_utf8}
use Rattle.std.proofs.lemmas.Str.{IsUtf8-from_is_utf8, is_utf8-from_IsUtf8}
use Rattle.json.specs.Json.{Json, null, string}
use Rattle.json.specs.Token.{Token, begin_array, begin_object, end_array, end_object, key}
use Rattle.json.specs.Tree.{json_tokens, items_tokens, members_tokens}
use Rattle.zk_acl.specs.declared.stat.Stat.{Stat}
use Rattle.zk_path.specs.declared.memory.NoMemory.{NoMemory}
use Rattle.zk_json.specs.Times.{AppendsTime, IsTimeText}
use Rattle.zk_table.specs.declared.node.Node.{Node}
use Rattle.zk_json.specs.Changes.{AppendsChange, AppendsLast, AppendsSide, change_of, fields_of_change, last_of}
use Rattle.zk_json.specs.declared.changes.LastChange.{LastChange}
use Rattle.zk_json.specs.Json.{Fields, array_of, fields_tokens, items_of, members_of, object_of, text_by}

-- ---- objects

members_tokens-of : (fields : Fields) → members_tokens (members_of fields) ≡ fields_tokens fields ++ end_object ∷ []
members_tokens-of [] = refl
members_tokens-of (field ∷ fields) = ap (λ (l : List Token). key field.0 ∷ json_tokens field.1 ++ l) (members_tokens-of fields) ∙ ap (λ (l : List Token). key field.0 ∷ l) (sym (append_assoc (json_tokens field.1) (fields_tokens fields) (end_object ∷ [])))

pub object_tokens : (fields : Fields) → json_tokens (object_of fields) ≡ begin_object ∷ (fields_tokens fields ++ end_object ∷ [])
object_tokens fields = ap (λ (l : List Token). begin_object ∷ l) (members_tokens-of fields)

pub fields_tokens-append : (front rest : Fields) → fields_tokens (front ++ rest) ≡ fields_tokens front ++ fields_tokens rest
fields_tokens-append [] rest = refl
fields_tokens-append (field ∷ front) rest = ap (λ (l : List Token). key field.0 ∷ json_tokens field.1 ++ l) (fields_tokens-append front rest) ∙ ap (λ (l : List Token). key field.0 ∷ l) (sym (append_assoc (json_tokens field.1) (fields_tokens front) (fields_tokens rest)))

-- ---- arrays

items_tokens-of : {A : Type 0} → (of : A → Json) (xs : List A) → items_tokens (items_of (map of xs)) ≡ flat_map (λ x. json_tokens (of x)) xs ++ end_array ∷ []
items_tokens-of of [] = refl
items_tokens-of of (x ∷ xs) = ap (λ (l : List Token). json_tokens (of x) ++ l) (items_tokens-of of xs) ∙ sym (append_assoc (json_tokens (of x)) (flat_map (λ y. json_tokens (of y)) xs) (end_array ∷ []))

pub array_tokens : {A : Type 0} → (of : A → Json) (xs : List A) → json_tokens (array_of (map of xs)) ≡ begin_array ∷ (flat_map (λ x. json_tokens (of x)) xs ++ end_array ∷ [])
array_tokens of xs = ap (λ (l : List Token). begin_array ∷ l) (items_tokens-of of xs)

-- ---- texts

pub utf8_text : (bytes : List ℕ) → IsUtf8 bytes → text_by bytes ≡ string bytes
utf8_text bytes h = rw (is_utf8-from_IsUtf8 bytes h) refl

text_for : (bytes : List ℕ) (b : Bool) → is_utf8 bytes ≡ b → ¬ (IsUtf8 bytes) → text_by bytes ≡ null
text_for bytes true e h = absurd (h (IsUtf8-from_is_utf8 bytes e))
text_for bytes false e h = rw e refl

pub no_text : (bytes : List ℕ) → ¬ (IsUtf8 bytes) → text_by bytes ≡ null
no_text bytes h = text_for bytes (is_utf8 bytes) refl h

-- ---- tokens that are appended one after another

then : (old one two a b : List Token) → one ≡ old ++ a → two ≡ one ++ b → two ≡ old ++ (a ++ b)
then old one two a b e f = f ∙ ap (λ (l : List Token). l ++ b) e ∙ append_assoc old a b

pub add : (old one two : List Token) (front rest : Fields) → one ≡ old ++ fields_tokens front → two ≡ one ++ fields_tokens rest → two ≡ old ++ fields_tokens (front ++ rest)
add old one two front rest e f = then old one two (fields_tokens front) (fields_tokens rest) e f ∙ ap (λ (l : List Token). old ++ l) (sym (fields_tokens-append front rest))

pub added : (r : Result (Unit {0}) NoMemory) (old one new : List Token) (front rest : Fields) → one ≡ old ++ fields_tokens front → OnOk r (new ≡ one ++ fields_tokens rest) → OnOk r (new ≡ old ++ fields_tokens (front ++ rest))
added (Ok done) old one new front rest e f = add old one new front rest e f
added (Err refused) old one new front rest e f = tt

-- an object, from brace to brace
pub wrapped : (r : Result (Unit {0}) NoMemory) (old one two new : List Token) (fields : Fields) → one ≡ old ++ begin_object ∷ [] → two ≡ one ++ fields_tokens fields → OnOk r (new ≡ two ++ end_object ∷ []) → OnOk r (new ≡ old ++ json_tokens (object_of fields))
wrapped (Ok done) old one two new fields e f g = then old two new (begin_object ∷ fields_tokens fields) (end_object ∷ []) (then old one two (begin_object ∷ []) (fields_tokens fields) e f) g ∙ ap (λ (l : List Token). old ++ l) (sym (object_tokens fields))
wrapped (Err refused) old one two new fields e f g = tt

-- a field whose value is an array
pub array_added : {A : Type 0} → (of : A → Json) (r : Result (Unit {0}) NoMemory) (old one two three new : List Token) (name : List ℕ) (xs : List A)
    → one ≡ old ++ key name ∷ [] → two ≡ one ++ begin_array ∷ [] → three ≡ two ++ flat_map (λ x. json_tokens (of x)) xs → OnOk r (new ≡ three ++ end_array ∷ []) → OnOk r (new ≡ old ++ fields_tokens ((name, array_of (map of xs)) ∷ []))
array_added of (Ok done) old one two three new name xs e f g h =
    let items = flat_map (λ x. json_tokens (of x)) xs in
    then old three new (key name ∷ begin_array ∷ items) (end_array ∷ []) (then old two three (key name ∷ begin_array ∷ []) items (then old one two (key name ∷ []) (begin_array ∷ []) e f) g) h
    ∙ ap (λ (l : List Token). old ++ key name ∷ l) (sym (append-nil (json_tokens (array_of (map of xs))) ∙ array_tokens of xs))
array_added of (Err refused) old one two three new name xs e f g h = tt

-- ---- times

pub timed : (time : ℤ) (old new : List ℕ) → old ≡ [] → AppendsTime old time new → IsTimeText time new
timed time old new none h = subst (λ (l : List ℕ). IsTimeText time l) (sym (h.2 ∙ ap (λ l. l ++ h.0) none)) h.1

-- ---- changes

-- a field, by the tokens of its value
field_added : (old one two : List Token) (name : List ℕ) (json : Json) → one ≡ old ++ key name ∷ [] → two ≡ one ++ json_tokens json → two ≡ old ++ fields_tokens ((name, json) ∷ [])
field_added old one two name json e f = then old one two (key name ∷ []) (json_tokens json) e f ∙ ap (λ (l : List Token). old ++ key name ∷ l) (sym (append-nil (json_tokens json)))

pub last_written : (r : Result (Unit {0}) NoMemory) (last : LastChange) (zxid : ℤ) (time : List ℕ) (old new : List Token) → zxid ≡ last.zxid → IsTimeText last.time time → OnOk r (new ≡ old ++ json_tokens (last_of zxid time)) → OnOk r (AppendsLast (Some last) old new)
last_written (Ok done) last zxid time old new is shown e = (last_of zxid time, (time, shown, ap (λ (z : ℤ). last_of z time) is), e)
last_written (Err refused) last zxid time old new is shown e = tt

-- an object of four fields
pub changed_tokens : (r : Result (Unit {0}) NoMemory) (path : List ℕ) (last : Option LastChange) (before after : Option (Node × Stat)) (old brace placed named0 stamped named sided named' sided' new : List Token)
    → brace ≡ old ++ begin_object ∷ [] → placed ≡ brace ++ fields_tokens ((codes "path", string path) ∷ [])
    → named0 ≡ placed ++ key (codes "last") ∷ [] → AppendsLast last named0 stamped
    → named ≡ stamped ++ key (codes "before") ∷ [] → AppendsSide path before named sided
    → named' ≡ sided ++ key (codes "after") ∷ [] → AppendsSide path after named' sided'
    → OnOk r (new ≡ sided' ++ end_object ∷ []) → OnOk r (AppendsChange path last before after old new)
changed_tokens (Ok done) path last before after old brace placed named0 stamped named sided named' sided' new e f g0 h0 g h g' h' i =
    let zero : stamped ≡ placed ++ fields_tokens ((codes "last", h0.0) ∷ []) = field_added placed named0 stamped (codes "last") h0.0 g0 h0.2 in
    let one : sided ≡ stamped ++ fields_tokens ((codes "before", h.0) ∷ []) = field_added stamped named sided (codes "before") h.0 g h.2 in
    let two : sided' ≡ sided ++ fields_tokens ((codes "after", h'.0) ∷ []) = field_added sided named' sided' (codes "after") h'.0 g' h'.2 in
    let start = add brace placed stamped ((codes "path", string path) ∷ []) ((codes "last", h0.0) ∷ []) f zero in
    let front = add brace stamped sided ((codes "path", string path) ∷ (codes "last", h0.0) ∷ []) ((codes "before", h.0) ∷ []) start one in
    let all = add brace sided sided' ((codes "path", string path) ∷ (codes "last", h0.0) ∷ (codes "before", h.0) ∷ []) ((codes "after", h'.0) ∷ []) front two in
    (change_of path h0.0 h.0 h'.0, record { stamp = h0.0; old = h.0; new = h'.0; is_last = h0.1; is_old = h.1; is_new = h'.1; is = refl }, wrapped (Ok done) old brace sided' new (fields_of_change path h0.0 h.0 h'.0) e all i)
changed_tokens (Err refused) path last before after old brace placed named0 stamped named sided named' sided' new e f g0 h0 g h g' h' i = tt
