-- The objects of lines are read back from their texts: none nests deeper than a reader allows.
use Rattle.std.proofs.Common.{◌≡◌, ◌≤◌, ℕ, ℤ, suc, Bool, true, false, List, [], ◌∷◌, ◌++◌, ◌++◌, Option, Some, None, Result, Ok, Err, OnOk, map, refl, sym, ap, ◌∙◌, subst, append-nil, arith}
use Rattle.std.proofs.Math.Nat.{max-le}
use Rattle.std.specs.Prelude.{codes, decimal, option_and_then}
use Rattle.std.proofs.lemmas.Result.{on_ok_weaker}
use Rattle.std.specs.Borrow.{Bor}
use Rattle.std.specs.Str.{is_utf8}
use Rattle.json.specs.Json.{Json, document, if_last, max_depth, number, string, value}
use Rattle.json.specs.Lex.{tokens}
use Rattle.json.specs.Print.{print}
use Rattle.json.specs.Token.{Token}
use Rattle.json.specs.Tree.{depth, items_depth, json_tokens, members_depth}
use Rattle.json.proofs.Printed.Trees.{value-json_tokens}
use Rattle.zk_acl.specs.declared.acl.Acl.{Acl}
use Rattle.zk_acl.specs.declared.stat.Stat.{Stat}
use Rattle.zk_path.specs.declared.memory.NoMemory.{NoMemory}
use Rattle.zk_table.specs.declared.node.Node.{Node}
use Rattle.zk_table.specs.declared.sub.Sub.{Sub}
use Rattle.zk_table.specs.declared.sub.Sub.TheVariants as subs
use Rattle.zk_table.specs.declared.txn.Op.{Op}
use Rattle.zk_table.specs.declared.txn.Op.TheVariants as ops
use Rattle.zk_table.specs.declared.txn.Txn.{Txn}
use Rattle.zk_json.specs.Changes.{AppendsChange, AppendsChangeLine, IsChange, IsLast, IsSide, change_of, fields_of_change, last_fields, last_of}
use Rattle.zk_json.specs.Incidents.{change_fields, count_of, history_of}
use Rattle.zk_json.specs.Json.{AppendsLineOf, Fields, acl_entry_fields, acl_entry_of, acl_of, data_of, items_of, members_of, object_of, strings_of, text_by, text_of}
use Rattle.zk_json.specs.Nodes.{node_fields, node_of}
use Rattle.zk_json.specs.Objects.{field_of, value_of}
use Rattle.zk_json.specs.declared.changes.LastChange.{LastChange}
use Rattle.zk_json.specs.declared.objects.Value.{Value}
use Rattle.zk_json.specs.declared.objects.Value.TheVariants as values
use Rattle.zk_json.specs.Records.{create_fields, create_old_fields, op_fields, part_fields, part_of, record_fields, record_of, set_acl_fields}

-- ---- depths

abbrev AreShallow : ℕ → Fields → Type 0
AreShallow n [] = Unit {0}
AreShallow n (field ∷ fields) = (depth field.1 ≤ n) × AreShallow n fields

shallow : (n : ℕ) (fields : Fields) → AreShallow n fields → members_depth (members_of fields) ≤ n
shallow n [] h = omega arith
shallow n (field ∷ fields) h = max-le h.0 (shallow n fields h.1)

shallow_object : (n : ℕ) (fields : Fields) → AreShallow n fields → depth (object_of fields) ≤ suc n
shallow_object n fields h = let inner = shallow n fields h in omega arith

shallow_items : {A : Type 0} → (n : ℕ) (of : A → Json) (xs : List A) → ((x : A) → depth (of x) ≤ n) → items_depth (items_of (map of xs)) ≤ n
shallow_items n of [] h = omega arith
shallow_items n of (x ∷ xs) h = max-le (h x) (shallow_items n of xs h)

zero_le : (n : ℕ) → 0 ≤ n
zero_le n = omega arith

text_by_depth : (bytes : List ℕ) (b : Bool) → is_utf8 bytes ≡ b → depth (text_by bytes) ≤ 4
text_by_depth bytes true e = rw e (zero_le 4)
text_by_depth bytes false e = rw e (zero_le 4)

text_depth : (content : Option (List ℕ)) → depth (text_of content) ≤ 4
text_depth None = zero_le 4
text_depth (Some bytes) = text_by_depth bytes (is_utf8 bytes) refl

data_depth : (content : Option (List ℕ)) → depth (data_of content) ≤ 4
data_depth None = zero_le 4
data_depth (Some bytes) = zero_le 4

acl_depth : (acl : List Acl) → depth (acl_of acl) ≤ 4
acl_depth acl = let inner = shallow_items 1 acl_entry_of acl (λ entry. shallow_object 0 (acl_entry_fields entry) (zero_le 0, (zero_le 0, (zero_le 0, tt)))) in omega arith

strings_depth : (texts : List (List ℕ)) → depth (strings_of texts) ≤ 4
strings_depth texts = let inner = shallow_items 0 string texts (λ text. zero_le 0) in omega arith

create_shallow : (path : List ℕ) (content : Option (List ℕ)) (acl : List Acl) (ephemeral : Bool) (count : ℤ) → AreShallow 4 (create_fields path content acl ephemeral count)
create_shallow path content acl ephemeral count = (zero_le 4, (zero_le 4, (data_depth content, (text_depth content, (acl_depth acl, (zero_le 4, (zero_le 4, tt)))))))

part_shallow : (part : Sub) → AreShallow 4 (part_fields part)
part_shallow (subs.Create path content acl ephemeral count) = create_shallow path content acl ephemeral count
part_shallow (subs.Delete path) = (zero_le 4, (zero_le 4, tt))
part_shallow (subs.SetData path content version) = (zero_le 4, (zero_le 4, (data_depth content, (text_depth content, (zero_le 4, tt)))))
part_shallow (subs.Check path version) = (zero_le 4, (zero_le 4, (zero_le 4, tt)))
part_shallow (subs.Error code) = (zero_le 4, (zero_le 4, tt))

parts_depth : (parts : List Sub) → items_depth (items_of (map part_of parts)) ≤ 5
parts_depth parts = shallow_items 5 part_of parts (λ part. shallow_object 4 (part_fields part) (part_shallow part))

wider : (fields : Fields) → AreShallow 4 fields → AreShallow 6 fields
wider [] h = tt
wider (field ∷ fields) h = (let one = h.0 in omega arith, wider fields h.1)

op_shallow : (op : Op) → AreShallow 6 (op_fields op)
op_shallow (ops.Create path content acl ephemeral count) = wider (create_fields path content acl ephemeral count) (create_shallow path content acl ephemeral count)
op_shallow (ops.CreateOld path content acl ephemeral) = wider (create_old_fields path content acl ephemeral) (zero_le 4, (zero_le 4, (data_depth content, (text_depth content, (acl_depth acl, (zero_le 4, tt))))))
op_shallow (ops.Delete path) = (zero_le 6, (zero_le 6, tt))
op_shallow (ops.SetData path content version) = wider (part_fields (subs.SetData path content version)) (part_shallow (subs.SetData path content version))
op_shallow (ops.SetAcl path acl version) = wider (set_acl_fields path acl version) (zero_le 4, (zero_le 4, (acl_depth acl, (zero_le 4, tt))))
op_shallow (ops.OpenSession timeout) = (zero_le 6, (zero_le 6, tt))
op_shallow ops.CloseSession = (zero_le 6, tt)
op_shallow (ops.Error code) = (zero_le 6, (zero_le 6, tt))
op_shallow (ops.Multi parts) = (zero_le 6, ((let inner = parts_depth parts in omega arith), tt))

record_shallow : (time : List ℕ) (txn : Txn) → AreShallow 6 (record_fields time txn)
record_shallow time txn = (zero_le 6, (zero_le 6, (zero_le 6, (zero_le 6, op_shallow txn.op))))

pub record_depth : (time : List ℕ) (txn : Txn) → depth (record_of time txn) ≤ max_depth
record_depth time txn = let inner = shallow_object 6 (record_fields time txn) (record_shallow time txn) in omega arith

pub history_depth : (time : List ℕ) (paths : List (List ℕ)) (kind : List ℕ) (expired : Bool) (txn : Txn) → depth (history_of time paths kind expired txn) ≤ max_depth
history_depth time paths kind expired txn =
    let first : depth (strings_of paths) ≤ 6 = (let one = strings_depth paths in omega arith) in
    let inner = shallow_object 6 (change_fields paths kind expired ++ record_fields time txn) (first, (zero_le 6, (zero_le 6, record_shallow time txn))) in omega arith

pub held_depth : (ctime mtime path : List ℕ) (node : Node) (stat : Stat) → depth (node_of ctime mtime path node stat) ≤ 5
held_depth ctime mtime path node stat =
    shallow_object 4 (node_fields ctime mtime path node stat) (zero_le 4, (data_depth node.content, (text_depth node.content, (acl_depth node.acl, (zero_le 4, (zero_le 4, (zero_le 4, (zero_le 4, (zero_le 4, (zero_le 4, (zero_le 4, (zero_le 4, (zero_le 4, tt)))))))))))))

pub node_depth : (ctime mtime path : List ℕ) (node : Node) (stat : Stat) → depth (node_of ctime mtime path node stat) ≤ max_depth
node_depth ctime mtime path node stat = let inner = held_depth ctime mtime path node stat in omega arith

pub count_depth : (name text : List ℕ) (count : ℕ) → depth (count_of name text count) ≤ max_depth
count_depth name text count = let inner = shallow_object 0 ((codes "writes", number (decimal count)) ∷ (name, string text) ∷ []) (zero_le 0, (zero_le 0, tt)) in omega arith

value_depth : (value : Value) → depth (value_of value) ≤ 0
value_depth values.Null = zero_le 0
value_depth (values.Text text) = zero_le 0
value_depth (values.Count count) = zero_le 0
value_depth (values.Id id) = zero_le 0
value_depth (values.Flag flag) = zero_le 0

flat_shallow : (fields : List (Bor (List ℕ) × Value)) → AreShallow 0 (map field_of fields)
flat_shallow [] = tt
flat_shallow (field ∷ fields) = (value_depth field.1, flat_shallow fields)

pub flat_depth : (fields : List (Bor (List ℕ) × Value)) → depth (object_of (map field_of fields)) ≤ max_depth
flat_depth fields = let inner = shallow_object 0 (map field_of fields) (flat_shallow fields) in omega arith

side_depth : (path : List ℕ) (held : Option (Node × Stat)) (json : Json) → IsSide path held json → depth json ≤ 5
side_depth path None json h = rw h (zero_le 5)
side_depth path (Some held) json h = rw h.4 (held_depth h.0 h.1 path held.0 held.1)

last_depth : (last : Option LastChange) (json : Json) → IsLast last json → depth json ≤ 5
last_depth None json h = rw h (zero_le 5)
last_depth (Some last) json h =
    let inner : depth (last_of last.zxid h.0) ≤ 1 = shallow_object 0 (last_fields last.zxid h.0) (zero_le 0, (zero_le 0, tt)) in
    let short : depth (last_of last.zxid h.0) ≤ 5 = omega arith in
    subst (λ (j : Json). depth j ≤ 5) (sym h.2) short

change_depth : (path : List ℕ) (last : Option LastChange) (before after : Option (Node × Stat)) (json : Json) → IsChange path last before after json → depth json ≤ max_depth
change_depth path last before after json h =
    let inner = shallow_object 5 (fields_of_change path h.stamp h.old h.new) (zero_le 5, (last_depth last h.stamp h.is_last, (side_depth path before h.old h.is_old, (side_depth path after h.new h.is_new, tt)))) in
    let short : depth (change_of path h.stamp h.old h.new) ≤ max_depth = omega arith in
    subst (λ (j : Json). depth j ≤ max_depth) (sym h.is) short

-- ---- texts

read_back : (json : Json) (written : List Token) → written ≡ json_tokens json → tokens (print written) ≡ written → depth json ≤ max_depth → document (print (json_tokens json)) ≡ Some json
read_back json written are read h =
    let all : tokens (print (json_tokens json)) ≡ json_tokens json = subst (λ (ts : List Token). tokens (print ts) ≡ ts) are read in
    ap (λ (ts : List Token). option_and_then (λ p. if_last p.0 p.1) (value max_depth ts)) (all ∙ sym (append-nil (json_tokens json)))
    ∙ ap (option_and_then (λ p. if_last p.0 p.1)) (value-json_tokens json max_depth [] h)

-- a value's tokens were written first, and then its line
pub finished : (r : Result (Unit {0}) NoMemory) (json : Json) (start written : List Token) (old new : List ℕ) → depth json ≤ max_depth → start ≡ [] → written ≡ start ++ json_tokens json → tokens (print written) ≡ written → OnOk r (new ≡ old ++ (print written ++ 10 ∷ [])) → OnOk r (AppendsLineOf json old new)
finished (Ok done) json start written old new h none are read is =
    let all : written ≡ json_tokens json = are ∙ ap (λ (ts : List Token). ts ++ json_tokens json) none in
    (print (json_tokens json) ++ 10 ∷ [], record { is = refl; read = read_back json written all read h }, is ∙ ap (λ (ts : List Token). old ++ (print ts ++ 10 ∷ [])) all)
finished (Err refused) json start written old new h none are read is = tt

pub changed : (r : Result (Unit {0}) NoMemory) (path : List ℕ) (last : Option LastChange) (before after : Option (Node × Stat)) (start written : List Token) (old new : List ℕ)
    → start ≡ [] → AppendsChange path last before after start written → tokens (print written) ≡ written → OnOk r (new ≡ old ++ (print written ++ 10 ∷ [])) → OnOk r (AppendsChangeLine path last before after old new)
changed r path last before after start written old new none h read is =
    on_ok_weaker r (λ a. (a.0, (h.0, h.1, a.1), a.2)) (finished r h.0 start written old new (change_depth path last before after h.0 h.1) none h.2 read is)
