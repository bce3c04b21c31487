-- A record changes no owner at a path that it does not touch.
use Rattle.std.proofs.Common.{◌≡◌, ℕ, ℤ, Bool, true, false, cond, ◌||◌, List, [], ◌∷◌, ◌++◌, Option, None, refl, ap, ◌∙◌}
use Rattle.std.specs.FinMap as finite
use Rattle.std.specs.List.{list_any}
use Rattle.std.specs.Ordering.{eq_by_cmp}
use Rattle.std.specs.Str.{bytes_eq}
use Rattle.zk_table.specs.declared.sub.Sub.{Sub}
use Rattle.zk_table.specs.declared.sub.Sub.TheVariants as subs
use Rattle.zk_table.specs.declared.txn.Op.{Op}
use Rattle.zk_table.specs.declared.txn.Op.TheVariants as ops
use Rattle.zk_table.specs.declared.txn.Txn.{Txn}
use Rattle.zk_table.specs.States.{NodeMap, path_cmp}
use Rattle.zk_tree.proofs.Kept.{tests_alike}
use Rattle.zk_tree.specs.Views.{PathKeys}
use Rattle.zk_newer_records.specs.Changes.{container_owner, owner_in_part, owner_of_create, owners_in, owners_in_multi, owners_in_part, owners_in_parts, owners_of, ttl_owner}
use Rattle.zk_newer_records.specs.NewerRecords.{paired}
use Rattle.zk_newer_records.specs.declared.newer_record.NewerRecord.{NewerRecord}
use Rattle.zk_newer_records.specs.declared.newer_record.Encoding.{Encoding}
use Rattle.zk_newer_records.specs.declared.newer_record.Encoding.TheVariants as forms
use Rattle.zk_newer_records.specs.declared.parts.PartEncoding.{PartEncoding}
use Rattle.zk_mend.specs.Digests.{Owners}
use Rattle.zk_mend.specs.Following.{Given, given_from, own_of}
use Rattle.zk_replay.proofs.Frames.{not_both, not_one}
use Rattle.zk_replay.specs.Owning.{creates, given_by, is_rejected, owners_by, part_creates}
use Rattle.zk_replay.specs.Touching.{touched, touched_by, with_part, with_parts}

-- ---- creates

first_free : (path q : List ℕ) → eq_by_cmp path_cmp q path ≡ false → bytes_eq path q ≡ false
first_free path q e = tests_alike path q ∙ e

part_free : (paths : PathKeys) (part : Sub) (q : List ℕ) → finite.contains_key (with_part paths part) q ≡ false → (part_creates q part ≡ false) × (finite.contains_key paths q ≡ false)
part_free paths (subs.Create path content acl ephemeral count) q h = let apart = not_both paths path q h in (first_free path q apart.0, apart.1)
part_free paths (subs.Delete path) q h = (refl, (not_both paths path q h).1)
part_free paths (subs.SetData path content version) q h = (refl, (not_one paths path q h).1)
part_free paths (subs.Check path version) q h = (refl, h)
part_free paths (subs.Error code) q h = (refl, h)

parts_free : (paths : PathKeys) (parts : List Sub) (q : List ℕ) → finite.contains_key (with_parts paths parts) q ≡ false → (list_any (part_creates q) parts ≡ false) × (finite.contains_key paths q ≡ false)
parts_free paths [] q h = (refl, h)
parts_free paths (part ∷ parts) q h =
    let rest = parts_free (with_part paths part) parts q h in
    let one = part_free paths part q rest.1 in
    (ap (λ b. b || list_any (part_creates q) parts) one.0 ∙ rest.0, one.1)

creates_apart : (nodes : NodeMap) (txn : Txn) (op : Op) (q : List ℕ) → finite.contains_key (touched_by nodes txn op) q ≡ false → creates op q ≡ false
creates_apart nodes txn (ops.Create path content acl ephemeral count) q h = first_free path q (not_both finite.empty path q h).0
creates_apart nodes txn (ops.CreateOld path content acl ephemeral) q h = first_free path q (not_both finite.empty path q h).0
creates_apart nodes txn (ops.Delete path) q h = refl
creates_apart nodes txn (ops.SetData path content version) q h = refl
creates_apart nodes txn (ops.SetAcl path acl version) q h = refl
creates_apart nodes txn (ops.OpenSession timeout) q h = refl
creates_apart nodes txn ops.CloseSession q h = refl
creates_apart nodes txn (ops.Multi parts) q h = (parts_free finite.empty parts q h).0
creates_apart nodes txn (ops.Error code) q h = refl

-- ---- the owners of a record

one_given : (path q : List ℕ) (owner : ℤ) (found : Option ℤ) → bytes_eq path q ≡ false → given_from found ((path, owner) ∷ []) q ≡ found
one_given path q owner found e = ap (λ b. cond b (own_of owner) found) e

create_given : (op : Op) (q : List ℕ) (owner : ℤ) (found : Option ℤ) → creates op q ≡ false → given_from found (owner_of_create owner op) q ≡ found
create_given (ops.Create path content acl ephemeral count) q owner found e = one_given path q owner found e
create_given (ops.CreateOld path content acl ephemeral) q owner found e = refl
create_given (ops.Delete path) q owner found e = refl
create_given (ops.SetData path content version) q owner found e = refl
create_given (ops.SetAcl path acl version) q owner found e = refl
create_given (ops.OpenSession timeout) q owner found e = refl
create_given ops.CloseSession q owner found e = refl
create_given (ops.Multi parts) q owner found e = refl
create_given (ops.Error code) q owner found e = refl

neither : (a b : Bool) → (a || b) ≡ false → (a ≡ false) × (b ≡ false)
neither true b e = (e, absurd (true_is_not e))
  where
    true_is_not : true ≡ false → ⊥
    true_is_not e = cc
neither false b e = (refl, e)

part_given : (sub : Sub) (form : PartEncoding) (more : List Given) (q : List ℕ) (found : Option ℤ) → part_creates q sub ≡ false → given_from found (owners_in_part sub form ++ more) q ≡ given_from found more q
part_given (subs.Create path content acl ephemeral count) form more q found e = ap (λ b. given_from (cond b (own_of (owner_in_part form)) found) more q) e
part_given (subs.Delete path) form more q found e = refl
part_given (subs.SetData path content version) form more q found e = refl
part_given (subs.Check path version) form more q found e = refl
part_given (subs.Error code) form more q found e = refl

parts_given : (parts : List Sub) (written : List PartEncoding) (q : List ℕ) (found : Option ℤ) → list_any (part_creates q) parts ≡ false → given_from found (owners_in_parts (paired parts written)) q ≡ found
parts_given [] written q found e = refl
parts_given (part ∷ parts) [] q found e = refl
parts_given (part ∷ parts) (form ∷ written) q found e =
    let apart = neither (part_creates q part) (list_any (part_creates q) parts) e in
    part_given part form (owners_in_parts (paired parts written)) q found apart.0 ∙ parts_given parts written q found apart.1

multi_given : (op : Op) (written : List PartEncoding) (q : List ℕ) (found : Option ℤ) → creates op q ≡ false → given_from found (owners_in_multi op written) q ≡ found
multi_given (ops.Create path content acl ephemeral count) written q found e = refl
multi_given (ops.CreateOld path content acl ephemeral) written q found e = refl
multi_given (ops.Delete path) written q found e = refl
multi_given (ops.SetData path content version) written q found e = refl
multi_given (ops.SetAcl path acl version) written q found e = refl
multi_given (ops.OpenSession timeout) written q found e = refl
multi_given ops.CloseSession written q found e = refl
multi_given (ops.Multi parts) written q found e = parts_given parts written q found e
multi_given (ops.Error code) written q found e = refl

form_given : (op : Op) (form : Encoding) (q : List ℕ) (found : Option ℤ) → creates op q ≡ false → given_from found (owners_in op form) q ≡ found
form_given op forms.Own q found e = refl
form_given op forms.Create2 q found e = refl
form_given op forms.Container q found e = create_given op q container_owner found e
form_given op (forms.Ttl ttl) q found e = create_given op q (ttl_owner ttl) found e
form_given op forms.DeletedContainer q found e = refl
form_given op forms.Reconfig q found e = refl
form_given op forms.CheckAlone q found e = refl
form_given op (forms.ClosePaths listed) q found e = refl
form_given op (forms.Parts written) q found e = multi_given op written q found e

given_apart : (newer : NewerRecord) (q : List ℕ) (owner : Option ℤ) → creates newer.txn.op q ≡ false → given_by newer q owner ≡ owner
given_apart newer q owner e =
    ap (λ b. given_from (cond b None owner) (owners_of newer) q) e ∙ form_given newer.txn.op newer.form q owner e

owner_by : (b : Bool) (newer : NewerRecord) (q : List ℕ) (owner : Option ℤ) → creates newer.txn.op q ≡ false → cond b owner (given_by newer q owner) ≡ owner
owner_by true newer q owner e = refl
owner_by false newer q owner e = given_apart newer q owner e

pub owners_apart : (nodes : NodeMap) (owners : Owners) (newer : NewerRecord) (q : List ℕ) → finite.contains_key (touched nodes newer.txn) q ≡ false → owners_by owners newer q ≡ owners q
owners_apart nodes owners newer q h = owner_by (is_rejected newer.txn.op) newer q (owners q) (creates_apart nodes newer.txn newer.txn.op q h)
