-- Nodes up to their end: reading and encoding are inverse.
use Rattle.std.proofs.Common.{◌≡◌, ℕ, zero, suc, pos, ◌+◌, ◌<◌, ◌≤◌, Bool, true, false, cond, List, [], ◌∷◌, ◌++◌, length, Option, Some, None, Result, Ok, Err, refl, sym, ap, subst, ◌∙◌, append_assoc, arith, lit<, inl}
use Rattle.std.specs.Prelude.{is_none}
use Rattle.std.specs.List.{flat_map, AllByRecursion}
use Rattle.std.specs.Str.{bytes_eq}
use Rattle.std.proofs.lemmas.Bool.{false_from_ne_true}
use Rattle.std.proofs.lemmas.List.{length-append}
use Rattle.std.proofs.lemmas.List.Concat.{flat_map-cons}
use Rattle.std.proofs.lemmas.Slice.Eq.{bytes_eq-Decides}
use Rattle.std.proofs.lemmas.Str.{IsUtf8-nil}
use Rattle.zk_jute.specs.declared.fault.JuteFault.{JuteFault}
use Rattle.zk_jute.specs.declared.fault.JuteFault.TheVariants as faults
use Rattle.zk_jute.specs.Reading.{◌>>=◌, text_at}
use Rattle.zk_jute.proofs.Numbers.{IsBytes, TakesFront, TakesFront-then, IsField, first_read, bind_ok, guard_ended, ok_is, at_ok}
use Rattle.zk_jute.proofs.Texts.{text_field}
use Rattle.zk_path.proofs.FaultLaw.{IsPath-from_fault, fault_of-IsPath}
use Rattle.zk_path.specs.declared.fault.PathFault.{PathFault}
use Rattle.zk_path.specs.Paths.{fault_of}
use Rattle.zk_records.specs.Records.{int, ustring, IsText, IsPathText}
use Rattle.zk_snapshot.specs.declared.snapshot.Kept.{Kept}
use Rattle.zk_snapshot.specs.declared.snapshot.Stored.{Stored}
use Rattle.zk_snapshot.specs.Snapshots.{slash, kept, written_path, stored, stored_nodes, IsKept, IsStored}
use Rattle.zk_snapshot.specs.Reading.{kept_at, position_of, stored_at, next_at, then_more, some_at, nodes_at}
use Rattle.zk_snapshot.proofs.Spellings.{slash_text, kept_field}

-- ---- paths

none_from_is_none : (o : Option PathFault) → is_none o ≡ true → o ≡ None
none_from_is_none None e = refl
none_from_is_none (Some fault) e = absurd cc

-- the path of a text that is not "/" is written as that text
pub record Places (text path : List ℕ) : Type 0 where
  pub written : written_path path ≡ text
  pub is : IsPathText path

not_slash : (text : List ℕ) → bytes_eq text slash ≡ false → written_path text ≡ text
not_slash text other = rw other refl

place_is : (text path : List ℕ) → IsText text → bytes_eq text slash ≡ false → position_of text ≡ Ok path → Places text path
place_is [] path is other e =
    at_ok (λ (p : List ℕ). Places [] p) slash path e (record { written = refl; is = record { grammar = inl refl; text = slash_text } })
place_is (b ∷ bs) path is other e =
    let g = guard_ended (is_none (fault_of (b ∷ bs))) faults.Path (b ∷ bs) path e in
    let grammar = IsPath-from_fault (b ∷ bs) (none_from_is_none (fault_of (b ∷ bs)) g.0) in
    subst (λ (p : List ℕ). Places (b ∷ bs) p) g.1 (record { written = not_slash (b ∷ bs) other; is = record { grammar = grammar; text = is } })

-- ---- one node

-- the bytes from which a node or the end is read
abbrev pub step_bytes : Option Stored → List ℕ
step_bytes None = ustring slash
step_bytes (Some node) = stored node

abbrev pub IsStep : Option Stored → Type 0
IsStep None = Unit {0}
IsStep (Some node) = IsStored node

stored_takes : (bytes text : List ℕ) (after : List ℕ) (x : Option Stored × List ℕ) → TakesFront bytes (ustring text) after → IsText text → bytes_eq text slash ≡ false → stored_at text after ≡ Ok x → TakesFront bytes (step_bytes x.0) x.1 × IsStep x.0
unfolding stored_at
stored_takes bytes text after x took is other e =
    let p = bind_ok {A = List ℕ} {B = Option Stored × List ℕ} (position_of text) (λ path. kept_at after >>= λ kept. Ok (Some (record { path = path; kept = kept.0 }), kept.1)) x e in
    let k = first_read kept_at kept IsKept kept_field after (λ kept. Ok (Some (record { path = p.0; kept = kept.0 }), kept.1)) x took.rest_fits p.2 in
    let place = place_is text p.0 is other p.1 in
    let both = TakesFront-then bytes (ustring text) after (kept k.got.0) k.got.1 took k.took in
    let spelled = subst (λ (t : List ℕ). TakesFront bytes (ustring t ++ kept k.got.0) k.got.1) (sym place.written) both in
    let node : Stored = record { path = p.0; kept = k.got.0 } in
    let made : Option Stored × List ℕ = (Some node, k.got.1) in
    at_ok (λ (y : Option Stored × List ℕ). TakesFront bytes (step_bytes y.0) y.1 × IsStep y.0) made x k.goes (spelled, record { path = place.is; kept = k.fits })

step_by : (bytes : List ℕ) (b : Bool) (text after : List ℕ) (x : Option Stored × List ℕ) → bytes_eq text slash ≡ b → TakesFront bytes (ustring text) after → IsText text → cond b (Ok (None, after)) (stored_at text after) ≡ Ok x → TakesFront bytes (step_bytes x.0) x.1 × IsStep x.0
step_by bytes true text after x same took is e =
    let made : Option Stored × List ℕ = (None, after) in
    let ended = subst (λ (t : List ℕ). TakesFront bytes (ustring t) after) ((bytes_eq-Decides text slash).0 same) took in
    at_ok (λ (y : Option Stored × List ℕ). TakesFront bytes (step_bytes y.0) y.1 × IsStep y.0) made x e (ended, tt)
step_by bytes false text after x same took is e = stored_takes bytes text after x took is same e

pub next_takes : (bytes : List ℕ) (x : Option Stored × List ℕ) → IsBytes bytes → next_at bytes ≡ Ok x → TakesFront bytes (step_bytes x.0) x.1 × IsStep x.0
unfolding next_at
next_takes bytes x fits e =
    let a = first_read text_at ustring IsText text_field bytes (λ text. cond (bytes_eq text.0 slash) (Ok (None, text.1)) (stored_at text.0 text.1)) x fits e in
    step_by bytes (bytes_eq a.got.0 slash) a.got.0 a.got.1 x refl a.took a.fits a.goes

pub end_again : (rest : List ℕ) → next_at (ustring slash ++ rest) ≡ Ok (None, rest)
unfolding next_at
end_again rest = rw (text_field.again slash rest slash_text) refl

place_again : (path : List ℕ) → IsPathText path → position_of path ≡ Ok path
place_again [] is = let e = fault_of-IsPath [] is.grammar in absurd cc
place_again (b ∷ bs) is = rw (fault_of-IsPath (b ∷ bs) is.grammar) refl

kept_behind : (text path : List ℕ) (k : Kept) (rest : List ℕ) → position_of text ≡ Ok path → IsKept k → stored_at text (kept k ++ rest) ≡ Ok (Some (record { path = path; kept = k }), rest)
unfolding stored_at
kept_behind text path k rest place is = rw (place, kept_field.again k rest is) refl

next_by : (text path : List ℕ) (k : Kept) (rest : List ℕ) → IsText text → bytes_eq text slash ≡ false → position_of text ≡ Ok path → IsKept k → next_at (ustring text ++ (kept k ++ rest)) ≡ Ok (Some (record { path = path; kept = k }), rest)
unfolding next_at
next_by text path k rest is other place kept_is =
    rw (text_field.again text (kept k ++ rest) is, other) (kept_behind text path k rest place kept_is)

empty_text : IsText []
empty_text = record { utf8 = IsUtf8-nil; short = lit< tt }

node_by : (b : Bool) (s : Stored) (rest : List ℕ) → bytes_eq s.path slash ≡ b → IsStored s → next_at (ustring (cond b [] s.path) ++ (kept s.kept ++ rest)) ≡ Ok (Some s, rest)
node_by true s rest same is =
    let root : slash ≡ s.path = sym ((bytes_eq-Decides s.path slash).0 same) in
    next_by [] s.path s.kept rest empty_text refl (ap Ok root) is.kept
node_by false s rest same is = next_by s.path s.path s.kept rest is.path.text same (place_again s.path is.path) is.kept

pub node_again : (s : Stored) (rest : List ℕ) → IsStored s → next_at (stored s ++ rest) ≡ Ok (Some s, rest)
node_again s rest is =
    ap next_at (append_assoc (ustring (written_path s.path)) (kept s.kept) rest) ∙ node_by (bytes_eq s.path slash) s rest refl is

-- ---- all of them

pub record Took (bytes : List ℕ) (x : List Stored × List ℕ) : Type 0 where
  pub front : TakesFront bytes (stored_nodes x.0) x.1
  pub each : AllByRecursion IsStored x.0

some_then : (n : ℕ) → ((bytes : List ℕ) (x : List Stored × List ℕ) → IsBytes bytes → some_at n bytes ≡ Ok x → Took bytes x)
    → (bytes : List ℕ) (step : Option Stored) (after : List ℕ) (x : List Stored × List ℕ) → TakesFront bytes (step_bytes step) after → IsStep step → then_more (some_at n) step after ≡ Ok x → Took bytes x
some_then n more bytes None after x took is e =
    let made : List Stored × List ℕ = ([], after) in
    at_ok (λ (y : List Stored × List ℕ). Took bytes y) made x e (record { front = took; each = tt })
some_then n more bytes (Some node) after x took is e =
    let b = bind_ok {A = List Stored × List ℕ} {B = List Stored × List ℕ} (some_at n after) (λ others. Ok (node ∷ others.0, others.1)) x e in
    let others = more after b.0 took.rest_fits b.1 in
    let both = TakesFront-then bytes (stored node) after (stored_nodes b.0.0) b.0.1 took others.front in
    let grouped : stored node ++ (flat_map stored b.0.0 ++ ustring slash) ≡ stored_nodes (node ∷ b.0.0) = sym (ap (λ (ys : List ℕ). ys ++ ustring slash) (flat_map-cons stored node b.0.0) ∙ append_assoc (stored node) (flat_map stored b.0.0) (ustring slash)) in
    let made : List Stored × List ℕ = (node ∷ b.0.0, b.0.1) in
    at_ok (λ (y : List Stored × List ℕ). Took bytes y) made x b.2 (record { front = subst (λ (f : List ℕ). TakesFront bytes f b.0.1) grouped both; each = (is, others.each) })

some_take : (n : ℕ) (bytes : List ℕ) (x : List Stored × List ℕ) → IsBytes bytes → some_at n bytes ≡ Ok x → Took bytes x
unfolding some_at
some_take zero bytes x fits e = absurd cc
some_take (suc n) bytes x fits e =
    let a = bind_ok {A = Option Stored × List ℕ} {B = List Stored × List ℕ} (next_at bytes) (λ next. then_more (some_at n) next.0 next.1) x e in
    let t = next_takes bytes a.0 fits a.1 in
    some_then n (some_take n) bytes a.0.0 a.0.1 x t.0 t.1 a.2

regroup : (a b c r : List ℕ) → ((a ++ b) ++ c) ++ r ≡ a ++ ((b ++ c) ++ r)
regroup a b c r = simp append_assoc

some_again : (n : ℕ) (nodes : List Stored) (rest : List ℕ) → AllByRecursion IsStored nodes → length nodes < n → some_at n (stored_nodes nodes ++ rest) ≡ Ok (nodes, rest)
unfolding some_at
some_again zero nodes rest is few = absurd (omega (arith, few))
some_again (suc n) [] rest is few = rw (end_again rest) refl
some_again (suc n) (node ∷ nodes) rest is few =
    let grouped : stored_nodes (node ∷ nodes) ++ rest ≡ stored node ++ (stored_nodes nodes ++ rest) =
    ap (λ (ys : List ℕ). (ys ++ ustring slash) ++ rest) (flat_map-cons stored node nodes) ∙ regroup (stored node) (flat_map stored nodes) (ustring slash) rest in
    ap (some_at (suc n)) grouped ∙ rw (node_again node (stored_nodes nodes ++ rest) is.0, some_again n nodes rest is.1 (omega (arith, few))) refl

-- each node has at least one byte, and so has their end
text_filled : (text : List ℕ) → 4 ≤ length (ustring text)
text_filled text = omega (arith, length-append (int (pos (length text))) text)

as_long : (nodes : List Stored) → length nodes ≤ length (flat_map stored nodes)
as_long [] = omega arith
as_long (node ∷ nodes) =
    let one = ap length (flat_map-cons stored node nodes) ∙ length-append (stored node) (flat_map stored nodes) in
    let filled = text_filled (written_path node.path) in
    let longer = length-append (ustring (written_path node.path)) (kept node.kept) in
    omega (arith, as_long nodes, one, filled, longer)

pub nodes_take : (bytes : List ℕ) (x : List Stored × List ℕ) → IsBytes bytes → nodes_at bytes ≡ Ok x → TakesFront bytes (stored_nodes x.0) x.1 × AllByRecursion IsStored x.0
nodes_take bytes x fits e = let t = some_take (length bytes) bytes x fits e in (t.front, t.each)

pub nodes_again : (nodes : List Stored) (rest : List ℕ) → AllByRecursion IsStored nodes → nodes_at (stored_nodes nodes ++ rest) ≡ Ok (nodes, rest)
nodes_again nodes rest is =
    let bytes = stored_nodes nodes ++ rest in
    let few : length nodes < length bytes = omega (arith, as_long nodes, text_filled slash, length-append (flat_map stored nodes) (ustring slash), length-append (stored_nodes nodes) rest) in
    some_again (length bytes) nodes rest is few

abbrev pub AreStored : List Stored → Type 0
AreStored nodes = AllByRecursion IsStored nodes

pub nodes_field : IsField nodes_at stored_nodes AreStored
nodes_field = record { takes = nodes_take; again = nodes_again }
