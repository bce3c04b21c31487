-- Lines that are appended one after another, and the end of a line.
use Rattle.std.proofs.Common.{◌≡◌, ◌≢◌, ◌≤◌, ◌<◌, ◌+◌, ◌++◌, ◌∷◌, ℕ, ℤ, suc, true, List, [], Option, Some, None, option_map, MatchOption, length, take, drop, get_or, refl, sym, ap, ◌∙◌, subst, append_assoc, append-nil, arith}
use Rattle.std.proofs.Math.Seq.{drop-append_seam, take-suc}
use Rattle.std.proofs.lemmas.List.{take_all}
use Rattle.std.specs.Borrow.{Bor}
use Rattle.std.specs.Fmt.{signed_decimal}
use Rattle.zk_cli_args.specs.declared.form.Form.{Form}
use Rattle.zk_format.specs.Listings.{line_of, op_text}
use Rattle.zk_json.specs.Times.{AppendsTime, IsTimeText}
use Rattle.zk_table.specs.declared.txn.Txn.{Txn}
use Rattle.zk_listings.specs.Lines.{AppendsTxnLine, AppendsTxnLines, AreTxnLines, CutsFront, IsTxnLine, front_text}

pub timed : (time : ℤ) (old new : List ℕ) → old ≡ [] → AppendsTime old time new → IsTimeText time new
timed time old new none h = subst (λ (l : List ℕ). IsTimeText time l) (sym (h.2 ∙ ap (λ l. l ++ h.0) none)) h.1

-- ---- one line more

lines_more : (form : Form) (txns : List Txn) (txn : Txn) (text line : List ℕ) → AreTxnLines form txns text → IsTxnLine form txn line → AreTxnLines form (txns ++ txn ∷ []) (text ++ line)
lines_more form [] txn text line e h = subst (λ (t : List ℕ). AreTxnLines form (txn ∷ []) (t ++ line)) (sym e) (line, [], h, refl, sym (append-nil line))
lines_more form (other ∷ txns) txn text line e h = (e.0, e.1 ++ line, e.2, lines_more form txns txn e.1 line e.3 h, ap (λ t. t ++ line) e.4 ∙ append_assoc e.0 e.1 line)

-- the first lines were appended
abbrev pub AreListed : Form → List Txn → ℕ → List ℕ → List ℕ → Type 0
AreListed form txns count old new = AppendsTxnLines form (take count txns) old new

pub none_listed : (form : Form) (txns : List Txn) (old : List ℕ) → AreListed form txns 0 old old
none_listed form txns old = ([], refl, sym (append-nil old))

pub next_listed : (form : Form) (txns : List Txn) (count : ℕ) (txn : Txn) (old now new : List ℕ) → count < length txns → txn ≡ get_or txns count txn → AreListed form txns count old now → AppendsTxnLine form txn now new → AreListed form txns (count + 1) old new
next_listed form txns count txn old now new lt is so_far h =
    let one : count + 1 ≡ suc count = omega arith in
    let more : take count txns ++ txn ∷ [] ≡ take (count + 1) txns = ap (λ (t : Txn). take count txns ++ t ∷ []) is ∙ sym (take-suc txns count txn lt) ∙ ap (λ n. take n txns) (sym one) in
    subst (λ (ts : List Txn). AppendsTxnLines form ts old new) more
    (so_far.0 ++ h.0, lines_more form (take count txns) txn so_far.0 h.0 so_far.1 h.1, h.2 ∙ ap (λ t. t ++ h.0) so_far.2 ∙ append_assoc old so_far.0 h.0)

pub all_listed : (form : Form) (txns : List Txn) (count : ℕ) (old new : List ℕ) → length txns ≤ count → AreListed form txns count old new → AppendsTxnLines form txns old new
all_listed form txns count old new le h = subst (λ (ts : List Txn). AppendsTxnLines form ts old new) (take_all count txns le) h

-- ---- the end of a line

pub fronted : (B : Type 0) (front text : List ℕ) (found : Option (Bor (List ℕ)))
    → MatchOption found ((rest : List ℕ) → text ≢ front ++ rest) (λ x. (n : ℕ) × ((n ≡ length front) × (text ≡ front ++ drop n text) × B) × (x.now ≡ drop n text) × (length x.now + n ≡ length text))
    → CutsFront front text (option_map (λ (rest : Bor (List ℕ)). rest.now) found)
fronted B front text None none = none
fronted B front text (Some x) m = m.1.1 ∙ ap (λ (rest : List ℕ). front ++ rest) (sym m.2)

-- the operation of a transaction follows its time
pub line_parts : (txn : Txn) (front line : List ℕ) → front ≡ front_text txn.zxid txn.session txn.cxid ++ (signed_decimal txn.time ++ 32 ∷ []) → line ≡ line_of txn → line ≡ front ++ (op_text txn.op ++ 10 ∷ [])
line_parts txn front line begun whole = rw (whole, begun) (grind (arith, append_assoc))

same_rest : (front one two : List ℕ) → front ++ one ≡ front ++ two → one ≡ two
same_rest front one two e = sym (drop-append_seam front one) ∙ ap (drop (length front)) e ∙ drop-append_seam front two

pub after_line : (txn : Txn) (front line rest : List ℕ) → front ≡ front_text txn.zxid txn.session txn.cxid ++ (signed_decimal txn.time ++ 32 ∷ []) → line ≡ line_of txn → line ≡ front ++ rest → rest ≡ op_text txn.op ++ 10 ∷ []
after_line txn front line rest begun whole cuts = same_rest front rest (op_text txn.op ++ 10 ∷ []) (sym cuts ∙ line_parts txn front line begun whole)
