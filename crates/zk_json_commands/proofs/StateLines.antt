-- The lines of a state.
use Rattle.std.proofs.Common.{◌≡◌, ◌≤◌, ◌<◌, ◌+◌, ℕ, ℤ, pos, negsuc, suc, List, [], ◌∷◌, ◌++◌, Option, Some, Result, Ok, Err, OnOk, length, map, take, get_or, refl, sym, ap, ◌∙◌, subst, append_assoc, append-nil, arith, codes}
use Rattle.std.proofs.Math.Seq.{take-suc}
use Rattle.std.proofs.lemmas.List.{take_all}
use Rattle.std.specs.FinMap.{entries}
use Rattle.std.specs.Fmt.{signed_decimal}
use Rattle.json.specs.Json.{Json, string}
use Rattle.zk_directory_state.specs.declared.history.Broken.{Broken}
use Rattle.zk_directory_state.specs.declared.history.Shown.{Shown}
use Rattle.zk_json.specs.Json.{AppendsLineOf, IsLineOf, object_of}
use Rattle.zk_json_commands.proofs.Written.{lines_more, nodes_told}
use Rattle.zk_json_commands.specs.Lines.{AppendsLines, AreLines}
use Rattle.zk_json_commands.specs.Nodes.{IsEntryLine}
use Rattle.zk_json_commands.specs.States.{AppendsPassed, AppendsTree, AreStateLines, AreTreeLines, IsPassedLine, IsSessionLine, digest_fields, ending_fields, origin_fields, session_fields, timeout_by, timeout_of, zxid_fields}
use Rattle.zk_json_commands.specs.Logs.{AreLogLines}
use Rattle.zk_log.specs.declared.loaded.Ending.{Ending}
use Rattle.zk_log.specs.declared.loaded.Loaded.{Loaded}
use Rattle.zk_log_commands.specs.Showing.{shown_of}
use Rattle.zk_table.specs.Histories.{tree_of}
use Rattle.zk_path.specs.declared.memory.NoMemory.{NoMemory}
use Rattle.zk_table.specs.States.{State}
use Rattle.zk_tree.specs.Entries.{entries_of, lent}
use Rattle.zk_tree.specs.declared.entry.Entry.{Entry}

-- ---- lines, one after another

no_line : {A : Type 0} → (is_line : A → List ℕ → Type 0) (xs : List A) (old : List ℕ) → AppendsLines is_line (take 0 xs) old old
no_line is_line xs old = ([], refl, sym (append-nil old))

next_line : {A : Type 0} → (is_line : A → List ℕ → Type 0) (xs : List A) (count : ℕ) (x : A) (old now new : List ℕ) → count < length xs → AppendsLines is_line (take count xs) old now → ((line : List ℕ) × is_line (get_or xs count x) line × (new ≡ now ++ line)) → AppendsLines is_line (take (count + 1) xs) old new
next_line is_line xs count d old now new lt so_far h =
    let x = get_or xs count d in
    let one : count + 1 ≡ suc count = omega arith in
    let more : take count xs ++ x ∷ [] ≡ take (count + 1) xs = sym (take-suc xs count d lt) ∙ ap (λ n. take n xs) (sym one) in
    subst (λ ys. AppendsLines is_line ys old new) more
    (so_far.0 ++ h.0, lines_more is_line (take count xs) x so_far.0 h.0 so_far.1 h.1, h.2 ∙ ap (λ t. t ++ h.0) so_far.2 ∙ append_assoc old so_far.0 h.0)

all_lines : {A : Type 0} → (is_line : A → List ℕ → Type 0) (xs : List A) (count : ℕ) (old new : List ℕ) → length xs ≤ count → AppendsLines is_line (take count xs) old new → AppendsLines is_line xs old new
all_lines is_line xs count old new le h = subst (λ ys. AppendsLines is_line ys old new) (take_all count xs le) h

-- ---- sessions

timeout_is : (timeout : ℤ) (text : List ℕ) → text ≡ signed_decimal timeout → timeout_by timeout text ≡ timeout_of timeout
timeout_is (pos n) text e = refl
timeout_is (negsuc n) text e = ap string e

pub timed : (r : Result (Unit {0}) NoMemory) (session : ℕ × ℤ) (id : Json) (words old new : List ℕ) → words ≡ signed_decimal session.1
    → OnOk r (AppendsLineOf (object_of ((codes "session", id) ∷ (codes "timeout", timeout_by session.1 words) ∷ [])) old new)
    → OnOk r (AppendsLineOf (object_of ((codes "session", id) ∷ (codes "timeout", timeout_of session.1) ∷ [])) old new)
timed r session id words old new is h = subst (λ (t : Json). OnOk r (AppendsLineOf (object_of ((codes "session", id) ∷ (codes "timeout", t) ∷ [])) old new)) (timeout_is session.1 words is) h

abbrev pub AreSessions : List (ℕ × ℤ) → ℕ → List ℕ → List ℕ → Type 0
AreSessions sessions count old new = AppendsLines IsSessionLine (take count sessions) old new

pub no_session : (sessions : List (ℕ × ℤ)) (old : List ℕ) → AreSessions sessions 0 old old
no_session sessions old = no_line IsSessionLine sessions old

pub next_session : (sessions : List (ℕ × ℤ)) (count : ℕ) (session : ℕ × ℤ) (old now new : List ℕ) → count < length sessions → AreSessions sessions count old now → AppendsLineOf (object_of (session_fields (get_or sessions count session))) now new → AreSessions sessions (count + 1) old new
next_session sessions count session old now new lt so_far h = next_line IsSessionLine sessions count session old now new lt so_far h

pub all_sessions : (sessions : List (ℕ × ℤ)) (count : ℕ) (old new : List ℕ) → length sessions ≤ count → AreSessions sessions count old new → AppendsLines IsSessionLine sessions old new
all_sessions sessions count old new le h = all_lines IsSessionLine sessions count old new le h

-- ---- the tree

pub tree_told : (state : State) (last : ℤ) (sessions : List (ℕ × ℤ)) (es : List Entry) (start head then end : List ℕ) → last ≡ state.last → sessions ≡ entries state.sessions → map lent es ≡ entries_of state.nodes
    → AppendsLineOf (object_of (zxid_fields last)) start head → AppendsLines IsSessionLine sessions head then → AppendsLines IsEntryLine es then end → AppendsTree state start end
tree_told state last sessions es start head then end is are all h s n =
    let nodes = nodes_told state.nodes es then end all n in (
      h.0 ++ s.0 ++ nodes.0,
      record {
        head = h.0;
        is_head = subst (λ (z : ℤ). IsLineOf (object_of (zxid_fields z)) h.0) is h.1;
        sessions = s.0;
        are_sessions = subst (λ (l : List (ℕ × ℤ)). AreLines IsSessionLine l s.0) are s.1;
        nodes = nodes.0;
        are_nodes = nodes.1;
        is = refl;
      },
      nodes.2 ∙ ap (λ t. t ++ nodes.0) (s.2 ∙ ap (λ t. t ++ s.0) h.2 ∙ append_assoc start h.0 s.0) ∙ append_assoc start (h.0 ++ s.0) nodes.0,
    )

pub tree_ended : (r : Result (Unit {0}) NoMemory) (state : State) (last : ℤ) (sessions : List (ℕ × ℤ)) (es : List Entry) (start head then end : List ℕ) → sessions ≡ entries state.sessions → map lent es ≡ entries_of state.nodes
    → AppendsLineOf (object_of (zxid_fields last)) start head → AppendsLines IsSessionLine sessions head then → OnOk r (AppendsLines IsEntryLine es then end) → last ≡ state.last → OnOk r (AppendsTree state start end)
tree_ended (Ok done) state last sessions es start head then end are all h s n is = tree_told state last sessions es start head then end is are all h s n
tree_ended (Err failed) state last sessions es start head then end are all h s n is = tt

-- ---- snapshots that were passed over

abbrev pub ArePassed : List Broken → ℕ → List ℕ → List ℕ → Type 0
ArePassed passed count old new = AppendsLines IsPassedLine (take count passed) old new

pub none_passed : (passed : List Broken) (old : List ℕ) → ArePassed passed 0 old old
none_passed passed old = no_line IsPassedLine passed old

pub next_passed : (passed : List Broken) (count : ℕ) (broken : Broken) (old now new : List ℕ) → count < length passed → ArePassed passed count old now → AppendsPassed (get_or passed count broken) now new → ArePassed passed (count + 1) old new
next_passed passed count broken old now new lt so_far h = next_line IsPassedLine passed count broken old now new lt so_far h

pub all_passed : (passed : List Broken) (count : ℕ) (old new : List ℕ) → length passed ≤ count → ArePassed passed count old new → AppendsLines IsPassedLine passed old new
all_passed passed count old new le h = all_lines IsPassedLine passed count old new le h

-- ---- the state

pub state_told : (shown : Shown) (passed : List Broken) (start tree base over digests text : List ℕ) → start ≡ [] → passed ≡ shown.broken.items
    → AppendsTree shown.restored.table.state start tree → AppendsLineOf (object_of (origin_fields shown.origin)) tree base → AppendsLines IsPassedLine passed base over
    → AppendsLineOf (object_of (digest_fields shown.restored.digests)) over digests → AppendsLineOf (object_of (ending_fields shown.restored.ending)) digests text → AreStateLines shown text
state_told shown passed start tree base over digests text none are t b p d e = record {
  tree = t.0;
  is_tree = t.1;
  base = b.0;
  is_base = b.1;
  passed = p.0;
  are_passed = subst (λ (l : List Broken). AreLines IsPassedLine l p.0) are p.1;
  digests = d.0;
  are_digests = d.1;
  ending = e.0;
  is_ending = e.1;
  is = e.2 ∙ ap (λ x. x ++ e.0) (d.2 ∙ ap (λ x. x ++ d.0) (p.2 ∙ ap (λ x. x ++ p.0) (b.2 ∙ ap (λ x. x ++ b.0) (t.2 ∙ ap (λ x. x ++ t.0) none))));
}

-- ---- a log

pub log_told : (upto : Option ℤ) (loaded : Loaded) (state : State) (ending : Option Ending) (start tree text : List ℕ) → start ≡ [] → state ≡ tree_of (shown_of upto loaded.txns) → ending ≡ Some loaded.ending
    → AppendsTree state start tree → AppendsLineOf (object_of (ending_fields ending)) tree text → AreLogLines upto loaded text
log_told upto loaded state ending start tree text none are is t e = record {
  tree = t.0;
  is_tree = subst (λ (s : State). AreTreeLines s t.0) are t.1;
  ending = e.0;
  is_ending = subst (λ (o : Option Ending). IsLineOf (object_of (ending_fields o)) e.0) is e.1;
  is = e.2 ∙ ap (λ x. x ++ e.0) (t.2 ∙ ap (λ x. x ++ t.0) none);
}
