-- What is written for a log that was loaded.
use Rattle.std.proofs.Common.{◌≡◌, ◌<◌, ◌+◌, ℕ, ℤ, suc, true, false, List, [], ◌∷◌, ◌++◌, length, take, get_or, Option, Result, Ok, Err, inl, inr, refl, sym, ap, ◌∙◌, arith}
use Rattle.std.proofs.KnownBytes.{Keeps-refl}
use Rattle.std.proofs.Math.Seq.{take-suc}
use Rattle.std.proofs.lemmas.List.Elements.{filter-append}
use Rattle.zk_log_commands.specs.Showing.{is_shown, shown_of}
use Rattle.zk_log_commands.specs.Telling.{OutputsNoted}
use Rattle.zk_path.specs.declared.memory.NoMemory.{NoMemory}
use Rattle.zk_records.specs.Sinks.{writer_of}
use Rattle.zk_records.specs.declared.sink.Sink.{Sink}
use Rattle.zk_table.specs.Histories.{state_after}
use Rattle.zk_table.specs.States.{State}
use Rattle.zk_table.specs.Steps.{step}
use Rattle.zk_table.specs.declared.txn.Txn.{Txn}
use Rattle.zk_json_commands.specs.Logs.{OutputsSuch}

-- the text was written
pub such_told : {O E : Type 0} (written : O → Option (List ℕ)) (told : E → Option (List ℕ)) (is_text : List ℕ → Type 0) (notice : Option ℤ) (text : List ℕ) (output output' : Sink O) (faults faults' : Sink E) (result : Result ℕ NoMemory)
    → is_text text → OutputsNoted written told text notice output output' faults faults' result → OutputsSuch written told is_text notice output output' faults faults' result
such_told written told is_text notice text output output' faults faults' (Ok status) h o = (text, h, o)
such_told written told is_text notice text output output' faults faults' (Err refused) h o = inl (text, h, o)

-- an allocation failed before
pub nothing_told : {O E : Type 0} (written : O → Option (List ℕ)) (told : E → Option (List ℕ)) (is_text : List ℕ → Type 0) (notice : Option ℤ) (output : Sink O) (faults : Sink E) (refused : NoMemory)
    → OutputsSuch written told is_text notice output output faults faults (Err refused)
nothing_told written told is_text notice output faults refused = inr (record { bytes = Keeps-refl (written (writer_of output)); failures = refl }, record { bytes = Keeps-refl (told (writer_of faults)); failures = refl })

-- ---- the tree

pub one_applied : (upto : Option ℤ) (old new : State) (txn : Txn) → is_shown upto txn ≡ true → new ≡ (step old txn).0 → new ≡ state_after old (shown_of upto (txn ∷ []))
one_applied upto old new txn shown is =
    let one : shown_of upto (txn ∷ []) ≡ txn ∷ [] = rw shown refl in
    is ∙ ap (state_after old) (sym one)

pub none_applied : (upto : Option ℤ) (old : State) (txn : Txn) → is_shown upto txn ≡ false → old ≡ state_after old (shown_of upto (txn ∷ []))
none_applied upto old txn shown =
    let none : shown_of upto (txn ∷ []) ≡ [] = rw shown refl in
    ap (state_after old) (sym none)

state_joined : (state : State) (txns others : List Txn) → state_after state (txns ++ others) ≡ state_after (state_after state txns) others
state_joined state [] others = refl
state_joined state (txn ∷ txns) others = state_joined (step state txn).0 txns others

-- one more
pub tree_more : (upto : Option ℤ) (state now new : State) (txns : List Txn) (count : ℕ) (txn : Txn) → count < length txns → txn ≡ get_or txns count txn
    → now ≡ state_after state (shown_of upto (take count txns)) → new ≡ state_after now (shown_of upto (txn ∷ [])) → new ≡ state_after state (shown_of upto (take (count + 1) txns))
tree_more upto state now new txns count txn lt is so_far h =
    let one : count + 1 ≡ suc count = omega arith in
    let more : take count txns ++ txn ∷ [] ≡ take (count + 1) txns = ap (λ (t : Txn). take count txns ++ t ∷ []) is ∙ sym (take-suc txns count txn lt) ∙ ap (λ n. take n txns) (sym one) in
    let shown : shown_of upto (take (count + 1) txns) ≡ shown_of upto (take count txns) ++ shown_of upto (txn ∷ []) = ap (shown_of upto) (sym more) ∙ filter-append (is_shown upto) (take count txns) (txn ∷ []) in
    h ∙ ap (λ (s : State). state_after s (shown_of upto (txn ∷ []))) so_far ∙ sym (state_joined state (shown_of upto (take count txns)) (shown_of upto (txn ∷ []))) ∙ ap (state_after state) (sym shown)
