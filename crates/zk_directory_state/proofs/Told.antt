-- What is written for a fault, and the files that a server reads.
use Rattle.std.proofs.Common.{◌≡◌, ℕ, ℤ, ◌+◌, ◌<◌, ◌≤◌, List, [], ◌∷◌, ◌++◌, length, drop, get_or, Option, Ok, String, refl, sym, ap, ◌∙◌, subst}
use Rattle.std.proofs.lemmas.List.{drop_more, drop_all}
use Rattle.std.specs.Global.{Global}
use Rattle.std.specs.String.{string_bytes}
use Rattle.zk_directory.specs.Names.{server_file_of}
use Rattle.zk_directory.specs.declared.names.FileName.{FileName}
use Rattle.zk_directory_state.specs.FaultLines.{IsBeyondLine, beyond_line}
use Rattle.zk_directory_state.specs.ServerFiles.{server_files, with_file, with_files}
use Rattle.zk_json.specs.Times.{AppendsTime, IsTimeText}

pub clock : (time : ℤ) (old text : List ℕ) → old ≡ [] → AppendsTime old time text → IsTimeText time text
clock time old text none t = subst (IsTimeText time) (sym (t.2 ∙ ap (λ (o : List ℕ). o ++ t.0) none)) t.1

pub beyond : (last time : ℤ) (shown line : List ℕ) → IsTimeText time shown → line ≡ beyond_line last shown → IsBeyondLine last time line
beyond last time shown line t is = (shown, t, is)

-- ---- files

no_files : (files : List FileName) → with_files files [] ≡ files
unfolding with_files
no_files files = refl

one_file : (files : List FileName) (name : String Global) (names : List (String Global)) → with_files files (name ∷ names) ≡ with_files (with_file files (server_file_of (string_bytes name))) names
unfolding with_files
one_file files name names = refl

pub files_more : (names : List (String Global)) (i : ℕ) (name : String Global) (old new whole : List FileName) → i < length names → name ≡ get_or names i name → with_files old (drop i names) ≡ whole → new ≡ with_file old (server_file_of (string_bytes name)) → with_files new (drop (i + 1) names) ≡ whole
files_more names i name old new whole lt is so_far e =
    let next : name ∷ drop (i + 1) names ≡ drop i names = ap (λ (x : String Global). x ∷ drop (i + 1) names) is ∙ sym (drop_more names i name lt) in
    ap (λ (f : List FileName). with_files f (drop (i + 1) names)) e
    ∙ sym (one_file old name (drop (i + 1) names))
    ∙ ap (with_files old) next
    ∙ so_far

pub all_files : (names : List (String Global)) (i : ℕ) (files : List FileName) → length names ≤ i → with_files files (drop i names) ≡ server_files names → files ≡ server_files names
all_files names i files le so_far = sym (ap (with_files files) (drop_all i names le) ∙ no_files files) ∙ so_far
