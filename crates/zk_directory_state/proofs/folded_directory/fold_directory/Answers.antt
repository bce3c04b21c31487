use Rattle.std.proofs.Common.{◌≡◌, ◌+◌, ◌==◌, ◌∙◌, false, ℕ, ℤ, List, length, map, ap, subst, Vec}
use Rattle.std.specs.Borrow.{Bor}
use Rattle.std.specs.Global.{Global}
use Rattle.zk_directory_state.proofs.Held.{some_files}
use Rattle.zk_directory_state.proofs.Spanning.{directory_folded}
use Rattle.zk_directory_state.specs.Logs.{AreGiven, items_of}
use Rattle.zk_directory_state.specs.Records.{FoldsGiven}
use Rattle.zk_directory_state.proofs.folded_directory.fold_directory.Goals as goal

pub returns : goal.returns
returns g c =
    let follows = g.F.RecordFold.follows in
    let bytes = g.L.Folder.bytes_in c.args.logs.now in
    let range = c.args.range in
    let held = c.in_ok-held.held.items in
    let logged = c.in_ok-logged.logged.items in
    let slices = c.in_ok-slices.slices.items in
    let loaded = map items_of c.in_ok-loaded.loaded.items in
    let result = c.fold_given.result in
    let some : false ≡ (length held + length logged == 0) = cc in
    directory_folded follows range (g.S.Folder.names_in c.args.snapshots.now) (g.L.Folder.names_in c.args.logs.now) bytes held logged slices loaded c.args.fold result
    c.in_ok-held.ensures.given c.in_ok-logged.ensures.given (some_files (length held + length logged) some)
    (subst (λ (l : List ℤ). AreGiven bytes l loaded) c.as_slice-3.ensures.value c.in_ok-loaded.ensures.given)
    (c.in_ok-slices.ensures ∙ ap (λ (l : List (Vec ℕ Global)). map items_of l) c.as_slice-4.ensures.value)
    (subst (λ (s : List (Bor (List ℕ))). FoldsGiven follows range held logged s c.args.fold result) c.as_slice-7.ensures.value
    (subst (λ (l : List ℤ). FoldsGiven follows range held l c.as_slice-7.result.now c.args.fold result) c.as_slice-6.ensures.value
    (subst (λ (l : List ℤ). FoldsGiven follows range l c.as_slice-6.result.now c.as_slice-7.result.now c.args.fold result) c.as_slice-5.ensures.value c.fold_given.ensures)))
