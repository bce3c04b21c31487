use Rattle.std.proofs.Common.{◌≡◌, ℕ, ℤ, List, ◌++◌, Option, Some, None, refl, ap, ◌∙◌, subst, rules, w64, to_z, of_z}
use Rattle.std.proofs.lemmas.Int.{to_z-of_z}
use Rattle.std.specs.String.{string_bytes}
use Rattle.zk_commands.specs.LogFolders.{FindsFirst}
use Rattle.zk_directory_state.specs.Names.{log_name}
use Rattle.zk_commands.proofs.log_folder.LogFolder.of.Goals as goal

pub returns-in_ok-push_log_name-in-Some : goal.returns-in_ok-push_log_name-in-Some
returns-in_ok-push_log_name-in-Some c =
    let first : FindsFirst c.args.bytes.items (Some c.in-Some.zxid) =
    subst (λ (l : List ℕ). FindsFirst l (Some c.in-Some.zxid)) c.as_slice.ensures.value (subst (λ (o : Option ℤ). FindsFirst c.as_slice.result.now o) c.in-Some.is c.in_ok-zxid.ensures) in
    let same : to_z w64 (of_z w64 c.in-Some.zxid) ≡ c.in-Some.zxid = to_z-of_z w64 c.in-Some.zxid (search rules) in
    let named : string_bytes c.push_log_name.new.text ≡ string_bytes c.new-name.result ++ log_name (to_z w64 (of_z w64 c.in-Some.zxid)) = c.in_ok-push_log_name-in-Some.ensures in
    (c.in-Some.zxid, first, named ∙ ap (λ (l : List ℕ). l ++ log_name (to_z w64 (of_z w64 c.in-Some.zxid))) c.new-name.ensures.bytes ∙ ap (λ (z : ℤ). log_name z) same, refl)

pub returns-in-None : goal.returns-in-None
returns-in-None c =
    subst (λ (l : List ℕ). FindsFirst l None) c.as_slice.ensures.value (subst (λ (o : Option ℤ). FindsFirst c.as_slice.result.now o) c.in-None.is c.in_ok-zxid.ensures)
