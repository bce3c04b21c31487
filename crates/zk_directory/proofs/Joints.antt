-- The entries so far, and the others.
use Rattle.std.proofs.Common.{◌≡◌, ℕ, ℤ, ◌+◌, ◌<◌, ◌≤◌, List, [], ◌∷◌, ◌++◌, length, map, drop, get_or, Option, Some, None, refl, sym, ap, ◌∙◌, append_assoc, append-nil}
use Rattle.std.proofs.lemmas.List.{drop_more, drop_all}
use Rattle.zk_directory.specs.Chains.{Told, told}
use Rattle.zk_directory.specs.Joints.{joint_at, joints_from, with_joint}
use Rattle.zk_directory.specs.declared.chain.LogEntry.{LogEntry}
use Rattle.zk_directory.specs.declared.joint.Joint.{Joint}

no_entries : (proved before : Option ℤ) → joints_from proved before [] ≡ []
unfolding joints_from
no_entries proved before = refl

one_entry : (proved before : Option ℤ) (entry : Told) (entries : List Told) → joints_from proved before (entry ∷ entries) ≡ with_joint (joint_at proved before entry.0) (joints_from proved (Some entry.0) entries)
unfolding joints_from
one_entry proved before entry entries = refl

one_more : (joint : Option Joint) (joints : List Joint) → with_joint joint joints ≡ with_joint joint [] ++ joints
one_more None joints = refl
one_more (Some joint) joints = refl

pub joints_more : (proved before after : Option ℤ) (entries : List LogEntry) (i : ℕ) (d : LogEntry) (old new whole : List Joint) → i < length entries → old ++ joints_from proved before (map told (drop i entries)) ≡ whole
    → new ≡ old ++ with_joint (joint_at proved before (get_or entries i d).zxid) [] → after ≡ Some (get_or entries i d).zxid → new ++ joints_from proved after (map told (drop (i + 1) entries)) ≡ whole
joints_more proved before after entries i d old new whole lt so_far e a =
    let entry = get_or entries i d in
    let here = with_joint (joint_at proved before entry.zxid) [] in
    let rest = joints_from proved (Some entry.zxid) (map told (drop (i + 1) entries)) in
    ap (λ (b : Option ℤ). new ++ joints_from proved b (map told (drop (i + 1) entries))) a
    ∙ ap (λ (l : List Joint). l ++ rest) e
    ∙ append_assoc old here rest
    ∙ ap (λ (l : List Joint). old ++ l) (sym (one_more (joint_at proved before entry.zxid) rest) ∙ sym (one_entry proved before (told entry) (map told (drop (i + 1) entries))))
    ∙ ap (λ (l : List LogEntry). old ++ joints_from proved before (map told l)) (sym (drop_more entries i d lt))
    ∙ so_far

pub all_joints : (proved before : Option ℤ) (entries : List LogEntry) (i : ℕ) (joints whole : List Joint) → length entries ≤ i → joints ++ joints_from proved before (map told (drop i entries)) ≡ whole → joints ≡ whole
all_joints proved before entries i joints whole le so_far =
    sym (append-nil joints)
    ∙ ap (λ (l : List Joint). joints ++ l) (sym (ap (λ (l : List LogEntry). joints_from proved before (map told l)) (drop_all i entries le) ∙ no_entries proved before))
    ∙ so_far
