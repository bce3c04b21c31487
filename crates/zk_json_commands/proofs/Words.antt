-- The words within a line.
use Rattle.std.proofs.Common.{◌≡◌, ◌≢◌, ℕ, ◌+◌, List, ◌++◌, Bor, Option, Some, None, MatchOption, option_map, length, drop, refl, sym, ap, ◌∙◌, codes}
use Rattle.std.proofs.Math.Seq.{drop-append_seam}
use Rattle.zk_verification.specs.Helps.{help_line}
use Rattle.zk_verification.specs.declared.help.Kind.{Kind}
use Rattle.zk_verification.specs.declared.help.Kind.TheVariants as kinds
use Rattle.zk_json_commands.specs.Verifications.{CutsFront, CutsLine}

pub fronted : (B : Type 0) (front text : List ℕ) (found : Option (Bor (List ℕ)))
    → MatchOption found ((rest : List ℕ) → text ≢ front ++ rest) (λ x. (n : ℕ) × ((n ≡ length front) × (text ≡ front ++ drop n text) × B) × (x.now ≡ drop n text) × (length x.now + n ≡ length text))
    → CutsFront front text (option_map (λ (rest : Bor (List ℕ)). rest.now) found)
fronted B front text None none = none
fronted B front text (Some x) m = m.1.1 ∙ ap (λ (rest : List ℕ). front ++ rest) (sym m.2)

-- what follows a front that was cut off
pub same_rest : (front text rest rest' : List ℕ) → text ≡ front ++ rest → text ≡ front ++ rest' → rest ≡ rest'
same_rest front text rest rest' e f = sym (drop-append_seam front rest) ∙ ap (drop (length front)) (sym e ∙ f) ∙ drop-append_seam front rest'

-- each help has words
pub help_words : (kind : Kind) → (words : List ℕ) × (help_line kind ≡ codes "help " ++ (words ++ codes "\n"))
help_words kinds.Snapshot = (codes "S1 to S8: a server passes over a broken snapshot, and begins at an earlier one; move it away", refl)
help_words kinds.Log = (codes "G1 to G5: a server does not start over a broken log; move the directory away, and let the server copy its leader's tree", refl)
help_words kinds.Lost = (codes "lost: a server reads a log no further than to a damaged place, or does not start; move the directory away, and let the server copy its leader's tree", refl)
help_words kinds.Purged = (codes "D2: earlier files were purged; take a snapshot and the logs after it from another server", refl)
help_words kinds.Gap = (codes "D3, missing: transactions are missing; take the logs of another server by --logs", refl)
help_words kinds.Differs = (codes "D4: the logs hold two histories; `zk compare` another server's directory, and keep the logs that agree with it", refl)
help_words kinds.Window = (codes "D5, D6: a log that was written with this snapshot is missing or broken; an earlier or later snapshot serves", refl)
help_words kinds.Unreadable = (codes "G6: the file cannot be read; look at its mode and its disk", refl)
help_words kinds.Digests = (codes "otherDigest: this server's tree is not its leader's; move the directory away, and let the server copy its leader's tree", refl)

pub help_ends : (kind : Kind) (rest : List ℕ) → help_line kind ≡ codes "help " ++ rest → CutsLine rest None → ⊥
help_ends kind rest is none =
    let words = help_words kind in
    none words.0 (same_rest (codes "help ") (help_line kind) rest (words.0 ++ codes "\n") is words.1)
