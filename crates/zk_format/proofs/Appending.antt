-- Texts that are appended in order.
use Rattle.std.proofs.Common.{◌≡◌, ℕ, List, [], ◌∷◌, ◌++◌, append_assoc}

pub line_pieces : (old header op end : List ℕ) → (((old ++ header) ++ 32 ∷ []) ++ op) ++ end ≡ old ++ ((header ++ 32 ∷ op) ++ end)
line_pieces old header op end = simp append_assoc

pub entry_pieces : (old perms scheme id : List ℕ) → ((((old ++ perms) ++ 32 ∷ []) ++ scheme) ++ 32 ∷ []) ++ id ≡ old ++ ((perms ++ 32 ∷ scheme) ++ 32 ∷ id)
entry_pieces old perms scheme id = simp append_assoc

pub answer_pieces : (old word zxid own parts : List ℕ) → ((((old ++ word) ++ zxid) ++ 32 ∷ []) ++ own) ++ parts ≡ old ++ (((word ++ zxid) ++ 32 ∷ own) ++ parts)
answer_pieces old word zxid own parts = simp append_assoc
