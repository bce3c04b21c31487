-- What is read from known bytes, and appended to them, in two steps.
use Rattle.std.proofs.Common.{◌≡◌, ◌∙◌, ℕ, List, [], ◌++◌, Option, Some, None, refl, sym, ap, append_assoc, append-nil}
use Rattle.std.specs.Io.KnownBytes.{Appends, Consumes, Keeps}

pub consumed_nothing : (a : Option (List ℕ)) → Consumes a a []
consumed_nothing None = tt
consumed_nothing (Some xs) = refl

pub consumed_more : (a b c : Option (List ℕ)) (front piece : List ℕ) → Consumes a b front → Consumes b c piece → Consumes a c (front ++ piece)
consumed_more None b c front piece p q = tt
consumed_more (Some xs) None c front piece p q = absurd p
consumed_more (Some xs) (Some ys) None front piece p q = absurd q
consumed_more (Some xs) (Some ys) (Some zs) front piece p q = p ∙ ap (λ (l : List ℕ). front ++ l) q ∙ sym (append_assoc front piece zs)

pub consumed_kept : (a b c : Option (List ℕ)) (front : List ℕ) → Consumes a b front → Keeps b c → Consumes a c front
consumed_kept None b c front p q = tt
consumed_kept (Some xs) None c front p q = absurd p
consumed_kept (Some xs) (Some ys) None front p q = absurd q
consumed_kept (Some xs) (Some ys) (Some zs) front p q = p ∙ ap (λ (l : List ℕ). front ++ l) (sym q)

pub appended_nothing : (a : Option (List ℕ)) → Appends a a []
appended_nothing None = tt
appended_nothing (Some xs) = sym (append-nil xs)

pub appended_kept : (a b : Option (List ℕ)) → Keeps a b → Appends a b []
appended_kept None b h = tt
appended_kept (Some xs) None h = absurd h
appended_kept (Some xs) (Some ys) h = h ∙ sym (append-nil xs)

pub appended_more : (a b c : Option (List ℕ)) (front piece : List ℕ) → Appends a b front → Appends b c piece → Appends a c (front ++ piece)
appended_more None b c front piece p q = tt
appended_more (Some xs) None c front piece p q = absurd p
appended_more (Some xs) (Some ys) None front piece p q = absurd q
appended_more (Some xs) (Some ys) (Some zs) front piece p q = q ∙ ap (λ (l : List ℕ). l ++ piece) p ∙ append_assoc xs front piece
