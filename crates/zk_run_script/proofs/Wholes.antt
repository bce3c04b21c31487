-- Readings of whole lines, the last field of which may take all that is left.
use Rattle.std.proofs.Common.{◌≡◌, ◌==◌, ◌&&◌, eqb, ℕ, Bool, true, false, cond, List, [], ◌∷◌, ◌++◌, length, Option, Some, None, Result, Ok, Err, refl, sym, ap, subst, ◌∙◌, append_assoc}
use Rattle.std.proofs.lemmas.List.{append-nil}
use Rattle.std.specs.Option.{option_and_then}
use Rattle.zk_listing.specs.declared.list_fault.ListCause.{ListCause}
use Rattle.zk_listing.specs.declared.list_fault.ListCause.TheVariants as causes
use Rattle.zk_listing.specs.Reading.{IsEnd, past, spaced, both, mapped, Takes}
use Rattle.zk_listing.proofs.Exact.{bind_some, first_is, second_is, past_is}
use Rattle.zk_request_syntax.proofs.Readings.{Reads, Next, NextThen, TakesBehind, ReadsWhole, reads_last, nothing_left}

pub whole_last : {X : Type 0} (Spells : X → List ℕ → Type 0) (at : List ℕ → Option (X × List ℕ)) → ReadsWhole Spells at → ReadsWhole (Next Spells) (spaced at)
whole_last {X} Spells at f = record {
  takes = λ bytes x rest h.
      let p = bind_some {B = X × List ℕ} (past 32 bytes) at (x, rest) h in
      let t = f.takes p.0 x rest p.2 in
      (32 ∷ t.0, record { field = t.0; spells = t.1; spelled = refl }, past_is 32 bytes p.0 p.1 ∙ ap (λ (xs : List ℕ). 32 ∷ xs) t.2);
  again = λ x text s. ap (spaced at) s.spelled ∙ f.again x s.field s.spells;
}

pub whole_next : {X Y : Type 0} (Spells : X → List ℕ → Type 0) (at : List ℕ → Option (X × List ℕ)) (Follows : Y → List ℕ → Type 0) (other : List ℕ → Option (Y × List ℕ)) → Reads Spells at → ReadsWhole Follows other → ((y : Y) (text : List ℕ) → Follows y text → IsEnd text) → ReadsWhole (NextThen Spells Follows) (both (spaced at) other)
whole_next {X} {Y} Spells at Follows other f g ends = record {
  takes = λ bytes x rest h.
      let p = bind_some {B = (X × Y) × List ℕ} (spaced at bytes) (λ v. option_and_then (λ y. Some ((v.0, y.0), y.1)) (other v.1)) (x, rest) h in
      let q = bind_some {B = (X × Y) × List ℕ} (other p.0.1) (λ y. Some ((p.0.0, y.0), y.1)) (x, rest) p.2 in
      let values : (p.0.0, q.0.0) ≡ x = first_is ((p.0.0, q.0.0), q.0.1) (x, rest) q.2 in
      let left : q.0.1 ≡ rest = second_is ((p.0.0, q.0.0), q.0.1) (x, rest) q.2 in
      let one = (reads_last Spells at f).takes bytes p.0.0 p.0.1 p.1 in
      let two = g.takes p.0.1 q.0.0 q.0.1 q.1 in
      let text : List ℕ = 32 ∷ (one.1.field ++ two.0) in
      let made : NextThen Spells Follows (p.0.0, q.0.0) text = record { field = one.1.field; others = two.0; spells = one.1.spells; follows = two.1; spelled = refl } in
      let whole : bytes ≡ text ++ q.0.1 = one.2 ∙ ap (λ (t : List ℕ). t ++ p.0.1) one.1.spelled ∙ ap (λ (r : List ℕ). 32 ∷ (one.1.field ++ r)) two.2 ∙ ap (λ (r : List ℕ). 32 ∷ r) (sym (append_assoc one.1.field two.0 q.0.1)) in
      (text, subst (λ (v : X × Y). NextThen Spells Follows v text) values made, whole ∙ ap (λ (r : List ℕ). text ++ r) left);
  again = λ x text s.
      rw (s.spelled, f.again x.0 s.field s.others s.spells (ends x.1 s.others s.follows), g.again x.1 s.others s.follows) refl;
}

-- a field, and what follows it, each of known form
pub next_is : (text field others field' others' : List ℕ) → text ≡ 32 ∷ (field ++ others) → field ≡ field' → others ≡ others' → text ≡ 32 ∷ (field' ++ others')
next_is text field others field' others' e one two = e ∙ ap (λ (f : List ℕ). 32 ∷ (f ++ others)) one ∙ ap (λ (o : List ℕ). 32 ∷ (field' ++ o)) two

pub last_is : (text field field' : List ℕ) → text ≡ 32 ∷ field → field ≡ field' → text ≡ 32 ∷ field'
last_is text field field' e one = e ∙ ap (λ (f : List ℕ). 32 ∷ f) one

pub begins : (text more : List ℕ) → text ≡ 32 ∷ more → IsEnd text
begins text more e = subst IsEnd (sym e) refl

-- what is made of what is read
pub behind_whole : {X Y : Type 0} (Spells : X → List ℕ → Type 0) (at : List ℕ → Option (X × List ℕ)) → ReadsWhole Spells at → (to : X → Y) (word : List ℕ) (Made : Y → List ℕ → Type 0) → ((x : X) (text : List ℕ) → Spells x text → Made (to x) (word ++ text)) → TakesBehind Made word (mapped to at)
behind_whole {X} {Y} Spells at f to word Made made = λ bytes y rest h.
    let p = bind_some {B = Y × List ℕ} (at bytes) (λ v. Some (to v.0, v.1)) (y, rest) h in
    let left : p.0.1 ≡ rest = second_is (to p.0.0, p.0.1) (y, rest) p.2 in
    let same : to p.0.0 ≡ y = first_is (to p.0.0, p.0.1) (y, rest) p.2 in
    let t = f.takes bytes p.0.0 p.0.1 p.1 in
    let whole : word ++ bytes ≡ (word ++ t.0) ++ rest = ap (λ (b : List ℕ). word ++ b) (t.2 ∙ ap (λ (r : List ℕ). t.0 ++ r) left) ∙ sym (append_assoc word t.0 rest) in
    (word ++ t.0, subst (λ (v : Y). Made v (word ++ t.0)) same (made p.0.0 t.0 t.1), whole)

pub mapped_whole : {X Y : Type 0} (at : List ℕ → Option (X × List ℕ)) (to : X → Y) (x : X) (bytes : List ℕ) → at bytes ≡ Some (x, []) → mapped to at bytes ≡ Some (to x, [])
mapped_whole at to x bytes h = rw h refl

-- ---- a line that is tested once it is read

pub and_both : (a b : Bool) → (a && b) ≡ true → (a ≡ true) × (b ≡ true)
and_both true b h = (refl, h)
and_both false b h = absurd (let bad : false ≡ true = h in cc)

no_such : {Y : Type 0} (y : Y) → None ≡ Some y → ⊥
no_such y h = let bad : None ≡ Some y = h in cc

-- what passes the test and leaves nothing is said
pub record IsTested {X : Type 0} (Spells : X → List ℕ → Type 0) (test : X → Bool) (x : X) (text : List ℕ) : Type 0 where
  pub spells : Spells x text
  pub passes : test x ≡ true

module _ {X : Type 0} (Spells : X → List ℕ → Type 0) (at : List ℕ → Option (X × List ℕ)) (f : ReadsWhole Spells at) (test : X → Bool) (text : List ℕ) where
  pub tested_is : (x : X) (left : List ℕ) → at text ≡ Some (x, left) → (length left == 0 && test x) ≡ true → IsTested Spells test x text
  tested_is x left read passed =
      let p = and_both (length left == 0) (test x) passed in
      let t = f.takes text x left read in
      let alone : text ≡ t.0 = t.2 ∙ ap (λ (r : List ℕ). t.0 ++ r) (nothing_left left p.0) ∙ append-nil t.0 in
      record { spells = subst (Spells x) (sym alone) t.1; passes = p.1 }

  pub tested_only : (x y : X) (left : List ℕ) → at text ≡ Some (x, left) → IsTested Spells test y text → y ≡ x
  tested_only x y left read other = sym (first_is (x, left) (y, []) (sym read ∙ f.again y text other.spells))

  pub tested_none : (x y : X) (left : List ℕ) → at text ≡ Some (x, left) → (length left == 0 && test x) ≡ false → IsTested Spells test y text → ⊥
  tested_none x y left read failed other =
      let same : (x, left) ≡ (y, []) = pair_is (sym read ∙ f.again y text other.spells) in
      let passed : (length left == 0 && test x) ≡ true = ap (λ (v : X × List ℕ). length v.1 == 0 && test v.0) same ∙ other.passes in
      let bad : false ≡ true = sym failed ∙ passed in
      cc
    where
      pair_is : {p q : X × List ℕ} → Some p ≡ Some q → p ≡ q
      pair_is h = cc

  pub untold : (y : X) → at text ≡ None → IsTested Spells test y text → ⊥
  untold y none other = no_such (y, []) (sym none ∙ f.again y text other.spells)
