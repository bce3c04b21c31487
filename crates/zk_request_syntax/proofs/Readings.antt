-- Readings of values with several texts: what is read has a text of the form, and each such text is
-- read where a field ends after it.
use Rattle.std.proofs.Common.{◌≡◌, ◌==◌, eqb, ℕ, suc, Bool, true, false, cond, List, [], ◌∷◌, ◌++◌, length, Option, Some, None, Result, Ok, Err, refl, sym, ap, subst, ◌∙◌, append_assoc, arith}
use Rattle.std.proofs.lemmas.List.{append-nil}
use Rattle.std.proofs.lemmas.Bool.{eqb-true}
use Rattle.std.proofs.lemmas.Slice.Eq.{bytes_eq-Decides}
use Rattle.std.specs.List.{AllByRecursion}
use Rattle.std.specs.Option.{option_and_then}
use Rattle.std.specs.Str.{bytes_eq}
use Rattle.zk_listing.specs.declared.list_fault.ListCause.{ListCause}
use Rattle.zk_listing.specs.declared.list_fault.ListCause.TheVariants as causes
use Rattle.zk_listing.specs.Reading.{IsEnd, front_of, back_of, past, spaced, both, mapped, Takes}
use Rattle.zk_listing.proofs.Exact.{IsExact, bind_some, some_is, first_is, second_is, past_is, front-back}
use Rattle.zk_request_syntax.specs.Promises.{ReadsAll}
use Rattle.zk_request_syntax.specs.Reading.{looked_up, by_word, ended_result}

pub record Reads {X : Type 0} (Spells : X → List ℕ → Type 0) (at : List ℕ → Option (X × List ℕ)) : Type 0 where
  pub takes : (bytes : List ℕ) (x : X) (rest : List ℕ) → at bytes ≡ Some (x, rest) → (text : List ℕ) × Spells x text × (bytes ≡ text ++ rest)
  pub again : (x : X) (text rest : List ℕ) → Spells x text → IsEnd rest → at (text ++ rest) ≡ Some (x, rest)

pub reads_exact : {X : Type 0} (spell : X → List ℕ) (Fits : X → Type 0) (at : List ℕ → Option (X × List ℕ)) → IsExact spell Fits at → Reads (λ x text. Fits x × (text ≡ spell x)) at
reads_exact spell Fits at f = record {
  takes = λ bytes x rest h. let t = f.takes bytes x rest h in (spell x, (t.0, refl), t.1);
  again = λ x text rest s e. ap (λ (t : List ℕ). at (t ++ rest)) s.1 ∙ f.again x rest s.0 e;
}

-- ---- fields after spaces

-- a space and a field
pub record Next {X : Type 0} (Spells : X → List ℕ → Type 0) (x : X) (text : List ℕ) : Type 0 where
  pub field : List ℕ
  pub spells : Spells x field
  pub spelled : text ≡ 32 ∷ field

-- a space and a field, and what follows
pub record NextThen {X Y : Type 0} (Spells : X → List ℕ → Type 0) (Follows : Y → List ℕ → Type 0) (x : X × Y) (text : List ℕ) : Type 0 where
  pub field : List ℕ
  pub others : List ℕ
  pub spells : Spells x.0 field
  pub follows : Follows x.1 others
  pub spelled : text ≡ 32 ∷ (field ++ others)

pub begins_with_end : (text more rest : List ℕ) → text ≡ 32 ∷ more → IsEnd (text ++ rest)
begins_with_end text more rest e = subst (λ (t : List ℕ). IsEnd (t ++ rest)) (sym e) refl

pub reads_last : {X : Type 0} (Spells : X → List ℕ → Type 0) (at : List ℕ → Option (X × List ℕ)) → Reads Spells at → Reads (Next Spells) (spaced at)
reads_last {X} Spells at f = record {
  takes = λ bytes x rest h.
      let p = bind_some {B = X × List ℕ} (past 32 bytes) at (x, rest) h in
      let t = f.takes p.0 x rest p.2 in
      (32 ∷ t.0, record { field = t.0; spells = t.1; spelled = refl }, past_is 32 bytes p.0 p.1 ∙ ap (λ (xs : List ℕ). 32 ∷ xs) t.2);
  again = λ x text rest s e.
      ap (λ (t : List ℕ). spaced at (t ++ rest)) s.spelled ∙ f.again x s.field rest s.spells e;
}

pub reads_next : {X Y : Type 0} (Spells : X → List ℕ → Type 0) (at : List ℕ → Option (X × List ℕ)) (Follows : Y → List ℕ → Type 0) (other : List ℕ → Option (Y × List ℕ)) → Reads Spells at → Reads Follows other → ((y : Y) (text rest : List ℕ) → Follows y text → IsEnd (text ++ rest)) → Reads (NextThen Spells Follows) (both (spaced at) other)
reads_next {X} {Y} Spells at Follows other f g ends = record {
  takes = λ bytes x rest h.
      let p = bind_some {B = (X × Y) × List ℕ} (spaced at bytes) (λ v. option_and_then (λ y. Some ((v.0, y.0), y.1)) (other v.1)) (x, rest) h in
      let q = bind_some {B = (X × Y) × List ℕ} (other p.0.1) (λ y. Some ((p.0.0, y.0), y.1)) (x, rest) p.2 in
      let values : (p.0.0, q.0.0) ≡ x = first_is ((p.0.0, q.0.0), q.0.1) (x, rest) q.2 in
      let left : q.0.1 ≡ rest = second_is ((p.0.0, q.0.0), q.0.1) (x, rest) q.2 in
      let one = (reads_last Spells at f).takes bytes p.0.0 p.0.1 p.1 in
      let two = g.takes p.0.1 q.0.0 q.0.1 q.1 in
      let text : List ℕ = 32 ∷ (one.1.field ++ two.0) in
      let made : NextThen Spells Follows (p.0.0, q.0.0) text = record { field = one.1.field; others = two.0; spells = one.1.spells; follows = two.1; spelled = refl } in
      let whole : bytes ≡ text ++ q.0.1 = one.2 ∙ ap (λ (t : List ℕ). t ++ p.0.1) one.1.spelled ∙ ap (λ (r : List ℕ). 32 ∷ (one.1.field ++ r)) two.2 ∙ ap (λ (r : List ℕ). 32 ∷ r) (sym (append_assoc one.1.field two.0 q.0.1)) in
      (text, subst (λ (v : X × Y). NextThen Spells Follows v text) values made, whole ∙ ap (λ (r : List ℕ). text ++ r) left);
  again = λ x text rest s e.
      let split : text ++ rest ≡ 32 ∷ (s.field ++ (s.others ++ rest)) = ap (λ (t : List ℕ). t ++ rest) s.spelled ∙ ap (λ (t : List ℕ). 32 ∷ t) (append_assoc s.field s.others rest) in
      rw (split, f.again x.0 s.field (s.others ++ rest) s.spells (ends x.1 s.others rest s.follows), g.again x.1 s.others rest s.follows e) refl;
}

-- ---- values made of what is read

pub record IsMadeOf {X Y : Type 0} (Spells : X → List ℕ → Type 0) (to : X → Y) (bytes : List ℕ) (y : Y) (rest : List ℕ) : Type 0 where
  pub of : X
  pub text : List ℕ
  pub spells : Spells of text
  pub same : to of ≡ y
  pub split : bytes ≡ text ++ rest

pub mapped_takes : {X Y : Type 0} (Spells : X → List ℕ → Type 0) (at : List ℕ → Option (X × List ℕ)) → Reads Spells at → (to : X → Y) (bytes : List ℕ) (y : Y) (rest : List ℕ) → mapped to at bytes ≡ Some (y, rest) → IsMadeOf Spells to bytes y rest
mapped_takes {X} {Y} Spells at f to bytes y rest h =
    let p = bind_some {B = Y × List ℕ} (at bytes) (λ v. Some (to v.0, v.1)) (y, rest) h in
    let left : p.0.1 ≡ rest = second_is (to p.0.0, p.0.1) (y, rest) p.2 in
    let t = f.takes bytes p.0.0 p.0.1 p.1 in
    record {
      of = p.0.0;
      text = t.0;
      spells = t.1;
      same = first_is (to p.0.0, p.0.1) (y, rest) p.2;
      split = t.2 ∙ ap (λ (r : List ℕ). t.0 ++ r) left;
    }

pub mapped_again : {X Y : Type 0} (Spells : X → List ℕ → Type 0) (at : List ℕ → Option (X × List ℕ)) → Reads Spells at → (to : X → Y) (x : X) (text rest : List ℕ) → Spells x text → IsEnd rest → mapped to at (text ++ rest) ≡ Some (to x, rest)
mapped_again Spells at f to x text rest s e = rw (f.again x text rest s e) refl

-- ---- words

first_or_later : {X : Type 0} (P : List ℕ → X → Type 0) (e : List ℕ × X) → P e.0 e.1 → (word : List ℕ) (x : X) (others : Option X) → (others ≡ Some x → P word x) → (b : Bool) → bytes_eq word e.0 ≡ b → cond b (Some e.1) others ≡ Some x → P word x
first_or_later P e first word x others later true same h =
    let named : P e.0 x = subst (P e.0) (some_is e.1 x h) first in
    subst (λ (w : List ℕ). P w x) (sym ((bytes_eq-Decides word e.0).0 same)) named
first_or_later P e first word x others later false other h = later h

-- what is looked up stands in the table
pub looked_up_is : {X : Type 0} (P : List ℕ → X → Type 0) (table : List (List ℕ × X)) → AllByRecursion (λ e. P e.0 e.1) table → (word : List ℕ) (x : X) → looked_up word table ≡ Some x → P word x
looked_up_is P [] all word x h = absurd (let bad : None ≡ Some x = h in cc)
looked_up_is {X} P (e ∷ es) all word x h = first_or_later P e all.0 word x (looked_up word es) (λ later. looked_up_is P es all.1 word x later) (bytes_eq word e.0) refl h

-- what is read after a word, with the word, has its form
abbrev pub TakesBehind : {X : Type 0} → (X → List ℕ → Type 0) → List ℕ → (List ℕ → Option (X × List ℕ)) → Type 0
TakesBehind {X} Spells word read = (bytes : List ℕ) (x : X) (rest : List ℕ) → read bytes ≡ Some (x, rest) → (text : List ℕ) × Spells x text × (word ++ bytes ≡ text ++ rest)

pub behind_mapped : {X Y : Type 0} (Spells : X → List ℕ → Type 0) (at : List ℕ → Option (X × List ℕ)) → Reads Spells at → (to : X → Y) (word : List ℕ) (Made : Y → List ℕ → Type 0) → ((x : X) (text : List ℕ) → Spells x text → Made (to x) (word ++ text)) → TakesBehind Made word (mapped to at)
behind_mapped {X} {Y} Spells at f to word Made made = λ bytes y rest h.
    let m = mapped_takes Spells at f to bytes y rest h in
    let whole : word ++ bytes ≡ (word ++ m.text) ++ rest = ap (λ (b : List ℕ). word ++ b) m.split ∙ sym (append_assoc word m.text rest) in
    (word ++ m.text, subst (λ (v : Y). Made v (word ++ m.text)) m.same (made m.of m.text m.spells), whole)

pub by_word_takes : {X : Type 0} (Spells : X → List ℕ → Type 0) (words : List (List ℕ × (List ℕ → Option (X × List ℕ)))) → AllByRecursion (λ e. TakesBehind Spells e.0 e.1) words → (bytes : List ℕ) (x : X) (rest : List ℕ) → by_word words bytes ≡ Some (x, rest) → (text : List ℕ) × Spells x text × (bytes ≡ text ++ rest)
by_word_takes {X} Spells words all bytes x rest h =
    let p = bind_some {B = X × List ℕ} (looked_up (front_of bytes) words) (λ read. read (back_of bytes)) (x, rest) h in
    let t = looked_up_is (TakesBehind Spells) words all (front_of bytes) p.0 p.1 (back_of bytes) x rest p.2 in
    (t.0, t.1, front-back bytes ∙ t.2)

-- ---- whole texts

-- what is read of a whole text
pub record ReadsWhole {X : Type 0} (Spells : X → List ℕ → Type 0) (at : List ℕ → Option (X × List ℕ)) : Type 0 where
  pub takes : (bytes : List ℕ) (x : X) (rest : List ℕ) → at bytes ≡ Some (x, rest) → (text : List ℕ) × Spells x text × (bytes ≡ text ++ rest)
  pub again : (x : X) (text : List ℕ) → Spells x text → at text ≡ Some (x, [])

pub whole_of : {X : Type 0} (Spells : X → List ℕ → Type 0) (at : List ℕ → Option (X × List ℕ)) → Reads Spells at → ReadsWhole Spells at
whole_of Spells at f = record {
  takes = f.takes;
  again = λ x text s. ap at (sym (append-nil text)) ∙ f.again x text [] s tt;
}

no_such : {Y : Type 0} (y : Y) → None ≡ Some y → ⊥
no_such y h = let bad : None ≡ Some y = h in cc

pub nothing_left : (rest : List ℕ) → eqb (length rest) 0 ≡ true → rest ≡ []
nothing_left [] h = refl
nothing_left (b ∷ bs) h = absurd (let bad : suc (length bs) ≡ 0 = eqb-true (suc (length bs)) 0 h in omega arith)

pub something_left : (rest : List ℕ) → eqb (length rest) 0 ≡ false → rest ≡ [] → ⊥
something_left [] h e = let bad : true ≡ false = h in cc
something_left (b ∷ bs) h e = let bad : suc (length bs) ≡ 0 = ap length e in omega arith

module _ {X : Type 0} (Spells : X → List ℕ → Type 0) (at : List ℕ → Option (X × List ℕ)) (f : ReadsWhole Spells at) (text : List ℕ) where
  found_all : (x : X) (rest : List ℕ) (none : Bool) → eqb (length rest) 0 ≡ none → at text ≡ Some (x, rest) → ReadsAll Spells text (ended_result none (Ok x))
  found_all x rest true end read =
      let t = f.takes text x rest read in
      let alone : text ≡ t.0 = t.2 ∙ ap (λ (r : List ℕ). t.0 ++ r) (nothing_left rest end) ∙ append-nil t.0 in (
        subst (Spells x) (sym alone) t.1,
        λ other spells. sym (first_is (x, rest) (other, []) (sym read ∙ f.again other text spells)),
      )
  found_all x rest false end read = λ other spells.
      let left : rest ≡ [] = second_is (x, rest) (other, []) (sym read ∙ f.again other text spells) in
      let bad : true ≡ false = sym (ap (λ (r : List ℕ). eqb (length r) 0) left) ∙ end in
      cc

  none_all : at text ≡ None → (x : X) → Spells x text → ⊥
  none_all none x spells = no_such (x, []) (sym none ∙ f.again x text spells)

  refused : (e : Bool) (cause : ListCause) → ended_result {X = X} e (Err cause) ≡ Err cause
  refused true cause = refl
  refused false cause = refl

  pub reads_all : (r : Result X ListCause) (rest : List ℕ) → Takes r rest (at text) → ReadsAll Spells text (ended_result (length rest == 0) r)
  reads_all (Ok x) rest read = found_all x rest (eqb (length rest) 0) refl read
  reads_all (Err causes.NoMemory) rest read = rw (refused (eqb (length rest) 0) causes.NoMemory) tt
  reads_all (Err causes.Fields) rest read = rw (refused (eqb (length rest) 0) causes.Fields) (none_all read)
  reads_all (Err causes.Number) rest read = rw (refused (eqb (length rest) 0) causes.Number) (none_all read)
  reads_all (Err causes.Quote) rest read = rw (refused (eqb (length rest) 0) causes.Quote) (none_all read)
  reads_all (Err causes.Hex) rest read = rw (refused (eqb (length rest) 0) causes.Hex) (none_all read)
  reads_all (Err causes.Word) rest read = rw (refused (eqb (length rest) 0) causes.Word) (none_all read)
  reads_all (Err causes.Path) rest read = rw (refused (eqb (length rest) 0) causes.Path) (none_all read)
  reads_all (Err causes.NoNewline) rest read = rw (refused (eqb (length rest) 0) causes.NoNewline) (none_all read)
