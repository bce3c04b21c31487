-- What a reader of listings reads, if a field ends after it.
use Rattle.std.proofs.Common.{◌≡◌, ◌≢◌, ℕ, Bool, true, false, List, [], ◌∷◌, ◌++◌, Option, Some, None, Result, Ok, Err, refl, sym, ap, subst, ◌∙◌}
use Rattle.std.proofs.lemmas.Option.{cond_some}
use Rattle.std.specs.Prelude.{IfErr}
use Rattle.zk_listing.specs.declared.list_fault.ListCause.{ListCause}
use Rattle.zk_listing.specs.declared.list_fault.ListCause.TheVariants as causes
use Rattle.zk_listing.specs.Promises.{ReadsFound, ReadsOnly}
use Rattle.zk_listing.specs.Reading.{IsEnd, TakesBy, Takes}
use Rattle.zk_listing.proofs.Exact.{IsExact, bind_some}
use Rattle.zk_request_syntax.specs.Reading.{at_end, if_ended, ended, ended_result}

pub at_end-is : (rest : List ℕ) → at_end rest ≡ true → IsEnd rest
at_end-is [] h = tt
at_end-is (b ∷ bs) h = h

pub is-at_end : (rest : List ℕ) → IsEnd rest → at_end rest ≡ true
is-at_end [] h = refl
is-at_end (b ∷ bs) h = h

pub none_of : {X : Type 0} (o : Option X) → ((x : X) → o ≡ Some x → ⊥) → o ≡ None
none_of None h = refl
none_of (Some x) h = absurd (h x refl)

-- a reading that ends a field is the reading
pub of_ended : {X : Type 0} (at : List ℕ → Option (X × List ℕ)) (bytes : List ℕ) (x : X × List ℕ) → ended at bytes ≡ Some x → (at bytes ≡ Some x) × (at_end x.1 ≡ true)
of_ended {X} at bytes x h =
    let p = bind_some (at bytes) if_ended x h in
    let q = cond_some (at_end p.0.1) p.0 x p.2 in
    (p.1 ∙ ap (λ (v : X × List ℕ). Some v) q.1, subst (λ (v : X × List ℕ). at_end v.1 ≡ true) q.1 q.0)

pub exact_ended : {X : Type 0} (spell : X → List ℕ) (Fits : X → Type 0) (at : List ℕ → Option (X × List ℕ)) → IsExact spell Fits at → IsExact spell Fits (ended at)
exact_ended spell Fits at f = record {
  takes = λ bytes x rest h. f.takes bytes x rest (of_ended at bytes (x, rest) h).0;
  again = λ x rest fits e. rw (f.again x rest fits e, is-at_end rest e) refl;
}

module _ {X Y : Type 0} (view : X → Y) (spell : Y → List ℕ) (Fits : Y → Type 0) (at : List ℕ → Option (Y × List ℕ)) (f : IsExact spell Fits at) (old : List ℕ) where
  found_ended : (x : X) (new : List ℕ) (e : Bool) → at_end new ≡ e → ReadsFound view spell Fits (Ok x) old new → ReadsOnly view spell Fits (Ok x) old new → TakesBy view (ended_result e (Ok x)) new (ended at old)
  found_ended x new true end found only =
      let read : at old ≡ Some (view x, new) = ap at found.1 ∙ f.again (view x) new found.0 (at_end-is new end) in
      rw (read, end) refl
  found_ended x new false end found only = none_of (ended at old) (λ y h.
      let other = of_ended at old y h in
      let spelled = f.takes old y.0 y.1 other.0 in
      let same = only y.0 y.1 spelled.0 (at_end-is y.1 other.1) spelled.1 in
      let bad : false ≡ true = sym end ∙ ap at_end same.1 ∙ other.1 in
      cc)

  none_ended : ((y : Y) (rest : List ℕ) → Fits y → IsEnd rest → old ≢ spell y ++ rest) → ended at old ≡ None
  none_ended only = none_of (ended at old) (λ y h.
      let other = of_ended at old y h in
      let spelled = f.takes old y.0 y.1 other.0 in
      only y.0 y.1 spelled.0 (at_end-is y.1 other.1) spelled.1)

  refused : (e : Bool) (cause : ListCause) → ended_result {X = X} e (Err cause) ≡ Err cause
  refused true cause = refl
  refused false cause = refl

  pub takes_ended : (r : Result X ListCause) (new : List ℕ) → ReadsFound view spell Fits r old new → ReadsOnly view spell Fits r old new → TakesBy view (ended_result (at_end new) r) new (ended at old)
  takes_ended (Ok x) new found only = found_ended x new (at_end new) refl found only
  takes_ended (Err causes.NoMemory) new found only = rw (refused (at_end new) causes.NoMemory) tt
  takes_ended (Err causes.Fields) new found only = rw (refused (at_end new) causes.Fields) (none_ended only)
  takes_ended (Err causes.Number) new found only = rw (refused (at_end new) causes.Number) (none_ended only)
  takes_ended (Err causes.Quote) new found only = rw (refused (at_end new) causes.Quote) (none_ended only)
  takes_ended (Err causes.Hex) new found only = rw (refused (at_end new) causes.Hex) (none_ended only)
  takes_ended (Err causes.Word) new found only = rw (refused (at_end new) causes.Word) (none_ended only)
  takes_ended (Err causes.Path) new found only = rw (refused (at_end new) causes.Path) (none_ended only)
  takes_ended (Err causes.NoNewline) new found only = rw (refused (at_end new) causes.NoNewline) (none_ended only)

pub takes_itself : {X : Type 0} (r : Result X ListCause) (rest : List ℕ) (read : Option (X × List ℕ)) → TakesBy (λ (x : X). x) r rest read → Takes r rest read
takes_itself (Ok x) rest read h = h
takes_itself (Err cause) rest read h = h

-- a field's end takes no memory
pub ended_without_memory : {X : Type 0} (e : Bool) (r : Result X ListCause) → IfErr r (λ cause. cause ≢ causes.NoMemory) → IfErr (ended_result e r) (λ cause. cause ≢ causes.NoMemory)
ended_without_memory true r h = h
ended_without_memory false (Ok x) h = λ same. cc
ended_without_memory false (Err cause) h = h
