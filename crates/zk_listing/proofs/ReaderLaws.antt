-- The contract of a reader with an exact reading.
use Rattle.std.proofs.Common.{◌≡◌, ℕ, List, ◌++◌, Option, Some, None, Result, Ok, Err, OnOk, sym, ap, ◌∙◌, subst}
use Rattle.zk_listing.specs.declared.list_fault.ListCause.{ListCause}
use Rattle.zk_listing.specs.declared.list_fault.ListCause.TheVariants as causes
use Rattle.zk_listing.specs.Promises.{ReadsFound, ReadsOnly}
use Rattle.zk_listing.specs.Reading.{IsEnd, TakesBy, Takes}
use Rattle.zk_listing.proofs.Exact.{IsExact, first_is, second_is}

pub by_view : {X : Type 0} (r : Result X ListCause) (rest : List ℕ) (read : Option (X × List ℕ)) → Takes r rest read → TakesBy {X = X} {Y = X} (λ x. x) r rest read
by_view (Ok x) rest read h = h
by_view (Err cause) rest read h = h

pub reads_found : {X Y : Type 0} (view : X → Y) (spell : Y → List ℕ) (Fits : Y → Type 0) (at : List ℕ → Option (Y × List ℕ)) → IsExact spell Fits at → (r : Result X ListCause) (old new : List ℕ) → TakesBy view r new (at old) → ReadsFound view spell Fits r old new
reads_found view spell Fits at f (Ok x) old new h = f.takes old (view x) new h
reads_found view spell Fits at f (Err cause) old new h = tt

abbrev IsNoneIn : {Y : Type 0} → (Y → List ℕ) → (Y → Type 0) → List ℕ → Type 0
IsNoneIn {Y} spell Fits old = (y : Y) (rest : List ℕ) → Fits y → IsEnd rest → old ≡ spell y ++ rest → ⊥

none_in : {Y : Type 0} (spell : Y → List ℕ) (Fits : Y → Type 0) (at : List ℕ → Option (Y × List ℕ)) → IsExact spell Fits at → (old : List ℕ) → at old ≡ None → IsNoneIn spell Fits old
none_in {Y} spell Fits at f old none y rest fits e spelled =
    let found : at old ≡ Some (y, rest) = ap at spelled ∙ f.again y rest fits e in
    let bad : None ≡ Some (y, rest) = sym none ∙ found in
    cc

pub reads_only : {X Y : Type 0} (view : X → Y) (spell : Y → List ℕ) (Fits : Y → Type 0) (at : List ℕ → Option (Y × List ℕ)) → IsExact spell Fits at → (r : Result X ListCause) (old new : List ℕ) → TakesBy view r new (at old) → ReadsOnly view spell Fits r old new
reads_only {X} {Y} view spell Fits at f (Ok x) old new h = λ y rest fits e spelled.
    let found : at old ≡ Some (y, rest) = ap at spelled ∙ f.again y rest fits e in
    let same : ◌≡◌ {A = Option (Y × List ℕ)} (Some (view x, new)) (Some (y, rest)) = sym h ∙ found in
    (first_is (view x, new) (y, rest) same, second_is (view x, new) (y, rest) same)
reads_only view spell Fits at f (Err causes.NoMemory) old new h = tt
reads_only view spell Fits at f (Err cause) old new h = none_in spell Fits at f old h

-- ---- the same if the input advances only after a value

pub moved_found : {X Y : Type 0} (view : X → Y) (spell : Y → List ℕ) (Fits : Y → Type 0) (at : List ℕ → Option (Y × List ℕ)) → IsExact spell Fits at → (r r' : Result X ListCause) (old new new' : List ℕ)
    → r' ≡ r → OnOk r' (new' ≡ new) → TakesBy view r new (at old) → ReadsFound view spell Fits r' old new'
moved_found {X} view spell Fits at f r (Ok x) old new new' e moved h =
    reads_found view spell Fits at f (Ok x) old new' (subst (λ (n : List ℕ). TakesBy view (Ok x) n (at old)) (sym moved) (subst (λ (q : Result X ListCause). TakesBy view q new (at old)) (sym e) h))
moved_found view spell Fits at f r (Err cause) old new new' e moved h = tt

pub moved_only : {X Y : Type 0} (view : X → Y) (spell : Y → List ℕ) (Fits : Y → Type 0) (at : List ℕ → Option (Y × List ℕ)) → IsExact spell Fits at → (r r' : Result X ListCause) (old new new' : List ℕ)
    → r' ≡ r → OnOk r' (new' ≡ new) → TakesBy view r new (at old) → ReadsOnly view spell Fits r' old new'
moved_only {X} view spell Fits at f r (Ok x) old new new' e moved h =
    reads_only view spell Fits at f (Ok x) old new' (subst (λ (n : List ℕ). TakesBy view (Ok x) n (at old)) (sym moved) (subst (λ (q : Result X ListCause). TakesBy view q new (at old)) (sym e) h))
moved_only {X} view spell Fits at f r (Err cause) old new new' e moved h =
    reads_only view spell Fits at f (Err cause) old new' (subst (λ (q : Result X ListCause). TakesBy view q new (at old)) (sym e) h)
