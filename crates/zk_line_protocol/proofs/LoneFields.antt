-- A field that is a whole text.
use Rattle.std.proofs.Common.{◌≡◌, ◌==◌, ℕ, Bool, false, true, eqb, List, [], ◌++◌, length, Option, Some, None, Result, Ok, Err, refl, sym, ap, subst, ◌∙◌}
use Rattle.std.proofs.lemmas.Option.{cond_some}
use Rattle.zk_listing.specs.declared.list_fault.ListCause.{ListCause}
use Rattle.zk_listing.specs.declared.list_fault.ListCause.TheVariants as causes
use Rattle.zk_listing.specs.Promises.{ReadsFound, ReadsOnly}
use Rattle.zk_listing.specs.Reading.{Makes, IsEnd}
use Rattle.zk_listing.proofs.Exact.{IsExact, bind_some}
use Rattle.zk_request_syntax.specs.Reading.{whole, if_nothing_left, ended_result}
use Rattle.zk_line_protocol.specs.ParsedLines.{MakesBy}
use Rattle.zk_request_syntax.proofs.Ended.{none_of}
use Rattle.zk_request_syntax.proofs.Readings.{nothing_left, something_left}

module _ {Y : Type 0} (spell : Y → List ℕ) (Fits : Y → Type 0) (at : List ℕ → Option (Y × List ℕ)) (f : IsExact spell Fits at) (old : List ℕ) where
  pub whole_takes : (y : Y) → whole (at old) ≡ Some y → Fits y × (old ≡ spell y ++ [])
  whole_takes y h =
      let p = bind_some {B = Y} (at old) if_nothing_left y h in
      let q = cond_some (eqb (length p.0.1) 0) p.0.0 y p.2 in
      let t = f.takes old p.0.0 p.0.1 p.1 in
      let empty : p.0.1 ≡ [] = nothing_left p.0.1 q.0 in
      (subst Fits q.1 t.0, t.1 ∙ ap (λ (r : List ℕ). spell p.0.0 ++ r) empty ∙ ap (λ (v : Y). spell v ++ []) q.1)

  pub whole_again : (y : Y) → Fits y → old ≡ spell y ++ [] → whole (at old) ≡ Some y
  whole_again y fits e = ap (λ (t : List ℕ). whole (at t)) e ∙ ap whole (f.again y [] fits tt)

  module _ {X : Type 0} (view : X → Y) where
    none_alone : ((y : Y) (rest : List ℕ) → Fits y → IsEnd rest → old ≡ spell y ++ rest → ⊥) → whole (at old) ≡ None
    none_alone only = none_of (whole (at old)) (λ y h. let t = whole_takes y h in only y [] t.0 tt t.1)

    refused : (e : Bool) (cause : ListCause) → ended_result {X = X} e (Err cause) ≡ Err cause
    refused true cause = refl
    refused false cause = refl

    so : (r s : Result X ListCause) → r ≡ s → MakesBy view s (whole (at old)) → MakesBy view r (whole (at old))
    so r s e m = subst (λ (v : Result X ListCause). MakesBy view v (whole (at old))) (sym e) m

    found_alone : (x : X) (new : List ℕ) (e : Bool) → eqb (length new) 0 ≡ e → ReadsFound view spell Fits (Ok x) old new → ReadsOnly view spell Fits (Ok x) old new → MakesBy view (ended_result e (Ok x)) (whole (at old))
    found_alone x new true none found only = whole_again (view x) found.0 (found.1 ∙ ap (λ (r : List ℕ). spell (view x) ++ r) (nothing_left new none))
    found_alone x new false left found only = none_of (whole (at old)) (λ y h. let t = whole_takes y h in something_left new left (only y [] t.0 tt t.1).1)

    pub lone_made : (r : Result X ListCause) (new : List ℕ) → ReadsFound view spell Fits r old new → ReadsOnly view spell Fits r old new → MakesBy view (ended_result (length new == 0) r) (whole (at old))
    lone_made (Ok x) new found only = found_alone x new (eqb (length new) 0) refl found only
    lone_made (Err causes.NoMemory) new found only = so (ended_result (length new == 0) (Err causes.NoMemory)) (Err causes.NoMemory) (refused (length new == 0) causes.NoMemory) tt
    lone_made (Err causes.Fields) new found only = so (ended_result (length new == 0) (Err causes.Fields)) (Err causes.Fields) (refused (length new == 0) causes.Fields) (none_alone only)
    lone_made (Err causes.Number) new found only = so (ended_result (length new == 0) (Err causes.Number)) (Err causes.Number) (refused (length new == 0) causes.Number) (none_alone only)
    lone_made (Err causes.Quote) new found only = so (ended_result (length new == 0) (Err causes.Quote)) (Err causes.Quote) (refused (length new == 0) causes.Quote) (none_alone only)
    lone_made (Err causes.Hex) new found only = so (ended_result (length new == 0) (Err causes.Hex)) (Err causes.Hex) (refused (length new == 0) causes.Hex) (none_alone only)
    lone_made (Err causes.Word) new found only = so (ended_result (length new == 0) (Err causes.Word)) (Err causes.Word) (refused (length new == 0) causes.Word) (none_alone only)
    lone_made (Err causes.Path) new found only = so (ended_result (length new == 0) (Err causes.Path)) (Err causes.Path) (refused (length new == 0) causes.Path) (none_alone only)
    lone_made (Err causes.NoNewline) new found only = so (ended_result (length new == 0) (Err causes.NoNewline)) (Err causes.NoNewline) (refused (length new == 0) causes.NoNewline) (none_alone only)

pub made_itself : {X : Type 0} (r : Result X ListCause) (read : Option X) → MakesBy (λ (x : X). x) r read → Makes r read
made_itself (Ok x) read h = h
made_itself (Err cause) read h = h
