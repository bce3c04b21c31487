-- Frames, one after another.
use Rattle.std.proofs.Common.{◌≡◌, ◌∙◌, ℕ, ◌+◌, List, [], ◌∷◌, ◌++◌, length, Result, Ok, Err, OnOk, refl, sym, ap, subst}
use Rattle.std.specs.Prelude.{IfErr, OnErr}
use Rattle.std.proofs.lemmas.List.{length-append}
use Rattle.zab_broadcast.specs.Calls.{Setting}
use Rattle.zk_client_port.specs.Execution.{Served}
use Rattle.zk_client_port.specs.Serving.{ServesFrame, ServesFrames}
use Rattle.zk_client_port.specs.declared.admission.Admission.{Admission}
use Rattle.zk_client_port.specs.declared.execution.Moment.{Moment}
use Rattle.zk_connections.specs.declared.input.Taken.{Taken}
use Rattle.zk_requests.specs.declared.call.Call.{Call}

pub record ServedSoFar {S : Type 0} (setting : Setting Call) (moment : Moment) (count : ℕ) (old : Served S) (admission : Admission) (now : Served S) (heard : Admission) : Type 0 where
  pub frames : List Taken
  pub many : length frames ≡ count
  pub serves : ServesFrames setting moment frames old admission now heard

module _ {S : Type 0} (setting : Setting Call) (moment : Moment) where
  serves_more : (frames : List Taken) (taken : Taken) (old between new : Served S) (admission middle heard : Admission)
      → ServesFrames setting moment frames old admission between middle → ServesFrame setting moment taken between middle new heard
      → ServesFrames setting moment (frames ++ taken ∷ []) old admission new heard
  serves_more [] taken old between new admission middle heard serves next =
      let from : ServesFrame setting moment taken old middle new heard = subst (λ (it : Served S). ServesFrame setting moment taken it middle new heard) serves.0 next in
      (new, heard, subst (λ (it : Admission). ServesFrame setting moment taken old it new heard) serves.1 from, (refl, refl))
  serves_more (frame ∷ frames) taken old between new admission middle heard serves next =
      (serves.0, serves.1, serves.2, serves_more frames taken serves.0 between new serves.1 middle heard serves.3 next)

  pub none_served : (old : Served S) (admission : Admission) → ServedSoFar setting moment 0 old admission old admission
  none_served old admission = record { frames = []; many = refl; serves = (refl, refl) }

  pub one_more : (count : ℕ) (taken : Taken) (old between new : Served S) (admission middle heard : Admission)
      → ServedSoFar setting moment count old admission between middle → ServesFrame setting moment taken between middle new heard
      → ServedSoFar setting moment (count + 1) old admission new heard
  one_more count taken old between new admission middle heard so_far next = record {
    frames = so_far.frames ++ taken ∷ [];
    many = length-append so_far.frames (taken ∷ []) ∙ ap (λ (n : ℕ). n + 1) so_far.many;
    serves = serves_more so_far.frames taken old between new admission middle heard so_far.serves next;
  }

pub on_ok : {X E P Q : Type 0} → (result : Result X E) → OnOk result P → (P → Q) → OnOk result Q
on_ok (Ok x) holds then = then holds
on_ok (Err e) holds then = tt

pub on_err : {X E P : Type 0} → (result : Result X E) → P → OnErr result P
on_err (Ok x) holds = tt
on_err (Err e) holds = holds

pub if_err : {X E : Type 0} (result : Result X E) (P : E → Type 0) (fault : E) → result ≡ Err fault → P fault → IfErr result P
if_err {X} result P fault is holds = subst (λ (it : Result X _). IfErr it P) (sym is) holds

pub err_map : {X E : Type 0} {P Q : E → Type 0} → (result : Result X E) → IfErr result P → ((fault : E) → P fault → Q fault) → IfErr result Q
err_map (Ok x) holds then = tt
err_map (Err fault) holds then = then fault holds
