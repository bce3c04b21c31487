-- What is taken of a connection, by its phase, and of an action that is left.
use Rattle.std.proofs.Common.{◌≡◌, ◌∙◌, ℕ, Bool, false, Option, Some, None, Result, Ok, Err, IfOk, if◌then◌else◌, refl, ap}
use Rattle.zk_client_session.specs.declared.ask.Action.{Action}
use Rattle.zk_client_session.specs.declared.link.Link.{Link}
use Rattle.zk_connections.specs.Inputs.{rests, taken_of, taken_in, taken_first, taken_request, worked}
use Rattle.zk_connections.specs.declared.connection.Connection.{Connection}
use Rattle.zk_connections.specs.declared.connection.Phase.{Phase}
use Rattle.zk_connections.specs.declared.connection.Phase.TheVariants.{New, Connected}
use Rattle.zk_connections.specs.declared.input.Taken.{Taken}

same : (it : Connection) (phase : Phase) → rests it ≡ false → it.phase ≡ phase → taken_of it ≡ taken_in phase it
same it phase goes is =
    ap (λ (ends : Bool). if ends then (it, None) else taken_in it.phase it) goes ∙ ap (λ (phase : Phase). taken_in phase it) is

pub taken_new : {E : Type 0} (it new : Connection) (taken : Result (Option Taken) E) → rests it ≡ false → it.phase ≡ New → IfOk taken (λ one. taken_first it ≡ (new, one)) → IfOk taken (λ one. taken_of it ≡ (new, one))
taken_new it new (Ok one) goes is_new first = same it New goes is_new ∙ first
taken_new it new (Err fault) goes is_new first = first

pub taken_connected : {E : Type 0} (it new : Connection) (link : Link) (taken : Result (Option Taken) E) → rests it ≡ false → it.phase ≡ Connected link → IfOk taken (λ one. taken_request it ≡ (new, one)) → IfOk taken (λ one. taken_of it ≡ (new, one))
taken_connected it new link (Ok one) goes is request = same it (Connected link) goes is ∙ request
taken_connected it new link (Err fault) goes is request = request

-- what was left is replaced
pub left_alone : (parts : Action × Option Action) (n : ℕ) (left : Option Action) (it : Connection) → worked parts n (record it { left = left }) ≡ worked parts n it
left_alone (action, None) n left it = refl
left_alone (part, Some rest) n left it = refl
