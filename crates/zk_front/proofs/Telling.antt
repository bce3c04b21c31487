-- The result of an ask, from the contracts of its steps.
use Rattle.std.proofs.Common.{◌≡◌, inl, inr, ℕ, ℤ, List, Result, Ok, Err, refl, sym, ap, subst}
use Rattle.zk_line_protocol.specs.declared.ask.Ask.{Ask}
use Rattle.zk_line_protocol.specs.declared.told.Reply.{Reply}
use Rattle.zk_line_protocol.specs.declared.told.ServiceFault.{ServiceFault}
use Rattle.zk_line_protocol.specs.declared.told.Told.{Told}
use Rattle.zk_ensemble.specs.Views.{EnsembleView}
use Rattle.zk_front.specs.Asks.{session_of, event_of, sought_by, service_fault_of}
use Rattle.zk_front.specs.declared.reply_kind.ReplyKind.{ReplyKind}
use Rattle.zk_front.specs.Arriving.{Delivered, IsUndelivered}
use Rattle.zk_front.specs.Happening.{Happens}
use Rattle.zk_front.specs.Locals.{Asks, IsToldAll, MayReply, Settles, Tells, home_at, reply_by, undelivered_events}
use Rattle.zk_front.specs.declared.local_state.LocalState.{LocalState}
use Rattle.zk_front.specs.declared.ensemble_servers.Servers.{Servers}
use Rattle.zk_machine.specs.declared.change.Change.{Change}
use Rattle.zk_model.specs.declared.answer.Answer.{Answer}
use Rattle.zk_model.specs.declared.event.Event.{Event}
use Rattle.zk_model.specs.declared.fault.EnsembleFault.{EnsembleFault}

-- ---- a reply

abbrev told_so : List Change → Reply → Told
told_so events reply = record { events = events; reply = reply }

pub told_all : (old : LocalState) (session : ℤ) (reply : Reply) (events : List Change) (new : LocalState) → events ≡ undelivered_events old session → IsToldAll old session new → Tells old session (Ok reply) (Ok (record { events = events; reply = reply })) new
told_all old session reply events new is all = (ap (λ (e : List Change). told_so e reply) is, all)

same_reply : (x : Result Reply ServiceFault) (reply : Reply) → MayReply x (Ok reply) → x ≡ Ok reply
same_reply (Ok it) reply (inl is) = sym is
same_reply (Ok it) reply (inr is) = absurd cc
same_reply (Err why) reply is = absurd cc

pub tells_reply : (old : LocalState) (session : ℤ) (x : Result Reply ServiceFault) (reply : Reply) (result : Result Told ServiceFault) (new : LocalState) → MayReply x (Ok reply) → Tells old session (Ok reply) result new → Tells old session x result new
tells_reply old session x reply result new may tells = subst (λ (y : Result Reply ServiceFault). Tells old session y result new) (sym (same_reply x reply may)) tells

same_fault : (a b : ServiceFault) → (let x : Result Reply ServiceFault = Err a in x ≡ Err b) → a ≡ b
same_fault a b is = cc

pub tells_none : (old : LocalState) (session : ℤ) (x : Result Reply ServiceFault) (fault : ServiceFault) (new : LocalState) → MayReply x (Err fault) → new.told.entries ≡ old.told.entries → Tells old session x (Err fault) new
tells_none old session (Ok reply) fault new (inl is) same = absurd cc
tells_none old session (Ok reply) fault new (inr is) same = (same_fault fault _ is, same)
tells_none old session (Err why) fault new is same = (same_fault fault why is, same)

-- ---- after the event

pub settled : (old : LocalState) (mid : Servers) (session : ℤ) (seek : ReplyKind) (answer : Answer) (tag : ℕ) (result : Result Told ServiceFault) (new : LocalState) → Delivered old.servers mid → Tells (record { servers = mid; told = old.told }) session (reply_by seek answer tag mid.ensemble) result new → new.servers ≡ mid → Settles old session seek answer tag result new
settled old mid session seek answer tag result new all tells same =
    inl (record {
      delivered = subst (λ (it : Servers). Delivered old.servers it) (sym same) all;
      tells = subst (λ (it : Servers). Tells (record { servers = it; told = old.told }) session (reply_by seek answer tag it.ensemble) result new) (sym same) tells;
    })

pub unsettled : (old : LocalState) (mid : Servers) (session : ℤ) (seek : ReplyKind) (answer : Answer) (tag : ℕ) (fault : ServiceFault) → IsUndelivered old.servers fault mid → Settles old session seek answer tag (Err fault) (record { servers = mid; told = old.told })
unsettled old mid session seek answer tag fault some = inr (record { fault = fault; is = refl; undelivered = some; told = refl })

-- ---- an ask

pub asks_answered : (old : LocalState) (ask : Ask) (tag : ℕ) (now : ℤ) (session : ℤ) (seek : ReplyKind) (event : Event) (answer : Answer) (mid : EnsembleView) (result : Result Told ServiceFault) (new : LocalState) → session ≡ session_of ask → seek ≡ sought_by ask → event ≡ event_of ask tag now → Happens old.servers.ensemble event (Ok answer) mid → Settles (home_at mid old.servers.arrived old.told) session seek answer tag result new → Asks old ask tag now result new
asks_answered old ask tag now session seek event answer mid result new who what is h ends = record {
  answer = Ok answer;
  mid = mid;
  happens = subst (λ (e : Event). Happens old.servers.ensemble e (Ok answer) mid) is h;
  ends = subst (λ (s : ReplyKind). Settles (home_at mid old.servers.arrived old.told) (session_of ask) s answer tag result new) what
      (subst (λ (s : ℤ). Settles (home_at mid old.servers.arrived old.told) s seek answer tag result new) who ends);
}

pub asks_refused : (old : LocalState) (ask : Ask) (tag : ℕ) (now : ℤ) (event : Event) (why : EnsembleFault) (mid : EnsembleView) (fault : ServiceFault) → event ≡ event_of ask tag now → Happens old.servers.ensemble event (Err why) mid → fault ≡ service_fault_of why → Asks old ask tag now (Err fault) (home_at mid old.servers.arrived old.told)
asks_refused old ask tag now event why mid fault is h same = record {
  answer = Err why;
  mid = mid;
  happens = subst (λ (e : Event). Happens old.servers.ensemble e (Err why) mid) is h;
  ends = record { is = ap (λ (f : ServiceFault). Err f) same; servers = refl; told = refl };
}
