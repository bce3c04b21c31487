-- The asks and the bytes written, in two parts.
use Rattle.std.proofs.Common.{◌≡◌, ℕ, List, [], ◌∷◌, ◌++◌, Option, Some, None, refl, sym, ap, append_assoc, subst}
use Rattle.zk_line_protocol.specs.Answers.{said_line}
use Rattle.zk_line_protocol.specs.Connections.{when_told, IsTold}
use Rattle.zk_line_protocol.specs.declared.ask.Ask.{Ask}
use Rattle.zk_line_protocol.specs.declared.ask.Action.TheVariants as deeds
use Rattle.zk_line_protocol.specs.declared.ask.Immediate.{Immediate}
use Rattle.zk_line_protocol.specs.declared.connection_state.ConnectionState.{ConnectionState}
use Rattle.zk_line_protocol.specs.Lines.{Line}
use Rattle.zk_line_protocol.specs.declared.expected_reply.ExpectedReply.{ExpectedReply}
use Rattle.zk_front.specs.Fronts.{Answer, Output, joined, front, line_doing, after_told}
use Rattle.zk_front.specs.Serving.{Exchange, Follows, Begins}

pub joined_joined : (a a' : List Ask) (b b' : List ℕ) (later : Output) → joined a b (joined a' b' later) ≡ joined (a ++ a') (b ++ b') later
joined_joined a a' b b' later = rw (append_assoc a a' later.0, append_assoc b b' later.1) refl

pub follows_more : {S : Type 0} (does : S → Ask → Answer → S → Type 0) (old mid new : S) (xs ys : List Exchange) → Follows does old xs mid → Follows does mid ys new → Follows does old (xs ++ ys) new
follows_more {S} does old mid new [] ys p q = subst (λ (s : S). Follows does s ys new) p q
follows_more does old mid new (x ∷ xs) ys p q = (p.0, p.1, follows_more does p.0 mid new xs ys p.2 q)

-- ---- one line

pub at_once : (s s' : ConnectionState) (l : Line) (saying : Immediate) (ls : List Line) (told : List Answer) → line_doing s l ≡ (s', deeds.Says saying) → front s (l ∷ ls) told ≡ joined [] (said_line saying) (front s' ls told)
unfolding front
at_once s s' l saying ls told e = rw e refl

pub when_asked : (s s' : ConnectionState) (l : Line) (ask : Ask) (wish : ExpectedReply) (answer : Answer) (x : ConnectionState × List ℕ) (ls : List Line) (told : List Answer) → line_doing s l ≡ (s', deeds.Asks ask wish) → when_told s' wish answer ≡ Some x
    → front s (l ∷ ls) (answer ∷ told) ≡ joined (ask ∷ []) x.1 (front x.0 ls told)
unfolding front
when_asked s s' l ask wish answer x ls told e f = rw (e, f) refl

pub asked_at_least : (s s' : ConnectionState) (l : Line) (ask : Ask) (wish : ExpectedReply) (answer : Answer) (ls : List Line) → line_doing s l ≡ (s', deeds.Asks ask wish) → Begins (front s (l ∷ ls) (answer ∷ [])) (ask ∷ []) []
unfolding front
asked_at_least s s' l ask wish answer ls e = (after_told (when_told s' wish answer) [] (λ s'' told'. front s'' ls told'), rw e refl)

-- the bytes written, if there is a result
pub told_by : (o : Option (ConnectionState × List ℕ)) (s : ConnectionState) (page page' : List ℕ) → IsTold o s page page' → (bytes : List ℕ) × (o ≡ Some (s, bytes)) × (page' ≡ page ++ bytes)
told_by None s page page' t = absurd t
told_by (Some x) s page page' t = (x.1, ap (λ (k : ConnectionState). Some (k, x.1)) (sym t.0), t.1)
