-- Which reads set which watches.
use Rattle.std.proofs.Common.{◌≡◌, ℕ, Bool, true, false, cond, ◌&&◌, ◌||◌, ◌==◌, eq-eqb, List, [], ◌∷◌, Option, Some, None, refl, sym, ap, ◌∙◌}
use Rattle.std.specs.Int.{w64, cast_unsigned}
use Rattle.zk_acl.specs.declared.acl.Id.{Id}
use Rattle.zk_acl.specs.Access.{allows, read_perm}
use Rattle.zk_headline_laws.specs.Traces.{set_by}
use Rattle.zk_headline_laws.specs.ReadWatches.{enables, succeeds, node_read, may_happen, change_at, hears_of, ReadsEnableEvents, OtherSessionsStay, UnwatchedReadsStay}
use Rattle.zk_machine.specs.declared.change.Change.{Change}
use Rattle.zk_machine.specs.declared.change.ChangeKind.{ChangeKind}
use Rattle.zk_machine.specs.declared.change.ChangeKind.TheVariants.{Created, Deleted, DataChanged, ChildrenChanged}
use Rattle.zk_requests.specs.Requests.{is_open}
use Rattle.zk_model.specs.declared.event.Question.{Question}
use Rattle.zk_model.specs.Ensembles.{kind_set, with_set, reply_of}
use Rattle.zk_table.specs.Reads.{names_below, reply_found, reply_to}
use Rattle.zk_table.specs.States.{NodeMap, State, stat_of}
use Rattle.zk_table.specs.Codes.{session_expired, no_auth}
use Rattle.zk_table.specs.declared.node.Node.{Node}
use Rattle.zk_table.specs.declared.read.ReadCall.{ReadCall}
use Rattle.zk_table.specs.declared.read.ReadCall.TheVariants.{GetData, Exists, GetChildren, GetAcl}
use Rattle.zk_table.specs.declared.read.ReadReply.{ReadReply}
use Rattle.zk_table.specs.declared.read.ReadReply.TheVariants.{Content as HasContent, Found, Children as HasChildren, Refused}
use Rattle.zk_table.specs.Replies.{path_read}
use Rattle.zk_watch.proofs.Guide.{told_first, set_told, others_stay, and_false}
use Rattle.zk_watch.proofs.Kept.{watch_cmp_total, by_ordering}
use Rattle.zk_watch.specs.declared.watch.Watch.{Watch}
use Rattle.zk_watch.specs.declared.watch.WatchKind.{WatchKind}
use Rattle.zk_watch.specs.declared.watch.WatchKind.TheVariants.{Content, Children}
use Rattle.zk_watch.specs.WatchLaws.{is_told}
use Rattle.zk_watch.specs.Watching.{hears, waits_for, is_at, is_hit, told_by, first_watch, joined, put, watch_cmp, with_watch}

-- ---- a watch of a kind that a change does not fire adds no event

-- joined to another watch
deaf_join : (session : ℕ) (kind : WatchKind) (path : List ℕ) (change : ChangeKind) (w : Watch) → hears kind change ≡ false → waits_for change (joined (first_watch session kind path) w) ≡ waits_for change w
deaf_join session Content path change w deaf =
    ap (λ b. b || (w.children && hears Children change)) (deaf ∙ sym (ap (λ b. w.content && b) deaf ∙ and_false w.content))
deaf_join session Children path change w deaf =
    ap (λ b. (w.content && hears Content change) || b) (deaf ∙ sym (ap (λ b. w.children && b) deaf ∙ and_false w.children))

-- or alone
deaf_first : (session : ℕ) (kind : WatchKind) (path : List ℕ) (change : ChangeKind) → hears kind change ≡ false → waits_for change (first_watch session kind path) ≡ false
deaf_first session Content path change deaf = ap (λ b. b || false) deaf
deaf_first session Children path change deaf = deaf

-- a watch that a change does not fire leaves the session's events unchanged
deaf_told : (session : ℕ) (kind : WatchKind) (c : Change) (ws : List Watch) → hears kind c.kind ≡ false → is_told session (told_by c (with_watch session kind c.path ws)) ≡ is_told session (told_by c ws)
deaf_told session kind c ws deaf = stay ws
  where
    new : Watch
    new = first_watch session kind c.path

    first : (ws : List Watch) → is_told session (told_by c (new ∷ ws)) ≡ is_told session (told_by c ws)
    first ws =
        told_first c session new ws
        ∙ ap (λ b. (b && new.session == session) || is_told session (told_by c ws)) (ap (λ b. is_at c.path new && b) (deaf_first session kind c.path c.kind deaf) ∙ and_false (is_at c.path new))

    stay : (ws : List Watch) → is_told session (told_by c (put new ws)) ≡ is_told session (told_by c ws)
    stay [] = first []
    stay (w ∷ ws) =
        by_ordering (watch_cmp new w) _ _ _ (λ l. is_told session (told_by c l) ≡ is_told session (told_by c (w ∷ ws)))
        (λ _. first (w ∷ ws))
        (λ _.
        told_first c session (joined new w) ws
        ∙ ap (λ b. ((is_at c.path w && b) && w.session == session) || is_told session (told_by c ws)) (deaf_join session kind c.path c.kind w deaf)
        ∙ sym (told_first c session w ws))
        (λ _.
        told_first c session w (put new ws)
        ∙ ap (λ b. (is_hit c w && w.session == session) || b) (stay ws)
        ∙ sym (told_first c session w ws))

-- ---- a session's events once its watch is set

-- which changes fire a watch, if there is one
abbrev heard : Option WatchKind → ChangeKind → Bool
heard None change = false
heard (Some kind) change = hears kind change

told_with : (session : ℕ) (kind : WatchKind) (c : Change) (ws : List Watch) → is_told session (told_by c (with_watch session kind c.path ws)) ≡ (hears kind c.kind || is_told session (told_by c ws))
told_with session kind c ws = by_hearing (hears kind c.kind) refl
  where
    by_hearing : (b : Bool) → hears kind c.kind ≡ b → is_told session (told_by c (with_watch session kind c.path ws)) ≡ (b || is_told session (told_by c ws))
    by_hearing true is = set_told session kind c ws is
    by_hearing false is = deaf_told session kind c ws is

heard_with : (question : Question) (kind : ChangeKind) (watches : List Watch) (o : Option WatchKind) → hears_of question kind (with_set (path_read question.call) question.session watches o) ≡ (heard o kind || hears_of question kind watches)
heard_with question kind watches None = refl
heard_with question kind watches (Some set) = told_with (cast_unsigned w64 question.session) set (change_at (path_read question.call) kind) watches

-- ---- which watch a call sets

if_read : (call : ReadCall) (auths : List Id) (node : Node) (reply : ReadReply) (kind : ChangeKind) (allowed enabled : Bool)
    → heard (kind_set call (Refused no_auth)) kind ≡ false
    → heard (kind_set call reply) kind ≡ enabled
    → heard (kind_set call (cond allowed reply (Refused no_auth))) kind ≡ (allowed && enabled)
if_read call auths node reply kind true enabled refused told = told
if_read call auths node reply kind false enabled refused told = refused

data_enables : (path : List ℕ) (node : Node) (kind : ChangeKind) → may_happen (Some node) kind ≡ true → hears Content kind ≡ enables (GetData path) kind
data_enables path node Created may = absurd cc
data_enables path node Deleted may = refl
data_enables path node DataChanged may = refl
data_enables path node ChildrenChanged may = refl

exists_enables : (path : List ℕ) (kind : ChangeKind) → hears Content kind ≡ enables (Exists path) kind
exists_enables path Created = refl
exists_enables path Deleted = refl
exists_enables path DataChanged = refl
exists_enables path ChildrenChanged = refl

children_enable : (path : List ℕ) (kind : ChangeKind) → hears Children kind ≡ enables (GetChildren path) kind
children_enable path Created = refl
children_enable path Deleted = refl
children_enable path DataChanged = refl
children_enable path ChildrenChanged = refl

found_sets : (nodes : NodeMap) (call : ReadCall) (auths : List Id) (kind : ChangeKind) (o : Option Node) → may_happen o kind ≡ true → heard (kind_set call (reply_found nodes call auths o)) kind ≡ (succeeds call auths o && enables call kind)
found_sets nodes (GetData path) auths kind None may = refl
found_sets nodes (GetData path) auths kind (Some node) may =
    if_read (GetData path) auths node (HasContent node.content (stat_of nodes path node)) kind (allows node.acl read_perm auths) (enables (GetData path) kind) refl (data_enables path node kind may)
found_sets nodes (Exists path) auths kind None may = exists_enables path kind
found_sets nodes (Exists path) auths kind (Some node) may = exists_enables path kind
found_sets nodes (GetChildren path) auths kind None may = refl
found_sets nodes (GetChildren path) auths kind (Some node) may =
    if_read (GetChildren path) auths node (HasChildren (names_below nodes path) (stat_of nodes path node)) kind (allows node.acl read_perm auths) (enables (GetChildren path) kind) refl (children_enable path kind)
found_sets nodes (GetAcl path) auths kind None may = refl
found_sets nodes (GetAcl path) auths kind (Some node) may = refl

-- a session that is not open sets none
expired_sets : (call : ReadCall) (kind : ChangeKind) → heard (kind_set call (Refused session_expired)) kind ≡ false
expired_sets (GetData path) kind = refl
expired_sets (Exists path) kind = refl
expired_sets (GetChildren path) kind = refl
expired_sets (GetAcl path) kind = refl

reply_sets : (question : Question) (tree : State) (kind : ChangeKind) → may_happen (node_read tree question.call) kind ≡ true → heard (kind_set question.call (reply_of question tree)) kind ≡ (is_open tree question.session && (succeeds question.call question.auths (node_read tree question.call) && enables question.call kind))
reply_sets question tree kind may = by_session (is_open tree question.session)
  where
    by_session : (b : Bool) → heard (kind_set question.call (cond b (reply_to tree question.call question.auths) (Refused session_expired))) kind ≡ (b && (succeeds question.call question.auths (node_read tree question.call) && enables question.call kind))
    by_session true = found_sets tree.nodes question.call question.auths kind (node_read tree question.call) may
    by_session false = expired_sets question.call kind

-- ---- what the guide says

set_when : (question : Question) (reply : ReadReply) (watches : List Watch) → question.watch ≡ true → set_by question reply watches ≡ with_set (path_read question.call) question.session watches (kind_set question.call reply)
set_when question reply watches wants =
    ap (λ b. cond b (with_set (path_read question.call) question.session watches (kind_set question.call reply)) watches) wants

pub reads_enable : ReadsEnableEvents
reads_enable question tree kind watches wants may =
    ap (hears_of question kind) (set_when question (reply_of question tree) watches wants)
    ∙ heard_with question kind watches (kind_set question.call (reply_of question tree))
    ∙ ap (λ b. b || hears_of question kind watches) (reply_sets question tree kind may)

pub unwatched_stay : UnwatchedReadsStay
unwatched_stay question reply watches none =
    ap (λ b. cond b (with_set (path_read question.call) question.session watches (kind_set question.call reply)) watches) none

pub others_hear : OtherSessionsStay
others_hear question reply other change watches apart = by_wish question.watch
  where
    by_kind : (o : Option WatchKind) → is_told other (told_by change (with_set (path_read question.call) question.session watches o)) ≡ is_told other (told_by change watches)
    by_kind None = refl
    by_kind (Some kind) = others_stay (cast_unsigned w64 question.session) other kind (path_read question.call) change watches apart

    by_wish : (b : Bool) → is_told other (told_by change (cond b (with_set (path_read question.call) question.session watches (kind_set question.call reply)) watches)) ≡ is_told other (told_by change watches)
    by_wish true = by_kind (kind_set question.call reply)
    by_wish false = refl
