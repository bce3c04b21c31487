-- What a turn writes to links.
use Rattle.std.proofs.Common.{◌≡◌, ◌≢◌, ◌⊎◌, inl, inr, ℕ, ◌+◌, ◌<◌, ◌≤◌, ◌==◌, zero, suc, Bool, true, false, if◌then◌else◌, List, [], ◌∷◌, ◌++◌, length, map, filter, take, drop, set, get_or, slice_get, Option, Some, None, refl, sym, ap, ◌∙◌, append-nil, append_assoc, add-one, below_more, subst, arith}
use Rattle.std.specs.List.{AllByRecursion}
use Rattle.std.proofs.lemmas.Bool.Decides.{nat_tests}
use Rattle.std.proofs.lemmas.List.{take_all, take_more as take_further, map-append, length_push, get_or_default, get_or_push, get_or_append_left}
use Rattle.zab_epoch.specs.declared.message.Message.{Message}
use Rattle.zab_frames.specs.Streams.{HasFrame, frame_of}
use Rattle.zab_frames.specs.Frames.{framed}
use Rattle.zk_peer_links.specs.Links.{LinkView, link_at}
use Rattle.zk_peer_links.specs.Notices.{IsNotice, contents_of_notice, is_same}
use Rattle.zk_peer_links.specs.SessionNotices.{IsSessionNotice, contents_of_session}
use Rattle.zk_peer_links.specs.Outputs.{Appends, IsWritten, Writes, is_for, is_to, listed, news_for, packets_for, sessions_for, those_for, told}
use Rattle.zk_peer_links.specs.Packets.{HasFrameIn, frame_in, frames_in}
use Rattle.zk_peer_links.specs.declared.notice.Notice.{Notice}
use Rattle.zk_peer_links.specs.declared.packet.Packet.{Packet}
use Rattle.zk_peer_links.specs.declared.packet.Packet.TheVariants as packets
use Rattle.zk_peer_links.specs.declared.session_notice.SessionNotice.{SessionNotice}
use Rattle.zk_peer_links.proofs.Streams.{both_all, frames-append, frames-one}
use Rattle.zk_requests.specs.declared.call.Call.{Call}

-- ---- packets after packets

appends_nothing : (old : List ℕ) → Appends [] old old
appends_nothing old = record { whole = sym (append-nil old); each = tt }

appends_one : (packet : Packet) (old new : List ℕ) → HasFrameIn packet → new ≡ old ++ frame_in packet → Appends (packet ∷ []) old new
appends_one packet old new has is = record { whole = is ∙ ap (λ (l : List ℕ). old ++ l) (sym (frames-one packet)); each = (has, tt) }

pub appends_both : (its others : List Packet) (old mid new : List ℕ) → Appends its old mid → Appends others mid new → Appends (its ++ others) old new
appends_both its others old mid new first later = record {
  whole = later.whole ∙ ap (λ (l : List ℕ). l ++ frames_in others) first.whole ∙ append_assoc old (frames_in its) (frames_in others) ∙ ap (λ (l : List ℕ). old ++ l) (sym (frames-append its others));
  each = both_all HasFrameIn its others first.each later.each;
}

appends_as : (its others : List Packet) (old new : List ℕ) → its ≡ others → Appends its old new → Appends others old new
appends_as its others old new same appends = subst (λ (l : List Packet). Appends l old new) same appends

-- ---- the notice

pub nothing_appended : (last : Option Notice) (told notice : Notice) (old new : List ℕ) → last ≡ Some told → is_same told notice ≡ true → new ≡ old → Appends (news_for last notice) old new
nothing_appended last told notice old new is same still =
    appends_as [] (news_for last notice) old new
    (sym (ap (λ (o : Option Notice). news_for o notice) is ∙ ap (λ (b : Bool). if b then [] else packets.Notice notice ∷ []) same))
    (subst (λ (l : List ℕ). Appends [] old l) (sym still) (appends_nothing old))

notice_one : (notice : Notice) (old new : List ℕ) → IsNotice notice → new ≡ old ++ framed (contents_of_notice notice) → Appends (packets.Notice notice ∷ []) old new
notice_one notice old new fits is = appends_one (packets.Notice notice) old new fits is

pub notice_changed : (last : Option Notice) (told notice : Notice) (old new : List ℕ) → last ≡ Some told → is_same told notice ≡ false → IsNotice notice → new ≡ old ++ framed (contents_of_notice notice) → Appends (news_for last notice) old new
notice_changed last told notice old new is same fits written =
    appends_as (packets.Notice notice ∷ []) (news_for last notice) old new
    (sym (ap (λ (o : Option Notice). news_for o notice) is ∙ ap (λ (b : Bool). if b then [] else packets.Notice notice ∷ []) same)) (notice_one notice old new fits written)

pub notice_first : (last : Option Notice) (notice : Notice) (old new : List ℕ) → last ≡ None → IsNotice notice → new ≡ old ++ framed (contents_of_notice notice) → Appends (news_for last notice) old new
notice_first last notice old new is fits written =
    appends_as (packets.Notice notice ∷ []) (news_for last notice) old new (sym (ap (λ (o : Option Notice). news_for o notice) is)) (notice_one notice old new fits written)

-- ---- messages

those_of_none : (peer : ℕ) (found : Option (Message Call)) → None ≡ found → [] ≡ those_for peer (listed found)
those_of_none peer found is = ap (λ (o : Option (Message Call)). those_for peer (listed o)) is

those_if : (peer : ℕ) (message : Message Call) (b : Bool) → is_for peer message ≡ b → those_for peer (message ∷ []) ≡ (if b then packets.Message message ∷ [] else [])
those_if peer message true is = ap (λ (b : Bool). map packets.Message (if b then message ∷ [] else [])) is
those_if peer message false is = ap (λ (b : Bool). map packets.Message (if b then message ∷ [] else [])) is

pub nothing_there : (peer : ℕ) (found : Option (Message Call)) (old new : List ℕ) → None ≡ found → new ≡ old → Appends (those_for peer (listed found)) old new
nothing_there peer found old new is same = appends_as [] (those_for peer (listed found)) old new (those_of_none peer found is) (subst (λ (l : List ℕ). Appends [] old l) (sym same) (appends_nothing old))

pub not_for : (peer : ℕ) (found : Option (Message Call)) (message : Message Call) (old new : List ℕ) → Some message ≡ found → message.addressee ≢ peer → new ≡ old → Appends (those_for peer (listed found)) old new
not_for peer found message old new is other same =
    let no : is_for peer message ≡ false = grind (arith, nat_tests) in
    appends_as [] (those_for peer (listed found)) old new (sym (those_if peer message false no) ∙ ap (λ (o : Option (Message Call)). those_for peer (listed o)) is)
    (subst (λ (l : List ℕ). Appends [] old l) (sym same) (appends_nothing old))

pub is_written : (peer : ℕ) (found : Option (Message Call)) (message : Message Call) (old new : List ℕ) → Some message ≡ found → message.addressee ≡ peer → HasFrame message → new ≡ old ++ frame_of message
    → Appends (those_for peer (listed found)) old new
is_written peer found message old new is mine has written =
    let yes : is_for peer message ≡ true = grind (arith, nat_tests) in
    appends_as (packets.Message message ∷ []) (those_for peer (listed found)) old new (sym (those_if peer message true yes) ∙ ap (λ (o : Option (Message Call)). those_for peer (listed o)) is)
    (appends_one (packets.Message message) old new has written)

taken_or_not : {A : Type 0} (t : Bool) (x : A) (l r : List A) → (if t then x ∷ (l ++ r) else l ++ r) ≡ (if t then x ∷ l else l) ++ r
taken_or_not true x l r = refl
taken_or_not false x l r = refl

filter_both : {A : Type 0} (p : A → Bool) (a b : List A) → filter p (a ++ b) ≡ filter p a ++ filter p b
filter_both p [] b = refl
filter_both {A} p (x ∷ a) b = ap (λ (l : List A). if p x then x ∷ l else l) (filter_both p a b) ∙ taken_or_not (p x) x (filter p a) (filter p b)

those_both : (peer : ℕ) (a b : List (Message Call)) → those_for peer (a ++ b) ≡ those_for peer a ++ those_for peer b
those_both peer a b = ap (map packets.Message) (filter_both (is_for peer) a b) ∙ map-append packets.Message (filter (is_for peer) a) (filter (is_for peer) b)

take_next : {A : Type 0} (xs : List A) (index : ℕ) → take index xs ++ listed (slice_get xs index) ≡ take (index + 1) xs
take_next {A} xs index = (let more : suc index ≡ index + 1 = omega arith in take_more xs index ∙ ap (λ (n : ℕ). take n xs) more)
  where
    take_more : (ys : List A) (i : ℕ) → take i ys ++ listed (slice_get ys i) ≡ take (suc i) ys
    take_more [] zero = refl
    take_more [] (suc i) = refl
    take_more (y ∷ ys) zero = refl
    take_more (y ∷ ys) (suc i) = ap (λ (l : List A). y ∷ l) (take_more ys i)

module _ (peer : ℕ) (messages : List (Message Call)) (old : List ℕ) where
  pub appends_none : Appends (those_for peer (take 0 messages)) old old
  appends_none = appends_nothing old

  pub appends_more : (index : ℕ) (mid new : List ℕ) → Appends (those_for peer (take index messages)) old mid → Appends (those_for peer (listed (slice_get messages index))) mid new
      → Appends (those_for peer (take (index + 1) messages)) old new
  appends_more index mid new so_far one =
      appends_as (those_for peer (take index messages) ++ those_for peer (listed (slice_get messages index))) (those_for peer (take (index + 1) messages)) old new
      (sym (those_both peer (take index messages) (listed (slice_get messages index))) ∙ ap (those_for peer) (take_next messages index))
      (appends_both (those_for peer (take index messages)) (those_for peer (listed (slice_get messages index))) old mid new so_far one)

  pub appends_whole : (index : ℕ) (new : List ℕ) → length messages ≤ index → Appends (those_for peer (take index messages)) old new → Appends (those_for peer messages) old new
  appends_whole index new whole appends = subst (λ (l : List (Message Call)). Appends (those_for peer l) old new) (take_all index messages whole) appends

-- ---- notices about sessions

session_if : (peer : ℕ) (notice : SessionNotice) (b : Bool) → is_to peer notice ≡ b → sessions_for peer (notice ∷ []) ≡ (if b then packets.Session notice ∷ [] else [])
session_if peer notice true is = ap (λ (b : Bool). map packets.Session (if b then notice ∷ [] else [])) is
session_if peer notice false is = ap (λ (b : Bool). map packets.Session (if b then notice ∷ [] else [])) is

pub session_not_for : (peer : ℕ) (notice : SessionNotice) (old new : List ℕ) → notice.addressee ≢ peer → new ≡ old → Appends (sessions_for peer (notice ∷ [])) old new
session_not_for peer notice old new other same =
    let no : is_to peer notice ≡ false = grind (arith, nat_tests) in
    appends_as [] (sessions_for peer (notice ∷ [])) old new (sym (session_if peer notice false no))
    (subst (λ (l : List ℕ). Appends [] old l) (sym same) (appends_nothing old))

pub session_written : (peer : ℕ) (notice : SessionNotice) (old new : List ℕ) → notice.addressee ≡ peer → IsSessionNotice notice → new ≡ old ++ framed (contents_of_session notice)
    → Appends (sessions_for peer (notice ∷ [])) old new
session_written peer notice old new mine fits written =
    let yes : is_to peer notice ≡ true = grind (arith, nat_tests) in
    appends_as (packets.Session notice ∷ []) (sessions_for peer (notice ∷ [])) old new (sym (session_if peer notice true yes))
    (appends_one (packets.Session notice) old new fits written)

sessions_both : (peer : ℕ) (a b : List SessionNotice) → sessions_for peer (a ++ b) ≡ sessions_for peer a ++ sessions_for peer b
sessions_both peer a b = ap (map packets.Session) (filter_both (is_to peer) a b) ∙ map-append packets.Session (filter (is_to peer) a) (filter (is_to peer) b)

module _ (peer : ℕ) (sessions : List SessionNotice) (old : List ℕ) where
  pub sessions_none : Appends (sessions_for peer (take 0 sessions)) old old
  sessions_none = appends_nothing old

  pub sessions_more : (index : ℕ) (notice : SessionNotice) (mid new : List ℕ) → index < length sessions → notice ≡ get_or sessions index notice → Appends (sessions_for peer (take index sessions)) old mid
      → Appends (sessions_for peer (notice ∷ [])) mid new → Appends (sessions_for peer (take (index + 1) sessions)) old new
  sessions_more index notice mid new within is so_far one =
      let more : take (index + 1) sessions ≡ take index sessions ++ notice ∷ [] = take_further sessions index notice within ∙ ap (λ (it : SessionNotice). take index sessions ++ it ∷ []) (sym is) in
      appends_as (sessions_for peer (take index sessions) ++ sessions_for peer (notice ∷ [])) (sessions_for peer (take (index + 1) sessions)) old new
      (sym (sessions_both peer (take index sessions) (notice ∷ [])) ∙ ap (sessions_for peer) (sym more))
      (appends_both (sessions_for peer (take index sessions)) (sessions_for peer (notice ∷ [])) old mid new so_far one)

  pub sessions_whole : (index : ℕ) (new : List ℕ) → length sessions ≤ index → Appends (sessions_for peer (take index sessions)) old new → Appends (sessions_for peer sessions) old new
  sessions_whole index new whole appends = subst (λ (l : List SessionNotice). Appends (sessions_for peer l) old new) (take_all index sessions whole) appends

-- ---- one peer

pub written_none : (peer : ℕ) (notice : Notice) (sessions : List SessionNotice) (messages : List (Message Call)) (slot : Option LinkView) (bytes : List ℕ) → slot ≡ None → bytes ≡ []
    → IsWritten (packets_for peer notice sessions messages slot) bytes
written_none peer notice sessions messages slot bytes is none =
    subst (λ (o : Option LinkView). IsWritten (packets_for peer notice sessions messages o) bytes) (sym is) record { bytes_are = none; each = tt }

pub written_link : (peer : ℕ) (notice : Notice) (sessions : List SessionNotice) (messages : List (Message Call)) (slot : Option LinkView) (link : LinkView) (first mid next bytes : List ℕ) → slot ≡ Some link → first ≡ []
    → Appends (news_for link.told notice) first mid → Appends (sessions_for peer sessions) mid next → Appends (those_for peer messages) next bytes → IsWritten (packets_for peer notice sessions messages slot) bytes
written_link peer notice sessions messages slot link first mid next bytes is none news heard those =
    let later = appends_both (sessions_for peer sessions) (those_for peer messages) mid next bytes heard those in
    let all = appends_both (news_for link.told notice) (sessions_for peer sessions ++ those_for peer messages) first mid bytes news later in
    subst (λ (o : Option LinkView). IsWritten (packets_for peer notice sessions messages o) bytes) (sym is)
    record { bytes_are = all.whole ∙ ap (λ (l : List ℕ). l ++ frames_in (packets_for peer notice sessions messages (Some link))) none; each = all.each }

-- ---- all peers

-- the first links are written to
pub record IsWrittenUpTo (notice : Notice) (sessions : List SessionNotice) (messages : List (Message Call)) (links : List (Option LinkView)) (place : ℕ) (now : List (Option LinkView)) (outputs : List (List ℕ)) : Type 0 where
  pub links_are : now ≡ map (told notice) (take place links) ++ drop place links
  pub count : length outputs ≡ place
  pub each : (k : ℕ) → k < place → IsWritten (packets_for (k + 1) notice sessions messages (link_at links k)) (get_or outputs k [])

changed_at : {X : Type 0} (change : X → X) (all : List X) (i : ℕ) (x y : X) → i < length (map change (take i all) ++ drop i all) → x ≡ get_or (map change (take i all) ++ drop i all) i x → y ≡ change x
    → set (map change (take i all) ++ drop i all) i y ≡ map change (take (suc i) all) ++ drop (suc i) all
changed_at change [] zero x y within is e = absurd (omega (arith, within))
changed_at change [] (suc i) x y within is e = absurd (omega (arith, within))
changed_at change (a ∷ all) zero x y within is e = ap (λ z. z ∷ all) (e ∙ ap change is)
changed_at change (a ∷ all) (suc i) x y within is e =
    let rest : set (map change (take i all) ++ drop i all) i y ≡ map change (take (suc i) all) ++ drop (suc i) all = changed_at change all i x y (omega (arith, within)) is e in
    ap (λ its. change a ∷ its) rest

-- the elements before a place are changed, and now the next one
pub one_more : {X : Type 0} (change : X → X) (all now : List X) (i : ℕ) (x y : X) → now ≡ map change (take i all) ++ drop i all → i < length now → x ≡ get_or now i x → y ≡ change x
    → set now i y ≡ map change (take (i + 1) all) ++ drop (i + 1) all
one_more change all now i x y so_far within is e =
    rw (add-one i) (ap (λ its. set its i y) so_far ∙ changed_at change all i x y (subst (λ its. i < length its) so_far within) (is ∙ ap (λ its. get_or its i x) so_far) e)

here_is : {X : Type 0} (change : X → X) (all : List X) (i : ℕ) (d : X) → get_or (map change (take i all) ++ drop i all) i d ≡ get_or all i d
here_is change [] zero d = refl
here_is change [] (suc i) d = refl
here_is change (x ∷ all) zero d = refl
here_is change (x ∷ all) (suc i) d = here_is change all i d

long_as : {X : Type 0} (change : X → X) (all : List X) (i : ℕ) → length (map change (take i all) ++ drop i all) ≡ length all
long_as change [] zero = refl
long_as change [] (suc i) = refl
long_as change (x ∷ all) zero = refl
long_as change (x ∷ all) (suc i) = ap suc (long_as change all i)

all_changed : {X : Type 0} (change : X → X) (all : List X) (i : ℕ) → length all ≤ i → map change (take i all) ++ drop i all ≡ map change all
all_changed change [] zero whole = refl
all_changed change [] (suc i) whole = refl
all_changed change (x ∷ all) zero whole = absurd (omega arith)
all_changed change (x ∷ all) (suc i) whole = ap (λ l. change x ∷ l) (all_changed change all i (omega arith))

module _ (notice : Notice) (sessions : List SessionNotice) (messages : List (Message Call)) (links : List (Option LinkView)) where
  pub writes_none : IsWrittenUpTo notice sessions messages links 0 links []
  writes_none = record { links_are = refl; count = refl; each = λ k lt. absurd (omega arith) }

  pub writes_more : (place : ℕ) (now : List (Option LinkView)) (outputs : List (List ℕ)) (slot changed : Option LinkView) (bytes : List ℕ) → IsWrittenUpTo notice sessions messages links place now outputs → place < length now
      → slot ≡ get_or now place slot → changed ≡ told notice slot → IsWritten (packets_for (place + 1) notice sessions messages slot) bytes
      → IsWrittenUpTo notice sessions messages links (place + 1) (set now place changed) (outputs ++ bytes ∷ [])
  writes_more place now outputs slot changed bytes so_far within is said written = record {
    links_are = one_more (told notice) links now place slot changed so_far.links_are within is said;
    count = length_push outputs bytes ∙ ap (λ (n : ℕ). n + 1) so_far.count;
    each = below_more (λ (k : ℕ). IsWritten (packets_for (k + 1) notice sessions messages (link_at links k)) (get_or (outputs ++ bytes ∷ []) k [])) place
        (λ k lt. subst (λ (l : List ℕ). IsWritten (packets_for (k + 1) notice sessions messages (link_at links k)) l) (sym (get_or_append_left outputs (bytes ∷ []) [] k (let n = so_far.count in omega arith))) (so_far.each k lt))
        (subst (λ (l : List ℕ). IsWritten (packets_for (place + 1) notice sessions messages (link_at links place)) l) (sym (get_or_push outputs bytes [] place so_far.count))
        (subst (λ (o : Option LinkView). IsWritten (packets_for (place + 1) notice sessions messages o) bytes) (sym slot_is) written));
  }
    where
      slot_is : link_at links place ≡ slot
      slot_is =
          sym (here_is (told notice) links place None) ∙ ap (λ (l : List (Option LinkView)). get_or l place None) (sym so_far.links_are)
          ∙ sym (is ∙ get_or_default now place slot None within)

  pub writes_all : (place : ℕ) (now : List (Option LinkView)) (outputs : List (List ℕ)) → IsWrittenUpTo notice sessions messages links place now outputs → length now ≤ place → place ≤ length now → Writes notice sessions messages links outputs
  writes_all place now outputs so_far whole within =
      let long : length now ≡ length links = ap length so_far.links_are ∙ long_as (told notice) links place in
      record { count = so_far.count ∙ (let n : place ≡ length now = omega arith in n) ∙ long; each = λ k lt. so_far.each k (omega arith) }

  pub told_all : (place : ℕ) (now : List (Option LinkView)) (outputs : List (List ℕ)) → IsWrittenUpTo notice sessions messages links place now outputs → length now ≤ place → now ≡ map (told notice) links
  told_all place now outputs so_far whole =
      let long : length now ≡ length links = ap length so_far.links_are ∙ long_as (told notice) links place in
      so_far.links_are ∙ all_changed (told notice) links place (omega arith)
