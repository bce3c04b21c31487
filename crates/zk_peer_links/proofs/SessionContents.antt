-- The contents of notices about sessions: reading is the inverse of writing.
use Rattle.std.proofs.Common.{◌≡◌, ◌≢◌, ℕ, ℤ, pos, ◌+◌, ◌≤◌, Bool, true, false, List, [], ◌++◌, length, take, drop, Result, Ok, Err, refl, sym, ap, ◌∙◌, append-nil, append_assoc, arith, rules}
use Rattle.std.specs.Prelude.{FitsSigned}
use Rattle.std.specs.Int.{w32, w64, from_be_bytes, cast_signed, cast_unsigned}
use Rattle.std.specs.Ordering.{int_eq}
use Rattle.std.proofs.lemmas.List.{take-append-drop, take_all, drop-drop, length-take, length-drop}
use Rattle.std.proofs.Math.Seq.{take-add}
use Rattle.zab_epoch.specs.declared.message.Body.{Body}
use Rattle.zab_epoch.specs.declared.message.Body.TheVariants as bodies
use Rattle.zab_epoch.specs.declared.message.Message.{Message}
use Rattle.zab_frames.specs.Messages.{word, long_word, kind_of, contents_of}
use Rattle.zab_frames.specs.Ranges.{IsLongWord}
use Rattle.zab_frames.specs.Reading.{natural_at}
use Rattle.zab_frames.proofs.FieldLaws.{long_word_field}
use Rattle.zk_jute.specs.declared.fault.JuteFault.{JuteFault}
use Rattle.zk_jute.specs.Reading.{number_at}
use Rattle.zk_jute.proofs.Numbers.{IsBytes, ok_is, wide32, wide64}
use Rattle.zk_jute.proofs.Texts.{int_field, long_field}
use Rattle.zk_peer_links.specs.Notices.{contents_of_notice}
use Rattle.zk_peer_links.specs.SessionNotices.{contents_of_session, kind_of_news, IsNoNews, IsSessionNotice}
use Rattle.zk_peer_links.specs.Packets.{IsNoSession}
use Rattle.zk_peer_links.specs.declared.notice.Notice.{Notice}
use Rattle.zk_peer_links.specs.declared.session_notice.SessionNews.{SessionNews}
use Rattle.zk_peer_links.specs.declared.session_notice.SessionNews.TheVariants.{Ping, Touched, Attached}
use Rattle.zk_peer_links.specs.declared.session_notice.SessionNotice.{SessionNotice}
use Rattle.zk_peer_links.proofs.Contents.{IsBytes-cut, kind_again, kind_at, length_of_notice}
use Rattle.zk_records.specs.Records.{int, long}
use Rattle.zk_requests.specs.declared.call.Call.{Call}

-- ---- what is read was written

module _ (bytes : List ℕ) (whole : length bytes ≡ 32) (fits : IsBytes bytes) where
  eight : (at : ℕ) → at + 8 ≤ 32 → long_word (from_be_bytes w64 (take 8 (drop at bytes))) ≡ take 8 (drop at bytes)
  eight at within = wide64.back (take 8 (drop at bytes)) (omega (arith, whole, length-take 8 (drop at bytes), length-drop at bytes)) (IsBytes-cut at 8 bytes fits)

  four : (at : ℕ) → at + 4 ≤ 32 → word (from_be_bytes w32 (take 4 (drop at bytes))) ≡ take 4 (drop at bytes)
  four at within = wide32.back (take 4 (drop at bytes)) (omega (arith, whole, length-take 4 (drop at bytes), length-drop at bytes)) (IsBytes-cut at 4 bytes fits)

  signed_eight : (at : ℕ) → at + 8 ≤ 32 → long (cast_signed w64 (from_be_bytes w64 (take 8 (drop at bytes)))) ≡ take 8 (drop at bytes)
  signed_eight at within = ap long_word (wide64.kept (from_be_bytes w64 (take 8 (drop at bytes))) (wide64.below (take 8 (drop at bytes)) (IsBytes-cut at 8 bytes fits))) ∙ eight at within

  signed_four : (at : ℕ) → at + 4 ≤ 32 → int (cast_signed w32 (from_be_bytes w32 (take 4 (drop at bytes)))) ≡ take 4 (drop at bytes)
  signed_four at within = ap word (wide32.kept (from_be_bytes w32 (take 4 (drop at bytes))) (wide32.below (take 4 (drop at bytes)) (IsBytes-cut at 4 bytes fits))) ∙ four at within

  pub spelled : (notice : SessionNotice) → notice.sender ≡ from_be_bytes w64 (take 8 bytes) → notice.addressee ≡ from_be_bytes w64 (take 8 (drop 8 bytes))
      → kind_of_news notice.news ≡ from_be_bytes w32 (take 4 (drop 16 bytes)) → notice.session ≡ cast_signed w64 (from_be_bytes w64 (take 8 (drop 20 bytes)))
      → notice.timeout ≡ cast_signed w32 (from_be_bytes w32 (take 4 (drop 28 bytes))) → bytes ≡ contents_of_session notice
  unfolding contents_of_session
  spelled notice sender addressee kind session timeout =
      let a : long_word notice.sender ≡ take 8 bytes = ap long_word sender ∙ eight 0 (omega arith) in
      let b : long_word notice.addressee ≡ take 8 (drop 8 bytes) = ap long_word addressee ∙ eight 8 (omega arith) in
      let c : word (kind_of_news notice.news) ≡ take 4 (drop 16 bytes) = ap word kind ∙ four 16 (omega arith) in
      let d : long notice.session ≡ take 8 (drop 20 bytes) = ap long session ∙ signed_eight 20 (omega arith) in
      let e : int notice.timeout ≡ take 4 (drop 28 bytes) = ap int timeout ∙ signed_four 28 (omega arith) in
      let ab : long_word notice.sender ++ long_word notice.addressee ≡ take 16 bytes = joins 8 8 (long_word notice.sender) (long_word notice.addressee) a b in
      let abc : long_word notice.sender ++ long_word notice.addressee ++ word (kind_of_news notice.news) ≡ take 20 bytes =
      joins 16 4 (long_word notice.sender ++ long_word notice.addressee) (word (kind_of_news notice.news)) ab c in
      let abcd : long_word notice.sender ++ long_word notice.addressee ++ word (kind_of_news notice.news) ++ long notice.session ≡ take 28 bytes =
      joins 20 8 (long_word notice.sender ++ long_word notice.addressee ++ word (kind_of_news notice.news)) (long notice.session) abc d in
      let all : contents_of_session notice ≡ take 32 bytes =
      joins 28 4 (long_word notice.sender ++ long_word notice.addressee ++ word (kind_of_news notice.news) ++ long notice.session) (int notice.timeout) abcd e in
      sym (all ∙ take_all 32 bytes (omega (arith, whole)))
    where
      joins : (m n : ℕ) (x y : List ℕ) → x ≡ take m bytes → y ≡ take n (drop m bytes) → x ++ y ≡ take (m + n) bytes
      joins m n x y first later = ap (λ (l : List ℕ). l ++ y) first ∙ ap (λ (l : List ℕ). take m bytes ++ l) later ∙ sym (take-add m n bytes)

-- the same, as it is read in parts
pub spelled_in_parts : (bytes last : List ℕ) (news : SessionNews) (sender addressee kind bits low : ℕ) (session timeout : ℤ) → length bytes ≡ 32 → IsBytes bytes → last ≡ drop 20 bytes
    → sender ≡ from_be_bytes w64 (take 8 bytes) → addressee ≡ from_be_bytes w64 (take 8 (drop 8 bytes)) → kind ≡ from_be_bytes w32 (take 4 (drop 16 bytes)) → kind ≡ kind_of_news news
    → bits ≡ from_be_bytes w64 (take 8 last) → low ≡ from_be_bytes w32 (take 4 (drop 8 last)) → session ≡ cast_signed w64 bits → timeout ≡ cast_signed w32 low
    → bytes ≡ contents_of_session (record { sender = sender; addressee = addressee; news = news; session = session; timeout = timeout })
spelled_in_parts bytes last news sender addressee kind bits low session timeout whole fits last_is a b c is d e signed small =
    spelled bytes whole fits (record { sender = sender; addressee = addressee; news = news; session = session; timeout = timeout }) a b (sym is ∙ c)
    (signed ∙ ap (cast_signed w64) (d ∙ ap (λ (l : List ℕ). from_be_bytes w64 (take 8 l)) last_is))
    (small ∙ ap (cast_signed w32) (e ∙ ap (λ (l : List ℕ). from_be_bytes w32 (take 4 l)) (ap (drop 8) last_is ∙ drop-drop 8 20 bytes)))

-- five parts, written one after the other
pub joined_five : (out a b c d e one two three four five : List ℕ) → one ≡ out ++ a → two ≡ one ++ b → three ≡ two ++ c → four ≡ three ++ d → five ≡ four ++ e
    → five ≡ out ++ ((((a ++ b) ++ c) ++ d) ++ e)
joined_five out a b c d e one two three four five p q r s t =
    next (((a ++ b) ++ c) ++ d) e four five (next ((a ++ b) ++ c) d three four (next (a ++ b) c two three (next a b one two p q) r) s) t
  where
    next : (x y before after : List ℕ) → before ≡ out ++ x → after ≡ before ++ y → after ≡ out ++ (x ++ y)
    next x y before after first later = later ∙ ap (λ (l : List ℕ). l ++ y) first ∙ append_assoc out x y

pub session_fits : (notice : SessionNotice) → (IsLongWord notice.sender × IsLongWord notice.addressee) × (FitsSigned w64 notice.session × FitsSigned w32 notice.timeout) → IsSessionNotice notice
session_fits notice fits = record { sender = fits.0.0; addressee = fits.0.1; session = fits.1.0; timeout = fits.1.1 }

-- ---- what is written is read

pub length_of_session : (notice : SessionNotice) → length (contents_of_session notice) ≡ 32
unfolding contents_of_session
length_of_session notice = refl

kind_by : (news : SessionNews) → from_be_bytes w32 (word (kind_of_news news)) ≡ kind_of_news news
kind_by Ping = refl
kind_by Touched = refl
kind_by Attached = refl

kind_of_session : (notice : SessionNotice) → from_be_bytes w32 (take 4 (drop 16 (contents_of_session notice))) ≡ kind_of_news notice.news
unfolding contents_of_session
kind_of_session notice = kind_by notice.news

pub too_long : (bytes : List ℕ) → length bytes ≢ 32 → IsNoSession bytes
too_long bytes other notice is same = other (ap length same ∙ length_of_session notice)

pub no_news : (bytes : List ℕ) (kind : ℕ) → kind ≡ from_be_bytes w32 (take 4 (drop 16 bytes)) → IsNoNews kind → IsNoSession bytes
no_news bytes kind read none notice is same = none notice.news (read ∙ ap (λ (l : List ℕ). from_be_bytes w32 (take 4 (drop 16 l))) same ∙ kind_of_session notice)

-- ---- no two packets have the same contents

abbrev natural : ℕ × List ℕ → Result (ℕ × List ℕ) JuteFault
natural x = Ok x

abbrev number : ℤ × List ℕ → Result (ℤ × List ℕ) JuteFault
number x = Ok x

naturals : (m n : ℕ) → natural (m, []) ≡ natural (n, []) → m ≡ n
naturals m n e = ap (λ (p : ℕ × List ℕ). p.0) (ok_is (m, []) (n, []) e)

numbers : (m n : ℤ) → number (m, []) ≡ number (n, []) → m ≡ n
numbers m n e = ap (λ (p : ℤ × List ℕ). p.0) (ok_is (m, []) (n, []) e)

sender_read : (notice : SessionNotice) → IsSessionNotice notice → natural_at w64 (take 8 (contents_of_session notice)) ≡ natural (notice.sender, [])
unfolding contents_of_session
sender_read notice is = long_word_field.again notice.sender [] is.sender

addressee_read : (notice : SessionNotice) → IsSessionNotice notice → natural_at w64 (take 8 (drop 8 (contents_of_session notice))) ≡ natural (notice.addressee, [])
unfolding contents_of_session
addressee_read notice is = long_word_field.again notice.addressee [] is.addressee

session_read : (notice : SessionNotice) → IsSessionNotice notice → number_at w64 (take 8 (drop 20 (contents_of_session notice))) ≡ number (notice.session, [])
unfolding contents_of_session
session_read notice is = long_field.again notice.session [] is.session

timeout_read : (notice : SessionNotice) → IsSessionNotice notice → number_at w32 (take 4 (drop 28 (contents_of_session notice))) ≡ number (notice.timeout, [])
unfolding contents_of_session
timeout_read notice is = int_field.again notice.timeout [] is.timeout

news_are : (first second : SessionNews) → kind_of_news first ≡ kind_of_news second → first ≡ second
news_are Ping Ping e = refl
news_are Ping Touched e = absurd (omega (arith, e))
news_are Ping Attached e = absurd (omega (arith, e))
news_are Touched Ping e = absurd (omega (arith, e))
news_are Touched Touched e = refl
news_are Touched Attached e = absurd (omega (arith, e))
news_are Attached Ping e = absurd (omega (arith, e))
news_are Attached Touched e = absurd (omega (arith, e))
news_are Attached Attached e = refl

abbrev made : ℕ → ℕ → SessionNews → ℤ → ℤ → SessionNotice
made sender addressee news session timeout = record { sender = sender; addressee = addressee; news = news; session = session; timeout = timeout }

pub sessions_are_of_one : (first second : SessionNotice) → IsSessionNotice first → IsSessionNotice second → contents_of_session first ≡ contents_of_session second → first ≡ second
sessions_are_of_one first second is other same =
    let sender = naturals first.sender second.sender (sym (sender_read first is) ∙ ap (λ (l : List ℕ). natural_at w64 (take 8 l)) same ∙ sender_read second other) in
    let addressee = naturals first.addressee second.addressee (sym (addressee_read first is) ∙ ap (λ (l : List ℕ). natural_at w64 (take 8 (drop 8 l))) same ∙ addressee_read second other) in
    let news = news_are first.news second.news (sym (kind_of_session first) ∙ ap (λ (l : List ℕ). from_be_bytes w32 (take 4 (drop 16 l))) same ∙ kind_of_session second) in
    let session = numbers first.session second.session (sym (session_read first is) ∙ ap (λ (l : List ℕ). number_at w64 (take 8 (drop 20 l))) same ∙ session_read second other) in
    let timeout = numbers first.timeout second.timeout (sym (timeout_read first is) ∙ ap (λ (l : List ℕ). number_at w32 (take 4 (drop 28 l))) same ∙ timeout_read second other) in
    ap (λ (n : ℕ). made n first.addressee first.news first.session first.timeout) sender
    ∙ ap (λ (n : ℕ). made second.sender n first.news first.session first.timeout) addressee
    ∙ ap (λ (n : SessionNews). made second.sender second.addressee n first.session first.timeout) news
    ∙ ap (λ (z : ℤ). made second.sender second.addressee second.news z first.timeout) session
    ∙ ap (λ (z : ℤ). made second.sender second.addressee second.news second.session z) timeout

-- the lengths differ
pub other_length : (notice : Notice) (session : SessionNotice) → contents_of_notice notice ≡ contents_of_session session → ⊥
other_length notice session same =
    let e : 48 ≡ 32 = sym (length_of_notice notice) ∙ ap length same ∙ length_of_session session in omega (arith, e)

-- no message has the kind
no_message : (body : Body Call) (news : SessionNews) → int_eq (kind_of body) (pos (kind_of_news news)) ≡ false
no_message (bodies.CEpoch promised) Ping = refl
no_message (bodies.CEpoch promised) Touched = refl
no_message (bodies.CEpoch promised) Attached = refl
no_message (bodies.NewEpoch epoch) Ping = refl
no_message (bodies.NewEpoch epoch) Touched = refl
no_message (bodies.NewEpoch epoch) Attached = refl
no_message (bodies.AckEpoch epoch vote current last) Ping = refl
no_message (bodies.AckEpoch epoch vote current last) Touched = refl
no_message (bodies.AckEpoch epoch vote current last) Attached = refl
no_message (bodies.NewLeader epoch keep rest) Ping = refl
no_message (bodies.NewLeader epoch keep rest) Touched = refl
no_message (bodies.NewLeader epoch keep rest) Attached = refl
no_message (bodies.AckLeader epoch count) Ping = refl
no_message (bodies.AckLeader epoch count) Touched = refl
no_message (bodies.AckLeader epoch count) Attached = refl
no_message (bodies.Propose epoch index entry) Ping = refl
no_message (bodies.Propose epoch index entry) Touched = refl
no_message (bodies.Propose epoch index entry) Attached = refl
no_message (bodies.Ack epoch count) Ping = refl
no_message (bodies.Ack epoch count) Touched = refl
no_message (bodies.Ack epoch count) Attached = refl
no_message (bodies.Commit epoch count) Ping = refl
no_message (bodies.Commit epoch count) Touched = refl
no_message (bodies.Commit epoch count) Attached = refl
no_message (bodies.Request epoch call) Ping = refl
no_message (bodies.Request epoch call) Touched = refl
no_message (bodies.Request epoch call) Attached = refl
no_message (bodies.SyncAsk epoch tag) Ping = refl
no_message (bodies.SyncAsk epoch tag) Touched = refl
no_message (bodies.SyncAsk epoch tag) Attached = refl
no_message (bodies.SyncTell epoch tag count) Ping = refl
no_message (bodies.SyncTell epoch tag count) Touched = refl
no_message (bodies.SyncTell epoch tag count) Attached = refl

signed_kind : (news : SessionNews) → cast_signed w32 (kind_of_news news) ≡ pos (kind_of_news news)
signed_kind Ping = refl
signed_kind Touched = refl
signed_kind Attached = refl

same_kind : (z : ℤ) → int_eq z z ≡ true
same_kind z = search rules

pub other_message : (message : Message Call) (notice : SessionNotice) → contents_of message ≡ contents_of_session notice → ⊥
other_message message notice same =
    let kind : kind_of message.body ≡ pos (kind_of_news notice.news) =
    sym (kind_again message.body) ∙ ap (λ (l : List ℕ). cast_signed w32 (from_be_bytes w32 l)) (sym (kind_at message))
    ∙ ap (λ (l : List ℕ). cast_signed w32 (from_be_bytes w32 (take 4 (drop 16 l)))) same ∙ ap (cast_signed w32) (kind_of_session notice) ∙ signed_kind notice.news in
    let no : false ≡ true = sym (no_message message.body notice.news) ∙ ap (λ (z : ℤ). int_eq z (pos (kind_of_news notice.news))) kind ∙ same_kind (pos (kind_of_news notice.news)) in
    absurd cc
