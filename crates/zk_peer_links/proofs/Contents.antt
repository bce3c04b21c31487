-- The contents of notices: reading is the inverse of writing.
use Rattle.std.proofs.Common.{◌≡◌, ◌≢◌, ℕ, ℤ, pos, ◌+◌, ◌≤◌, Bool, true, false, List, [], ◌++◌, length, take, drop, Result, Ok, Err, refl, sym, ap, ◌∙◌, append-nil, append_assoc, arith, lit<}
use Rattle.std.specs.Prelude.{FitsSigned}
use Rattle.std.specs.Int.{w32, w64, from_be_bytes, cast_signed, cast_unsigned}
use Rattle.std.specs.Ordering.{int_eq}
use Rattle.std.proofs.lemmas.List.{take-append-drop, take_all, drop-drop, length-take, length-drop}
use Rattle.std.proofs.Math.Seq.{take-add}
use Rattle.zab_epoch.specs.declared.message.Body.{Body}
use Rattle.zab_epoch.specs.declared.message.Body.TheVariants as bodies
use Rattle.zab_epoch.specs.declared.message.Message.{Message}
use Rattle.zab_frames.specs.Messages.{word, long_word, kind_of, fields_of, body_of, contents_of}
use Rattle.zab_frames.specs.Ranges.{IsLongWord, IsWord}
use Rattle.zab_frames.specs.Reading.{natural_at}
use Rattle.zab_frames.proofs.FieldLaws.{word_field, long_word_field}
use Rattle.zab_host.specs.declared.vote.Vote.{Vote}
use Rattle.zk_jute.specs.declared.fault.JuteFault.{JuteFault}
use Rattle.zk_jute.specs.Reading.{number_at}
use Rattle.zk_jute.proofs.Numbers.{IsBytes, IsBytes-between, ok_is, wide32, wide64}
use Rattle.zk_jute.proofs.Texts.{int_field, long_field}
use Rattle.zk_peer_links.specs.Notices.{contents_of_notice, IsNotice}
use Rattle.zk_peer_links.specs.Packets.{IsNoNotice}
use Rattle.zk_peer_links.specs.declared.notice.Notice.{Notice}
use Rattle.zk_records.specs.Records.{int, long}
use Rattle.zk_requests.specs.declared.call.Call.{Call}

-- ---- what is read was written

pub IsBytes-cut : (m n : ℕ) (bytes : List ℕ) → IsBytes bytes → IsBytes (take n (drop m bytes))
IsBytes-cut m n bytes fits =
    IsBytes-between bytes (take m bytes) (take n (drop m bytes)) (drop n (drop m bytes))
    (sym (append_assoc (take m bytes) (take n (drop m bytes)) (drop n (drop m bytes)) ∙ ap (λ (l : List ℕ). take m bytes ++ l) (take-append-drop n (drop m bytes)) ∙ take-append-drop m bytes)) fits

module _ (bytes : List ℕ) (whole : length bytes ≡ 48) (fits : IsBytes bytes) where
  eight : (at : ℕ) → at + 8 ≤ 48 → long_word (from_be_bytes w64 (take 8 (drop at bytes))) ≡ take 8 (drop at bytes)
  eight at within = wide64.back (take 8 (drop at bytes)) (omega (arith, whole, length-take 8 (drop at bytes), length-drop at bytes)) (IsBytes-cut at 8 bytes fits)

  four : (at : ℕ) → at + 4 ≤ 48 → word (from_be_bytes w32 (take 4 (drop at bytes))) ≡ take 4 (drop at bytes)
  four at within = wide32.back (take 4 (drop at bytes)) (omega (arith, whole, length-take 4 (drop at bytes), length-drop at bytes)) (IsBytes-cut at 4 bytes fits)

  signed_eight : (at : ℕ) → at + 8 ≤ 48 → long (cast_signed w64 (from_be_bytes w64 (take 8 (drop at bytes)))) ≡ take 8 (drop at bytes)
  signed_eight at within = ap long_word (wide64.kept (from_be_bytes w64 (take 8 (drop at bytes))) (wide64.below (take 8 (drop at bytes)) (IsBytes-cut at 8 bytes fits))) ∙ eight at within

  pub spelled : (notice : Notice) → notice.vote.server ≡ from_be_bytes w64 (take 8 bytes) → 0 ≡ from_be_bytes w64 (take 8 (drop 8 bytes))
      → 12 ≡ from_be_bytes w32 (take 4 (drop 16 bytes)) → notice.round ≡ from_be_bytes w64 (take 8 (drop 20 bytes))
      → notice.vote.epoch ≡ from_be_bytes w32 (take 4 (drop 28 bytes)) → notice.vote.zxid ≡ cast_signed w64 (from_be_bytes w64 (take 8 (drop 32 bytes)))
      → notice.leader ≡ from_be_bytes w64 (take 8 (drop 40 bytes)) → bytes ≡ contents_of_notice notice
  unfolding contents_of_notice
  spelled notice server nobody kind round epoch zxid leader =
      let a : long_word notice.vote.server ≡ take 8 bytes = ap long_word server ∙ eight 0 (omega arith) in
      let b : long_word 0 ≡ take 8 (drop 8 bytes) = ap long_word nobody ∙ eight 8 (omega arith) in
      let c : int (pos 12) ≡ take 4 (drop 16 bytes) = ap word kind ∙ four 16 (omega arith) in
      let d : long_word notice.round ≡ take 8 (drop 20 bytes) = ap long_word round ∙ eight 20 (omega arith) in
      let e : word notice.vote.epoch ≡ take 4 (drop 28 bytes) = ap word epoch ∙ four 28 (omega arith) in
      let f : long notice.vote.zxid ≡ take 8 (drop 32 bytes) = ap long zxid ∙ signed_eight 32 (omega arith) in
      let g : long_word notice.leader ≡ take 8 (drop 40 bytes) = ap long_word leader ∙ eight 40 (omega arith) in
      let ab : long_word notice.vote.server ++ long_word 0 ≡ take 16 bytes = joins 8 8 (long_word notice.vote.server) (long_word 0) a b in
      let abc : long_word notice.vote.server ++ long_word 0 ++ int (pos 12) ≡ take 20 bytes = joins 16 4 (long_word notice.vote.server ++ long_word 0) (int (pos 12)) ab c in
      let abcd : long_word notice.vote.server ++ long_word 0 ++ int (pos 12) ++ long_word notice.round ≡ take 28 bytes =
      joins 20 8 (long_word notice.vote.server ++ long_word 0 ++ int (pos 12)) (long_word notice.round) abc d in
      let abcde : long_word notice.vote.server ++ long_word 0 ++ int (pos 12) ++ long_word notice.round ++ word notice.vote.epoch ≡ take 32 bytes =
      joins 28 4 (long_word notice.vote.server ++ long_word 0 ++ int (pos 12) ++ long_word notice.round) (word notice.vote.epoch) abcd e in
      let abcdef : long_word notice.vote.server ++ long_word 0 ++ int (pos 12) ++ long_word notice.round ++ word notice.vote.epoch ++ long notice.vote.zxid ≡ take 40 bytes =
      joins 32 8 (long_word notice.vote.server ++ long_word 0 ++ int (pos 12) ++ long_word notice.round ++ word notice.vote.epoch) (long notice.vote.zxid) abcde f in
      let all : contents_of_notice notice ≡ take 48 bytes =
      joins 40 8 (long_word notice.vote.server ++ long_word 0 ++ int (pos 12) ++ long_word notice.round ++ word notice.vote.epoch ++ long notice.vote.zxid) (long_word notice.leader) abcdef g in
      sym (all ∙ take_all 48 bytes (omega (arith, whole)))
    where
      joins : (m n : ℕ) (x y : List ℕ) → x ≡ take m bytes → y ≡ take n (drop m bytes) → x ++ y ≡ take (m + n) bytes
      joins m n x y first later = ap (λ (l : List ℕ). l ++ y) first ∙ ap (λ (l : List ℕ). take m bytes ++ l) later ∙ sym (take-add m n bytes)

-- the same, as it is read in parts
pub spelled_in_parts : (bytes middle last : List ℕ) (round epoch server leader bits : ℕ) (zxid : ℤ) → length bytes ≡ 48 → IsBytes bytes → middle ≡ drop 20 bytes → last ≡ drop 20 middle
    → server ≡ from_be_bytes w64 (take 8 bytes) → 0 ≡ from_be_bytes w64 (take 8 (drop 8 bytes)) → 12 ≡ from_be_bytes w32 (take 4 (drop 16 bytes)) → round ≡ from_be_bytes w64 (take 8 middle)
    → epoch ≡ from_be_bytes w32 (take 4 (drop 8 middle)) → bits ≡ from_be_bytes w64 (take 8 (drop 12 middle)) → zxid ≡ cast_signed w64 bits → leader ≡ from_be_bytes w64 (take 8 last)
    → bytes ≡ contents_of_notice (record { round = round; vote = record { epoch = epoch; zxid = cast_signed w64 (cast_unsigned w64 zxid); server = server }; leader = leader })
spelled_in_parts bytes middle last round epoch server leader bits zxid whole fits middle_is last_is a b c d e f signed g =
    let read = from_be_bytes w64 (take 8 (drop 32 bytes)) in
    let bits_are : bits ≡ read = f ∙ ap (λ (l : List ℕ). from_be_bytes w64 (take 8 l)) (ap (drop 12) middle_is ∙ drop-drop 12 20 bytes) in
    spelled bytes whole fits (record { round = round; vote = record { epoch = epoch; zxid = cast_signed w64 (cast_unsigned w64 zxid); server = server }; leader = leader }) a b c
    (d ∙ ap (λ (l : List ℕ). from_be_bytes w64 (take 8 l)) middle_is)
    (e ∙ ap (λ (l : List ℕ). from_be_bytes w32 (take 4 l)) (ap (drop 8) middle_is ∙ drop-drop 8 20 bytes))
    (ap (λ (z : ℤ). cast_signed w64 (cast_unsigned w64 z)) (signed ∙ ap (cast_signed w64) bits_are)
    ∙ ap (cast_signed w64) (wide64.kept read (wide64.below (take 8 (drop 32 bytes)) (IsBytes-cut 32 8 bytes fits))))
    (g ∙ ap (λ (l : List ℕ). from_be_bytes w64 (take 8 l)) (last_is ∙ ap (drop 20) middle_is ∙ drop-drop 20 20 bytes))

-- seven parts, written one after the other
pub joined_seven : (out a b c d e f g one two three four five six seven : List ℕ) → one ≡ out ++ a → two ≡ one ++ b → three ≡ two ++ c → four ≡ three ++ d → five ≡ four ++ e → six ≡ five ++ f → seven ≡ six ++ g
    → seven ≡ out ++ ((((((a ++ b) ++ c) ++ d) ++ e) ++ f) ++ g)
joined_seven out a b c d e f g one two three four five six seven p q r s t u v =
    next (((((a ++ b) ++ c) ++ d) ++ e) ++ f) g six seven (next ((((a ++ b) ++ c) ++ d) ++ e) f five six (next (((a ++ b) ++ c) ++ d) e four five (next ((a ++ b) ++ c) d three four (next (a ++ b) c two three (next a b one two p q) r) s) t) u) v
  where
    next : (x y before after : List ℕ) → before ≡ out ++ x → after ≡ before ++ y → after ≡ out ++ (x ++ y)
    next x y before after first later = later ∙ ap (λ (l : List ℕ). l ++ y) first ∙ append_assoc out x y

pub notice_fits : (notice : Notice) → (IsLongWord notice.vote.server × IsLongWord notice.round) × (IsWord notice.vote.epoch × (FitsSigned w64 notice.vote.zxid × IsLongWord notice.leader)) → IsNotice notice
notice_fits notice fits = record { server = fits.0.0; round = fits.0.1; epoch = fits.1.0; zxid = fits.1.1.0; leader = fits.1.1.1 }

-- ---- what is written is read

pub length_of_notice : (notice : Notice) → length (contents_of_notice notice) ≡ 48
unfolding contents_of_notice
length_of_notice notice = refl

nobody_of : (notice : Notice) → from_be_bytes w64 (take 8 (drop 8 (contents_of_notice notice))) ≡ 0
unfolding contents_of_notice
nobody_of notice = refl

kind_of_notice : (notice : Notice) → from_be_bytes w32 (take 4 (drop 16 (contents_of_notice notice))) ≡ 12
unfolding contents_of_notice
kind_of_notice notice = refl

pub too_long : (bytes : List ℕ) → length bytes ≢ 48 → IsNoNotice bytes
too_long bytes other notice is same = other (ap length same ∙ length_of_notice notice)

pub other_addressee : (bytes : List ℕ) (addressee : ℕ) → addressee ≡ from_be_bytes w64 (take 8 (drop 8 bytes)) → addressee ≢ 0 → IsNoNotice bytes
other_addressee bytes addressee read other notice is same = other (read ∙ ap (λ (l : List ℕ). from_be_bytes w64 (take 8 (drop 8 l))) same ∙ nobody_of notice)

pub other_kind : (bytes : List ℕ) (kind : ℕ) → kind ≡ from_be_bytes w32 (take 4 (drop 16 bytes)) → kind ≢ 12 → IsNoNotice bytes
other_kind bytes kind read other notice is same = other (read ∙ ap (λ (l : List ℕ). from_be_bytes w32 (take 4 (drop 16 l))) same ∙ kind_of_notice notice)

-- ---- no two packets have the same contents

abbrev natural : ℕ × List ℕ → Result (ℕ × List ℕ) JuteFault
natural x = Ok x

abbrev number : ℤ × List ℕ → Result (ℤ × List ℕ) JuteFault
number x = Ok x

naturals : (m n : ℕ) → natural (m, []) ≡ natural (n, []) → m ≡ n
naturals m n e = ap (λ (p : ℕ × List ℕ). p.0) (ok_is (m, []) (n, []) e)

numbers : (m n : ℤ) → number (m, []) ≡ number (n, []) → m ≡ n
numbers m n e = ap (λ (p : ℤ × List ℕ). p.0) (ok_is (m, []) (n, []) e)

server_read : (notice : Notice) → IsNotice notice → natural_at w64 (take 8 (contents_of_notice notice)) ≡ natural (notice.vote.server, [])
unfolding contents_of_notice
server_read notice is = long_word_field.again notice.vote.server [] is.server

round_read : (notice : Notice) → IsNotice notice → natural_at w64 (take 8 (drop 20 (contents_of_notice notice))) ≡ natural (notice.round, [])
unfolding contents_of_notice
round_read notice is = long_word_field.again notice.round [] is.round

epoch_read : (notice : Notice) → IsNotice notice → natural_at w32 (take 4 (drop 28 (contents_of_notice notice))) ≡ natural (notice.vote.epoch, [])
unfolding contents_of_notice
epoch_read notice is = word_field.again notice.vote.epoch [] is.epoch

zxid_read : (notice : Notice) → IsNotice notice → number_at w64 (take 8 (drop 32 (contents_of_notice notice))) ≡ number (notice.vote.zxid, [])
unfolding contents_of_notice
zxid_read notice is = long_field.again notice.vote.zxid [] is.zxid

leader_read : (notice : Notice) → IsNotice notice → natural_at w64 (take 8 (drop 40 (contents_of_notice notice))) ≡ natural (notice.leader, [])
unfolding contents_of_notice
leader_read notice is = long_word_field.again notice.leader [] is.leader

abbrev made : ℕ → ℕ → ℤ → ℕ → ℕ → Notice
made round epoch zxid server leader = record { round = round; vote = record { epoch = epoch; zxid = zxid; server = server }; leader = leader }

pub notices_are_of_one : (first second : Notice) → IsNotice first → IsNotice second → contents_of_notice first ≡ contents_of_notice second → first ≡ second
notices_are_of_one first second is other same =
    let server = naturals first.vote.server second.vote.server (sym (server_read first is) ∙ ap (λ (l : List ℕ). natural_at w64 (take 8 l)) same ∙ server_read second other) in
    let round = naturals first.round second.round (sym (round_read first is) ∙ ap (λ (l : List ℕ). natural_at w64 (take 8 (drop 20 l))) same ∙ round_read second other) in
    let epoch = naturals first.vote.epoch second.vote.epoch (sym (epoch_read first is) ∙ ap (λ (l : List ℕ). natural_at w32 (take 4 (drop 28 l))) same ∙ epoch_read second other) in
    let zxid = numbers first.vote.zxid second.vote.zxid (sym (zxid_read first is) ∙ ap (λ (l : List ℕ). number_at w64 (take 8 (drop 32 l))) same ∙ zxid_read second other) in
    let leader = naturals first.leader second.leader (sym (leader_read first is) ∙ ap (λ (l : List ℕ). natural_at w64 (take 8 (drop 40 l))) same ∙ leader_read second other) in
    ap (λ (n : ℕ). made n first.vote.epoch first.vote.zxid first.vote.server first.leader) round
    ∙ ap (λ (n : ℕ). made second.round n first.vote.zxid first.vote.server first.leader) epoch
    ∙ ap (λ (z : ℤ). made second.round second.vote.epoch z first.vote.server first.leader) zxid
    ∙ ap (λ (n : ℕ). made second.round second.vote.epoch second.vote.zxid n first.leader) server
    ∙ ap (λ (n : ℕ). made second.round second.vote.epoch second.vote.zxid second.vote.server n) leader

-- no message has a notice's kind
not_twelve : (body : Body Call) → int_eq (kind_of body) (pos 12) ≡ false
not_twelve (bodies.CEpoch promised) = refl
not_twelve (bodies.NewEpoch epoch) = refl
not_twelve (bodies.AckEpoch epoch vote current last) = refl
not_twelve (bodies.NewLeader epoch keep rest) = refl
not_twelve (bodies.AckLeader epoch count) = refl
not_twelve (bodies.Propose epoch index entry) = refl
not_twelve (bodies.Ack epoch count) = refl
not_twelve (bodies.Commit epoch count) = refl
not_twelve (bodies.Request epoch call) = refl
not_twelve (bodies.SyncAsk epoch tag) = refl
not_twelve (bodies.SyncTell epoch tag count) = refl

pub kind_again : (body : Body Call) → cast_signed w32 (from_be_bytes w32 (int (kind_of body))) ≡ kind_of body
kind_again (bodies.CEpoch promised) = refl
kind_again (bodies.NewEpoch epoch) = refl
kind_again (bodies.AckEpoch epoch vote current last) = refl
kind_again (bodies.NewLeader epoch keep rest) = refl
kind_again (bodies.AckLeader epoch count) = refl
kind_again (bodies.Propose epoch index entry) = refl
kind_again (bodies.Ack epoch count) = refl
kind_again (bodies.Commit epoch count) = refl
kind_again (bodies.Request epoch call) = refl
kind_again (bodies.SyncAsk epoch tag) = refl
kind_again (bodies.SyncTell epoch tag count) = refl

pub kind_at : (message : Message Call) → take 4 (drop 16 (contents_of message)) ≡ int (kind_of message.body)
unfolding contents_of body_of
kind_at message = refl

pub other_contents : (message : Message Call) (notice : Notice) → contents_of message ≡ contents_of_notice notice → ⊥
other_contents message notice same =
    let kind : kind_of message.body ≡ pos 12 =
    sym (kind_again message.body) ∙ ap (λ (l : List ℕ). cast_signed w32 (from_be_bytes w32 l)) (sym (kind_at message))
    ∙ ap (λ (l : List ℕ). cast_signed w32 (from_be_bytes w32 (take 4 (drop 16 l)))) same ∙ ap (cast_signed w32) (kind_of_notice notice) in
    let no : false ≡ true = sym (not_twelve message.body) ∙ ap (λ (z : ℤ). int_eq z (pos 12)) kind in
    absurd cc
