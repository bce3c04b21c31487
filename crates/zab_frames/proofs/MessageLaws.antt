-- Messages: reading is the inverse of writing.
use Rattle.std.proofs.Common.{◌≡◌, ℕ, ℤ, pos, Bool, true, List, [], ◌++◌, Result, Ok, Err, refl, sym, ap, subst, ◌∙◌, append-nil, lit<}
use Rattle.std.specs.Prelude.{FitsSigned}
use Rattle.std.specs.Int.{w32, w64}
use Rattle.std.specs.Ordering.{int_eq}
use Rattle.std.proofs.lemmas.Bool.Decides.{Decides-int_eq}
use Rattle.zk_jute.specs.declared.fault.JuteFault.{JuteFault}
use Rattle.zk_jute.specs.declared.fault.JuteFault.TheVariants as faults
use Rattle.zk_jute.specs.Reading.{Fails, number_at, boolean_at, made_of}
use Rattle.zk_jute.proofs.Numbers.{IsBytes, IsField, made_takes, either, whole_ok, took_all}
use Rattle.zk_jute.proofs.Texts.{long_field, boolean_field}
use Rattle.zk_records.specs.Records.{boolean, long}
use Rattle.zk_requests.specs.declared.call.Call.{Call}
use Rattle.zab_epoch.specs.declared.history.Entry.{Entry}
use Rattle.zab_epoch.specs.declared.message.Body.{Body}
use Rattle.zab_epoch.specs.declared.message.Body.TheVariants as bodies
use Rattle.zab_epoch.specs.declared.message.Message.{Message}
use Rattle.zab_epoch.proofs.Histories.{short_of}
use Rattle.zab_epoch.specs.Shortness.{IsShortBody}
use Rattle.zab_frames.specs.Streams.{IsReadAs, IsNoMessage}
use Rattle.zab_frames.specs.Messages.{word, long_word, tagged_entry, history_of, call_of, kind_of, fields_of, body_of, contents_of}
use Rattle.zab_frames.specs.Ranges.{IsWord, IsLongWord, IsEntry, IsHistory, IsCall, IsBody, IsMessage}
use Rattle.zab_frames.specs.Reading.{◌&◌, natural_at, history_at, tagged_entry_at, call_at, ack_epoch, new_leader, ack_leader, propose, ack, commit, request, sync_ask, sync_tell, fields_by, body_at, message_from, message_at, message_in}
use Rattle.zab_frames.proofs.FieldLaws.{pair_field, made_field, TagRead, tagged_field, word_field, long_word_field}
use Rattle.zab_frames.proofs.CallLaws.{call_field}
use Rattle.zab_frames.proofs.EntryLaws.{tagged_entry_field, history_field}

abbrev BodyRead : List ℕ → ℤ → Body Call × List ℕ → Type 0
BodyRead bytes kind x = TagRead kind_of fields_of IsBody bytes kind x

at_kind : (kind known : ℤ) (bytes : List ℕ) (x : Body Call × List ℕ) → int_eq kind known ≡ true → BodyRead bytes known x → BodyRead bytes kind x
at_kind kind known bytes x same is = subst (λ (k : ℤ). BodyRead bytes k x) (sym ((Decides-int_eq kind known).0 same)) is

pair_of_words : IsField (natural_at w32 & natural_at w64) (λ (p : ℕ × ℕ). word p.0 ++ long_word p.1) (λ (p : ℕ × ℕ). IsWord p.0 × IsLongWord p.1)
pair_of_words = pair_field word_field long_word_field

ack_epoch_field : IsField (natural_at w32 & boolean_at & natural_at w32 & number_at w64) (λ (p : ((ℕ × Bool) × ℕ) × ℤ). word p.0.0.0 ++ boolean p.0.0.1 ++ word p.0.1 ++ long p.1)
    (λ (p : ((ℕ × Bool) × ℕ) × ℤ). ((IsWord p.0.0.0 × Unit {0}) × IsWord p.0.1) × FitsSigned w64 p.1)
ack_epoch_field = pair_field (pair_field (pair_field word_field boolean_field) word_field) long_field

new_leader_field : IsField (natural_at w32 & number_at w64 & history_at) (λ (p : (ℕ × ℤ) × List Entry). word p.0.0 ++ long p.0.1 ++ history_of p.1)
    (λ (p : (ℕ × ℤ) × List Entry). (IsWord p.0.0 × FitsSigned w64 p.0.1) × IsHistory p.1)
new_leader_field = pair_field (pair_field word_field long_field) history_field

propose_field : IsField (natural_at w32 & natural_at w64 & tagged_entry_at) (λ (p : (ℕ × ℕ) × Entry). word p.0.0 ++ long_word p.0.1 ++ tagged_entry p.1)
    (λ (p : (ℕ × ℕ) × Entry). (IsWord p.0.0 × IsLongWord p.0.1) × IsEntry p.1)
propose_field = pair_field pair_of_words tagged_entry_field

request_field : IsField (natural_at w32 & call_at) (λ (p : ℕ × Call). word p.0 ++ call_of p.1) (λ (p : ℕ × Call). IsWord p.0 × IsCall p.1)
request_field = pair_field word_field call_field

sync_tell_field : IsField (natural_at w32 & natural_at w64 & natural_at w64) (λ (p : (ℕ × ℕ) × ℕ). word p.0.0 ++ long_word p.0.1 ++ long_word p.1)
    (λ (p : (ℕ × ℕ) × ℕ). (IsWord p.0.0 × IsLongWord p.0.1) × IsLongWord p.1)
sync_tell_field = pair_field pair_of_words long_word_field

fields_take : (kind : ℤ) (bytes : List ℕ) (x : Body Call × List ℕ) → IsBytes bytes → fields_by kind bytes ≡ Ok x → BodyRead bytes kind x
unfolding fields_by
fields_take kind bytes x fits e =
    let P : Type 0 = BodyRead bytes kind x in
    either _ _ _ x P (λ same h. at_kind kind (pos 1) bytes x same (made_takes _ _ _ word_field bodies.CEpoch bytes x (BodyRead bytes (pos 1)) fits h (λ f rest took is. record { took = took; typed = refl; fits = is })))
    (either _ _ _ x P (λ same h. at_kind kind (pos 2) bytes x same (made_takes _ _ _ word_field bodies.NewEpoch bytes x (BodyRead bytes (pos 2)) fits h (λ f rest took is. record { took = took; typed = refl; fits = is })))
    (either _ _ _ x P (λ same h. at_kind kind (pos 3) bytes x same (made_takes _ _ _ ack_epoch_field ack_epoch bytes x (BodyRead bytes (pos 3)) fits h (λ f rest took is. record { took = took; typed = refl; fits = is })))
    (either _ _ _ x P (λ same h. at_kind kind (pos 4) bytes x same (made_takes _ _ _ new_leader_field new_leader bytes x (BodyRead bytes (pos 4)) fits h (λ f rest took is. record { took = took; typed = refl; fits = is })))
    (either _ _ _ x P (λ same h. at_kind kind (pos 5) bytes x same (made_takes _ _ _ pair_of_words ack_leader bytes x (BodyRead bytes (pos 5)) fits h (λ f rest took is. record { took = took; typed = refl; fits = is })))
    (either _ _ _ x P (λ same h. at_kind kind (pos 6) bytes x same (made_takes _ _ _ propose_field propose bytes x (BodyRead bytes (pos 6)) fits h (λ f rest took is. record { took = took; typed = refl; fits = is })))
    (either _ _ _ x P (λ same h. at_kind kind (pos 7) bytes x same (made_takes _ _ _ pair_of_words ack bytes x (BodyRead bytes (pos 7)) fits h (λ f rest took is. record { took = took; typed = refl; fits = is })))
    (either _ _ _ x P (λ same h. at_kind kind (pos 8) bytes x same (made_takes _ _ _ pair_of_words commit bytes x (BodyRead bytes (pos 8)) fits h (λ f rest took is. record { took = took; typed = refl; fits = is })))
    (either _ _ _ x P (λ same h. at_kind kind (pos 9) bytes x same (made_takes _ _ _ request_field request bytes x (BodyRead bytes (pos 9)) fits h (λ f rest took is. record { took = took; typed = refl; fits = is })))
    (either _ _ _ x P (λ same h. at_kind kind (pos 10) bytes x same (made_takes _ _ _ pair_of_words sync_ask bytes x (BodyRead bytes (pos 10)) fits h (λ f rest took is. record { took = took; typed = refl; fits = is })))
    (either _ _ _ x P (λ same h. at_kind kind (pos 11) bytes x same (made_takes _ _ _ sync_tell_field sync_tell bytes x (BodyRead bytes (pos 11)) fits h (λ f rest took is. record { took = took; typed = refl; fits = is })))
    (λ h. absurd (cc)))))))))))) e

fields_again : (body : Body Call) (rest : List ℕ) → IsBody body → fields_by (kind_of body) (fields_of body ++ rest) ≡ Ok (body, rest)
unfolding fields_by
fields_again (bodies.CEpoch promised) rest is = ap (made_of bodies.CEpoch) (word_field.again promised rest is)
fields_again (bodies.NewEpoch epoch) rest is = ap (made_of bodies.NewEpoch) (word_field.again epoch rest is)
fields_again (bodies.AckEpoch epoch vote current last) rest is = ap (made_of ack_epoch) (ack_epoch_field.again (((epoch, vote), current), last) rest is)
fields_again (bodies.NewLeader epoch keep history) rest is = ap (made_of new_leader) (new_leader_field.again ((epoch, keep), history) rest is)
fields_again (bodies.AckLeader epoch count) rest is = ap (made_of ack_leader) (pair_of_words.again (epoch, count) rest is)
fields_again (bodies.Propose epoch index entry) rest is = ap (made_of propose) (propose_field.again ((epoch, index), entry) rest is)
fields_again (bodies.Ack epoch count) rest is = ap (made_of ack) (pair_of_words.again (epoch, count) rest is)
fields_again (bodies.Commit epoch count) rest is = ap (made_of commit) (pair_of_words.again (epoch, count) rest is)
fields_again (bodies.Request epoch call) rest is = ap (made_of request) (request_field.again (epoch, call) rest is)
fields_again (bodies.SyncAsk epoch tag) rest is = ap (made_of sync_ask) (pair_of_words.again (epoch, tag) rest is)
fields_again (bodies.SyncTell epoch tag count) rest is = ap (made_of sync_tell) (sync_tell_field.again ((epoch, tag), count) rest is)

kind_small : (body : Body Call) → FitsSigned w32 (kind_of body)
kind_small (bodies.CEpoch promised) = record { sfits = lit< tt }
kind_small (bodies.NewEpoch epoch) = record { sfits = lit< tt }
kind_small (bodies.AckEpoch epoch vote current last) = record { sfits = lit< tt }
kind_small (bodies.NewLeader epoch keep history) = record { sfits = lit< tt }
kind_small (bodies.AckLeader epoch count) = record { sfits = lit< tt }
kind_small (bodies.Propose epoch index entry) = record { sfits = lit< tt }
kind_small (bodies.Ack epoch count) = record { sfits = lit< tt }
kind_small (bodies.Commit epoch count) = record { sfits = lit< tt }
kind_small (bodies.Request epoch call) = record { sfits = lit< tt }
kind_small (bodies.SyncAsk epoch tag) = record { sfits = lit< tt }
kind_small (bodies.SyncTell epoch tag count) = record { sfits = lit< tt }

body_field : IsField body_at body_of IsBody
unfolding body_at body_of
body_field = tagged_field fields_by kind_of fields_of IsBody fields_take fields_again kind_small

message_fields : Message Call → (ℕ × ℕ) × Body Call
message_fields message = ((message.sender, message.addressee), message.body)

made_message_field : IsField (λ bytes. made_of message_from ((natural_at w64 & natural_at w64 & body_at) bytes)) (λ (m : Message Call). long_word m.sender ++ long_word m.addressee ++ body_of m.body)
    (λ (m : Message Call). (IsLongWord m.sender × IsLongWord m.addressee) × IsBody m.body)
unfolding message_fields
made_message_field = made_field (natural_at w64 & natural_at w64 & body_at) _ _ message_from message_fields (pair_field (pair_field long_word_field long_word_field) body_field) (λ message. refl) (λ fields. refl)

message_field : IsField message_at contents_of IsMessage
unfolding message_at contents_of message_fields
message_field = record {
  takes = λ bytes x fits e.
      let t = made_message_field.takes bytes x fits e in
      (t.0, record { sender = t.1.0.0; addressee = t.1.0.1; body = t.1.1 });
  again = λ message rest is. made_message_field.again message rest ((is.sender, is.addressee), is.body);
}

-- ---- all of the bytes

pub message_takes : (bytes : List ℕ) (message : Message Call) → IsBytes bytes → message_in bytes ≡ Ok message → (bytes ≡ contents_of message) × IsMessage message
message_takes bytes message fits e =
    let took = message_field.takes bytes (message, []) fits (whole_ok (message_at bytes) message e) in
    (took_all bytes (contents_of message) took.0, took.1)

pub message_again : (bytes : List ℕ) (message : Message Call) → IsMessage message → bytes ≡ contents_of message → message_in bytes ≡ Ok message
message_again bytes message is spelled =
    let alone : message_at (contents_of message) ≡ Ok (message, []) = ap message_at (sym (append-nil (contents_of message))) ∙ message_field.again message [] is in
    ap message_in spelled ∙ rw alone refl

abbrev done : Message Call → Result (Message Call) JuteFault
done message = Ok message

pub contents_are_of_one : (first second : Message Call) → IsMessage first → IsMessage second → contents_of first ≡ contents_of second → first ≡ second
contents_are_of_one first second is other same =
    let both : done first ≡ done second = sym (message_again (contents_of first) first is refl) ∙ message_again (contents_of first) second other same in
    cc

-- ---- what a reader returns

short_body : (body : Body Call) → IsBody body → IsShortBody body
short_body (bodies.CEpoch promised) is = tt
short_body (bodies.NewEpoch epoch) is = tt
short_body (bodies.AckEpoch epoch vote current last) is = tt
short_body (bodies.NewLeader epoch keep history) is = tt
short_body (bodies.AckLeader epoch count) is = tt
short_body (bodies.Propose epoch index entry) is = short_of entry.txn is.1.1
short_body (bodies.Ack epoch count) is = tt
short_body (bodies.Commit epoch count) is = tt
short_body (bodies.Request epoch call) is = tt
short_body (bodies.SyncAsk epoch tag) is = tt
short_body (bodies.SyncTell epoch tag count) is = tt

pub read_as : (contents : List ℕ) (message : Message Call) → IsBytes contents → message_in contents ≡ Ok message → IsReadAs contents message
read_as contents message fits e =
    let took = message_takes contents message fits e in
    record { spelled = took.0; fits = took.1; short = short_body message.body took.1.body }

not_memory : {A : Type 0} (fault : JuteFault) (read : Result A JuteFault) → (fault ≡ faults.NoMemory → ⊥) → Fails fault read → read ≡ Err fault
not_memory faults.NoMemory read other fails = absurd (other refl)
not_memory fault read other fails = fails

pub no_message : (contents : List ℕ) (fault : JuteFault) → (fault ≡ faults.NoMemory → ⊥) → Fails fault (message_in contents) → IsNoMessage contents
no_message contents fault other fails message has same =
    let failed = not_memory fault (message_in contents) other fails in
    let read = message_again contents message has.fits same in
    absurd cc
