-- The first frame of a link.
use Rattle.std.proofs.Common.{◌≡◌, ◌⊎◌, inl, inr, ℕ, ◌+◌, ◌≤◌, List, ◌++◌, length, drop, Option, Some, None, Result, Ok, Err, refl, sym, ap, ◌∙◌, subst, arith}
use Rattle.zab_epoch.specs.Shortness.{IsShortBody}
use Rattle.zab_epoch.specs.declared.message.Message.{Message}
use Rattle.zab_frames.specs.Frames.{framed, first_in, seen, IsFirst}
use Rattle.zab_frames.specs.Streams.{Breaks, IsBroken, IsFaultAt, IsNoMessage, Stream, Takes, Waits}
use Rattle.zab_frames.specs.declared.fault.BadFrame.{BadFrame}
use Rattle.zab_frames.specs.declared.fault.FrameFault.{FrameFault}
use Rattle.zab_frames.specs.declared.fault.FrameFault.TheVariants as faults
use Rattle.zk_peer_links.specs.Notices.{contents_of_notice, IsNotice}
use Rattle.zk_peer_links.specs.SessionNotices.{contents_of_session, IsSessionNotice}
use Rattle.zk_peer_links.specs.Packets.{BeginsWith, HasNoNotice, HasNoSession, IsNoNotice, IsNoPacket, IsNoSession, IsShortIn, IsWrong, StepsTo, TakesFirst, frame_in}
use Rattle.zk_peer_links.specs.declared.notice.Notice.{Notice}
use Rattle.zk_peer_links.specs.declared.packet.Packet.{Packet}
use Rattle.zk_peer_links.specs.declared.packet.Packet.TheVariants as packets
use Rattle.zk_peer_links.specs.declared.packet.Step.TheVariants as steps
use Rattle.zk_peer_links.specs.declared.session_notice.SessionNotice.{SessionNotice}
use Rattle.zk_peer_links.proofs.Contents.{length_of_notice}
use Rattle.zk_peer_links.proofs.SessionContents.{length_of_session}
use Rattle.zk_requests.specs.declared.call.Call.{Call}

abbrev Read : Type 0
Read = Result (Option (List ℕ)) FrameFault

same_contents : (first second : List ℕ) (read : Read) → read ≡ Ok (Some first) → read ≡ Ok (Some second) → first ≡ second
same_contents first second read one other = cc

-- ---- notices

pub begins_with : (bytes contents : List ℕ) (notice : Notice) → IsFirst bytes contents → contents ≡ contents_of_notice notice → IsNotice notice → BeginsWith bytes 64 (packets.Notice notice)
begins_with bytes contents notice first spelled fits =
    let count : 16 + length contents ≡ 64 = (let long : length contents ≡ 48 = ap length spelled ∙ length_of_notice notice in omega arith) in
    record {
      whole = first.whole ∙ ap (λ (l : List ℕ). framed l ++ drop (16 + length contents) bytes) spelled ∙ ap (λ (n : ℕ). framed (contents_of_notice notice) ++ drop n bytes) count;
      fits = fits;
      long = (let within = first.long in omega arith);
    }

pub no_notice : (bytes contents : List ℕ) (read : Read) → read ≡ Ok (Some contents) → read ≡ first_in bytes → IsNoNotice contents → HasNoNotice bytes
no_notice bytes contents read is same none other found =
    subst IsNoNotice (same_contents contents other (first_in bytes) (sym same ∙ is) found) none

pub no_frame : (bytes : List ℕ) (read : Read) → read ≡ Ok None → read ≡ first_in bytes → HasNoNotice bytes
no_frame bytes read is same other found = (let e : read ≡ Ok (Some other) = same ∙ found in absurd cc)

pub wrong_frame : (bytes : List ℕ) (fault : FrameFault) (read : Read) → read ≡ Err fault → read ≡ first_in bytes → HasNoNotice bytes
wrong_frame bytes fault read is same other found = (let e : read ≡ Ok (Some other) = same ∙ found in absurd cc)

-- ---- notices about sessions

pub begins_with_session : (bytes contents : List ℕ) (notice : SessionNotice) → IsFirst bytes contents → contents ≡ contents_of_session notice → IsSessionNotice notice → BeginsWith bytes 48 (packets.Session notice)
begins_with_session bytes contents notice first spelled fits =
    let count : 16 + length contents ≡ 48 = (let long : length contents ≡ 32 = ap length spelled ∙ length_of_session notice in omega arith) in
    record {
      whole = first.whole ∙ ap (λ (l : List ℕ). framed l ++ drop (16 + length contents) bytes) spelled ∙ ap (λ (n : ℕ). framed (contents_of_session notice) ++ drop n bytes) count;
      fits = fits;
      long = (let within = first.long in omega arith);
    }

pub no_session : (bytes contents : List ℕ) (read : Read) → read ≡ Ok (Some contents) → read ≡ first_in bytes → IsNoSession contents → HasNoSession bytes
no_session bytes contents read is same none other found =
    subst IsNoSession (same_contents contents other (first_in bytes) (sym same ∙ is) found) none

pub no_session_frame : (bytes : List ℕ) (read : Read) → read ≡ Ok None → read ≡ first_in bytes → HasNoSession bytes
no_session_frame bytes read is same other found = (let e : read ≡ Ok (Some other) = same ∙ found in absurd cc)

pub wrong_session : (bytes : List ℕ) (fault : FrameFault) (read : Read) → read ≡ Err fault → read ≡ first_in bytes → HasNoSession bytes
wrong_session bytes fault read is same other found = (let e : read ≡ Ok (Some other) = same ∙ found in absurd cc)

-- ---- one frame

pub took_first : (rest next : List ℕ) (size : ℕ) (packet : Packet) → BeginsWith rest size packet → IsShortIn packet → next ≡ drop size rest → StepsTo rest (steps.Took packet) next
took_first rest next size packet begins short later = record {
  whole = begins.whole ∙ ap (λ (l : List ℕ). frame_in packet ++ l) (sym later);
  has = begins.fits;
  short = short;
}

pub took_message : (old new : Stream) (message : Message Call) → Takes old message new → IsShortBody message.body → StepsTo old.rest (steps.Took (packets.Message message)) new.rest
took_message old new message takes short = record { whole = takes.whole; has = takes.frame; short = short }

pub waits_still : (old new : Stream) → Waits old new → StepsTo old.rest steps.Waits new.rest
waits_still old new waits = (waits.partial, ap (λ (s : Stream). s.rest) waits.same)

broken_is_wrong : (rest : List ℕ) (fault : FrameFault) → HasNoNotice rest → HasNoSession rest → IsBroken rest fault → IsWrong rest
broken_is_wrong rest faults.Header none nor broken = inl (faults.Header, broken)
broken_is_wrong rest faults.Length none nor broken = inl (faults.Length, broken)
broken_is_wrong rest faults.Checksum none nor broken = inl (faults.Checksum, broken)
broken_is_wrong rest faults.Contents none nor broken = inr (broken.0, (broken.1.0, no_packet))
  where
    no_packet : IsNoPacket broken.0
    no_packet (packets.Message message) has same = broken.1.1 message has same
    no_packet (packets.Notice notice) has same = none broken.0 broken.1.0 notice has same
    no_packet (packets.Session notice) has same = nor broken.0 broken.1.0 notice has same

pub is_wrong : (old between : Stream) (bad : BadFrame) (next : List ℕ) → old.fault ≡ None → HasNoNotice old.rest → HasNoSession old.rest → Breaks old bad between → StepsTo old.rest steps.Wrong next
is_wrong old between bad next sound none nor breaks =
    broken_is_wrong old.rest bad.fault none nor (subst (λ (f : Option BadFrame). IsFaultAt f bad old) sound breaks.fault).1
