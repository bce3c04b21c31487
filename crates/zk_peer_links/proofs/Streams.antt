-- Streams of packets.
use Rattle.std.proofs.Common.{◌≡◌, ◌⊎◌, inl, inr, ℕ, ◌+◌, ◌<◌, ◌^◌, List, [], ◌∷◌, ◌++◌, length, Option, Some, None, Result, Ok, Err, refl, sym, ap, ◌∙◌, append_assoc, append-nil, arith}
use Rattle.std.specs.List.{AllByRecursion}
use Rattle.std.proofs.lemmas.Grind.{flat_map-append}
use Rattle.std.proofs.lemmas.List.Concat.{flat_map-cons}
use Rattle.zab_frames.specs.Frames.{framed, first_in}
use Rattle.zab_frames.specs.declared.fault.FrameFault.{FrameFault}
use Rattle.zab_frames.proofs.FrameLaws.{first_of_prefix, framed_are_of_one, length-framed}
use Rattle.zab_frames.proofs.MessageLaws.{contents_are_of_one}
use Rattle.zk_peer_links.specs.Packets.{Decodes, HasFrameIn, IsExact, IsWrong, contents_in, frame_in, frames_in}
use Rattle.zk_peer_links.specs.declared.packet.Packet.{Packet}
use Rattle.zk_peer_links.specs.declared.packet.Packet.TheVariants as packets
use Rattle.zk_peer_links.proofs.Contents.{length_of_notice, notices_are_of_one, other_contents}
use Rattle.zk_peer_links.proofs.SessionContents.{length_of_session, other_length, other_message, sessions_are_of_one}

pub both_all : {A : Type 0} (P : A → Type 0) (xs ys : List A) → AllByRecursion P xs → AllByRecursion P ys → AllByRecursion P (xs ++ ys)
both_all P [] ys first others = others
both_all P (x ∷ xs) ys first others = (first.0, both_all P xs ys first.1 others)

pub frames-append : (its others : List Packet) → frames_in (its ++ others) ≡ frames_in its ++ frames_in others
frames-append its others = flat_map-append frame_in its others

pub frames-one : (packet : Packet) → frames_in (packet ∷ []) ≡ frame_in packet
frames-one packet = flat_map-cons frame_in packet [] ∙ append-nil (frame_in packet)

-- one more packet is taken of what waits
pub one_more : (rest bytes : List ℕ) (its : List Packet) (between : List ℕ) (packet : Packet) (next : List ℕ)
    → Decodes rest bytes its between → between ≡ frame_in packet ++ next → HasFrameIn packet → Decodes rest bytes (its ++ packet ∷ []) next
one_more rest bytes its between packet next so_far taken has = record {
  whole =
      so_far.whole ∙ ap (λ (l : List ℕ). frames_in its ++ l) taken ∙ sym (append_assoc (frames_in its) (frame_in packet) next)
      ∙ ap (λ (l : List ℕ). l ++ next) (ap (λ (l : List ℕ). frames_in its ++ l) (sym (frames-one packet)) ∙ sym (frames-append its (packet ∷ [])));
  each = both_all HasFrameIn its (packet ∷ []) so_far.each (has, tt);
}

pub composes : (rest bytes more between next : List ℕ) (first later : List Packet) → Decodes rest bytes first between → Decodes between more later next → Decodes rest (bytes ++ more) (first ++ later) next
composes rest bytes more between next first later one other = record {
  whole =
      sym (append_assoc rest bytes more) ∙ ap (λ (l : List ℕ). l ++ more) one.whole ∙ append_assoc (frames_in first) between more
      ∙ ap (λ (l : List ℕ). frames_in first ++ l) other.whole ∙ sym (append_assoc (frames_in first) (frames_in later) next)
      ∙ ap (λ (l : List ℕ). l ++ next) (sym (frames-append first later));
  each = both_all HasFrameIn first later one.each other.each;
}

short_in : (packet : Packet) → HasFrameIn packet → length (contents_in packet) < 2 ^ 63
short_in (packets.Message message) has = has.short
short_in (packets.Notice notice) has = (let long = length_of_notice notice in omega arith)
short_in (packets.Session notice) has = (let long = length_of_session notice in omega arith)

contents_are_of_one_packet : (first second : Packet) → HasFrameIn first → HasFrameIn second → contents_in first ≡ contents_in second → first ≡ second
contents_are_of_one_packet (packets.Message first) (packets.Message second) has other same = ap packets.Message (contents_are_of_one first second has.fits other.fits same)
contents_are_of_one_packet (packets.Notice first) (packets.Notice second) has other same = ap packets.Notice (notices_are_of_one first second has other same)
contents_are_of_one_packet (packets.Message first) (packets.Notice second) has other same = absurd (other_contents first second same)
contents_are_of_one_packet (packets.Notice first) (packets.Message second) has other same = absurd (other_contents second first (sym same))
contents_are_of_one_packet (packets.Session first) (packets.Session second) has other same = ap packets.Session (sessions_are_of_one first second has other same)
contents_are_of_one_packet (packets.Session first) (packets.Message second) has other same = absurd (other_message second first (sym same))
contents_are_of_one_packet (packets.Message first) (packets.Session second) has other same = absurd (other_message first second same)
contents_are_of_one_packet (packets.Session first) (packets.Notice second) has other same = absurd (other_length second first (sym same))
contents_are_of_one_packet (packets.Notice first) (packets.Session second) has other same = absurd (other_length first second same)

frames_are_of_one : (first second : Packet) (rest others : List ℕ) → HasFrameIn first → HasFrameIn second → frame_in first ++ rest ≡ frame_in second ++ others → (first ≡ second) × (rest ≡ others)
frames_are_of_one first second rest others has other same =
    let parts = framed_are_of_one (contents_in first) (contents_in second) rest others (short_in first has) (short_in second other) same in
    (contents_are_of_one_packet first second has other parts.0, parts.1)

-- ---- no frame is wrong

abbrev Read : Type 0
Read = Result (Option (List ℕ)) FrameFault

same_contents : (first second : List ℕ) (read : Read) → read ≡ Ok (Some first) → read ≡ Ok (Some second) → first ≡ second
same_contents first second read one other = cc

right_if_waits : (rest : List ℕ) → first_in rest ≡ Ok None → IsWrong rest → ⊥
right_if_waits rest waits (inl wrong) = (let e = wrong.1 in absurd cc)
right_if_waits rest waits (inr wrong) = (let e = wrong.1.0 in absurd cc)

right_if_whole : (rest : List ℕ) (packet : Packet) → HasFrameIn packet → first_in rest ≡ Ok (Some (contents_in packet)) → IsWrong rest → ⊥
right_if_whole rest packet has found (inl wrong) = (let e = wrong.1 in absurd cc)
right_if_whole rest packet has found (inr wrong) = wrong.1.1 packet has (same_contents wrong.0 (contents_in packet) (first_in rest) wrong.1.0 found)

empty_waits : first_in [] ≡ Ok None
unfolding first_in
empty_waits = refl

nothing : (rest more : List ℕ) → rest ++ more ≡ [] → rest ≡ []
nothing [] more e = refl
nothing (b ∷ rest) more e = absurd cc

pub not_wrong : (sent : List Packet) (rest more : List ℕ) → AllByRecursion HasFrameIn sent → rest ++ more ≡ frames_in sent → IsWrong rest → ⊥
not_wrong [] rest more each same = right_if_waits rest (ap first_in (nothing rest more same) ∙ empty_waits)
not_wrong (packet ∷ sent) rest more each same =
    elim (first_of_prefix rest more (contents_in packet) (frames_in sent) (short_in packet each.0) (same ∙ flat_map-cons frame_in packet sent)) [
      | inl waits ↦ right_if_waits rest waits
      | inr found ↦ right_if_whole rest packet each.0 found
    ]

-- ---- every prefix

filled : (contents rest : List ℕ) → framed contents ++ rest ≡ [] → ⊥
unfolding framed
filled contents rest e = absurd cc

pub exact_of : (sent found : List Packet) (bytes more rest : List ℕ) → AllByRecursion HasFrameIn sent → AllByRecursion HasFrameIn found → bytes ++ more ≡ frames_in sent → bytes ≡ frames_in found ++ rest → IsExact sent more found rest
exact_of sent [] bytes more rest each has same read =
    let left : rest ++ more ≡ frames_in sent = ap (λ (l : List ℕ). l ++ more) (sym read) ∙ same in
    record { left = sent; sent_is = refl; waits = left; right = not_wrong sent rest more each left }
exact_of [] (first ∷ found) bytes more rest each has same read =
    let front : (frame_in first ++ (frames_in found ++ rest)) ++ more ≡ [] =
    ap (λ (l : List ℕ). l ++ more) (sym (read ∙ ap (λ (l : List ℕ). l ++ rest) (flat_map-cons frame_in first found) ∙ append_assoc (frame_in first) (frames_in found) rest)) ∙ same in
    absurd (filled (contents_in first) ((frames_in found ++ rest) ++ more) (sym (append_assoc (frame_in first) (frames_in found ++ rest) more) ∙ front))
exact_of (packet ∷ sent) (first ∷ found) bytes more rest each has same read =
    let later = frames_in found ++ rest in
    let front : frame_in first ++ (later ++ more) ≡ frame_in packet ++ frames_in sent =
    sym (append_assoc (frame_in first) later more)
    ∙ ap (λ (l : List ℕ). l ++ more) (sym (read ∙ ap (λ (l : List ℕ). l ++ rest) (flat_map-cons frame_in first found) ∙ append_assoc (frame_in first) (frames_in found) rest))
    ∙ same ∙ flat_map-cons frame_in packet sent in
    let parts = frames_are_of_one first packet (later ++ more) (frames_in sent) has.0 each.0 front in
    let others = exact_of sent found later more rest each.1 has.1 parts.1 refl in
    record {
      left = others.left;
      sent_is = ap (λ (p : Packet). p ∷ sent) (sym parts.0) ∙ ap (λ (l : List Packet). first ∷ l) others.sent_is;
      waits = others.waits;
      right = others.right;
    }

pub exact : (sent found : List Packet) (rest bytes more next : List ℕ) → AllByRecursion HasFrameIn sent → frames_in sent ≡ rest ++ bytes ++ more → Decodes rest bytes found next → IsExact sent more found next
exact sent found rest bytes more next each same decodes = exact_of sent found (rest ++ bytes) more next each decodes.each (sym same) decodes.whole
