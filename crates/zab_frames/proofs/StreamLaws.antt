-- Streams of frames.
use Rattle.std.proofs.Common.{◌≡◌, ℕ, ◌+◌, ◌^◌, ◌<◌, inl, inr, drop, List, [], ◌∷◌, ◌++◌, length, Option, Some, None, Result, Ok, Err, refl, sym, ap, subst, ◌∙◌, append_assoc, append-nil}
use Rattle.std.specs.List.{AllByRecursion}
use Rattle.std.proofs.lemmas.Grind.{flat_map-append}
use Rattle.std.proofs.lemmas.List.Concat.{flat_map-cons}
use Rattle.zk_requests.specs.declared.call.Call.{Call}
use Rattle.zab_epoch.specs.declared.message.Message.{Message}
use Rattle.zab_frames.specs.declared.fault.FrameFault.{FrameFault}
use Rattle.zab_frames.specs.declared.fault.FrameFault.TheVariants as faults
use Rattle.zab_frames.specs.declared.fault.BadFrame.{BadFrame}
use Rattle.zab_frames.specs.declared.fault.DecodeFault.{DecodeFault}
use Rattle.zab_frames.specs.declared.fault.DecodeFault.TheVariants as decode_faults
use Rattle.zk_records.specs.Sizes.{capped}
use Rattle.zab_frames.specs.Frames.{framed, first_in, IsFirst}
use Rattle.zab_frames.specs.Messages.{contents_of}
use Rattle.zab_frames.specs.Streams.{frame_of, frames_of, HasFrame, Decodes, IsBroken, IsExact, IsReadAs, Stream, without, stopped_at, bad_at, IsFaultAt, IfBroken, Takes, Breaks}
use Rattle.zab_frames.proofs.FrameLaws.{first_of_prefix, framed_are_of_one, length-framed, no_contents}
use Rattle.zab_frames.proofs.MessageLaws.{contents_are_of_one}

both_all : {A : Type 0} (P : A → Type 0) (xs ys : List A) → AllByRecursion P xs → AllByRecursion P ys → AllByRecursion P (xs ++ ys)
both_all P [] ys first others = others
both_all P (x ∷ xs) ys first others = (first.0, both_all P xs ys first.1 others)

frames-append : (messages others : List (Message Call)) → frames_of (messages ++ others) ≡ frames_of messages ++ frames_of others
frames-append messages others = flat_map-append frame_of messages others

-- one more message is taken of what waits
pub one_more : (rest bytes : List ℕ) (messages : List (Message Call)) (between : List ℕ) (message : Message Call) (next : List ℕ)
    → Decodes rest bytes messages between → between ≡ frame_of message ++ next → HasFrame message → Decodes rest bytes (messages ++ message ∷ []) next
one_more rest bytes messages between message next so_far taken has = record {
  whole =
      so_far.whole ∙ ap (λ (l : List ℕ). frames_of messages ++ l) taken ∙ sym (append_assoc (frames_of messages) (frame_of message) next)
      ∙ ap (λ (l : List ℕ). l ++ next) (ap (λ (l : List ℕ). frames_of messages ++ l) (sym (alone message)) ∙ sym (frames-append messages (message ∷ [])));
  each = both_all HasFrame messages (message ∷ []) so_far.each (has, tt);
}
  where
    alone : (m : Message Call) → frames_of (m ∷ []) ≡ frame_of m
    alone m = flat_map-cons frame_of m [] ∙ append-nil (frame_of m)

pub composes : (rest bytes more between next : List ℕ) (messages others : List (Message Call)) → Decodes rest bytes messages between → Decodes between more others next → Decodes rest (bytes ++ more) (messages ++ others) next
composes rest bytes more between next messages others one other = record {
  whole =
      sym (append_assoc rest bytes more) ∙ ap (λ (l : List ℕ). l ++ more) one.whole ∙ append_assoc (frames_of messages) between more
      ∙ ap (λ (l : List ℕ). frames_of messages ++ l) other.whole ∙ sym (append_assoc (frames_of messages) (frames_of others) next)
      ∙ ap (λ (l : List ℕ). l ++ next) (sym (frames-append messages others));
  each = both_all HasFrame messages others one.each other.each;
}

pub frames_are_of_one : (first second : Message Call) (rest others : List ℕ) → HasFrame first → HasFrame second → frame_of first ++ rest ≡ frame_of second ++ others → (first ≡ second) × (rest ≡ others)
frames_are_of_one first second rest others has other same =
    let parts = framed_are_of_one (contents_of first) (contents_of second) rest others has.short other.short same in
    (contents_are_of_one first second has.fits other.fits parts.0, parts.1)

-- ---- no fault

-- what a fault says of the first frame
record Faulty (rest : List ℕ) : Type 0 where
  not_partial : first_in rest ≡ Ok None → ⊥
  not_whole : (message : Message Call) → HasFrame message → first_in rest ≡ Ok (Some (contents_of message)) → ⊥

abbrev Read : Type 0
Read = Result (Option (List ℕ)) FrameFault

same_contents : (first second : List ℕ) (read : Read) → read ≡ Ok (Some first) → read ≡ Ok (Some second) → first ≡ second
same_contents first second read one other = cc

faulty : (rest : List ℕ) (fault : FrameFault) → IsBroken rest fault → Faulty rest
faulty rest faults.Header broken = record { not_partial = λ e. absurd cc; not_whole = λ message has e. absurd cc }
faulty rest faults.Length broken = record { not_partial = λ e. absurd cc; not_whole = λ message has e. absurd cc }
faulty rest faults.Checksum broken = record { not_partial = λ e. absurd cc; not_whole = λ message has e. absurd cc }
faulty rest faults.Contents broken = record {
  not_partial = λ e. let h = broken.1.0 in absurd cc;
  not_whole = λ message has e. broken.1.1 message has (same_contents broken.0 (contents_of message) (first_in rest) broken.1.0 e);
}

empty_waits : first_in [] ≡ Ok None
unfolding first_in
empty_waits = refl

nothing : (rest more : List ℕ) → rest ++ more ≡ [] → rest ≡ []
nothing [] more e = refl
nothing (b ∷ rest) more e = absurd cc

-- no prefix of frames is broken
pub not_broken : (sent : List (Message Call)) (rest more : List ℕ) (fault : FrameFault) → AllByRecursion HasFrame sent → rest ++ more ≡ frames_of sent → IsBroken rest fault → ⊥
not_broken [] rest more fault each same broken = (faulty rest fault broken).not_partial (ap first_in (nothing rest more same) ∙ empty_waits)
not_broken (message ∷ sent) rest more fault each same broken =
    let is = faulty rest fault broken in
    elim (first_of_prefix rest more (contents_of message) (frames_of sent) each.0.short (same ∙ flat_map-cons frame_of message sent)) [
      | inl waits ↦ is.not_partial waits
      | inr found ↦ is.not_whole message each.0 found
    ]

-- ---- every prefix

filled : (contents rest : List ℕ) → framed contents ++ rest ≡ [] → ⊥
unfolding framed
filled contents rest e = absurd cc

pub exact : (sent found : List (Message Call)) (bytes more rest : List ℕ) → AllByRecursion HasFrame sent → AllByRecursion HasFrame found → bytes ++ more ≡ frames_of sent → bytes ≡ frames_of found ++ rest → IsExact sent more found rest
exact sent [] bytes more rest each has same read =
    let left : rest ++ more ≡ frames_of sent = ap (λ (l : List ℕ). l ++ more) (sym read) ∙ same in
    (sent, (refl, (left, λ fault broken. not_broken sent rest more fault each left broken)))
exact [] (first ∷ found) bytes more rest each has same read =
    let front : (frame_of first ++ (frames_of found ++ rest)) ++ more ≡ [] =
    ap (λ (l : List ℕ). l ++ more) (sym (read ∙ ap (λ (l : List ℕ). l ++ rest) (flat_map-cons frame_of first found) ∙ append_assoc (frame_of first) (frames_of found) rest)) ∙ same in
    absurd (filled (contents_of first) ((frames_of found ++ rest) ++ more) (sym (append_assoc (frame_of first) (frames_of found ++ rest) more) ∙ front))
exact (message ∷ sent) (first ∷ found) bytes more rest each has same read =
    let later = frames_of found ++ rest in
    let front : frame_of first ++ (later ++ more) ≡ frame_of message ++ frames_of sent =
    sym (append_assoc (frame_of first) later more)
    ∙ ap (λ (l : List ℕ). l ++ more) (sym (read ∙ ap (λ (l : List ℕ). l ++ rest) (flat_map-cons frame_of first found) ∙ append_assoc (frame_of first) (frames_of found) rest))
    ∙ same ∙ flat_map-cons frame_of message sent in
    let parts = frames_are_of_one first message (later ++ more) (frames_of sent) has.0 each.0 front in
    let others = exact sent found later more rest each.1 has.1 parts.1 refl in
    (others.0, (ap (λ (m : Message Call). m ∷ sent) (sym parts.0) ∙ ap (λ (l : List (Message Call)). first ∷ l) others.1.0, others.1.1))

-- ---- what the decoder does

pub takes_one : (old new : Stream) (contents : List ℕ) (message : Message Call) (count : ℕ) → old.fault ≡ None → IsFirst old.rest contents → IsReadAs contents message → count ≡ 16 + length contents → new ≡ without count old → Takes old message new
takes_one old new contents message count sound first read counted same =
    let long : length (frame_of message) ≡ count = ap (λ (l : List ℕ). length (framed l)) (sym read.spelled) ∙ length-framed contents ∙ sym counted in
    let rest : new.rest ≡ drop (16 + length contents) old.rest = ap (λ (s : Stream). s.rest) same ∙ ap (λ (n : ℕ). drop n old.rest) counted in
    record {
      sound = sound;
      whole = first.whole ∙ ap (λ (l : List ℕ). framed l ++ drop (16 + length contents) old.rest) read.spelled ∙ ap (λ (l : List ℕ). frame_of message ++ l) (sym rest);
      frame = record { fits = read.fits; short = subst (λ (l : List ℕ). length l < 2 ^ 63) read.spelled first.short };
      taken = ap (λ (s : Stream). s.taken) same ∙ ap (λ (n : ℕ). capped (old.taken + n)) (sym long);
      still = ap (λ (s : Stream). s.fault) same ∙ sound;
    }

pub breaks_at : (old new : Stream) (fault : FrameFault) (result : DecodeFault) → old.fault ≡ None → IsBroken old.rest fault → result ≡ decode_faults.Broken (bad_at old fault) → new ≡ stopped_at (bad_at old fault) old
    → IfBroken result (λ bad. Breaks old bad new)
breaks_at old new fault result sound broken at stopped =
    let bad = bad_at old fault in
    let is : IsFaultAt old.fault bad old = subst (λ (earlier : Option BadFrame). IsFaultAt earlier bad old) (sym sound) (refl, broken) in
    subst (λ (it : DecodeFault). IfBroken it (λ b. Breaks old b new)) (sym at) (record { fault = is; stopped = stopped })

pub broken_first : (rest : List ℕ) (fault : FrameFault) → first_in rest ≡ Err fault → IsBroken rest fault
broken_first rest faults.Header e = e
broken_first rest faults.Length e = e
broken_first rest faults.Checksum e = e
broken_first rest faults.Contents e = absurd (no_contents rest e)
