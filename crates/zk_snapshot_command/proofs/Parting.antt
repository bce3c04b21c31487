-- Bytes that are written a part at a time.
use Rattle.std.proofs.Common.{◌≡◌, ℕ, ◌-◌, ◌<◌, ◌==◌, Bool, false, List, [], ◌∷◌, ◌++◌, Option, Err, length, take, drop, refl, sym, ap, ◌∙◌, subst, append_assoc, append-nil, take-append-drop, arith, length-drop}
use Rattle.zk_log_commands.proofs.LinesLaws.{broke_off_earlier, broke_off_later, part_earlier, part_later, wrote_more, wrote_nothing}
use Rattle.zk_log_commands.specs.Writing.{BrokeOff, Wrote, WrotePart}
use Rattle.zk_records.specs.declared.sink.Sink.{Sink}
use Rattle.zk_snapshot_command.specs.Parts.{Puts}
use Rattle.zk_snapshot_command.specs.declared.part_fault.PartFault.{PartFault}
use Rattle.zk_snapshot_command.specs.declared.part_fault.PartFault.TheVariants as faults

-- a prefix of the bytes was written, and these are left
pub record LeavesBytes {W : Type 0} (contents : W → Option (List ℕ)) (old new : Sink W) (all left : List ℕ) : Type 0 where
  pub front : List ℕ
  pub whole : all ≡ front ++ left
  pub wrote : Wrote contents old new front

parted : (all front left : List ℕ) (n : ℕ) → all ≡ front ++ left → front ++ (take n left ++ drop n left) ≡ all
parted all front left n e = ap (λ l. front ++ l) (take-append-drop n left) ∙ sym e

none_left : (left : List ℕ) → length left ≡ 0 → left ≡ []
none_left [] e = refl
none_left (byte ∷ bytes) e = absurd (cc e)

-- a part is not empty
pub less_left : (left left' : List ℕ) (n : ℕ) (done : Bool) → 0 < n → done ≡ (length left == 0) → done ≡ false → left' ≡ drop n left → length left' < length left
less_left [] left' n done some is goes e = absurd (cc (sym goes ∙ is))
less_left (byte ∷ bytes) left' n done some is goes e =
    let shorter : length left' ≡ length (byte ∷ bytes) - n = ap length e ∙ length-drop n (byte ∷ bytes) in omega (arith, shorter, some)

module _ {W : Type 0} (contents : W → Option (List ℕ)) where
  pub all_left : (sink : Sink W) (all : List ℕ) → LeavesBytes contents sink sink all all
  all_left sink all = record { front = []; whole = refl; wrote = wrote_nothing contents sink }

  pub more_written : (old mid new : Sink W) (all left left' : List ℕ) (n : ℕ) → LeavesBytes contents old mid all left → Wrote contents mid new (take n left) → left' ≡ drop n left → LeavesBytes contents old new all left'
  more_written old mid new all left left' n p q e = record {
    front = p.front ++ take n left;
    whole = sym (parted all p.front left n p.whole) ∙ sym (append_assoc p.front (take n left) (drop n left)) ∙ ap (λ l. (p.front ++ take n left) ++ l) (sym e);
    wrote = wrote_more contents old mid new p.front (take n left) p.wrote q;
  }

  pub whole_written : (old new : Sink W) (all left : List ℕ) → LeavesBytes contents old new all left → length left ≡ 0 → Wrote contents old new all
  whole_written old new all left p e =
      subst (λ l. Wrote contents old new l) (sym (append-nil p.front) ∙ ap (λ l. p.front ++ l) (sym (none_left left e)) ∙ sym p.whole) p.wrote

  pub part_stops : (old mid new : Sink W) (all left : List ℕ) (n : ℕ) (fault : PartFault) → LeavesBytes contents old mid all left → Puts contents mid (take n left) (Err fault) new → Puts contents old all (Err fault) new
  part_stops old mid new all left n faults.Write p q =
      subst (λ l. BrokeOff contents old new l) (parted all p.front left n p.whole)
      (broke_off_later contents old mid new p.front (take n left ++ drop n left) p.wrote (broke_off_earlier contents mid new (take n left) (drop n left) q))
  part_stops old mid new all left n faults.NoMemory p q =
      subst (λ l. WrotePart contents old new l) (parted all p.front left n p.whole)
      (part_later contents old mid new p.front (take n left ++ drop n left) p.wrote (part_earlier contents mid new (take n left) (drop n left) q))
