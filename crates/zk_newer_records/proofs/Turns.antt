-- Parts and their encodings, in order.
use Rattle.std.proofs.Common.{◌≡◌, ℕ, zero, suc, ℤ, ◌+◌, ◌<◌, ◌≤◌, min, arith, add-one, append_assoc, take, get_or, List, [], ◌∷◌, ◌++◌, length, map, Result, refl, sym, ap, ◌∙◌}
use Rattle.zk_jute.specs.declared.fault.JuteFault.{JuteFault}
use Rattle.zk_jute.specs.declared.fault.JuteFault.TheVariants as faults
use Rattle.zk_jute.specs.Reading.{Fails, made_of}
use Rattle.zk_table.specs.declared.sub.Sub.{Sub}
use Rattle.zk_newer_records.specs.declared.parts.PartEncoding.{PartEncoding}
use Rattle.zk_newer_records.specs.declared.parts.NewerPart.{NewerPart}
use Rattle.std.proofs.lemmas.List.{append-nil}
use Rattle.zk_newer_records.specs.Changes.{owners_in_part, owners_in_parts}
use Rattle.zk_newer_records.specs.NewerRecords.{paired}
use Rattle.zk_newer_records.specs.Reading.{sub_of, form_of}

-- what was read is its parts paired with their encodings
pub paired_again : (read : List NewerPart) → paired (map sub_of read) (map form_of read) ≡ read
paired_again [] = refl
paired_again (part ∷ read) = ap (λ (parts : List NewerPart). part ∷ parts) (paired_again read)

pub as_many_forms : (read : List NewerPart) → length (map form_of read) ≡ length (map sub_of read)
as_many_forms [] = refl
as_many_forms (part ∷ read) = ap suc (as_many_forms read)

pub subs_paired : (subs : List Sub) (forms : List PartEncoding) → length forms ≡ length subs → map sub_of (paired subs forms) ≡ subs
subs_paired [] forms e = refl
subs_paired (sub ∷ subs) [] e = absurd cc
subs_paired (sub ∷ subs) (form ∷ forms) e = ap (λ (others : List Sub). sub ∷ others) (subs_paired subs forms cc)

pub forms_paired : (subs : List Sub) (forms : List PartEncoding) → length forms ≡ length subs → map form_of (paired subs forms) ≡ forms
forms_paired [] [] e = refl
forms_paired [] (form ∷ forms) e = absurd cc
forms_paired (sub ∷ subs) [] e = absurd cc
forms_paired (sub ∷ subs) (form ∷ forms) e = ap (λ (others : List PartEncoding). form ∷ others) (forms_paired subs forms cc)

pub paired_more : (subs : List Sub) (forms : List PartEncoding) (part : NewerPart) → length forms ≡ length subs → paired (subs ++ part.sub ∷ []) (forms ++ part.form ∷ []) ≡ paired subs forms ++ part ∷ []
paired_more [] [] part e = refl
paired_more [] (form ∷ forms) part e = absurd cc
paired_more (sub ∷ subs) [] part e = absurd cc
paired_more (sub ∷ subs) (form ∷ forms) part e = ap (λ (others : List NewerPart). record { sub = sub; form = form } ∷ others) (paired_more subs forms part cc)

-- a fault of the parts is the fault of the multi
pub made_fails : {A B : Type 0} (fault : JuteFault) (make : A → B) (read : Result (A × List ℕ) JuteFault) → Fails fault read → Fails fault (made_of make read)
made_fails faults.NoMemory make read is = tt
made_fails fault make read is = ap (made_of make) is

-- the owner that the next part gives
next_owner : (subs : List Sub) (forms : List PartEncoding) (i : ℕ) (sub : Sub) (d : PartEncoding) → i < length subs → i < length forms → sub ≡ get_or subs i sub
    → owners_in_parts (take (suc i) (paired subs forms)) ≡ owners_in_parts (take i (paired subs forms)) ++ owners_in_part sub (get_or forms i d)
next_owner [] forms i sub d lt less is = absurd (omega (arith, lt))
next_owner (s ∷ subs) [] i sub d lt less is = absurd (omega (arith, less))
next_owner (s ∷ subs) (form ∷ forms) zero sub d lt less is = append-nil (owners_in_part s form) ∙ ap (λ (one : Sub). owners_in_part one form) (sym is)
next_owner (s ∷ subs) (form ∷ forms) (suc i) sub d lt less is =
    ap (λ (owners : List (List ℕ × ℤ)). owners_in_part s form ++ owners) (next_owner subs forms i sub d (omega (arith, lt)) (omega (arith, less)) is)
    ∙ sym (append_assoc (owners_in_part s form) (owners_in_parts (take i (paired subs forms))) (owners_in_part sub (get_or forms i d)))

pub more_owners : (subs : List Sub) (forms : List PartEncoding) (i : ℕ) (sub : Sub) (d : PartEncoding) (owners new : List (List ℕ × ℤ)) → i < length subs → i < length forms → sub ≡ get_or subs i sub
    → new ≡ owners ++ owners_in_part sub (get_or forms i d) → owners ≡ owners_in_parts (take i (paired subs forms)) → new ≡ owners_in_parts (take (i + 1) (paired subs forms))
more_owners subs forms i sub d owners new lt less is pushed so_far =
    rw add-one (pushed ∙ ap (λ (front : List (List ℕ × ℤ)). front ++ owners_in_part sub (get_or forms i d)) so_far ∙ sym (next_owner subs forms i sub d lt less is))

pub past_paired : (subs : List Sub) (forms : List PartEncoding) → length (paired subs forms) ≤ min (length subs) (length forms)
past_paired [] forms = omega arith
past_paired (sub ∷ subs) [] = omega arith
past_paired (sub ∷ subs) (form ∷ forms) = omega (arith, past_paired subs forms)
