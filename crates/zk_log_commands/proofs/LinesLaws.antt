-- Texts that are written in order.
use Rattle.std.proofs.Common.{◌≡◌, ℕ, ◌+◌, ◌<◌, List, [], ◌∷◌, ◌++◌, Option, Result, Ok, Err, length, take, drop, get_or, refl, sym, ap, ◌∙◌, subst, append_assoc, append-nil, take-append-drop, length-append, arith}
use Rattle.std.proofs.KnownBytes.{Appends-nil, Appends-trans}
use Rattle.std.proofs.lemmas.List.{drop_more, take_more}
use Rattle.std.proofs.lemmas.List.Concat.{flat_map-append}
use Rattle.std.specs.List.{flat_map}
use Rattle.zk_records.specs.Sinks.{writer_of}
use Rattle.zk_records.specs.declared.sink.Sink.{Sink}
use Rattle.zk_log_commands.specs.declared.lines.LineFault.{LineFault}
use Rattle.zk_log_commands.specs.declared.lines.LineFault.TheVariants as faults
use Rattle.zk_log_commands.specs.Writing.{Wrote, BrokeOff, WrotePart, Writes}

module _ {W : Type 0} (contents : W → Option (List ℕ)) where
  pub wrote_nothing : (sink : Sink W) → Wrote contents sink sink []
  wrote_nothing sink = record { bytes = Appends-nil (contents (writer_of sink)); failures = refl }

  pub wrote_more : (old mid new : Sink W) (a b : List ℕ) → Wrote contents old mid a → Wrote contents mid new b → Wrote contents old new (a ++ b)
  wrote_more old mid new a b p q = record {
    bytes = Appends-trans (contents (writer_of old)) (contents (writer_of mid)) (contents (writer_of new)) a b p.bytes q.bytes;
    failures = q.failures ∙ p.failures;
  }

  pub broke_off_later : (old mid new : Sink W) (a b : List ℕ) → Wrote contents old mid a → BrokeOff contents mid new b → BrokeOff contents old new (a ++ b)
  broke_off_later old mid new a b p q =
      let some = q.bytes in record {
        bytes = (
          a ++ some.0,
          (
            some.1.0,
            some.1.1,
            ap (λ l. a ++ l) some.1.2 ∙ sym (append_assoc a some.0 some.1.0),
            Appends-trans (contents (writer_of old)) (contents (writer_of mid)) (contents (writer_of new)) a some.0 p.bytes some.1.3,
          ),
        );
        failures = q.failures ∙ ap (λ n. n + 1) p.failures;
      }

  pub broke_off_earlier : (old new : Sink W) (a b : List ℕ) → BrokeOff contents old new a → BrokeOff contents old new (a ++ b)
  broke_off_earlier old new a b q =
      let some = q.bytes in
      let filled : 0 < length some.1.0 = some.1.1 in
      let longer : 0 < length (some.1.0 ++ b) = omega (arith, length-append some.1.0 b) in record {
        bytes = (some.0, (some.1.0 ++ b, longer, ap (λ l. l ++ b) some.1.2 ∙ append_assoc some.0 some.1.0 b, some.1.3));
        failures = q.failures;
      }

  pub part_later : (old mid new : Sink W) (a b : List ℕ) → Wrote contents old mid a → WrotePart contents mid new b → WrotePart contents old new (a ++ b)
  part_later old mid new a b p q = record {
    front = a ++ q.front;
    rest = q.rest;
    whole = ap (λ l. a ++ l) q.whole ∙ sym (append_assoc a q.front q.rest);
    wrote = wrote_more old mid new a q.front p q.wrote;
  }

  pub part_earlier : (old new : Sink W) (a b : List ℕ) → WrotePart contents old new a → WrotePart contents old new (a ++ b)
  part_earlier old new a b q = record {
    front = q.front;
    rest = q.rest ++ b;
    whole = ap (λ l. l ++ b) q.whole ∙ append_assoc q.front q.rest b;
    wrote = q.wrote;
  }

  -- the empty text is a prefix of each text
  pub part_of_none : (sink : Sink W) (text : List ℕ) → WrotePart contents sink sink text
  part_of_none sink text = record { front = []; rest = text; whole = refl; wrote = wrote_nothing sink }

  -- after a text that was written whole
  pub writes_later : (old mid new : Sink W) (a b : List ℕ) (r : Result (Unit {0}) LineFault) → Wrote contents old mid a → Writes contents mid b r new → Writes contents old (a ++ b) r new
  writes_later old mid new a b (Ok done) p q = wrote_more old mid new a b p q
  writes_later old mid new a b (Err faults.Write) p q = broke_off_later old mid new a b p q
  writes_later old mid new a b (Err faults.NoMemory) p q = part_later old mid new a b p q

  -- before a text that is not written
  pub writes_earlier : (old new : Sink W) (a b : List ℕ) (e : LineFault) → Writes contents old a (Err e) new → Writes contents old (a ++ b) (Err e) new
  writes_earlier old new a b faults.Write q = broke_off_earlier old new a b q
  writes_earlier old new a b faults.NoMemory q = part_earlier old new a b q

  -- ---- a text for each element of a list

  pub wrote_one_more : {X : Type 0} (f : X → List ℕ) (xs : List X) (i : ℕ) (x : X) (old mid new : Sink W) → i < length xs → x ≡ get_or xs i x
      → Wrote contents old mid (flat_map f (take i xs)) → Wrote contents mid new (f x) → Wrote contents old new (flat_map f (take (i + 1) xs))
  wrote_one_more f xs i x old mid new within is p q =
      let more : flat_map f (take i xs) ++ f x ≡ flat_map f (take (i + 1) xs) =
      ap (λ l. flat_map f (take i xs) ++ l) (sym (append-nil (f x)) ∙ ap (λ y. f y ++ []) is) ∙ sym (flat_map-append f (take i xs) (get_or xs i x ∷ []))
      ∙ ap (λ l. flat_map f l) (sym (take_more xs i x within)) in
      subst (λ l. Wrote contents old new l) more (wrote_more old mid new (flat_map f (take i xs)) (f x) p q)

  pub stops_at_one : {X : Type 0} (f : X → List ℕ) (xs : List X) (i : ℕ) (x : X) (old mid new : Sink W) (e : LineFault) → i < length xs → x ≡ get_or xs i x
      → Wrote contents old mid (flat_map f (take i xs)) → Writes contents mid (f x) (Err e) new → Writes contents old (flat_map f xs) (Err e) new
  stops_at_one f xs i x old mid new e within is p q =
      let rest = flat_map f (drop (i + 1) xs) in
      let whole : flat_map f (take i xs) ++ (f x ++ rest) ≡ flat_map f xs =
      ap (λ y. flat_map f (take i xs) ++ (f y ++ rest)) is ∙ sym (flat_map-append f (take i xs) (get_or xs i x ∷ drop (i + 1) xs))
      ∙ ap (λ l. flat_map f (take i xs ++ l)) (sym (drop_more xs i x within)) ∙ ap (λ l. flat_map f l) (take-append-drop i xs) in
      subst (λ l. Writes contents old l (Err e) new) whole
      (writes_later old mid new (flat_map f (take i xs)) (f x ++ rest) (Err e) p (writes_earlier mid new (f x) rest e q))
