-- What changes a node, and the parts of a multi.
use Rattle.std.proofs.Common.{◌≡◌, ℕ, ℤ, zero, suc, ◌≤◌, ◌<◌, Bool, true, false, cond, List, [], ◌∷◌, ◌++◌, drop, length, Option, Some, None, refl, sym, ap, subst, ◌∙◌, append_assoc, length-append, arith}
use Rattle.std.specs.Prelude.{codes}
use Rattle.std.specs.Fmt.{signed_decimal}
use Rattle.std.specs.List.{AllByRecursion, flat_map}
use Rattle.std.specs.Option.{option_and_then}
use Rattle.std.specs.Str.{chars}
use Rattle.zk_acl.specs.declared.acl.Acl.{Acl}
use Rattle.zk_listing.specs.declared.list_fault.ListCause.{ListCause}
use Rattle.zk_listing.specs.Reading.{IsEnd, front_of, back_of, behind, both, spaced, Fails}
use Rattle.zk_listing.proofs.Exact.{bind_some, first_is, second_is}
use Rattle.zk_listing.proofs.InsideQuotes.{Fails-then}
use Rattle.zk_listing.proofs.QuotedLaws.{behind_is}
use Rattle.zk_requests.specs.declared.call.Part.{Part}
use Rattle.zk_requests.specs.declared.call.Part.TheVariants as asked
use Rattle.zk_format.specs.Spelling.{escaped, quoted, acl_text}
use Rattle.zk_request_syntax.specs.declared.fields.Created.{Created}
use Rattle.zk_request_syntax.specs.declared.fields.Named.{Named}
use Rattle.zk_request_syntax.specs.declared.fields.Written.{Written}
use Rattle.zk_request_syntax.specs.Reading.{flag_at, int_field_at, text_field_at, acl_field_at, content_field_at, CreatedFields, created_of, created_fields_at, created_at, written_of, written_at, named_of, named_at, part_created, part_written, part_deleted, part_checked, part_words, part_at, next_part_at, parts_at, parts_in}
use Rattle.zk_request_syntax.specs.RequestLines.{SpellsText, SpellsInt, SpellsAcl, SpellsContent, flag_text, SpellsCreate, SpellsSet, SpellsNamed, SpellsPart, SpellsParts}
use Rattle.zk_request_syntax.proofs.FieldLaws.{reads_text, reads_int, reads_acl, reads_content}
use Rattle.zk_request_syntax.proofs.Flags.{flag_is, flags_again, last_flag_again, semicolon_again}
use Rattle.zk_request_syntax.proofs.Readings.{Reads, Next, NextThen, reads_last, reads_next, begins_with_end, mapped_takes, mapped_again, TakesBehind, behind_mapped, by_word_takes, ReadsWhole, whole_of}

-- a quoted text begins with a quote
pub quoted_first : (text : List ℕ) → quoted text ≡ 34 ∷ (flat_map escaped (chars text) ++ 34 ∷ [])
unfolding quoted
quoted_first text = refl

pub regroup3 : (a b c : List ℕ) → a ++ (b ++ c) ≡ (a ++ b) ++ c
regroup3 a b c = sym (append_assoc a b c)

pub regroup4 : (a b c d : List ℕ) → a ++ (b ++ (c ++ d)) ≡ ((a ++ b) ++ c) ++ d
regroup4 a b c d = simp append_assoc

regroup6 : (a b c d e f : List ℕ) → a ++ (b ++ (c ++ (d ++ (e ++ f)))) ≡ ((((a ++ b) ++ c) ++ d) ++ e) ++ f
regroup6 a b c d e f = simp append_assoc

-- ---- create

abbrev CreatedText : CreatedFields → List ℕ → Type 0
CreatedText = NextThen SpellsText (NextThen SpellsContent (Next SpellsAcl))

reads_created_fields : Reads CreatedText created_fields_at
unfolding created_fields_at
reads_created_fields =
    let acl = reads_last SpellsAcl acl_field_at reads_acl in
    let content = reads_next SpellsContent content_field_at (Next SpellsAcl) (spaced acl_field_at) reads_content acl (λ y text rest s. begins_with_end text s.field rest s.spelled) in
    let f = reads_next SpellsText text_field_at (NextThen SpellsContent (Next SpellsAcl)) (both (spaced content_field_at) (spaced acl_field_at)) reads_text content (λ y text rest s. begins_with_end text (s.field ++ s.others) rest s.spelled) in
    record { takes = λ bytes x rest h. f.takes bytes x rest h; again = λ x text rest s e. f.again x text rest s e }

abbrev created_text : List ℕ → List ℕ → List Acl → List ℕ
created_text path field acl = 32 ∷ (quoted path ++ (32 ∷ (field ++ (32 ∷ acl_text acl))))

created_text_is : (x : CreatedFields) (text : List ℕ) (t : CreatedText x text) → text ≡ created_text x.0 t.follows.field x.1.1
created_text_is x text t =
    let last : t.follows.others ≡ 32 ∷ acl_text x.1.1 = t.follows.follows.spelled ∙ ap (λ (f : List ℕ). 32 ∷ f) t.follows.follows.spells.1 in
    let middle : t.others ≡ 32 ∷ (t.follows.field ++ (32 ∷ acl_text x.1.1)) = t.follows.spelled ∙ ap (λ (o : List ℕ). 32 ∷ (t.follows.field ++ o)) last in
    t.spelled ∙ ap (λ (f : List ℕ). 32 ∷ (f ++ t.others)) t.spells.1 ∙ ap (λ (o : List ℕ). 32 ∷ (quoted x.0 ++ o)) middle

-- what stands after the word
abbrev pub CreatedBehind : Created → List ℕ → Type 0
CreatedBehind x text = SpellsCreate x.path x.content x.acl x.flags (codes "create" ++ text)

created_takes : (bytes : List ℕ) (x : Created) (rest : List ℕ) → created_at bytes ≡ Some (x, rest) → (text : List ℕ) × CreatedBehind x text × (bytes ≡ text ++ rest)
unfolding created_at
created_takes bytes x rest h =
    let s = flag_at (codes "-s") bytes in
    let e = flag_at (codes "-e") s.1 in
    let m = mapped_takes CreatedText created_fields_at reads_created_fields (created_of s.0 e.0) e.1 x rest h in
    let one : List ℕ = flag_text s.0 (codes "-s") in
    let two : List ℕ = flag_text e.0 (codes "-e") in
    let t = m.spells in
    let spelled : codes "create" ++ (one ++ (two ++ m.text)) ≡ codes "create" ++ one ++ two ++ 32 ∷ quoted m.of.0 ++ 32 ∷ t.follows.field ++ 32 ∷ acl_text m.of.1.1 =
    ap (λ (b : List ℕ). codes "create" ++ (one ++ (two ++ b))) (created_text_is m.of m.text t) ∙ regroup6 (codes "create") one two (32 ∷ quoted m.of.0) (32 ∷ t.follows.field) (32 ∷ acl_text m.of.1.1) in
    let made : CreatedBehind (created_of s.0 e.0 m.of) (one ++ (two ++ m.text)) = record {
      sequential = s.0;
      ephemeral = e.0;
      flagged = refl;
      is_text = t.spells.0;
      field = t.follows.field;
      is_content = t.follows.spells;
      are_acls = t.follows.follows.spells.0;
      spelled = spelled;
    } in
    let whole : bytes ≡ (one ++ (two ++ m.text)) ++ rest = flag_is (codes "-s") bytes ∙ ap (λ (b : List ℕ). one ++ b) (flag_is (codes "-e") s.1 ∙ ap (λ (b : List ℕ). two ++ b) m.split) ∙ spread one two m.text rest in
    (one ++ (two ++ m.text), subst (λ (v : Created). CreatedBehind v (one ++ (two ++ m.text))) m.same made, whole)
  where
    spread : (a b c d : List ℕ) → a ++ (b ++ (c ++ d)) ≡ (a ++ (b ++ c)) ++ d
    spread a b c d = simp append_assoc

-- the flags, and then the fields
created_split : (path : List ℕ) (content : Option (List ℕ)) (acl : List Acl) (flags : ℤ) (text : List ℕ) (s : SpellsCreate path content acl flags text) → text ≡ codes "create" ++ (flag_text s.sequential (codes "-s") ++ (flag_text s.ephemeral (codes "-e") ++ created_text path s.field acl))
created_split path content acl flags text s = s.spelled ∙ sym (regroup6 (codes "create") (flag_text s.sequential (codes "-s")) (flag_text s.ephemeral (codes "-e")) (32 ∷ quoted path) (32 ∷ s.field) (32 ∷ acl_text acl))

by_flags : (s e : Bool) (body rest : List ℕ) (tail : List ℕ) (x : CreatedFields) → body ++ rest ≡ 32 ∷ 34 ∷ tail → CreatedText x body → IsEnd rest → created_at (flag_text s (codes "-s") ++ (flag_text e (codes "-e") ++ (body ++ rest))) ≡ Some (created_of s e x, rest)
unfolding created_at
by_flags s e body rest tail x first t end =
    let one : flag_at (codes "-s") (flag_text s (codes "-s") ++ (flag_text e (codes "-e") ++ (body ++ rest))) ≡ (s, flag_text e (codes "-e") ++ (body ++ rest)) = rw first (flags_again s e tail) in
    let two : flag_at (codes "-e") (flag_text e (codes "-e") ++ (body ++ rest)) ≡ (e, body ++ rest) = rw first (last_flag_again e tail) in
    rw (one, two) (mapped_again CreatedText created_fields_at reads_created_fields (created_of s e) x body rest t end)

created_again : (x : Created) (text rest : List ℕ) → CreatedBehind x text → IsEnd rest → created_at (text ++ rest) ≡ Some (x, rest)
created_again x text rest s e =
    let body : List ℕ = created_text x.path s.field x.acl in
    let one : List ℕ = flag_text s.sequential (codes "-s") in
    let two : List ℕ = flag_text s.ephemeral (codes "-e") in
    let split : text ≡ one ++ (two ++ body) = ap (λ (b : List ℕ). drop 6 b) (created_split x.path x.content x.acl x.flags (codes "create" ++ text) s) in
    let fields : CreatedFields = (x.path, (x.content, x.acl)) in
    let t : CreatedText fields body = record { field = quoted x.path; others = 32 ∷ (s.field ++ (32 ∷ acl_text x.acl)); spells = (s.is_text, refl); follows = record { field = s.field; others = 32 ∷ acl_text x.acl; spells = s.is_content; follows = record { field = acl_text x.acl; spells = (s.are_acls, refl); spelled = refl }; spelled = refl }; spelled = refl } in
    let tail : List ℕ = ((flat_map escaped (chars x.path) ++ 34 ∷ []) ++ (32 ∷ (s.field ++ (32 ∷ acl_text x.acl)))) ++ rest in
    let first : body ++ rest ≡ 32 ∷ 34 ∷ tail = ap (λ (q : List ℕ). 32 ∷ ((q ++ (32 ∷ (s.field ++ (32 ∷ acl_text x.acl)))) ++ rest)) (quoted_first x.path) in
    let spread : (one ++ (two ++ body)) ++ rest ≡ one ++ (two ++ (body ++ rest)) = append_assoc one (two ++ body) rest ∙ ap (λ (b : List ℕ). one ++ b) (append_assoc two body rest) in
    let same : created_of s.sequential s.ephemeral fields ≡ x = ap (λ (f : ℤ). record { path = x.path; content = x.content; acl = x.acl; flags = f }) (sym s.flagged) in
    ap (λ (b : List ℕ). created_at (b ++ rest)) split ∙ ap created_at spread ∙ by_flags s.sequential s.ephemeral body rest tail fields first t e ∙ ap (λ (v : Created). Some (v, rest)) same

pub reads_created : Reads CreatedBehind created_at
reads_created = record { takes = created_takes; again = created_again }

-- a create begins with its word and a space
pub create_begins : (path : List ℕ) (content : Option (List ℕ)) (acl : List Acl) (flags : ℤ) (text : List ℕ) → SpellsCreate path content acl flags text → (body : List ℕ) × (text ≡ codes "create" ++ 32 ∷ body)
create_begins path content acl flags text s = by_flag s.sequential s.ephemeral (created_split path content acl flags text s)
  where
    by_flag : (one two : Bool) → text ≡ codes "create" ++ (flag_text one (codes "-s") ++ (flag_text two (codes "-e") ++ created_text path s.field acl)) → (body : List ℕ) × (text ≡ codes "create" ++ 32 ∷ body)
    by_flag true two h = (codes "-s" ++ (flag_text two (codes "-e") ++ created_text path s.field acl), h)
    by_flag false true h = (codes "-e" ++ created_text path s.field acl, h)
    by_flag false false h = (quoted path ++ (32 ∷ (s.field ++ (32 ∷ acl_text acl))), h)

-- ---- set, delete and check

abbrev WrittenText : List ℕ × (Option (List ℕ) × ℤ) → List ℕ → Type 0
WrittenText = NextThen SpellsText (NextThen SpellsContent (Next SpellsInt))

abbrev pub WrittenBehind : Written → List ℕ → Type 0
WrittenBehind x text = SpellsSet x.path x.content x.version (codes "set" ++ text)

pub set_begins : (path : List ℕ) (content : Option (List ℕ)) (version : ℤ) (text : List ℕ) (s : SpellsSet path content version text) → text ≡ codes "set" ++ 32 ∷ (quoted path ++ (32 ∷ (s.field ++ (32 ∷ signed_decimal version))))
set_begins path content version text s = s.spelled ∙ sym (regroup4 (codes "set ") (quoted path) (32 ∷ s.field) (32 ∷ signed_decimal version))

pub reads_written : Reads WrittenBehind written_at
unfolding written_at
reads_written =
    let version = reads_last SpellsInt int_field_at reads_int in
    let content = reads_next SpellsContent content_field_at (Next SpellsInt) (spaced int_field_at) reads_content version (λ y text rest s. begins_with_end text s.field rest s.spelled) in
    let fields = reads_next SpellsText text_field_at (NextThen SpellsContent (Next SpellsInt)) (both (spaced content_field_at) (spaced int_field_at)) reads_text content (λ y text rest s. begins_with_end text (s.field ++ s.others) rest s.spelled) in
    record {
      takes = λ bytes x rest h.
          let m = mapped_takes WrittenText (both (spaced text_field_at) (both (spaced content_field_at) (spaced int_field_at))) fields written_of bytes x rest h in
          let t = m.spells in
          let last : t.follows.others ≡ 32 ∷ signed_decimal m.of.1.1 = t.follows.follows.spelled ∙ ap (λ (f : List ℕ). 32 ∷ f) t.follows.follows.spells.1 in
          let middle : t.others ≡ 32 ∷ (t.follows.field ++ (32 ∷ signed_decimal m.of.1.1)) = t.follows.spelled ∙ ap (λ (o : List ℕ). 32 ∷ (t.follows.field ++ o)) last in
          let whole : m.text ≡ 32 ∷ (quoted m.of.0 ++ (32 ∷ (t.follows.field ++ (32 ∷ signed_decimal m.of.1.1)))) = t.spelled ∙ ap (λ (f : List ℕ). 32 ∷ (f ++ t.others)) t.spells.1 ∙ ap (λ (o : List ℕ). 32 ∷ (quoted m.of.0 ++ o)) middle in
          let made : WrittenBehind (written_of m.of) m.text = record {
            is_text = t.spells.0;
            field = t.follows.field;
            is_content = t.follows.spells;
            in_range = t.follows.follows.spells.0;
            spelled = ap (λ (b : List ℕ). codes "set" ++ b) whole ∙ regroup4 (codes "set ") (quoted m.of.0) (32 ∷ t.follows.field) (32 ∷ signed_decimal m.of.1.1);
          } in
          (m.text, subst (λ (v : Written). WrittenBehind v m.text) m.same made, m.split);
      again = λ x text rest s e.
          let body : List ℕ = 32 ∷ (quoted x.path ++ (32 ∷ (s.field ++ (32 ∷ signed_decimal x.version)))) in
          let split : text ≡ body = ap (λ (b : List ℕ). drop 3 b) (set_begins x.path x.content x.version (codes "set" ++ text) s) in
          let values : List ℕ × (Option (List ℕ) × ℤ) = (x.path, (x.content, x.version)) in
          let t : WrittenText values body = record { field = quoted x.path; others = 32 ∷ (s.field ++ (32 ∷ signed_decimal x.version)); spells = (s.is_text, refl); follows = record { field = s.field; others = 32 ∷ signed_decimal x.version; spells = s.is_content; follows = record { field = signed_decimal x.version; spells = (s.in_range, refl); spelled = refl }; spelled = refl }; spelled = refl } in
          ap (λ (b : List ℕ). written_at (b ++ rest)) split ∙ mapped_again WrittenText (both (spaced text_field_at) (both (spaced content_field_at) (spaced int_field_at))) fields written_of values body rest t e;
    }

abbrev pub NamedText : List ℕ × ℤ → List ℕ → Type 0
NamedText = NextThen SpellsText (Next SpellsInt)

pub named_begins : (word path : List ℕ) (version : ℤ) (text : List ℕ) → SpellsNamed word path version text → text ≡ word ++ 32 ∷ (quoted path ++ (32 ∷ signed_decimal version))
named_begins word path version text s = s.spelled ∙ sym (regroup3 word (32 ∷ quoted path) (32 ∷ signed_decimal version))

-- the fields alone, whatever the word is
abbrev pub NamedFields : Named → List ℕ → Type 0
NamedFields x text = NamedText (x.path, x.version) text

pub named_with : (word : List ℕ) (x : Named) (text : List ℕ) → NamedFields x text → SpellsNamed word x.path x.version (word ++ text)
named_with word x text t =
    let last : t.others ≡ 32 ∷ signed_decimal x.version = t.follows.spelled ∙ ap (λ (f : List ℕ). 32 ∷ f) t.follows.spells.1 in
    let whole : text ≡ 32 ∷ (quoted x.path ++ (32 ∷ signed_decimal x.version)) = t.spelled ∙ ap (λ (f : List ℕ). 32 ∷ (f ++ t.others)) t.spells.1 ∙ ap (λ (o : List ℕ). 32 ∷ (quoted x.path ++ o)) last in
    record { is_text = t.spells.0; in_range = t.follows.spells.0; spelled = ap (λ (b : List ℕ). word ++ b) whole ∙ regroup3 word (32 ∷ quoted x.path) (32 ∷ signed_decimal x.version) }

pub named_fields : (word path : List ℕ) (version : ℤ) (text : List ℕ) → SpellsNamed word path version text → NamedText (path, version) (32 ∷ (quoted path ++ (32 ∷ signed_decimal version)))
named_fields word path version text s = record { field = quoted path; others = 32 ∷ signed_decimal version; spells = (s.is_text, refl); follows = record { field = signed_decimal version; spells = (s.in_range, refl); spelled = refl }; spelled = refl }

pub reads_named : Reads NamedFields named_at
unfolding named_at
reads_named =
    let version = reads_last SpellsInt int_field_at reads_int in
    let fields = reads_next SpellsText text_field_at (Next SpellsInt) (spaced int_field_at) reads_text version (λ y text rest s. begins_with_end text s.field rest s.spelled) in
    record {
      takes = λ bytes x rest h.
          let m = mapped_takes NamedText (both (spaced text_field_at) (spaced int_field_at)) fields named_of bytes x rest h in
          (m.text, subst (λ (v : Named). NamedFields v m.text) m.same m.spells, m.split);
      again = λ x text rest s e. mapped_again NamedText (both (spaced text_field_at) (spaced int_field_at)) fields named_of (x.path, x.version) text rest s e;
    }

-- ---- parts

parts_made : AllByRecursion (λ e. TakesBehind SpellsPart e.0 e.1) part_words
parts_made = (
  behind_mapped CreatedBehind created_at reads_created part_created (codes "create") SpellsPart (λ x text s. s),
  (
    behind_mapped NamedFields named_at reads_named part_deleted (codes "delete") SpellsPart (λ x text s. named_with (codes "delete") x text s),
    (
      behind_mapped WrittenBehind written_at reads_written part_written (codes "set") SpellsPart (λ x text s. s),
      (
        behind_mapped NamedFields named_at reads_named part_checked (codes "check") SpellsPart (λ x text s. named_with (codes "check") x text s),
        tt,
      ),
    ),
  ),
)

part_again : (x : Part) (text rest : List ℕ) → SpellsPart x text → IsEnd rest → part_at (text ++ rest) ≡ Some (x, rest)
unfolding part_at front_of back_of
part_again (asked.Create path content acl flags) text rest s e =
    let x : Created = record { path = path; content = content; acl = acl; flags = flags } in
    let split = create_begins path content acl flags text s in
    let behind_it : CreatedBehind x (32 ∷ split.0) = subst (λ (t : List ℕ). SpellsCreate path content acl flags t) split.1 s in
    ap (λ (t : List ℕ). part_at (t ++ rest)) split.1 ∙ mapped_again CreatedBehind created_at reads_created part_created x (32 ∷ split.0) rest behind_it e
part_again (asked.Delete path version) text rest s e =
    ap (λ (t : List ℕ). part_at (t ++ rest)) (named_begins (codes "delete") path version text s) ∙ mapped_again NamedFields named_at reads_named part_deleted (record { path = path; version = version }) (32 ∷ (quoted path ++ (32 ∷ signed_decimal version))) rest (named_fields (codes "delete") path version text s) e
part_again (asked.SetData path content version) text rest s e =
    let x : Written = record { path = path; content = content; version = version } in
    let split = set_begins path content version text s in
    let behind_it : WrittenBehind x (32 ∷ (quoted path ++ (32 ∷ (s.field ++ (32 ∷ signed_decimal version))))) = subst (λ (t : List ℕ). SpellsSet path content version t) split s in
    ap (λ (t : List ℕ). part_at (t ++ rest)) split ∙ mapped_again WrittenBehind written_at reads_written part_written x (32 ∷ (quoted path ++ (32 ∷ (s.field ++ (32 ∷ signed_decimal version))))) rest behind_it e
part_again (asked.Check path version) text rest s e =
    ap (λ (t : List ℕ). part_at (t ++ rest)) (named_begins (codes "check") path version text s) ∙ mapped_again NamedFields named_at reads_named part_checked (record { path = path; version = version }) (32 ∷ (quoted path ++ (32 ∷ signed_decimal version))) rest (named_fields (codes "check") path version text s) e

pub reads_part : Reads SpellsPart part_at
unfolding part_at
reads_part = record { takes = λ bytes x rest h. by_word_takes SpellsPart part_words parts_made bytes x rest h; again = part_again }

pub whole_part : ReadsWhole SpellsPart part_at
whole_part = whole_of SpellsPart part_at reads_part

-- ---- parts of a multi

pub record IsNextPart (bytes : List ℕ) (x : Part) (rest : List ℕ) : Type 0 where
  pub one : List ℕ
  pub spells : SpellsPart x one
  pub split : bytes ≡ codes " ; " ++ one ++ rest

next_takes : (bytes : List ℕ) (x : Part) (rest : List ℕ) → next_part_at bytes ≡ Some (x, rest) → IsNextPart bytes x rest
unfolding next_part_at
next_takes bytes x rest h = by_flag (flag_at (codes ";") bytes).0 refl h
  where
    by_flag : (b : Bool) → (flag_at (codes ";") bytes).0 ≡ b → cond b (spaced part_at (flag_at (codes ";") bytes).1) None ≡ Some (x, rest) → IsNextPart bytes x rest
    by_flag true e found =
        let s = flag_at (codes ";") bytes in
        let t = (reads_last SpellsPart part_at reads_part).takes s.1 x rest found in
        let front : bytes ≡ 32 ∷ 59 ∷ s.1 = flag_is (codes ";") bytes ∙ ap (λ (b : Bool). flag_text b (codes ";") ++ s.1) e in
        let back : s.1 ≡ 32 ∷ (t.1.field ++ rest) = t.2 ∙ ap (λ (f : List ℕ). f ++ rest) t.1.spelled in
        record { one = t.1.field; spells = t.1.spells; split = front ∙ ap (λ (b : List ℕ). 32 ∷ 59 ∷ b) back }
    by_flag false e found = absurd (let bad : None ≡ Some (x, rest) = found in cc)

next_again : (x : Part) (one rest : List ℕ) → SpellsPart x one → IsEnd rest → next_part_at (codes " ; " ++ one ++ rest) ≡ Some (x, rest)
unfolding next_part_at
next_again x one rest s e = rw (semicolon_again (one ++ rest)) (part_again x one rest s e)

next_shorter : (bytes : List ℕ) (x : Part) (rest : List ℕ) → next_part_at bytes ≡ Some (x, rest) → length rest < length bytes
next_shorter bytes x rest h =
    let found = next_takes bytes x rest h in
    omega (arith, ap length found.split, length-append (codes " ; " ++ found.one) rest)

same_next : (n m : ℕ) (bytes : List ℕ) (x : Option (Part × List ℕ)) → next_part_at bytes ≡ x → ((rest : List ℕ) → length rest < length bytes → parts_at n rest ≡ parts_at m rest) → option_and_then (λ y. behind (y.0 ∷ []) (parts_at n y.1)) x ≡ option_and_then (λ y. behind (y.0 ∷ []) (parts_at m y.1)) x
same_next n m bytes None e same = refl
same_next n m bytes (Some y) e same = ap (behind (y.0 ∷ [])) (same y.1 (next_shorter bytes y.0 y.1 e))

-- more turns than bytes change nothing
parts_more : (n m : ℕ) (bytes : List ℕ) → length bytes ≤ n → length bytes ≤ m → parts_at n bytes ≡ parts_at m bytes
unfolding parts_at
parts_more zero zero [] h k = refl
parts_more zero (suc m) [] h k = refl
parts_more (suc n) zero [] h k = refl
parts_more (suc n) (suc m) [] h k = refl
parts_more zero m (b ∷ bs) h k = absurd (omega arith)
parts_more (suc n) zero (b ∷ bs) h k = absurd (omega arith)
parts_more (suc n) (suc m) (b ∷ bs) h k = same_next n m (b ∷ bs) (next_part_at (b ∷ bs)) refl (λ rest shorter. parts_more n m rest (omega arith) (omega arith))

pub parts_end : (bytes : List ℕ) → bytes ≡ [] → parts_in bytes ≡ Some ([], bytes)
unfolding parts_at
parts_end bytes h = rw h refl

pub parts_fail : (cause : ListCause) (bytes : List ℕ) → (bytes ≡ [] → ⊥) → Fails cause (next_part_at bytes) → Fails cause (parts_in bytes)
unfolding parts_at
parts_fail cause [] filled fails = absurd (filled refl)
parts_fail cause (b ∷ bs) filled fails =
    Fails-then cause (next_part_at (b ∷ bs)) (parts_in (b ∷ bs)) (λ none. ap (option_and_then (λ y. behind (y.0 ∷ []) (parts_at (length bs) y.1))) none) fails

pub record IsPartStep (bytes rest : List ℕ) (x : Part) : Type 0 where
  pub shorter : length rest < length bytes
  pub same : parts_in bytes ≡ behind (x ∷ []) (parts_in rest)

pub parts_step : (bytes rest : List ℕ) (x : Part) → next_part_at bytes ≡ Some (x, rest) → IsPartStep bytes rest x
unfolding parts_at
parts_step [] rest x h = absurd (let short = next_shorter [] x rest h in omega arith)
parts_step (b ∷ bs) rest x h =
    let shorter = next_shorter (b ∷ bs) x rest h in
    record {
      shorter = shorter;
      same = ap (option_and_then (λ y. behind (y.0 ∷ []) (parts_at (length bs) y.1))) h ∙ ap (behind (x ∷ [])) (parts_more (length bs) (length rest) rest (omega arith) (omega arith));
    }

none_taken : (xs : List Part) (rest : List ℕ) → ◌≡◌ {A = Option (List Part × List ℕ)} (Some ([], [])) (Some (xs, rest)) → SpellsParts xs [] × (rest ≡ [])
none_taken xs rest h =
    let same : [] ≡ xs = first_is {A = List Part} {B = List ℕ} ([], []) (xs, rest) h in
    let left : [] ≡ rest = second_is {A = List Part} {B = List ℕ} ([], []) (xs, rest) h in
    (subst (λ (v : List Part). SpellsParts v []) same refl, sym left)

pub parts_take : (n : ℕ) (bytes : List ℕ) (xs : List Part) (rest : List ℕ) → parts_at n bytes ≡ Some (xs, rest) → SpellsParts xs bytes × (rest ≡ [])
unfolding parts_at
parts_take zero [] xs rest h = none_taken xs rest h
parts_take (suc n) [] xs rest h = none_taken xs rest h
parts_take zero (b ∷ bs) xs rest h = absurd (let bad : None ≡ Some (xs, rest) = h in cc)
parts_take (suc n) (b ∷ bs) xs rest h =
    let p = bind_some {B = List Part × List ℕ} (next_part_at (b ∷ bs)) (λ y. behind (y.0 ∷ []) (parts_at n y.1)) (xs, rest) h in
    let y = behind_is (p.0.0 ∷ []) (parts_at n p.0.1) (xs, rest) p.2 in
    let one = next_takes (b ∷ bs) p.0.0 p.0.1 p.1 in
    let others = parts_take n p.0.1 y.0.0 y.0.1 y.1 in
    let all : SpellsParts (p.0.0 ∷ y.0.0) (b ∷ bs) = (one.one, p.0.1, one.spells, others.0, one.split) in
    (subst (λ (v : List Part). SpellsParts v (b ∷ bs)) y.2 all, sym y.3 ∙ others.1)

parts_ended : (xs : List Part) (text : List ℕ) → SpellsParts xs text → IsEnd text
parts_ended [] text s = subst IsEnd (sym s) tt
parts_ended (x ∷ xs) text s = subst IsEnd (sym s.4) refl

pub parts_again : (xs : List Part) (text : List ℕ) → SpellsParts xs text → parts_in text ≡ Some (xs, [])
parts_again [] text s = parts_end text s ∙ ap (λ (r : List ℕ). Some ([], r)) s
parts_again (x ∷ xs) text s =
    let found = next_again x s.0 s.1 s.2 (parts_ended xs s.1 s.3) in
    ap parts_in s.4 ∙ (parts_step (codes " ; " ++ s.0 ++ s.1) s.1 x found).same ∙ ap (behind (x ∷ [])) (parts_again xs s.1 s.3)
