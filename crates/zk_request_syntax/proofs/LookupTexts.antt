-- A read is read exactly if its text has this form.
use Rattle.std.proofs.Common.{◌≡◌, ℕ, Bool, true, false, cond, List, [], ◌∷◌, ◌++◌, Option, Some, None, refl, sym, ap, subst, ◌∙◌, append_assoc}
use Rattle.std.specs.Prelude.{codes, is_none}
use Rattle.std.specs.List.{AllByRecursion, flat_map}
use Rattle.std.specs.Str.{IsUtf8, chars}
use Rattle.zk_listing.specs.Reading.{IsEnd, front_of, back_of, spaced, mapped}
use Rattle.zk_path.specs.Paths.{IsPath, fault_of}
use Rattle.zk_path.specs.declared.fault.PathFault.{PathFault}
use Rattle.zk_path.proofs.FaultLaw.{IsPath-from_fault, fault_of-IsPath}
use Rattle.zk_format.specs.Spelling.{escaped, quoted}
use Rattle.zk_table.specs.Replies.{path_read}
use Rattle.zk_table.specs.declared.read.ReadCall.{ReadCall}
use Rattle.zk_table.specs.declared.read.ReadCall.TheVariants as calls
use Rattle.zk_request_syntax.specs.declared.lookups.Aspect.{Aspect}
use Rattle.zk_request_syntax.specs.declared.lookups.Aspect.TheVariants as aspects
use Rattle.zk_request_syntax.specs.declared.lookups.Lookup.{Lookup}
use Rattle.zk_request_syntax.specs.declared.lookups.Lookup.TheVariants as lookups
use Rattle.zk_request_syntax.specs.Reading.{flag_at, text_field_at, call_of, lookup_of, watched_at, lookup_words, lookup_at}
use Rattle.zk_request_syntax.specs.RequestLines.{SpellsText, flag_text, lookup_word, MaySetWatch, SpellsRead, SpellsLookup}
use Rattle.zk_request_syntax.proofs.FieldLaws.{reads_text}
use Rattle.zk_request_syntax.proofs.Flags.{flag_is, watch_again}
use Rattle.zk_request_syntax.proofs.PartTexts.{quoted_first}
use Rattle.zk_request_syntax.proofs.Readings.{Next, reads_last, mapped_takes, mapped_again, TakesBehind, by_word_takes, ReadsWhole, whole_of}

-- ---- what is read has its form

path_of_call : (aspect : Aspect) (path : List ℕ) → path_read (call_of aspect path) ≡ path
path_of_call aspects.Content path = refl
path_of_call aspects.Existence path = refl
path_of_call aspects.Children path = refl
path_of_call aspects.Acl path = refl

lookup_made : (aspect : Aspect) (watch : Bool) (path text : List ℕ) → SpellsRead (call_of aspect path) watch text → SpellsLookup (lookup_of aspect watch path) text
lookup_made aspect watch path text s = by_fault (fault_of path) refl
  where
    by_fault : (o : Option PathFault) → fault_of path ≡ o → SpellsLookup (cond (is_none o) (lookups.Asks (call_of aspect path) watch) lookups.BadPath) text
    by_fault None e = (s, subst IsPath (sym (path_of_call aspect path)) (IsPath-from_fault path e))
    by_fault (Some fault) e = (
      call_of aspect path,
      watch,
      s,
      λ is_path. no_fault fault e (fault_of-IsPath path (subst IsPath (path_of_call aspect path) is_path)),
    )
      where
        no_fault : (f : PathFault) → fault_of path ≡ Some f → fault_of path ≡ None → ⊥
        no_fault f e none = let bad : ◌≡◌ {A = Option PathFault} None (Some f) = sym none ∙ e in cc

-- an aspect whose reads begin with a word, and may set a watch
record IsWord (word : List ℕ) (aspect : Aspect) : Type 0 where
  named : (path : List ℕ) → lookup_word (call_of aspect path) ≡ word

read_made : (word : List ℕ) (aspect : Aspect) → IsWord word aspect → (watch : Bool) → ((path : List ℕ) → MaySetWatch (call_of aspect path) watch) → (path text : List ℕ) → Next SpellsText path text → SpellsLookup (lookup_of aspect watch path) (word ++ (flag_text watch (codes "-w") ++ text))
read_made word aspect is watch may path text s =
    let flag : List ℕ = flag_text watch (codes "-w") in
    let whole : text ≡ 32 ∷ quoted path = s.spelled ∙ ap (λ (f : List ℕ). 32 ∷ f) s.spells.1 in
    let same : path_read (call_of aspect path) ≡ path = path_of_call aspect path in
    lookup_made aspect watch path (word ++ (flag ++ text)) (record {
      is_text = subst IsUtf8 (sym same) s.spells.0;
      may_watch = may path;
      spelled = ap (λ (t : List ℕ). word ++ (flag ++ t)) whole ∙ sym (append_assoc word flag (32 ∷ quoted path)) ∙ ap (λ (w : List ℕ). w ++ flag ++ (32 ∷ quoted path)) (sym (is.named path)) ∙ ap (λ (p : List ℕ). lookup_word (call_of aspect path) ++ flag ++ (32 ∷ quoted p)) (sym same);
    })

watched_takes : (word : List ℕ) (aspect : Aspect) → IsWord word aspect → ((path : List ℕ) (watch : Bool) → MaySetWatch (call_of aspect path) watch) → TakesBehind SpellsLookup word (watched_at aspect)
watched_takes word aspect is may = λ bytes y rest h.
    let w = flag_at (codes "-w") bytes in
    let flag : List ℕ = flag_text w.0 (codes "-w") in
    let m = mapped_takes (Next SpellsText) (spaced text_field_at) (reads_last SpellsText text_field_at reads_text) (lookup_of aspect w.0) w.1 y rest h in
    let made = read_made word aspect is w.0 (λ path. may path w.0) m.of m.text m.spells in
    let whole : word ++ bytes ≡ (word ++ (flag ++ m.text)) ++ rest = ap (λ (b : List ℕ). word ++ b) (flag_is (codes "-w") bytes ∙ ap (λ (b : List ℕ). flag ++ b) m.split) ∙ spread word flag m.text rest in
    (word ++ (flag ++ m.text), subst (λ (v : Lookup). SpellsLookup v (word ++ (flag ++ m.text))) m.same made, whole)
  where
    spread : (a b c d : List ℕ) → a ++ (b ++ (c ++ d)) ≡ (a ++ (b ++ c)) ++ d
    spread a b c d = simp append_assoc

acl_takes : TakesBehind SpellsLookup (codes "getacl") (mapped (lookup_of aspects.Acl false) (spaced text_field_at))
acl_takes = λ bytes y rest h.
    let m = mapped_takes (Next SpellsText) (spaced text_field_at) (reads_last SpellsText text_field_at reads_text) (lookup_of aspects.Acl false) bytes y rest h in
    let made = read_made (codes "getacl") aspects.Acl (record { named = λ path. refl }) false (λ path. refl) m.of m.text m.spells in
    (codes "getacl" ++ m.text, subst (λ (v : Lookup). SpellsLookup v (codes "getacl" ++ m.text)) m.same made, ap (λ (b : List ℕ). codes "getacl" ++ b) m.split)

lookups_made : AllByRecursion (λ e. TakesBehind SpellsLookup e.0 e.1) lookup_words
lookups_made = (
  watched_takes (codes "get") aspects.Content (record { named = λ path. refl }) (λ path watch. tt),
  (
    watched_takes (codes "stat") aspects.Existence (record { named = λ path. refl }) (λ path watch. tt),
    (watched_takes (codes "ls") aspects.Children (record { named = λ path. refl }) (λ path watch. tt), (acl_takes, tt)),
  ),
)

-- ---- what has the form is read

text_again : (aspect : Aspect) (watch : Bool) (path rest : List ℕ) → IsUtf8 path → IsEnd rest → mapped (lookup_of aspect watch) (spaced text_field_at) ((32 ∷ quoted path) ++ rest) ≡ Some (lookup_of aspect watch path, rest)
text_again aspect watch path rest utf8 e =
    mapped_again (Next SpellsText) (spaced text_field_at) (reads_last SpellsText text_field_at reads_text) (lookup_of aspect watch) path (32 ∷ quoted path) rest (record { field = quoted path; spells = (utf8, refl); spelled = refl }) e

watched_again : (aspect : Aspect) (watch : Bool) (path rest : List ℕ) → IsUtf8 path → IsEnd rest → watched_at aspect (flag_text watch (codes "-w") ++ ((32 ∷ quoted path) ++ rest)) ≡ Some (lookup_of aspect watch path, rest)
watched_again aspect watch path rest utf8 e =
    let tail : List ℕ = (flat_map escaped (chars path) ++ 34 ∷ []) ++ rest in
    let first : (32 ∷ quoted path) ++ rest ≡ 32 ∷ 34 ∷ tail = ap (λ (q : List ℕ). 32 ∷ (q ++ rest)) (quoted_first path) in
    let flag : flag_at (codes "-w") (flag_text watch (codes "-w") ++ ((32 ∷ quoted path) ++ rest)) ≡ (watch, (32 ∷ quoted path) ++ rest) = rw first (watch_again watch tail) in
    rw flag (text_again aspect watch path rest utf8 e)

abbrev aspect_of : ReadCall → Aspect
aspect_of (calls.GetData path) = aspects.Content
aspect_of (calls.Exists path) = aspects.Existence
aspect_of (calls.GetChildren path) = aspects.Children
aspect_of (calls.GetAcl path) = aspects.Acl

read_again : (call : ReadCall) (watch : Bool) (rest : List ℕ) → IsUtf8 (path_read call) → MaySetWatch call watch → IsEnd rest → lookup_at (lookup_word call ++ (flag_text watch (codes "-w") ++ ((32 ∷ quoted (path_read call)) ++ rest))) ≡ Some (lookup_of (aspect_of call) watch (path_read call), rest)
unfolding lookup_at front_of back_of
read_again (calls.GetData path) true rest utf8 may e = watched_again aspects.Content true path rest utf8 e
read_again (calls.GetData path) false rest utf8 may e = watched_again aspects.Content false path rest utf8 e
read_again (calls.Exists path) true rest utf8 may e = watched_again aspects.Existence true path rest utf8 e
read_again (calls.Exists path) false rest utf8 may e = watched_again aspects.Existence false path rest utf8 e
read_again (calls.GetChildren path) true rest utf8 may e = watched_again aspects.Children true path rest utf8 e
read_again (calls.GetChildren path) false rest utf8 may e = watched_again aspects.Children false path rest utf8 e
read_again (calls.GetAcl path) true rest utf8 may e = absurd (let bad : true ≡ false = may in cc)
read_again (calls.GetAcl path) false rest utf8 may e = text_again aspects.Acl false path rest utf8 e

spelled_again : (call : ReadCall) (watch : Bool) (text rest : List ℕ) → SpellsRead call watch text → IsEnd rest → lookup_at (text ++ rest) ≡ Some (lookup_of (aspect_of call) watch (path_read call), rest)
spelled_again call watch text rest s e =
    let word : List ℕ = lookup_word call in
    let flag : List ℕ = flag_text watch (codes "-w") in
    ap (λ (t : List ℕ). lookup_at (t ++ rest)) s.spelled ∙ ap lookup_at (spread word flag (32 ∷ quoted (path_read call)) rest) ∙ read_again call watch rest s.is_text s.may_watch e
  where
    spread : (a b c d : List ℕ) → (a ++ b ++ c) ++ d ≡ a ++ (b ++ (c ++ d))
    spread a b c d = simp append_assoc

same_call : (call : ReadCall) → call_of (aspect_of call) (path_read call) ≡ call
same_call (calls.GetData path) = refl
same_call (calls.Exists path) = refl
same_call (calls.GetChildren path) = refl
same_call (calls.GetAcl path) = refl

asks_again : (call : ReadCall) (watch : Bool) → IsPath (path_read call) → lookup_of (aspect_of call) watch (path_read call) ≡ lookups.Asks call watch
asks_again call watch is_path = rw (fault_of-IsPath (path_read call) is_path) (ap (λ (c : ReadCall). lookups.Asks c watch) (same_call call))

bad_again : (aspect : Aspect) (watch : Bool) (path : List ℕ) → (IsPath path → ⊥) → lookup_of aspect watch path ≡ lookups.BadPath
bad_again aspect watch path bad = by_fault (fault_of path) refl
  where
    by_fault : (o : Option PathFault) → fault_of path ≡ o → cond (is_none o) (lookups.Asks (call_of aspect path) watch) lookups.BadPath ≡ lookups.BadPath
    by_fault None e = absurd (bad (IsPath-from_fault path e))
    by_fault (Some fault) e = refl

pub lookup_again : (x : Lookup) (text rest : List ℕ) → SpellsLookup x text → IsEnd rest → lookup_at (text ++ rest) ≡ Some (x, rest)
lookup_again (lookups.Asks call watch) text rest s e = spelled_again call watch text rest s.0 e ∙ ap (λ (v : Lookup). Some (v, rest)) (asks_again call watch s.1)
lookup_again lookups.BadPath text rest s e = spelled_again s.0 s.1 text rest s.2 e ∙ ap (λ (v : Lookup). Some (v, rest)) (bad_again (aspect_of s.0) s.1 (path_read s.0) s.3)

pub whole_lookup : ReadsWhole SpellsLookup lookup_at
unfolding lookup_at
whole_lookup = whole_of SpellsLookup lookup_at (record { takes = λ bytes x rest h. by_word_takes SpellsLookup lookup_words lookups_made bytes x rest h; again = lookup_again })
