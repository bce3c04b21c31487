-- The lines of a report, one after another.
use Rattle.std.proofs.Common.{◌≡◌, ◌≤◌, ◌<◌, ◌+◌, ℕ, ℤ, suc, nat_lt, Bool, true, false, List, [], ◌∷◌, ◌++◌, Option, Result, Ok, Err, length, take, get_or, refl, sym, ap, ◌∙◌, subst, append_assoc, append-nil, codes, if◌then◌else◌, arith}
use Rattle.std.proofs.KnownBytes.{Keeps-refl}
use Rattle.std.proofs.Math.Seq.{take-suc}
use Rattle.std.proofs.lemmas.List.{take_all}
use Rattle.std.proofs.lemmas.List.Elements.{filter-append}
use Rattle.zk_directory.specs.declared.joint.Joint.{Joint}
use Rattle.zk_json.specs.Json.{AppendsLineOf, IsLineOf, id_of, object_of}
use Rattle.zk_json.specs.Times.{AppendsTime, IsTimeText}
use Rattle.zk_json_commands.proofs.Written.{lines_more}
use Rattle.zk_json_commands.specs.Lines.{AppendsLines, AreLines}
use Rattle.zk_log_commands.specs.Telling.{Outputs}
use Rattle.zk_path.specs.declared.memory.NoMemory.{NoMemory}
use Rattle.zk_records.specs.Sinks.{writer_of}
use Rattle.zk_records.specs.declared.sink.Sink.{Sink}
use Rattle.zk_verification.specs.Helps.{has_kind, help_line, kinds}
use Rattle.zk_verification.specs.Marks.{wrong_in}
use Rattle.zk_verification.specs.declared.help.Kind.{Kind}
use Rattle.zk_verification.specs.declared.mark.Mark.{Mark}
use Rattle.json.specs.Json.{Json, boolean, number}
use Rattle.zk_replay.specs.declared.exact.Exact.{Exact}
use Rattle.zk_replay.specs.declared.count.DigestCount.{DigestCount}
use Rattle.std.specs.Prelude.{OnOk, decimal, not}
use Rattle.zk_json_commands.specs.Verifications.{AppendsHelp, AppendsHelps, AppendsMark, AppendsMarks, IsHelpLine, IsMarkLine, IsReport, OutputsReport, help_fields, id_or_null, joint_fields, kinds_in, states_fields, verdict_fields}

-- ---- marks

abbrev pub AreMarked : List Mark → ℕ → List ℕ → List ℕ → Type 0
AreMarked all count old new = AppendsMarks (take count all) old new

pub none_marked : (all : List Mark) (old : List ℕ) → AreMarked all 0 old old
none_marked all old = ([], refl, sym (append-nil old))

pub next_marked : (all : List Mark) (count : ℕ) (mark : Mark) (old now new : List ℕ) → count < length all → mark ≡ get_or all count mark → AreMarked all count old now → AppendsMark mark now new → AreMarked all (count + 1) old new
next_marked all count mark old now new lt is so_far h =
    let one : count + 1 ≡ suc count = omega arith in
    let more : take count all ++ mark ∷ [] ≡ take (count + 1) all = ap (λ (m : Mark). take count all ++ m ∷ []) is ∙ sym (take-suc all count mark lt) ∙ ap (λ n. take n all) (sym one) in
    subst (λ (ms : List Mark). AppendsMarks ms old new) more
    (so_far.0 ++ h.0, lines_more IsMarkLine (take count all) mark so_far.0 h.0 so_far.1 h.1, h.2 ∙ ap (λ t. t ++ h.0) so_far.2 ∙ append_assoc old so_far.0 h.0)

pub all_marked : (all : List Mark) (count : ℕ) (old new : List ℕ) → length all ≤ count → AreMarked all count old new → AppendsMarks all old new
all_marked all count old new le h = subst (λ (ms : List Mark). AppendsMarks ms old new) (take_all count all le) h

-- a time alone
pub clock : (time : ℤ) (old text : List ℕ) → old ≡ [] → AppendsTime old time text → IsTimeText time text
clock time old text none t = subst (IsTimeText time) (sym (t.2 ∙ ap (λ (o : List ℕ). o ++ t.0) none)) t.1

-- ---- states

pub stated : (r : Result (Unit {0}) NoMemory) (base : Json) (exact : Exact) (last : ℤ) (digests : DigestCount) (old new : List ℕ) (to' exact' : ℤ) (later : Bool) (equal' other' : ℕ) (first' : Json)
    → OnOk r (AppendsLineOf (object_of ((codes "base", base) ∷ (codes "to", id_of to') ∷ (codes "exact", id_of exact') ∷ (codes "orLater", boolean later) ∷ (codes "digest", number (decimal equal')) ∷ (codes "otherDigest", number (decimal other')) ∷ (codes "otherFrom", first') ∷ [])) old new)
    → to' ≡ last → exact' ≡ exact.zxid → later ≡ not exact.is_told → equal' ≡ digests.equal → other' ≡ digests.other → first' ≡ id_or_null digests.first
    → OnOk r (AppendsLineOf (object_of (states_fields base exact last digests)) old new)
stated r base exact last digests old new to' exact' later equal' other' first' h a b c d e f =
    subst (λ (j : Json). OnOk r (AppendsLineOf (object_of ((codes "base", base) ∷ (codes "to", id_of last) ∷ (codes "exact", id_of exact.zxid) ∷ (codes "orLater", boolean (not exact.is_told)) ∷ (codes "digest", number (decimal digests.equal)) ∷ (codes "otherDigest", number (decimal digests.other)) ∷ (codes "otherFrom", j) ∷ [])) old new)) f
    (subst (λ (n : ℕ). OnOk r (AppendsLineOf (object_of ((codes "base", base) ∷ (codes "to", id_of last) ∷ (codes "exact", id_of exact.zxid) ∷ (codes "orLater", boolean (not exact.is_told)) ∷ (codes "digest", number (decimal digests.equal)) ∷ (codes "otherDigest", number (decimal n)) ∷ (codes "otherFrom", first') ∷ [])) old new)) e
    (subst (λ (n : ℕ). OnOk r (AppendsLineOf (object_of ((codes "base", base) ∷ (codes "to", id_of last) ∷ (codes "exact", id_of exact.zxid) ∷ (codes "orLater", boolean (not exact.is_told)) ∷ (codes "digest", number (decimal n)) ∷ (codes "otherDigest", number (decimal other')) ∷ (codes "otherFrom", first') ∷ [])) old new)) d
    (subst (λ (t : Bool). OnOk r (AppendsLineOf (object_of ((codes "base", base) ∷ (codes "to", id_of last) ∷ (codes "exact", id_of exact.zxid) ∷ (codes "orLater", boolean t) ∷ (codes "digest", number (decimal equal')) ∷ (codes "otherDigest", number (decimal other')) ∷ (codes "otherFrom", first') ∷ [])) old new)) c
    (subst (λ (z : ℤ). OnOk r (AppendsLineOf (object_of ((codes "base", base) ∷ (codes "to", id_of last) ∷ (codes "exact", id_of z) ∷ (codes "orLater", boolean later) ∷ (codes "digest", number (decimal equal')) ∷ (codes "otherDigest", number (decimal other')) ∷ (codes "otherFrom", first') ∷ [])) old new)) b
    (subst (λ (z : ℤ). OnOk r (AppendsLineOf (object_of ((codes "base", base) ∷ (codes "to", id_of z) ∷ (codes "exact", id_of exact') ∷ (codes "orLater", boolean later) ∷ (codes "digest", number (decimal equal')) ∷ (codes "otherDigest", number (decimal other')) ∷ (codes "otherFrom", first') ∷ [])) old new)) a h)))))

-- an epoch after another
pub joined : (r : Result (Unit {0}) NoMemory) (joint : Joint) (missing : Bool) (old new : List ℕ) (last' next' : ℤ) (missing' : Bool)
    → OnOk r (AppendsLineOf (object_of ((codes "epochEnd", id_of last') ∷ (codes "next", id_of next') ∷ (codes "missing", boolean missing') ∷ [])) old new)
    → last' ≡ joint.last → next' ≡ joint.next → missing' ≡ missing → OnOk r (AppendsLineOf (object_of (joint_fields joint missing)) old new)
joined r joint missing old new last' next' missing' h a b c =
    subst (λ (m : Bool). OnOk r (AppendsLineOf (object_of ((codes "epochEnd", id_of joint.last) ∷ (codes "next", id_of joint.next) ∷ (codes "missing", boolean m) ∷ [])) old new)) c
    (subst (λ (z : ℤ). OnOk r (AppendsLineOf (object_of ((codes "epochEnd", id_of joint.last) ∷ (codes "next", id_of z) ∷ (codes "missing", boolean missing') ∷ [])) old new)) b
    (subst (λ (z : ℤ). OnOk r (AppendsLineOf (object_of ((codes "epochEnd", id_of z) ∷ (codes "next", id_of next') ∷ (codes "missing", boolean missing') ∷ [])) old new)) a h))

-- by another base and zxid
pub stated_from : (r : Result (Unit {0}) NoMemory) (base base' : Json) (exact : Exact) (last last' : ℤ) (digests : DigestCount) (old new : List ℕ) → OnOk r (AppendsLineOf (object_of (states_fields base' exact last' digests)) old new) → base' ≡ base → last' ≡ last → OnOk r (AppendsLineOf (object_of (states_fields base exact last digests)) old new)
stated_from r base base' exact last last' digests old new h a b =
    subst (λ (j : Json). OnOk r (AppendsLineOf (object_of (states_fields j exact last digests)) old new)) a (subst (λ (z : ℤ). OnOk r (AppendsLineOf (object_of (states_fields base' exact z digests)) old new)) b h)

-- ---- helps

pub lines_joined : {A : Type 0} → (is_line : A → List ℕ → Type 0) (xs ys : List A) (text rest : List ℕ) → AreLines is_line xs text → AreLines is_line ys rest → AreLines is_line (xs ++ ys) (text ++ rest)
lines_joined is_line [] ys text rest e h = subst (λ (t : List ℕ). AreLines is_line ys (t ++ rest)) (sym e) h
lines_joined is_line (x ∷ xs) ys text rest e h = (e.0, e.1 ++ rest, e.2, lines_joined is_line xs ys e.1 rest e.3 h, ap (λ t. t ++ rest) e.4 ∙ append_assoc e.0 e.1 rest)

pub helped : (all : List Mark) (kind : Kind) (words old new : List ℕ) → has_kind kind all ≡ true → help_line kind ≡ codes "help " ++ words ++ codes "\n" → AppendsLineOf (object_of (help_fields words)) old new → AppendsHelp all kind old new
helped all kind words old new some is h =
    let one : kinds_in all (kind ∷ []) ≡ kind ∷ [] = rw some refl in
    subst (λ (ks : List Kind). AppendsLines IsHelpLine ks old new) (sym one) (h.0, (h.0, [], (words, is, h.1), refl, sym (append-nil h.0)), h.2)

pub not_helped : (all : List Mark) (kind : Kind) (old : List ℕ) → has_kind kind all ≡ false → AppendsHelp all kind old old
not_helped all kind old none =
    let no : kinds_in all (kind ∷ []) ≡ [] = rw none refl in
    subst (λ (ks : List Kind). AppendsLines IsHelpLine ks old old) (sym no) ([], refl, sym (append-nil old))

abbrev pub AreHelped : List Mark → List Kind → ℕ → List ℕ → List ℕ → Type 0
AreHelped all some count old new = AppendsHelps all (take count some) old new

pub none_helped : (all : List Mark) (some : List Kind) (old : List ℕ) → AreHelped all some 0 old old
none_helped all some old = ([], refl, sym (append-nil old))

pub next_helped : (all : List Mark) (some : List Kind) (count : ℕ) (d : Kind) (old now new : List ℕ) → count < length some → AreHelped all some count old now → AppendsHelp all (get_or some count d) now new → AreHelped all some (count + 1) old new
next_helped all some count d old now new lt so_far h =
    let kind = get_or some count d in
    let one : count + 1 ≡ suc count = omega arith in
    let more : take count some ++ kind ∷ [] ≡ take (count + 1) some = sym (take-suc some count d lt) ∙ ap (λ n. take n some) (sym one) in
    let joined = lines_joined IsHelpLine (kinds_in all (take count some)) (kinds_in all (kind ∷ [])) so_far.0 h.0 so_far.1 h.1 in
    let lines = subst (λ (ks : List Kind). AreLines IsHelpLine ks (so_far.0 ++ h.0)) (sym (filter-append (λ k. has_kind k all) (take count some) (kind ∷ []))) joined in
    subst (λ (ks : List Kind). AppendsHelps all ks old new) more
    (so_far.0 ++ h.0, lines, h.2 ∙ ap (λ t. t ++ h.0) so_far.2 ∙ append_assoc old so_far.0 h.0)

pub all_helped : (all : List Mark) (some : List Kind) (count : ℕ) (old new : List ℕ) → length some ≤ count → AreHelped all some count old new → AppendsHelps all some old new
all_helped all some count old new le h = subst (λ (ks : List Kind). AppendsHelps all ks old new) (take_all count some le) h

-- ---- the report

pub reported : (all : List Mark) (some : List Kind) (wrong : ℕ) (start marks_end helps_end text : List ℕ) → start ≡ [] → some ≡ kinds → wrong ≡ wrong_in all
    → AppendsMarks all start marks_end → AppendsHelps all some marks_end helps_end → AppendsLineOf (object_of (verdict_fields wrong)) helps_end text → IsReport all text
reported all some wrong start marks_end helps_end text none are is m h v =
    let first : marks_end ≡ m.0 = m.2 ∙ ap (λ l. l ++ m.0) none in
    let second : helps_end ≡ m.0 ++ h.0 = h.2 ∙ ap (λ l. l ++ h.0) first in
    record {
      marked = m.0;
      are_marks = m.1;
      helped = h.0;
      are_helps = subst (λ (ks : List Kind). AreLines IsHelpLine (kinds_in all ks) h.0) are h.1;
      verdict = v.0;
      is_verdict = subst (λ (n : ℕ). IsLineOf (object_of (verdict_fields n)) v.0) is v.1;
      is = v.2 ∙ ap (λ l. l ++ v.0) second;
    }

abbrev pub status_of : ℕ → ℕ → ℕ
status_of wrong put = if nat_lt 0 wrong then 1 else put

-- the text was written
pub written_whole : {O E : Type 0} (written : O → Option (List ℕ)) (told : E → Option (List ℕ)) (all : List Mark) (text : List ℕ) (put wrong status : ℕ) (output output' : Sink O) (faults faults' : Sink E)
    → IsReport all text → Outputs written told text output output' faults faults' (Ok put) → wrong ≡ wrong_in all → status ≡ status_of wrong put → OutputsReport written told all output output' faults faults' (Ok status)
written_whole written told all text put wrong status output output' faults faults' is puts are e = (text, put, is, puts, e ∙ ap (λ n. status_of n put) are)

pub nothing_written : {O E : Type 0} (written : O → Option (List ℕ)) (told : E → Option (List ℕ)) (all : List Mark) (output : Sink O) (faults : Sink E) (refused : NoMemory)
    → OutputsReport written told all output output faults faults (Err refused)
nothing_written written told all output faults refused = (record { bytes = Keeps-refl (written (writer_of output)); failures = refl }, record { bytes = Keeps-refl (told (writer_of faults)); failures = refl })
