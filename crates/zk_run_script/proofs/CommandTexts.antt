-- A line of a run script is read exactly if it has this form.
use Rattle.std.proofs.Common.{◌≡◌, ℕ, ℤ, ◌^◌, ◌<◌, Bool, true, false, cond, List, [], ◌∷◌, ◌++◌, Some, None, Result, Ok, Err, refl, sym, ap, ◌∙◌, append_assoc}
use Rattle.std.specs.Prelude.{FitsSigned, codes}
use Rattle.std.specs.Fmt.{decimal, signed_decimal}
use Rattle.std.specs.Int.{w32, w64}
use Rattle.std.specs.List.{AllByRecursion}
use Rattle.zab_model.specs.declared.event.Event.TheVariants.{Lead, Follow, Arrive, Submit, Expire, Sync, Crash, Restart}
use Rattle.zk_acl.specs.declared.acl.Id.{Id}
use Rattle.zk_listing.specs.declared.list_fault.ListCause.{ListCause}
use Rattle.zk_listing.specs.declared.list_fault.ListCause.TheVariants as causes
use Rattle.zk_listing.specs.Reading.{front_of, back_of, spaced, both, Takes}
use Rattle.zk_requests.specs.declared.call.Call.{Call}
use Rattle.zk_format.specs.Spelling.{id_digits}
use Rattle.zk_request_syntax.specs.declared.lookups.Lookup.{Lookup}
use Rattle.zk_request_syntax.specs.declared.lookups.Lookup.TheVariants as lookups
use Rattle.zk_request_syntax.specs.Reading.{id_field_at, int_field_at, long_field_at, number_at, ids_at, request_at, lookup_at}
use Rattle.zk_request_syntax.specs.RequestLines.{SpellsIds, SpellsRequest, SpellsLookup}
use Rattle.zk_request_syntax.proofs.FieldLaws.{id_field_exact, int_field_exact, long_field_exact, reads_ids}
use Rattle.zk_request_syntax.proofs.LookupTexts.{whole_lookup}
use Rattle.zk_request_syntax.proofs.NumberLaws.{number_exact}
use Rattle.zk_request_syntax.proofs.Readings.{Reads, Next, NextThen, reads_exact, reads_last, TakesBehind, by_word_takes, ReadsWhole, whole_of}
use Rattle.zk_request_syntax.proofs.RequestTexts.{whole_request}
use Rattle.zk_model.specs.declared.event.Event.TheVariants as events
use Rattle.zk_run_script.specs.declared.command.Command.{Command}
use Rattle.zk_run_script.specs.declared.command.Command.TheVariants as commands
use Rattle.zk_run_script.specs.declared.command.Report.{Report}
use Rattle.zk_run_script.specs.declared.command.Report.TheVariants as reports
use Rattle.zk_run_script.specs.Commands.{IsNumber, SpellsNumber, SpellsSubmit, SpellsExpire, SpellsRead, report_word, SpellsCommand, IsAmong, Says, SaysNothing, ReadsCommand}
use Rattle.zk_run_script.specs.CommandReading.{two_at, SubmitFields, submit_at, submitted, ExpireFields, expire_at, expired, ReadFields, read_at, read_by, command_words, command_at, is_among, is_left_alone, among_result}
use Rattle.zk_run_script.proofs.Wholes.{whole_last, whole_next, next_is, last_is, begins, behind_whole, mapped_whole, IsTested, tested_is, tested_only, tested_none, untold}

-- ---- fields

abbrev Number : ℕ → List ℕ → Type 0
Number n field = IsNumber n × (field ≡ decimal n)

abbrev Id64 : ℤ → List ℕ → Type 0
Id64 id field = FitsSigned w64 id × (field ≡ id_digits id)

abbrev Int32 : ℤ → List ℕ → Type 0
Int32 number field = FitsSigned w32 number × (field ≡ signed_decimal number)

abbrev Long64 : ℤ → List ℕ → Type 0
Long64 number field = FitsSigned w64 number × (field ≡ signed_decimal number)

reads_number : Reads Number number_at
reads_number = reads_exact decimal (λ n. n < 2 ^ 64) number_at number_exact

reads_id : Reads Id64 id_field_at
reads_id = reads_exact id_digits (FitsSigned w64) id_field_at id_field_exact

reads_int : Reads Int32 int_field_at
reads_int = reads_exact signed_decimal (FitsSigned w32) int_field_at int_field_exact

reads_long : Reads Long64 long_field_at
reads_long = reads_exact signed_decimal (FitsSigned w64) long_field_at long_field_exact

whole_number : ReadsWhole (Next Number) (spaced number_at)
whole_number = whole_of (Next Number) (spaced number_at) (reads_last Number number_at reads_number)

number_made : (word : List ℕ) (n : ℕ) (text : List ℕ) → Next Number n text → SpellsNumber word n (word ++ text)
number_made word n text s = (s.spells.0, ap (λ (b : List ℕ). word ++ b) (last_is text s.field (decimal n) s.spelled s.spells.1))

number_read : (n : ℕ) → IsNumber n → spaced number_at (32 ∷ decimal n) ≡ Some (n, [])
number_read n fits = whole_number.again n (32 ∷ decimal n) (record { field = decimal n; spells = (fits, refl); spelled = refl })

-- ---- two numbers

abbrev TwoText : ℕ × ℕ → List ℕ → Type 0
TwoText = NextThen Number (Next Number)

whole_two : ReadsWhole TwoText two_at
whole_two = whole_next Number number_at (Next Number) (spaced number_at) reads_number whole_number (λ y text s. begins text s.field s.spelled)

two_is : (x : ℕ × ℕ) (text : List ℕ) (t : TwoText x text) → text ≡ 32 ∷ (decimal x.0 ++ (32 ∷ decimal x.1))
two_is x text t = next_is text t.field t.others (decimal x.0) (32 ∷ decimal x.1) t.spelled t.spells.1 (last_is t.others t.follows.field (decimal x.1) t.follows.spelled t.follows.spells.1)

two_read : (x : ℕ × ℕ) → IsNumber x.0 → IsNumber x.1 → two_at (32 ∷ (decimal x.0 ++ (32 ∷ decimal x.1))) ≡ Some (x, [])
two_read x one two = whole_two.again x (32 ∷ (decimal x.0 ++ (32 ∷ decimal x.1))) (record { field = decimal x.0; others = 32 ∷ decimal x.1; spells = (one, refl); follows = record { field = decimal x.1; spells = (two, refl); spelled = refl }; spelled = refl })

-- ---- submit

abbrev SubmitText : SubmitFields → List ℕ → Type 0
SubmitText = NextThen Number (NextThen Number (NextThen Id64 (NextThen Int32 (NextThen Long64 (NextThen SpellsIds (Next SpellsRequest))))))

whole_submit : ReadsWhole SubmitText submit_at
unfolding submit_at
whole_submit =
    let request = whole_last SpellsRequest request_at whole_request in
    let auths = whole_next SpellsIds ids_at (Next SpellsRequest) (spaced request_at) reads_ids request (λ y text s. begins text s.field s.spelled) in
    let time = whole_next Long64 long_field_at (NextThen SpellsIds (Next SpellsRequest)) (both (spaced ids_at) (spaced request_at)) reads_long auths (λ y text s. begins text (s.field ++ s.others) s.spelled) in
    let cxid = whole_next Int32 int_field_at (NextThen Long64 (NextThen SpellsIds (Next SpellsRequest))) (both (spaced long_field_at) (both (spaced ids_at) (spaced request_at))) reads_int time (λ y text s. begins text (s.field ++ s.others) s.spelled) in
    let session = whole_next Id64 id_field_at (NextThen Int32 (NextThen Long64 (NextThen SpellsIds (Next SpellsRequest)))) (both (spaced int_field_at) (both (spaced long_field_at) (both (spaced ids_at) (spaced request_at)))) reads_id cxid (λ y text s. begins text (s.field ++ s.others) s.spelled) in
    let tag = whole_next Number number_at (NextThen Id64 (NextThen Int32 (NextThen Long64 (NextThen SpellsIds (Next SpellsRequest))))) (both (spaced id_field_at) (both (spaced int_field_at) (both (spaced long_field_at) (both (spaced ids_at) (spaced request_at))))) reads_number session (λ y text s. begins text (s.field ++ s.others) s.spelled) in
    let f = whole_next Number number_at (NextThen Number (NextThen Id64 (NextThen Int32 (NextThen Long64 (NextThen SpellsIds (Next SpellsRequest)))))) (both (spaced number_at) (both (spaced id_field_at) (both (spaced int_field_at) (both (spaced long_field_at) (both (spaced ids_at) (spaced request_at)))))) reads_number tag (λ y text s. begins text (s.field ++ s.others) s.spelled) in
    record { takes = λ bytes x rest h. f.takes bytes x rest h; again = λ x text s. f.again x text s }

abbrev submit_body : ℕ → ℕ → ℤ → ℤ → ℤ → List ℕ → List ℕ → List ℕ
submit_body server tag session cxid time ids asked = 32 ∷ (decimal server ++ (32 ∷ (decimal tag ++ (32 ∷ (id_digits session ++ (32 ∷ (signed_decimal cxid ++ (32 ∷ (signed_decimal time ++ (32 ∷ (ids ++ (32 ∷ asked))))))))))))

regroup8 : (w a b c d e f g : List ℕ) → w ++ (a ++ (b ++ (c ++ (d ++ (e ++ (f ++ g)))))) ≡ ((((((w ++ a) ++ b) ++ c) ++ d) ++ e) ++ f) ++ g
regroup8 w a b c d e f g = simp append_assoc

submit_made : (x : SubmitFields) (text : List ℕ) → SubmitText x text → SpellsCommand (submitted x) (codes "submit" ++ text)
submit_made x text t =
    let t1 = t.follows in
    let t2 = t1.follows in
    let t3 = t2.follows in
    let t4 = t3.follows in
    let t5 = t4.follows in
    let e6 = t5.follows.spelled in
    let e5 = next_is t4.others t5.field t5.others t5.field (32 ∷ t5.follows.field) t5.spelled refl e6 in
    let e4 = next_is t3.others t4.field t4.others (signed_decimal x.1.1.1.1.0) (32 ∷ (t5.field ++ (32 ∷ t5.follows.field))) t4.spelled t4.spells.1 e5 in
    let e3 = next_is t2.others t3.field t3.others (signed_decimal x.1.1.1.0) (32 ∷ (signed_decimal x.1.1.1.1.0 ++ (32 ∷ (t5.field ++ (32 ∷ t5.follows.field))))) t3.spelled t3.spells.1 e4 in
    let e2 = next_is t1.others t2.field t2.others (id_digits x.1.1.0) (32 ∷ (signed_decimal x.1.1.1.0 ++ (32 ∷ (signed_decimal x.1.1.1.1.0 ++ (32 ∷ (t5.field ++ (32 ∷ t5.follows.field))))))) t2.spelled t2.spells.1 e3 in
    let e1 = next_is t.others t1.field t1.others (decimal x.1.0) (32 ∷ (id_digits x.1.1.0 ++ (32 ∷ (signed_decimal x.1.1.1.0 ++ (32 ∷ (signed_decimal x.1.1.1.1.0 ++ (32 ∷ (t5.field ++ (32 ∷ t5.follows.field))))))))) t1.spelled t1.spells.1 e2 in
    let whole : text ≡ submit_body x.0 x.1.0 x.1.1.0 x.1.1.1.0 x.1.1.1.1.0 t5.field t5.follows.field = next_is text t.field t.others (decimal x.0) (32 ∷ (decimal x.1.0 ++ (32 ∷ (id_digits x.1.1.0 ++ (32 ∷ (signed_decimal x.1.1.1.0 ++ (32 ∷ (signed_decimal x.1.1.1.1.0 ++ (32 ∷ (t5.field ++ (32 ∷ t5.follows.field))))))))))) t.spelled t.spells.1 e1 in
    record {
      server_is = t.spells.0;
      tag = t1.spells.0;
      session = t2.spells.0;
      cxid = t3.spells.0;
      now = t4.spells.0;
      ids = t5.field;
      auths = t5.spells;
      asked = t5.follows.field;
      request = t5.follows.spells;
      spelled = ap (λ (b : List ℕ). codes "submit" ++ b) whole ∙ regroup8 (codes "submit ") (decimal x.0) (32 ∷ decimal x.1.0) (32 ∷ id_digits x.1.1.0) (32 ∷ signed_decimal x.1.1.1.0) (32 ∷ signed_decimal x.1.1.1.1.0) (32 ∷ t5.field) (32 ∷ t5.follows.field);
    }

submit_is : (server : ℕ) (call : Call) (text : List ℕ) (s : SpellsSubmit server call text) → text ≡ codes "submit" ++ submit_body server call.tag call.session call.cxid call.now s.ids s.asked
submit_is server call text s = s.spelled ∙ sym (regroup8 (codes "submit ") (decimal server) (32 ∷ decimal call.tag) (32 ∷ id_digits call.session) (32 ∷ signed_decimal call.cxid) (32 ∷ signed_decimal call.now) (32 ∷ s.ids) (32 ∷ s.asked))

submit_read : (server : ℕ) (call : Call) (text : List ℕ) (s : SpellsSubmit server call text) → submit_at (submit_body server call.tag call.session call.cxid call.now s.ids s.asked) ≡ Some ((server, (call.tag, (call.session, (call.cxid, (call.now, (call.auths, call.request)))))), [])
submit_read server call text s =
    let t6 : Next SpellsRequest call.request (32 ∷ s.asked) = record { field = s.asked; spells = s.request; spelled = refl } in
    let t5 : NextThen SpellsIds (Next SpellsRequest) (call.auths, call.request) (32 ∷ (s.ids ++ (32 ∷ s.asked))) = record { field = s.ids; others = 32 ∷ s.asked; spells = s.auths; follows = t6; spelled = refl } in
    let t4 : NextThen Long64 (NextThen SpellsIds (Next SpellsRequest)) (call.now, (call.auths, call.request)) (32 ∷ (signed_decimal call.now ++ (32 ∷ (s.ids ++ (32 ∷ s.asked))))) = record { field = signed_decimal call.now; others = 32 ∷ (s.ids ++ (32 ∷ s.asked)); spells = (s.now, refl); follows = t5; spelled = refl } in
    let t3 : NextThen Int32 (NextThen Long64 (NextThen SpellsIds (Next SpellsRequest))) (call.cxid, (call.now, (call.auths, call.request))) (32 ∷ (signed_decimal call.cxid ++ (32 ∷ (signed_decimal call.now ++ (32 ∷ (s.ids ++ (32 ∷ s.asked))))))) = record { field = signed_decimal call.cxid; others = 32 ∷ (signed_decimal call.now ++ (32 ∷ (s.ids ++ (32 ∷ s.asked)))); spells = (s.cxid, refl); follows = t4; spelled = refl } in
    let t2 : NextThen Id64 (NextThen Int32 (NextThen Long64 (NextThen SpellsIds (Next SpellsRequest)))) (call.session, (call.cxid, (call.now, (call.auths, call.request)))) (32 ∷ (id_digits call.session ++ (32 ∷ (signed_decimal call.cxid ++ (32 ∷ (signed_decimal call.now ++ (32 ∷ (s.ids ++ (32 ∷ s.asked))))))))) = record { field = id_digits call.session; others = 32 ∷ (signed_decimal call.cxid ++ (32 ∷ (signed_decimal call.now ++ (32 ∷ (s.ids ++ (32 ∷ s.asked)))))); spells = (s.session, refl); follows = t3; spelled = refl } in
    let t1 : NextThen Number (NextThen Id64 (NextThen Int32 (NextThen Long64 (NextThen SpellsIds (Next SpellsRequest))))) (call.tag, (call.session, (call.cxid, (call.now, (call.auths, call.request))))) (32 ∷ (decimal call.tag ++ (32 ∷ (id_digits call.session ++ (32 ∷ (signed_decimal call.cxid ++ (32 ∷ (signed_decimal call.now ++ (32 ∷ (s.ids ++ (32 ∷ s.asked))))))))))) = record { field = decimal call.tag; others = 32 ∷ (id_digits call.session ++ (32 ∷ (signed_decimal call.cxid ++ (32 ∷ (signed_decimal call.now ++ (32 ∷ (s.ids ++ (32 ∷ s.asked)))))))); spells = (s.tag, refl); follows = t2; spelled = refl } in
    whole_submit.again (server, (call.tag, (call.session, (call.cxid, (call.now, (call.auths, call.request)))))) (submit_body server call.tag call.session call.cxid call.now s.ids s.asked) (record { field = decimal server; others = 32 ∷ (decimal call.tag ++ (32 ∷ (id_digits call.session ++ (32 ∷ (signed_decimal call.cxid ++ (32 ∷ (signed_decimal call.now ++ (32 ∷ (s.ids ++ (32 ∷ s.asked)))))))))); spells = (s.server_is, refl); follows = t1; spelled = refl })

-- ---- expire

abbrev ExpireText : ExpireFields → List ℕ → Type 0
ExpireText = NextThen Number (NextThen Number (NextThen Id64 (Next Long64)))

whole_expire : ReadsWhole ExpireText expire_at
unfolding expire_at
whole_expire =
    let time = whole_of (Next Long64) (spaced long_field_at) (reads_last Long64 long_field_at reads_long) in
    let session = whole_next Id64 id_field_at (Next Long64) (spaced long_field_at) reads_id time (λ y text s. begins text s.field s.spelled) in
    let tag = whole_next Number number_at (NextThen Id64 (Next Long64)) (both (spaced id_field_at) (spaced long_field_at)) reads_number session (λ y text s. begins text (s.field ++ s.others) s.spelled) in
    let f = whole_next Number number_at (NextThen Number (NextThen Id64 (Next Long64))) (both (spaced number_at) (both (spaced id_field_at) (spaced long_field_at))) reads_number tag (λ y text s. begins text (s.field ++ s.others) s.spelled) in
    record { takes = λ bytes x rest h. f.takes bytes x rest h; again = λ x text s. f.again x text s }

abbrev expire_body : ℕ → ℕ → ℤ → ℤ → List ℕ
expire_body server tag session time = 32 ∷ (decimal server ++ (32 ∷ (decimal tag ++ (32 ∷ (id_digits session ++ (32 ∷ signed_decimal time))))))

regroup5 : (w a b c d : List ℕ) → w ++ (a ++ (b ++ (c ++ d))) ≡ (((w ++ a) ++ b) ++ c) ++ d
regroup5 w a b c d = simp append_assoc

expire_made : (x : ExpireFields) (text : List ℕ) → ExpireText x text → SpellsCommand (expired x) (codes "expire" ++ text)
expire_made x text t =
    let t1 = t.follows in
    let t2 = t1.follows in
    let e3 = last_is t2.others t2.follows.field (signed_decimal x.1.1.1) t2.follows.spelled t2.follows.spells.1 in
    let e2 = next_is t1.others t2.field t2.others (id_digits x.1.1.0) (32 ∷ signed_decimal x.1.1.1) t2.spelled t2.spells.1 e3 in
    let e1 = next_is t.others t1.field t1.others (decimal x.1.0) (32 ∷ (id_digits x.1.1.0 ++ (32 ∷ signed_decimal x.1.1.1))) t1.spelled t1.spells.1 e2 in
    let whole : text ≡ expire_body x.0 x.1.0 x.1.1.0 x.1.1.1 = next_is text t.field t.others (decimal x.0) (32 ∷ (decimal x.1.0 ++ (32 ∷ (id_digits x.1.1.0 ++ (32 ∷ signed_decimal x.1.1.1))))) t.spelled t.spells.1 e1 in
    record {
      server_is = t.spells.0;
      tag_is = t1.spells.0;
      session_is = t2.spells.0;
      now_is = t2.follows.spells.0;
      spelled = ap (λ (b : List ℕ). codes "expire" ++ b) whole ∙ regroup5 (codes "expire ") (decimal x.0) (32 ∷ decimal x.1.0) (32 ∷ id_digits x.1.1.0) (32 ∷ signed_decimal x.1.1.1);
    }

expire_is : (server tag : ℕ) (session time : ℤ) (text : List ℕ) → SpellsExpire server tag session time text → text ≡ codes "expire" ++ expire_body server tag session time
expire_is server tag session time text s = s.spelled ∙ sym (regroup5 (codes "expire ") (decimal server) (32 ∷ decimal tag) (32 ∷ id_digits session) (32 ∷ signed_decimal time))

expire_read : (server tag : ℕ) (session time : ℤ) (text : List ℕ) → SpellsExpire server tag session time text → expire_at (expire_body server tag session time) ≡ Some ((server, (tag, (session, time))), [])
expire_read server tag session time text s = whole_expire.again (server, (tag, (session, time))) (expire_body server tag session time) (record {
  field = decimal server;
  others = 32 ∷ (decimal tag ++ (32 ∷ (id_digits session ++ (32 ∷ signed_decimal time))));
  spells = (s.server_is, refl);
  follows = record {
    field = decimal tag;
    others = 32 ∷ (id_digits session ++ (32 ∷ signed_decimal time));
    spells = (s.tag_is, refl);
    follows = record { field = id_digits session; others = 32 ∷ signed_decimal time; spells = (s.session_is, refl); follows = record { field = signed_decimal time; spells = (s.now_is, refl); spelled = refl }; spelled = refl };
    spelled = refl;
  };
  spelled = refl;
})

-- ---- read

abbrev ReadText : ReadFields → List ℕ → Type 0
ReadText = NextThen Number (NextThen Id64 (NextThen Id64 (NextThen SpellsIds (Next SpellsLookup))))

whole_read : ReadsWhole ReadText read_at
unfolding read_at
whole_read =
    let lookup = whole_last SpellsLookup lookup_at whole_lookup in
    let auths = whole_next SpellsIds ids_at (Next SpellsLookup) (spaced lookup_at) reads_ids lookup (λ y text s. begins text s.field s.spelled) in
    let seen = whole_next Id64 id_field_at (NextThen SpellsIds (Next SpellsLookup)) (both (spaced ids_at) (spaced lookup_at)) reads_id auths (λ y text s. begins text (s.field ++ s.others) s.spelled) in
    let session = whole_next Id64 id_field_at (NextThen Id64 (NextThen SpellsIds (Next SpellsLookup))) (both (spaced id_field_at) (both (spaced ids_at) (spaced lookup_at))) reads_id seen (λ y text s. begins text (s.field ++ s.others) s.spelled) in
    let f = whole_next Number number_at (NextThen Id64 (NextThen Id64 (NextThen SpellsIds (Next SpellsLookup)))) (both (spaced id_field_at) (both (spaced id_field_at) (both (spaced ids_at) (spaced lookup_at)))) reads_number session (λ y text s. begins text (s.field ++ s.others) s.spelled) in
    record { takes = λ bytes x rest h. f.takes bytes x rest h; again = λ x text s. f.again x text s }

abbrev read_body : ℕ → ℤ → ℤ → List ℕ → List ℕ → List ℕ
read_body server session seen ids asked = 32 ∷ (decimal server ++ (32 ∷ (id_digits session ++ (32 ∷ (id_digits seen ++ (32 ∷ (ids ++ (32 ∷ asked))))))))

regroup6 : (w a b c d e : List ℕ) → w ++ (a ++ (b ++ (c ++ (d ++ e)))) ≡ ((((w ++ a) ++ b) ++ c) ++ d) ++ e
regroup6 w a b c d e = simp append_assoc

asked_as : (server : ℕ) (session seen : ℤ) (auths : List Id) (lookup : Lookup) (text : List ℕ) → SpellsRead server session seen auths lookup text → SpellsCommand (read_by (server, (session, (seen, (auths, lookup))))) text
asked_as server session seen auths (lookups.Asks call watch) text s = s
asked_as server session seen auths lookups.BadPath text s = (server, session, seen, auths, s)

read_made : (x : ReadFields) (text : List ℕ) → ReadText x text → SpellsCommand (read_by x) (codes "read" ++ text)
read_made x text t =
    let t1 = t.follows in
    let t2 = t1.follows in
    let t3 = t2.follows in
    let e4 = t3.follows.spelled in
    let e3 = next_is t2.others t3.field t3.others t3.field (32 ∷ t3.follows.field) t3.spelled refl e4 in
    let e2 = next_is t1.others t2.field t2.others (id_digits x.1.1.0) (32 ∷ (t3.field ++ (32 ∷ t3.follows.field))) t2.spelled t2.spells.1 e3 in
    let e1 = next_is t.others t1.field t1.others (id_digits x.1.0) (32 ∷ (id_digits x.1.1.0 ++ (32 ∷ (t3.field ++ (32 ∷ t3.follows.field))))) t1.spelled t1.spells.1 e2 in
    let whole : text ≡ read_body x.0 x.1.0 x.1.1.0 t3.field t3.follows.field = next_is text t.field t.others (decimal x.0) (32 ∷ (id_digits x.1.0 ++ (32 ∷ (id_digits x.1.1.0 ++ (32 ∷ (t3.field ++ (32 ∷ t3.follows.field))))))) t.spelled t.spells.1 e1 in
    asked_as x.0 x.1.0 x.1.1.0 x.1.1.1.0 x.1.1.1.1 (codes "read" ++ text) (record {
      server_is = t.spells.0;
      session_is = t1.spells.0;
      seen_is = t2.spells.0;
      ids = t3.field;
      are_auths = t3.spells;
      asked = t3.follows.field;
      is_lookup = t3.follows.spells;
      spelled = ap (λ (b : List ℕ). codes "read" ++ b) whole ∙ regroup6 (codes "read ") (decimal x.0) (32 ∷ id_digits x.1.0) (32 ∷ id_digits x.1.1.0) (32 ∷ t3.field) (32 ∷ t3.follows.field);
    })

read_is : (server : ℕ) (session seen : ℤ) (auths : List Id) (lookup : Lookup) (text : List ℕ) (s : SpellsRead server session seen auths lookup text) → text ≡ codes "read" ++ read_body server session seen s.ids s.asked
read_is server session seen auths lookup text s = s.spelled ∙ sym (regroup6 (codes "read ") (decimal server) (32 ∷ id_digits session) (32 ∷ id_digits seen) (32 ∷ s.ids) (32 ∷ s.asked))

read_read : (server : ℕ) (session seen : ℤ) (auths : List Id) (lookup : Lookup) (text : List ℕ) (s : SpellsRead server session seen auths lookup text) → read_at (read_body server session seen s.ids s.asked) ≡ Some ((server, (session, (seen, (auths, lookup)))), [])
read_read server session seen auths lookup text s =
    let t4 : Next SpellsLookup lookup (32 ∷ s.asked) = record { field = s.asked; spells = s.is_lookup; spelled = refl } in
    let t3 : NextThen SpellsIds (Next SpellsLookup) (auths, lookup) (32 ∷ (s.ids ++ (32 ∷ s.asked))) = record { field = s.ids; others = 32 ∷ s.asked; spells = s.are_auths; follows = t4; spelled = refl } in
    let t2 : NextThen Id64 (NextThen SpellsIds (Next SpellsLookup)) (seen, (auths, lookup)) (32 ∷ (id_digits seen ++ (32 ∷ (s.ids ++ (32 ∷ s.asked))))) = record { field = id_digits seen; others = 32 ∷ (s.ids ++ (32 ∷ s.asked)); spells = (s.seen_is, refl); follows = t3; spelled = refl } in
    let t1 : NextThen Id64 (NextThen Id64 (NextThen SpellsIds (Next SpellsLookup))) (session, (seen, (auths, lookup))) (32 ∷ (id_digits session ++ (32 ∷ (id_digits seen ++ (32 ∷ (s.ids ++ (32 ∷ s.asked))))))) = record { field = id_digits session; others = 32 ∷ (id_digits seen ++ (32 ∷ (s.ids ++ (32 ∷ s.asked)))); spells = (s.session_is, refl); follows = t2; spelled = refl } in
    whole_read.again (server, (session, (seen, (auths, lookup)))) (read_body server session seen s.ids s.asked) (record { field = decimal server; others = 32 ∷ (id_digits session ++ (32 ∷ (id_digits seen ++ (32 ∷ (s.ids ++ (32 ∷ s.asked)))))); spells = (s.server_is, refl); follows = t1; spelled = refl })

-- ---- commands

commands_made : AllByRecursion (λ e. TakesBehind SpellsCommand e.0 e.1) command_words
commands_made = (
  behind_whole (Next Number) (spaced number_at) whole_number (λ server. commands.Happens (events.World (Lead server))) (codes "lead") SpellsCommand (λ x text s. number_made (codes "lead") x text s),
  (
    behind_whole TwoText two_at whole_two (λ x. commands.Happens (events.World (Follow x.0 x.1))) (codes "follow") SpellsCommand (λ x text t. (t.spells.0, t.follows.spells.0, ap (λ (b : List ℕ). codes "follow" ++ b) (two_is x text t) ∙ sym (append_assoc (codes "follow ") (decimal x.0) (32 ∷ decimal x.1)))),
    (
      behind_whole (Next Number) (spaced number_at) whole_number (λ message. commands.Happens (events.World (Arrive message))) (codes "arrive") SpellsCommand (λ x text s. number_made (codes "arrive") x text s),
      (
        behind_whole (Next Number) (spaced number_at) whole_number (λ server. commands.Happens (events.World (Crash server))) (codes "crash") SpellsCommand (λ x text s. number_made (codes "crash") x text s),
        (
          behind_whole (Next Number) (spaced number_at) whole_number (λ server. commands.Happens (events.World (Restart server))) (codes "restart") SpellsCommand (λ x text s. number_made (codes "restart") x text s),
          (
            behind_whole SubmitText submit_at whole_submit submitted (codes "submit") SpellsCommand submit_made,
            (
              behind_whole ExpireText expire_at whole_expire expired (codes "expire") SpellsCommand expire_made,
              (
                behind_whole TwoText two_at whole_two (λ x. commands.Happens (events.World (Sync x.0 x.1))) (codes "sync") SpellsCommand (λ x text t. (t.spells.0, t.follows.spells.0, ap (λ (b : List ℕ). codes "sync" ++ b) (two_is x text t) ∙ sym (append_assoc (codes "sync ") (decimal x.0) (32 ∷ decimal x.1)))),
                (
                  behind_whole ReadText read_at whole_read read_by (codes "read") SpellsCommand read_made,
                  (
                    behind_whole (Next Number) (spaced number_at) whole_number (commands.Reports reports.Delivered) (codes "delivered") SpellsCommand (λ x text s. number_made (codes "delivered") x text s),
                    (
                      behind_whole (Next Number) (spaced number_at) whole_number (commands.Reports reports.History) (codes "history") SpellsCommand (λ x text s. number_made (codes "history") x text s),
                      (
                        behind_whole (Next Number) (spaced number_at) whole_number (commands.Reports reports.Answers) (codes "answers") SpellsCommand (λ x text s. number_made (codes "answers") x text s),
                        (
                          behind_whole (Next Number) (spaced number_at) whole_number (commands.Reports reports.Syncs) (codes "syncs") SpellsCommand (λ x text s. number_made (codes "syncs") x text s),
                          (
                            behind_whole (Next Number) (spaced number_at) whole_number (commands.Reports reports.Events) (codes "events") SpellsCommand (λ x text s. number_made (codes "events") x text s),
                            (
                              behind_whole (Next Number) (spaced number_at) whole_number (commands.Reports reports.Tree) (codes "tree") SpellsCommand (λ x text s. number_made (codes "tree") x text s),
                              tt,
                            ),
                          ),
                        ),
                      ),
                    ),
                  ),
                ),
              ),
            ),
          ),
        ),
      ),
    ),
  ),
)

report_again : (report : Report) (server : ℕ) (text : List ℕ) → SpellsNumber (report_word report) server text → command_at text ≡ Some (commands.Reports report server, [])
unfolding command_at front_of back_of
report_again reports.Delivered server text s = ap command_at s.1 ∙ mapped_whole (spaced number_at) (commands.Reports reports.Delivered) server (32 ∷ decimal server) (number_read server s.0)
report_again reports.History server text s = ap command_at s.1 ∙ mapped_whole (spaced number_at) (commands.Reports reports.History) server (32 ∷ decimal server) (number_read server s.0)
report_again reports.Answers server text s = ap command_at s.1 ∙ mapped_whole (spaced number_at) (commands.Reports reports.Answers) server (32 ∷ decimal server) (number_read server s.0)
report_again reports.Syncs server text s = ap command_at s.1 ∙ mapped_whole (spaced number_at) (commands.Reports reports.Syncs) server (32 ∷ decimal server) (number_read server s.0)
report_again reports.Events server text s = ap command_at s.1 ∙ mapped_whole (spaced number_at) (commands.Reports reports.Events) server (32 ∷ decimal server) (number_read server s.0)
report_again reports.Tree server text s = ap command_at s.1 ∙ mapped_whole (spaced number_at) (commands.Reports reports.Tree) server (32 ∷ decimal server) (number_read server s.0)

asked_again : (server : ℕ) (session seen : ℤ) (auths : List Id) (lookup : Lookup) (text : List ℕ) → SpellsRead server session seen auths lookup text → command_at text ≡ Some (read_by (server, (session, (seen, (auths, lookup)))), [])
unfolding command_at front_of back_of
asked_again server session seen auths lookup text s = ap command_at (read_is server session seen auths lookup text s) ∙ mapped_whole read_at read_by (server, (session, (seen, (auths, lookup)))) (read_body server session seen s.ids s.asked) (read_read server session seen auths lookup text s)

command_again : (x : Command) (text : List ℕ) → SpellsCommand x text → command_at text ≡ Some (x, [])
unfolding command_at front_of back_of
command_again (commands.Happens (events.World (Lead server))) text s = ap command_at s.1 ∙ mapped_whole (spaced number_at) (λ n. commands.Happens (events.World (Lead n))) server (32 ∷ decimal server) (number_read server s.0)
command_again (commands.Happens (events.World (Follow server leader))) text s = ap command_at (s.2 ∙ append_assoc (codes "follow ") (decimal server) (32 ∷ decimal leader)) ∙ mapped_whole two_at (λ x. commands.Happens (events.World (Follow x.0 x.1))) (server, leader) (32 ∷ (decimal server ++ (32 ∷ decimal leader))) (two_read (server, leader) s.0 s.1)
command_again (commands.Happens (events.World (Arrive message))) text s = ap command_at s.1 ∙ mapped_whole (spaced number_at) (λ n. commands.Happens (events.World (Arrive n))) message (32 ∷ decimal message) (number_read message s.0)
command_again (commands.Happens (events.World (Crash server))) text s = ap command_at s.1 ∙ mapped_whole (spaced number_at) (λ n. commands.Happens (events.World (Crash n))) server (32 ∷ decimal server) (number_read server s.0)
command_again (commands.Happens (events.World (Restart server))) text s = ap command_at s.1 ∙ mapped_whole (spaced number_at) (λ n. commands.Happens (events.World (Restart n))) server (32 ∷ decimal server) (number_read server s.0)
command_again (commands.Happens (events.World (Submit server call))) text s = ap command_at (submit_is server call text s) ∙ mapped_whole submit_at submitted (server, (call.tag, (call.session, (call.cxid, (call.now, (call.auths, call.request)))))) (submit_body server call.tag call.session call.cxid call.now s.ids s.asked) (submit_read server call text s)
command_again (commands.Happens (events.World (Expire server tag session time))) text s = ap command_at (expire_is server tag session time text s) ∙ mapped_whole expire_at expired (server, (tag, (session, time))) (expire_body server tag session time) (expire_read server tag session time text s)
command_again (commands.Happens (events.World (Sync server tag))) text s = ap command_at (s.2 ∙ append_assoc (codes "sync ") (decimal server) (32 ∷ decimal tag)) ∙ mapped_whole two_at (λ x. commands.Happens (events.World (Sync x.0 x.1))) (server, tag) (32 ∷ (decimal server ++ (32 ∷ decimal tag))) (two_read (server, tag) s.0 s.1)
command_again (commands.Happens (events.Read question)) text s = asked_again question.server question.session question.seen question.auths (lookups.Asks question.call question.watch) text s
command_again commands.ReadsNoPath text s = asked_again s.0 s.1 s.2 s.3 lookups.BadPath text s.4
command_again (commands.Reports report server) text s = report_again report server text s

whole_command : ReadsWhole SpellsCommand command_at
unfolding command_at
whole_command = record { takes = λ bytes x rest h. by_word_takes SpellsCommand command_words commands_made bytes x rest h; again = command_again }

-- ---- what a line says

module _ (servers : ℕ) where
  among_is : (x : Command) → is_among servers x ≡ true → IsAmong servers x
  among_is (commands.Happens event) h = tt
  among_is commands.ReadsNoPath h = tt
  among_is (commands.Reports report server) h = h

  is_among_so : (x : Command) → IsAmong servers x → is_among servers x ≡ true
  is_among_so (commands.Happens event) h = refl
  is_among_so commands.ReadsNoPath h = refl
  is_among_so (commands.Reports report server) h = h

  tested : (x : Command) (line : List ℕ) → Says servers line x → IsTested SpellsCommand (is_among servers) x line
  tested x line s = record { spells = s.spells; passes = is_among_so x s.among }

  found_command : (line left : List ℕ) (x : Command) (passes : Bool) → is_left_alone servers left x ≡ passes → command_at line ≡ Some (x, left) → ReadsCommand servers line (cond passes (Ok x) (Err causes.Fields))
  found_command line left x true passed read =
      let t = tested_is SpellsCommand command_at whole_command (is_among servers) line x left read passed in
      (record { among = among_is x t.passes; spells = t.spells }, λ other s. tested_only SpellsCommand command_at whole_command (is_among servers) line x other left read (tested other line s))
  found_command line left x false failed read = λ other s. tested_none SpellsCommand command_at whole_command (is_among servers) line x other left read failed (tested other line s)

  no_command : (line : List ℕ) → command_at line ≡ None → SaysNothing servers line
  no_command line none = λ other s. untold SpellsCommand command_at whole_command (is_among servers) line other none (tested other line s)

  pub reads_command : (line left : List ℕ) (r : Result Command ListCause) → Takes r left (command_at line) → ReadsCommand servers line (among_result servers left r)
  reads_command line left (Ok x) read = found_command line left x (is_left_alone servers left x) refl read
  reads_command line left (Err causes.NoMemory) read = tt
  reads_command line left (Err causes.Fields) read = no_command line read
  reads_command line left (Err causes.Number) read = no_command line read
  reads_command line left (Err causes.Quote) read = no_command line read
  reads_command line left (Err causes.Hex) read = no_command line read
  reads_command line left (Err causes.Word) read = no_command line read
  reads_command line left (Err causes.Path) read = no_command line read
  reads_command line left (Err causes.NoNewline) read = no_command line read
