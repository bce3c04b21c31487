-- Hellos and notifications: reading is the inverse of writing, and what is read of a prefix stays.
use Rattle.std.proofs.Common.{◌≡◌, ◌≢◌, ℕ, zero, suc, ℤ, pos, negsuc, ◌^◌, ◌<◌, ◌≤◌, ◌==◌, Bool, true, false, cond, ltb, eqb, List, [], ◌∷◌, ◌++◌, ◌||◌, length, Option, Some, None, Result, Ok, Err, refl, sym, ap, subst, ◌∙◌, append_assoc, append-nil, arith, lit<}
use Rattle.std.specs.Prelude.{FitsSigned, int_lt, is_some}
use Rattle.std.specs.Int.{w32, w64}
use Rattle.std.specs.Ordering.{int_eq}
use Rattle.std.proofs.lemmas.Bool.{ltb-false, le-ltb, eqb-true, eq-eqb}
use Rattle.std.proofs.lemmas.Bool.Decides.{Decides-int_eq}
use Rattle.std.proofs.lemmas.List.{length-append}
use Rattle.zk_jute.specs.declared.fault.JuteFault.{JuteFault}
use Rattle.zk_jute.specs.declared.fault.JuteFault.TheVariants as faults
use Rattle.zk_jute.specs.Reading.{◌>>=◌, number_at, counted_at, text_at, made_of, whole}
use Rattle.zk_jute.proofs.Numbers.{IsBytes, TakesFront, TakesFront-then, IsField, first_read, bind_ok, IsBytes-between, ok_is, at_ok, made_takes, whole_ok, took_all, either}
use Rattle.zk_jute.proofs.Texts.{int_field, long_field, text_field, counted_field, pos_fits}
use Rattle.zk_records.specs.Records.{int, long, ustring, IsText, IsShort, IsContent}
use Rattle.zk_quorum_records.specs.declared.hello.Hello.{Hello}
use Rattle.zk_quorum_records.specs.declared.hello.Hello.TheVariants as hellos
use Rattle.zk_quorum_records.specs.declared.notification.Notification.{Notification}
use Rattle.zk_quorum_records.specs.declared.notification.ServerState.{ServerState}
use Rattle.zk_quorum_records.specs.declared.notification.ServerState.TheVariants as states
use Rattle.zk_quorum_records.specs.Elections.{AreAddresses, hello, IsServer, IsHello, state_number, configuration, contents_of, notification, IsNotification}
use Rattle.zk_quorum_records.specs.Reading.{Reader, ◌&◌, bounded, addresses_at, address_of, hello_by, hello_at, state_of, state_at, configuration_by, version_at, notification_from, contents_at, in_frame, inside, frame_at, notification_at}
use Rattle.zk_quorum_records.proofs.Steady.{Later, IsSteady, later_bind, later_err, later_if, made_steady, number_steady, counted_steady}
use Rattle.zk_quorum_records.proofs.Fields.{IsSound, said, pair_sound, made_sound, int_sound, long_sound, text_sound, BeginsWith, IsBounded, bounded_sound}

-- ---- addresses

text_length : List ℕ → ℤ
text_length text = pos (length text)

short_begins : (text : List ℕ) → IsShort text → BeginsWith (ustring text) (text_length text)
unfolding text_length
short_begins text is = record { tail = text; parts = refl; fits = pos_fits (length text) is }

text_begins : (text : List ℕ) → IsText text → BeginsWith (ustring text) (text_length text)
text_begins text is = short_begins text is.short

bounds_of : (n least most : ℕ) → (int_lt (pos n) (pos least) || int_lt (pos most) (pos n)) ≡ false → (least ≤ n) × (n ≤ most)
bounds_of n least most e = by (ltb n least) (ltb most n) refl refl e
  where
    by : (a b : Bool) → ltb n least ≡ a → ltb most n ≡ b → (a || b) ≡ false → (least ≤ n) × (n ≤ most)
    by true b p q e = absurd cc
    by false true p q e = absurd cc
    by false false p q e = (ltb-false _ _ p, ltb-false _ _ q)

in_bounds : (n least most : ℕ) → least ≤ n → n ≤ most → (int_lt (pos n) (pos least) || int_lt (pos most) (pos n)) ≡ false
in_bounds n least most low high = rw (le-ltb n least low, le-ltb most n high) refl

pub addresses_sound : IsSound addresses_at ustring AreAddresses
unfolding addresses_at text_length
addresses_sound =
    said (bounded_sound text_at ustring IsText text_length (pos 1) (pos 2048) text_sound text_begins)
    (λ text is. let b = bounds_of (length text) 1 2048 is.1 in record { some = b.0; short = b.1; utf8 = is.0.utf8 })
    (λ text is. (record { utf8 = is.utf8; short = omega (arith, is.short) }, in_bounds (length text) 1 2048 is.some is.short))

-- ---- hellos

abbrev IsAddressed : ℤ × List ℕ → Type 0
IsAddressed fields = FitsSigned w64 fields.0 × AreAddresses fields.1

fields_sound : IsSound (number_at w64 & addresses_at) (λ p. long p.0 ++ ustring p.1) IsAddressed
fields_sound = pair_sound long_sound addresses_sound

-- a hello that was read after its first number
record HelloRead (bytes : List ℕ) (version : ℤ) (x : Hello × List ℕ) : Type 0 where
  took : (all : List ℕ) → TakesFront all (long version) bytes → TakesFront all (hello x.0) x.1
  fits : IsHello x.0

one_read : (bytes : List ℕ) (x : Hello × List ℕ) → IsBytes bytes → address_of hellos.Address bytes ≡ Ok x → HelloRead bytes (negsuc 65535) x
unfolding address_of hello
one_read bytes x fits e =
    made_takes (number_at w64 & addresses_at) (λ p. long p.0 ++ ustring p.1) IsAddressed fields_sound.field (λ fields. hellos.Address fields.0 fields.1) bytes x (λ y. HelloRead bytes (negsuc 65535) y) fits e
    (λ fields rest took is. record { took = λ all first. TakesFront-then all (long (negsuc 65535)) bytes (long fields.0 ++ ustring fields.1) rest first took; fits = is })

several_read : (bytes : List ℕ) (x : Hello × List ℕ) → IsBytes bytes → address_of hellos.Addresses bytes ≡ Ok x → HelloRead bytes (negsuc 65534) x
unfolding address_of hello
several_read bytes x fits e =
    made_takes (number_at w64 & addresses_at) (λ p. long p.0 ++ ustring p.1) IsAddressed fields_sound.field (λ fields. hellos.Addresses fields.0 fields.1) bytes x (λ y. HelloRead bytes (negsuc 65534) y) fits e
    (λ fields rest took is. record { took = λ all first. TakesFront-then all (long (negsuc 65534)) bytes (long fields.0 ++ ustring fields.1) rest first took; fits = is })

hello_read : (version : ℤ) (bytes : List ℕ) (x : Hello × List ℕ) → FitsSigned w64 version → IsBytes bytes → hello_by version bytes ≡ Ok x → HelloRead bytes version x
unfolding hello
hello_read (pos n) bytes x is fits e =
    let made : Hello × List ℕ = (hellos.Server (pos n), bytes) in
    at_ok (λ (y : Hello × List ℕ). HelloRead bytes (pos n) y) made x e (record { took = λ all first. first; fits = is })
hello_read (negsuc n) bytes x is fits e =
    either (eqb n 65535) (address_of hellos.Address bytes) (cond (eqb n 65534) (address_of hellos.Addresses bytes) (Err faults.Kind)) x (HelloRead bytes (negsuc n) x)
    (λ same read. subst (λ (k : ℕ). HelloRead bytes (negsuc k) x) (sym (eqb-true _ _ same)) (one_read bytes x fits read))
    (λ others. either (eqb n 65534) (address_of hellos.Addresses bytes) (Err faults.Kind) x (HelloRead bytes (negsuc n) x)
    (λ same read. subst (λ (k : ℕ). HelloRead bytes (negsuc k) x) (sym (eqb-true _ _ same)) (several_read bytes x fits read)) (λ none. absurd cc) others) e

hello_takes : (bytes : List ℕ) (x : Hello × List ℕ) → IsBytes bytes → hello_at bytes ≡ Ok x → TakesFront bytes (hello x.0) x.1 × IsHello x.0
unfolding hello_at
hello_takes bytes x fits e =
    let a = first_read (number_at w64) long (FitsSigned w64) long_field bytes (λ version. hello_by version.0 version.1) x fits e in
    let h = hello_read a.got.0 a.got.1 x a.fits a.took.rest_fits a.goes in
    (h.took bytes a.took, h.fits)

hello_again : (h : Hello) (rest : List ℕ) → IsHello h → hello_at (hello h ++ rest) ≡ Ok (h, rest)
unfolding hello_at hello address_of
hello_again (hellos.Server (pos n)) rest is = rw (long_field.again (pos n) rest is) refl
hello_again (hellos.Server (negsuc n)) rest is = absurd is
hello_again (hellos.Address server address) rest is =
    ap hello_at (append_assoc (long (negsuc 65535)) (long server ++ ustring address) rest)
    ∙ rw (long_field.again (negsuc 65535) ((long server ++ ustring address) ++ rest) (record { sfits = lit< tt })) (ap (made_of (λ fields. hellos.Address fields.0 fields.1)) (fields_sound.field.again (server, address) rest is))
hello_again (hellos.Addresses server addresses) rest is =
    ap hello_at (append_assoc (long (negsuc 65534)) (long server ++ ustring addresses) rest)
    ∙ rw (long_field.again (negsuc 65534) ((long server ++ ustring addresses) ++ rest) (record { sfits = lit< tt })) (ap (made_of (λ fields. hellos.Addresses fields.0 fields.1)) (fields_sound.field.again (server, addresses) rest is))

address_steady : (make : ℤ → List ℕ → Hello) → IsSteady (address_of make)
unfolding address_of
address_steady make = made_steady (number_at w64 & addresses_at) (λ fields. make fields.0 fields.1) fields_sound.steady

hello_later : (version : ℤ) (rest more : List ℕ) → Later (hello_by version rest) more (hello_by version (rest ++ more))
hello_later (pos n) rest more = refl
hello_later (negsuc n) rest more =
    later_if (eqb n 65535) (address_of hellos.Address rest) _ (address_of hellos.Address (rest ++ more)) _ more (address_steady hellos.Address rest more)
    (later_if (eqb n 65534) (address_of hellos.Addresses rest) (Err faults.Kind) (address_of hellos.Addresses (rest ++ more)) (Err faults.Kind) more (address_steady hellos.Addresses rest more) refl)

hello_steady : IsSteady hello_at
unfolding hello_at
hello_steady bytes more = later_bind _ _ more (λ version. hello_by version.0 version.1) (number_steady w64 bytes more) (λ version. hello_later version.0 version.1 more)

pub hello_sound : IsSound hello_at hello IsHello
hello_sound = record { field = record { takes = hello_takes; again = hello_again }; steady = hello_steady }

-- ---- states

abbrev IsState : ServerState → Type 0
IsState state = Unit {0}

-- a state that was read as its number
record StateRead (number : ℤ) (rest : List ℕ) (x : ServerState × List ℕ) : Type 0 where
  is : state_number x.0 ≡ number
  same : x.1 ≡ rest

state_one : (number : ℤ) (k : ℕ) (state : ServerState) (rest : List ℕ) (x : ServerState × List ℕ) → state_number state ≡ pos k → int_eq number (pos k) ≡ true → (let made : ServerState × List ℕ = (state, rest) in let read : Result (ServerState × List ℕ) JuteFault = Ok made in read ≡ Ok x) → StateRead number rest x
state_one number k state rest x named test e =
    let made : ServerState × List ℕ = (state, rest) in
    at_ok (λ (y : ServerState × List ℕ). StateRead number rest y) made x e (record { is = named ∙ sym ((Decides-int_eq number (pos k)).0 test); same = refl })

state_read : (number : ℤ) (rest : List ℕ) (x : ServerState × List ℕ) → state_of number rest ≡ Ok x → StateRead number rest x
state_read number rest x e =
    either (int_eq number (pos 0)) _ _ x (StateRead number rest x) (λ t r. state_one number 0 states.Looking rest x refl t r)
    (λ more. either (int_eq number (pos 1)) _ _ x (StateRead number rest x) (λ t r. state_one number 1 states.Following rest x refl t r)
    (λ others. either (int_eq number (pos 2)) _ _ x (StateRead number rest x) (λ t r. state_one number 2 states.Leading rest x refl t r)
    (λ last. either (int_eq number (pos 3)) _ _ x (StateRead number rest x) (λ t r. state_one number 3 states.Observing rest x refl t r) (λ none. absurd cc) last) others) more) e

state_takes : (bytes : List ℕ) (x : ServerState × List ℕ) → IsBytes bytes → state_at bytes ≡ Ok x → TakesFront bytes (int (state_number x.0)) x.1 × IsState x.0
unfolding state_at
state_takes bytes x fits e =
    let a = first_read (number_at w32) int (FitsSigned w32) int_field bytes (λ number. state_of number.0 number.1) x fits e in
    let s = state_read a.got.0 a.got.1 x a.goes in
    (subst (λ (z : ℤ). TakesFront bytes (int z) x.1) (sym s.is) (subst (λ (l : List ℕ). TakesFront bytes (int a.got.0) l) (sym s.same) a.took), tt)

state_again : (state : ServerState) (rest : List ℕ) → IsState state → state_at (int (state_number state) ++ rest) ≡ Ok (state, rest)
unfolding state_at
state_again states.Looking rest is = rw (int_field.again (pos 0) rest (record { sfits = lit< tt })) refl
state_again states.Following rest is = rw (int_field.again (pos 1) rest (record { sfits = lit< tt })) refl
state_again states.Leading rest is = rw (int_field.again (pos 2) rest (record { sfits = lit< tt })) refl
state_again states.Observing rest is = rw (int_field.again (pos 3) rest (record { sfits = lit< tt })) refl

state_later : (number : ℤ) (rest more : List ℕ) → Later (state_of number rest) more (state_of number (rest ++ more))
state_later number rest more =
    later_if (int_eq number (pos 0)) _ _ _ _ more refl (later_if (int_eq number (pos 1)) _ _ _ _ more refl
    (later_if (int_eq number (pos 2)) _ _ _ _ more refl (later_if (int_eq number (pos 3)) _ (Err faults.Kind) _ (Err faults.Kind) more refl refl)))

state_steady : IsSteady state_at
unfolding state_at
state_steady bytes more = later_bind _ _ more (λ number. state_of number.0 number.1) (number_steady w32 bytes more) (λ number. state_later number.0 number.1 more)

state_sound : IsSound state_at (λ state. int (state_number state)) IsState
state_sound = record { field = record { takes = state_takes; again = state_again }; steady = state_steady }

-- ---- versions

abbrev IsConfiguration : Bool → Option (List ℕ) → Type 0
IsConfiguration has text = (is_some text ≡ has) × IsContent text

abbrev IsVersion : ℤ × Option (List ℕ) → Type 0
IsVersion p = FitsSigned w32 p.0 × IsConfiguration (int_lt (pos 1) p.0) p.1

configuration_takes : (has : Bool) (bytes : List ℕ) (x : Option (List ℕ) × List ℕ) → IsBytes bytes → configuration_by has bytes ≡ Ok x → TakesFront bytes (configuration x.0) x.1 × IsConfiguration has x.0
configuration_takes true bytes x fits e =
    made_takes counted_at ustring IsShort counted_field Some bytes x (λ y. TakesFront bytes (configuration y.0) y.1 × IsConfiguration true y.0) fits e (λ text rest took is. (took, (refl, is)))
configuration_takes false bytes x fits e =
    let made : Option (List ℕ) × List ℕ = (None, bytes) in
    at_ok (λ (y : Option (List ℕ) × List ℕ). TakesFront bytes (configuration y.0) y.1 × IsConfiguration false y.0) made x e (record { parts = refl; rest_fits = fits }, (refl, tt))

configuration_again : (has : Bool) (text : Option (List ℕ)) (rest : List ℕ) → IsConfiguration has text → configuration_by has (configuration text ++ rest) ≡ Ok (text, rest)
configuration_again true None rest is = let no = is.0 in absurd cc
configuration_again false None rest is = refl
configuration_again true (Some text) rest is = ap (made_of Some) (counted_field.again text rest is.1)
configuration_again false (Some text) rest is = let no = is.0 in absurd cc

configuration_later : (has : Bool) (rest more : List ℕ) → Later (configuration_by has rest) more (configuration_by has (rest ++ more))
configuration_later true rest more = made_steady counted_at Some counted_steady rest more
configuration_later false rest more = refl

abbrev version_bytes : ℤ × Option (List ℕ) → List ℕ
version_bytes p = int p.0 ++ configuration p.1

version_takes : (bytes : List ℕ) (x : (ℤ × Option (List ℕ)) × List ℕ) → IsBytes bytes → version_at bytes ≡ Ok x → TakesFront bytes (version_bytes x.0) x.1 × IsVersion x.0
unfolding version_at
version_takes bytes x fits e =
    let a = first_read (number_at w32) int (FitsSigned w32) int_field bytes (λ version. configuration_by (int_lt (pos 1) version.0) version.1 >>= λ text. Ok ((version.0, text.0), text.1)) x fits e in
    let b = bind_ok {A = Option (List ℕ) × List ℕ} {B = (ℤ × Option (List ℕ)) × List ℕ} (configuration_by (int_lt (pos 1) a.got.0) a.got.1) (λ text. Ok ((a.got.0, text.0), text.1)) x a.goes in
    let t = configuration_takes (int_lt (pos 1) a.got.0) a.got.1 b.0 a.took.rest_fits b.1 in
    let both = TakesFront-then bytes (int a.got.0) a.got.1 (configuration b.0.0) b.0.1 a.took t.0 in
    let made : (ℤ × Option (List ℕ)) × List ℕ = ((a.got.0, b.0.0), b.0.1) in
    at_ok (λ (y : (ℤ × Option (List ℕ)) × List ℕ). TakesFront bytes (version_bytes y.0) y.1 × IsVersion y.0) made x b.2 (both, (a.fits, t.1))

version_again : (p : ℤ × Option (List ℕ)) (rest : List ℕ) → IsVersion p → version_at (version_bytes p ++ rest) ≡ Ok (p, rest)
unfolding version_at
version_again p rest is =
    ap version_at (append_assoc (int p.0) (configuration p.1) rest) ∙ rw (int_field.again p.0 (configuration p.1 ++ rest) is.0, configuration_again (int_lt (pos 1) p.0) p.1 rest is.1) refl

version_steady : IsSteady version_at
unfolding version_at
version_steady bytes more =
    later_bind _ _ more (λ version. configuration_by (int_lt (pos 1) version.0) version.1 >>= λ text. Ok ((version.0, text.0), text.1)) (number_steady w32 bytes more)
    (λ version. later_bind _ _ more (λ text. Ok ((version.0, text.0), text.1)) (configuration_later (int_lt (pos 1) version.0) version.1 more) (λ text. refl))

version_sound : IsSound version_at version_bytes IsVersion
version_sound = record { field = record { takes = version_takes; again = version_again }; steady = version_steady }

-- ---- notifications

abbrev Fields : Type 0
Fields = ((((ServerState × ℤ) × ℤ) × ℤ) × ℤ) × (ℤ × Option (List ℕ))

notification_fields : Notification → Fields
notification_fields n = (((((n.state, n.leader), n.zxid), n.round), n.epoch), (n.version, n.configuration))

-- what its fields guarantee
record AreContents (n : Notification) : Type 0 where
  leader : FitsSigned w64 n.leader
  zxid : FitsSigned w64 n.zxid
  round : FitsSigned w64 n.round
  epoch : FitsSigned w64 n.epoch
  version : IsVersion (n.version, n.configuration)

contents_sound : IsSound contents_at contents_of AreContents
unfolding contents_at contents_of notification_fields
contents_sound =
    said (made_sound (state_at & number_at w64 & number_at w64 & number_at w64 & number_at w64 & version_at) _ _ notification_from notification_fields
    (pair_sound (pair_sound (pair_sound (pair_sound (pair_sound state_sound long_sound) long_sound) long_sound) long_sound) version_sound) (λ n. refl) (λ fields. refl))
    (λ n is. record { leader = is.0.0.0.0.1; zxid = is.0.0.0.1; round = is.0.0.1; epoch = is.0.1; version = is.1 })
    (λ n is. (((((tt, is.leader), is.zxid), is.round), is.epoch), is.version))

abbrev IsFrame : List ℕ → Type 0
IsFrame frame = IsBounded IsShort text_length (pos 1) (pos 524288) frame

frame_sound : IsSound frame_at ustring IsFrame
unfolding frame_at
frame_sound = bounded_sound counted_at ustring IsShort text_length (pos 1) (pos 524288) (record { field = counted_field; steady = counted_steady }) short_begins

inside_ok : {A : Type 0} (read : Result A JuteFault) (x : A) → inside read ≡ Ok x → read ≡ Ok x
inside_ok (Ok y) x e = e
inside_ok (Err fault) x e = absurd cc

notification_takes : (bytes : List ℕ) (x : Notification × List ℕ) → IsBytes bytes → notification_at bytes ≡ Ok x → TakesFront bytes (notification x.0) x.1 × IsNotification x.0
unfolding notification_at notification text_length
notification_takes bytes x fits e =
    let a = first_read frame_at ustring IsFrame frame_sound.field bytes (λ frame. inside (whole (contents_at frame.0)) >>= λ n. Ok (n, frame.1)) x fits e in
    let b = bind_ok {A = Notification} {B = Notification × List ℕ} (inside (whole (contents_at a.got.0))) (λ n. Ok (n, a.got.1)) x a.goes in
    let read = whole_ok (contents_at a.got.0) b.0 (inside_ok (whole (contents_at a.got.0)) b.0 b.1) in
    let frame_fits = IsBytes-between bytes (int (pos (length a.got.0))) a.got.0 a.got.1 a.took.parts fits in
    let t = contents_sound.field.takes a.got.0 (b.0, []) frame_fits read in
    let same : a.got.0 ≡ contents_of b.0 = took_all a.got.0 (contents_of b.0) t.0 in
    let whole_took = subst (λ (l : List ℕ). TakesFront bytes (ustring l) a.got.1) same a.took in
    let bounds = bounds_of (length a.got.0) 1 524288 a.fits.1 in
    let made : Notification × List ℕ = (b.0, a.got.1) in
    at_ok (λ (y : Notification × List ℕ). TakesFront bytes (notification y.0) y.1 × IsNotification y.0) made x b.2 (
      whole_took,
      record {
        leader = t.1.leader;
        zxid = t.1.zxid;
        round = t.1.round;
        epoch = t.1.epoch;
        version = t.1.version.0;
        has = t.1.version.1.0;
        short = subst (λ (l : List ℕ). length l ≤ 524288) same bounds.1;
      },
    )

some_contents : (n : Notification) → 1 ≤ length (contents_of n)
unfolding contents_of
some_contents n = omega arith

text_within : (n : Notification) → length (configuration n.configuration) ≤ length (contents_of n)
unfolding contents_of
text_within n = omega (arith, length-append (int n.version) (configuration n.configuration), length-append (int (state_number n.state) ++ long n.leader ++ long n.zxid ++ long n.round ++ long n.epoch) (int n.version ++ configuration n.configuration))

short_configuration : (text : Option (List ℕ)) (most : ℕ) → length (configuration text) ≤ most → most ≤ 524288 → IsContent text
short_configuration None most within small = tt
short_configuration (Some text) most within small = omega (arith, length-append (int (pos (length text))) text)

have_contents : (n : Notification) → IsNotification n → AreContents n
have_contents n is = record {
  leader = is.leader;
  zxid = is.zxid;
  round = is.round;
  epoch = is.epoch;
  version = (is.version, (is.has, short_configuration n.configuration (length (contents_of n)) (text_within n) is.short));
}

notification_again : (n : Notification) (rest : List ℕ) → IsNotification n → notification_at (notification n ++ rest) ≡ Ok (n, rest)
unfolding notification_at notification text_length
notification_again n rest is =
    let frame : IsFrame (contents_of n) = (omega (arith, is.short), in_bounds (length (contents_of n)) 1 524288 (some_contents n) is.short) in
    let read : contents_at (contents_of n) ≡ Ok (n, []) = ap contents_at (sym (append-nil (contents_of n))) ∙ contents_sound.field.again n [] (have_contents n is) in
    rw (frame_sound.field.again (contents_of n) rest frame, read) refl

inside_later : (read : Result Notification JuteFault) (rest more : List ℕ) → Later (inside read >>= λ n. Ok (n, rest)) more (inside read >>= λ n. Ok (n, rest ++ more))
inside_later (Ok n) rest more = refl
inside_later (Err fault) rest more = later_err Notification (in_frame fault) more

notification_steady : IsSteady notification_at
unfolding notification_at
notification_steady bytes more =
    later_bind _ _ more (λ frame. inside (whole (contents_at frame.0)) >>= λ n. Ok (n, frame.1)) (frame_sound.steady bytes more) (λ frame. inside_later (whole (contents_at frame.0)) frame.1 more)

pub notification_sound : IsSound notification_at notification IsNotification
notification_sound = record { field = record { takes = notification_takes; again = notification_again }; steady = notification_steady }
