-- Up to which transaction a directory is shown, and what its values name.
use Rattle.std.proofs.Common.{◌≡◌, Bool, true, false, ℕ, ◌/◌, ◌%◌, ◌<◌, ◌==◌, ◌&&◌, ◌||◌, ℤ, List, [], ◌∷◌, get_or, slice_index, Option, Some, None, IsSome, w64, refl, sym, ap, ◌∙◌, subst, codes, arith}
use Rattle.std.proofs.lemmas.Bool.{eqb-true}
use Rattle.std.specs.Char.{is_ascii_digit}
use Rattle.std.specs.Int.{cast_unsigned, to_be_bytes}
use Rattle.hex.proofs.HexLemmas.{IsDigits-lower_digits}
use Rattle.hex.specs.Hex.{encode_lower, encode_with, hex_digit_value, lower_digits}
use Rattle.zk_format.specs.Spelling.{sixteen_digits, id_digits}
use Rattle.zk_json.specs.Times.{fits, has_form, time_of}
use Rattle.zk_cli_args.specs.Commands.{AreOnly, IsOnly, IsUpto, ReadsUpto}
use Rattle.zk_cli_args.specs.Folders.{IsShownIn, NamesFolderBy, NeedsDirectory, ReadsFolderBy, ReadsPlain, ReadsUntil, SpellsPlain, SpellsUntil, until_of}
use Rattle.zk_cli_args.specs.Moments.{ends_with_zulu, moment_of}
use Rattle.zk_cli_args.specs.Zxids.{padded}
use Rattle.zk_cli_args.specs.declared.folders.FolderJob.{FolderJob}
use Rattle.zk_cli_args.specs.declared.folders.FolderOrder.{FolderOrder}
use Rattle.zk_cli_args.specs.declared.folders.FolderOrder.TheVariants as orders
use Rattle.zk_cli_args.specs.declared.folders.Until.{Until}
use Rattle.zk_cli_args.specs.declared.folders.Until.TheVariants as untils
use Rattle.zk_cli_args.proofs.DigitsLaws.{bytes_fit}
use Rattle.zk_cli_args.proofs.NamesLaws.{apart, no_number, one_number}

-- ---- digits are no time, which has a dash after four

no_dash : (d : ℕ) → d < 16 → (slice_index lower_digits d == 45) ≡ false
no_dash d small = by_test (slice_index lower_digits d) (slice_index lower_digits d == 45) refl (IsDigits-lower_digits d small)
  where
    by_test : (x : ℕ) (test : Bool) → (x == 45) ≡ test → hex_digit_value x ≡ Some d → test ≡ false
    by_test x false e h = refl
    by_test x true e h =
        let same : x ≡ 45 = eqb-true x 45 e in
        let none : hex_digit_value 45 ≡ Some d = subst (λ (y : ℕ). hex_digit_value y ≡ Some d) same h in
        absurd (cc none)

fifth : (a b c d e f : Bool) → e ≡ false → (a && (b && (c && (d && (e && f))))) ≡ false
fifth false b c d e f h = refl
fifth true false c d e f h = refl
fifth true true false d e f h = refl
fifth true true true false e f h = refl
fifth true true true true e f h = rw h refl

none_fits : (a b c : Bool) → a ≡ false → b ≡ false → c ≡ false → (a || b || c) ≡ false
none_fits a b c p q r = rw (p, q, r) refl

no_form : (x y z : ℕ) (rest : List ℕ) → z < 256 → has_form (encode_lower (x ∷ y ∷ z ∷ rest)) ≡ false
unfolding encode_with
no_form x y z rest small =
    let a = slice_index lower_digits (x / 16) in
    let b = slice_index lower_digits (x % 16) in
    let c = slice_index lower_digits (y / 16) in
    let d = slice_index lower_digits (y % 16) in
    let e = slice_index lower_digits (z / 16) in
    let back = slice_index lower_digits (z % 16) ∷ encode_lower rest in
    let word = encode_lower (x ∷ y ∷ z ∷ rest) in
    let dash : (e == 45) ≡ false = no_dash (z / 16) (omega arith) in
    let minutes : fits (codes "dddd-dd-ddTdd:dd") word ≡ false = fifth (is_ascii_digit a) (is_ascii_digit b) (is_ascii_digit c) (is_ascii_digit d) (e == 45) (fits (codes "dd-ddTdd:dd") back) dash in
    let seconds : fits (codes "dddd-dd-ddTdd:dd:dd") word ≡ false = fifth (is_ascii_digit a) (is_ascii_digit b) (is_ascii_digit c) (is_ascii_digit d) (e == 45) (fits (codes "dd-ddTdd:dd:dd") back) dash in
    let milliseconds : fits (codes "dddd-dd-ddTdd:dd:dd.ddd") word ≡ false = fifth (is_ascii_digit a) (is_ascii_digit b) (is_ascii_digit c) (is_ascii_digit d) (e == 45) (fits (codes "dd-ddTdd:dd:dd.ddd") back) dash in
    none_fits (fits (codes "dddd-dd-ddTdd:dd") word) (fits (codes "dddd-dd-ddTdd:dd:dd") word) (fits (codes "dddd-dd-ddTdd:dd:dd.ddd") word) minutes seconds milliseconds

digits_have_no_form : (bits : ℕ) → has_form (sixteen_digits bits) ≡ false
unfolding sixteen_digits
digits_have_no_form bits =
    let bytes = to_be_bytes w64 bits in
    no_form (get_or bytes 0 0) (get_or bytes 1 0) (get_or bytes 2 0) (get_or bytes 3 0 ∷ get_or bytes 4 0 ∷ get_or bytes 5 0 ∷ get_or bytes 6 0 ∷ get_or bytes 7 0 ∷ []) (bytes_fit 8 bits 2)

no_time : (z t : ℤ) → time_of (id_digits z) ≡ Some t → ⊥
unfolding time_of
no_time z t e =
    let none : has_form (id_digits z) ≡ false = digits_have_no_form (cast_unsigned w64 z) in
    let never : None ≡ Some t = rw none at e in
    cc

pub last_is_no_moment : (t : ℤ) → moment_of (codes "last") ≡ Some t → ⊥
unfolding moment_of time_of
last_is_no_moment t e = let never : None ≡ Some t = e in cc

-- ---- digits do not end with Z

no_zulu : (d : ℕ) → d < 16 → (slice_index lower_digits d == 90) ≡ false
no_zulu d small = by_test (slice_index lower_digits d) (slice_index lower_digits d == 90) refl (IsDigits-lower_digits d small)
  where
    by_test : (x : ℕ) (test : Bool) → (x == 90) ≡ test → hex_digit_value x ≡ Some d → test ≡ false
    by_test x false e h = refl
    by_test x true e h =
        let same : x ≡ 90 = eqb-true x 90 e in
        let none : hex_digit_value 90 ≡ Some d = subst (λ (y : ℕ). hex_digit_value y ≡ Some d) same h in
        absurd (cc none)

ends_so : (a b c d e f g h : ℕ) → h < 256 → ends_with_zulu (encode_lower (a ∷ b ∷ c ∷ d ∷ e ∷ f ∷ g ∷ h ∷ [])) ≡ false
unfolding encode_with
ends_so a b c d e f g h small = rw (no_zulu (h % 16) (omega arith)) refl

digits_end_without : (bits : ℕ) → ends_with_zulu (sixteen_digits bits) ≡ false
unfolding sixteen_digits
digits_end_without bits =
    let bytes = to_be_bytes w64 bits in
    ends_so (get_or bytes 0 0) (get_or bytes 1 0) (get_or bytes 2 0) (get_or bytes 3 0) (get_or bytes 4 0) (get_or bytes 5 0) (get_or bytes 6 0) (get_or bytes 7 0) (bytes_fit 8 bits 7)

pub no_moment : (z t : ℤ) → moment_of (id_digits z) ≡ Some t → ⊥
unfolding moment_of
no_moment z t e =
    let none : ends_with_zulu (id_digits z) ≡ false = digits_end_without (cast_unsigned w64 z) in
    let plain : time_of (id_digits z) ≡ Some t = rw none at e in
    no_time z t plain

-- ---- one transaction for a word

same_some : (t s : ℤ) → Some t ≡ Some s → t ≡ s
same_some t s e = cc

pub one_until : (word : List ℕ) (u v : Until) → SpellsUntil word u → SpellsUntil word v → u ≡ v
one_until word untils.Last untils.Last p q = refl
one_until word untils.Last (untils.Zxid z) p q = absurd (no_number z (sym p ∙ q.1))
one_until word untils.Last (untils.Time t) p q = absurd (last_is_no_moment t (ap moment_of (sym p) ∙ q))
one_until word (untils.Zxid z) untils.Last p q = absurd (no_number z (sym q ∙ p.1))
one_until word (untils.Zxid z) (untils.Zxid y) p q = ap untils.Zxid (one_number z y p.0 q.0 (sym p.1 ∙ q.1))
one_until word (untils.Zxid z) (untils.Time t) p q = absurd (no_moment z t (ap moment_of (sym p.1) ∙ q))
one_until word (untils.Time t) untils.Last p q = absurd (last_is_no_moment t (ap moment_of (sym q) ∙ p))
one_until word (untils.Time t) (untils.Zxid z) p q = absurd (no_moment z t (ap moment_of (sym q.1) ∙ p))
one_until word (untils.Time t) (untils.Time s) p q = ap untils.Time (same_some t s (sym p ∙ q))

-- ---- reading it

spelled_upto : (word : List ℕ) (upto : Option ℤ) → ReadsUpto word (Some upto) → IsUpto upto → SpellsPlain word (until_of upto)
spelled_upto word None e fits = e
spelled_upto word (Some z) e fits = (fits, e)

pub reads_upto : (word : List ℕ) (upto : Option ℤ) (until : Until) → ReadsUpto word (Some upto) → IsUpto upto → until ≡ until_of upto → ReadsPlain word (Some until)
reads_upto word upto until e fits same = subst (λ (u : Until). SpellsPlain word u) (sym same) (spelled_upto word upto e fits)

pub reads_time : (word : List ℕ) (time : ℤ) → Some time ≡ moment_of word → ReadsPlain word (Some (untils.Time time))
reads_time word time e = sym e

pub reads_none : (word : List ℕ) → ReadsUpto word None → None ≡ moment_of word → ReadsPlain word None
reads_none word unread none untils.Last p = unread None tt p
reads_none word unread none (untils.Zxid z) p = unread (Some z) p.0 p.1
reads_none word unread none (untils.Time t) p = let never : None ≡ Some t = none ∙ p in cc

as_until : (word : List ℕ) (read : Option Until) → ReadsPlain (padded word) read → ReadsUntil word read
as_until word (Some until) r = r
as_until word None r = r

pub reads_padded : (word plain : List ℕ) (read : Option Until) → plain ≡ padded word → ReadsPlain plain read → ReadsUntil word read
reads_padded word plain read e r = as_until word read (subst (λ (w : List ℕ). ReadsPlain w read) e r)

-- ---- what values name

pub no_files : (values : List (List ℕ)) (logs : Option (List ℕ)) → IsOnly values None → ReadsFolderBy (codes "files") values logs None
no_files values logs none orders.Files folder p = none folder p.1
no_files values logs none orders.List folder p = apart (codes "files") (codes "list") 102 108 refl refl (omega arith) p.0
no_files values logs none (orders.Show until) folder p = apart (codes "files") (codes "show") 102 115 refl refl (omega arith) p.1

pub no_list : (values : List (List ℕ)) (logs : Option (List ℕ)) → IsOnly values None → ReadsFolderBy (codes "list") values logs None
no_list values logs none orders.Files folder p = apart (codes "files") (codes "list") 102 108 refl refl (omega arith) (sym p.0)
no_list values logs none orders.List folder p = none folder p.1
no_list values logs none (orders.Show until) folder p = apart (codes "list") (codes "show") 108 115 refl refl (omega arith) p.1

pub no_logs : (values : List (List ℕ)) (logs : Option (List ℕ)) → logs ≡ None → ReadsFolderBy (codes "list") values logs None
no_logs values logs none orders.Files folder p = apart (codes "files") (codes "list") 102 108 refl refl (omega arith) (sym p.0)
no_logs values logs none orders.List folder p = let never : false ≡ true = subst (λ (l : Option (List ℕ)). IsSome l) none p.2 in cc
no_logs values logs none (orders.Show until) folder p = apart (codes "list") (codes "show") 108 115 refl refl (omega arith) p.1

pub no_two : (values : List (List ℕ)) (logs : Option (List ℕ)) → AreOnly values None → ReadsFolderBy (codes "show") values logs None
no_two values logs none orders.Files folder p = apart (codes "files") (codes "show") 102 115 refl refl (omega arith) (sym p.0)
no_two values logs none orders.List folder p = apart (codes "list") (codes "show") 108 115 refl refl (omega arith) (sym p.0)
no_two values logs none (orders.Show until) folder p = none folder p.0 p.2

pub no_until : (values : List (List ℕ)) (folder word : List ℕ) (logs : Option (List ℕ)) → values ≡ folder ∷ word ∷ [] → ReadsUntil word None → ReadsFolderBy (codes "show") values logs None
no_until values folder word logs e none orders.Files other p = apart (codes "files") (codes "show") 102 115 refl refl (omega arith) (sym p.0)
no_until values folder word logs e none orders.List other p = apart (codes "list") (codes "show") 108 115 refl refl (omega arith) (sym p.0)
no_until values folder word logs e none (orders.Show until) other p =
    let both : other ∷ p.0 ∷ [] ≡ folder ∷ word ∷ [] = sym p.2 ∙ e in
    let same : p.0 ≡ word = cc both in
    none until (subst (λ (w : List ℕ). SpellsUntil w until) same p.3)

not_shown : (values : List (List ℕ)) (folder word : List ℕ) (until : Until) (logs : Option (List ℕ)) → values ≡ folder ∷ word ∷ [] → SpellsUntil word until → ¬ NeedsDirectory until logs → ReadsFolderBy (codes "show") values logs None
not_shown values folder word until logs e spelled r orders.Files other p = apart (codes "files") (codes "show") 102 115 refl refl (omega arith) (sym p.0)
not_shown values folder word until logs e spelled r orders.List other p = apart (codes "list") (codes "show") 108 115 refl refl (omega arith) (sym p.0)
not_shown values folder word until logs e spelled r (orders.Show asked) other p =
    let both : other ∷ p.0 ∷ [] ≡ folder ∷ word ∷ [] = sym p.2 ∙ e in
    let same : p.0 ≡ word = cc both in
    let one : asked ≡ until = one_until word asked until (subst (λ (w : List ℕ). SpellsUntil w asked) same p.3) spelled in
    r (subst (λ (u : Until). NeedsDirectory u logs) one p.4)

pub shown : (values : List (List ℕ)) (folder word : List ℕ) (until : Until) (logs : Option (List ℕ)) (read : Option FolderJob) → values ≡ folder ∷ word ∷ [] → ReadsUntil word (Some until) → IsShownIn folder until logs read → ReadsFolderBy (codes "show") values logs read
shown values folder word until logs (Some job) e spelled r =
    let named : NamesFolderBy (codes "show") values logs (orders.Show until) folder = (word, refl, e, spelled, r.3) in
    let of_order : NamesFolderBy (codes "show") values logs job.order folder = subst (λ (o : FolderOrder). NamesFolderBy (codes "show") values logs o folder) (sym r.0) named in
    let of_folder : NamesFolderBy (codes "show") values logs job.order job.folder.now = subst (λ (f : List ℕ). NamesFolderBy (codes "show") values logs job.order f) (sym r.1) of_order in
    (of_folder, r.2)
shown values folder word until logs None e spelled r = not_shown values folder word until logs e spelled r
