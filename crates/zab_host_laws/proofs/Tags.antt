-- No two requests share a tag.
use Rattle.std.proofs.Common.{◌≡◌, ◌≢◌, ℕ, ◌+◌, ◌*◌, ◌<◌, ◌==◌, ◌||◌, Bool, true, false, List, [], ◌∷◌, ◌++◌, map, refl, sym, ap, subst, ◌∙◌, arith}
use Rattle.std.proofs.lemmas.Bool.Decides.{nat_tests}
use Rattle.std.specs.List.{AllByRecursion}
use Rattle.zab_broadcast.specs.Calls.{is_taken}
use Rattle.zab_model.specs.Worlds.{Profile}
use Rattle.zab_host_laws.specs.Hosts.{Step, Receives, Submits, Syncs, Leads, Follows, Restarts}
use Rattle.zab_host_laws.proofs.HostRuns.{taken_both}
use Rattle.zab_host.specs.Tags.{Request, IsInRange, request_tag, TagsDiffer}
use Rattle.zab_host_laws.specs.Releases.{AreFreshTags}
use Rattle.zab_host_laws.specs.Tags.{tags_in, AreDistinct, IssuedTagsAreFresh}

-- ---- two requests

digit : (a b r s : ℕ) → r < 72057594037927936 → s < 72057594037927936 → a * 72057594037927936 + r ≡ b * 72057594037927936 + s → a ≡ b
digit a b r s rl sl is = omega arith

low_digit : (a b r s : ℕ) → r < 4294967296 → s < 4294967296 → a * 4294967296 + r ≡ b * 4294967296 + s → a ≡ b
low_digit a b r s rl sl is = omega arith

low : (boot number : ℕ) → boot < 16777216 → number < 4294967296 → boot * 4294967296 + number < 72057594037927936
low boot number b n = omega arith

pub tags_differ : TagsDiffer
tags_differ one other p q is =
    let a = one.boot * 4294967296 + one.number in
    let b = other.boot * 4294967296 + other.number in
    let split : one.host * 72057594037927936 + a ≡ other.host * 72057594037927936 + b = omega (arith, is) in
    let hosts : one.host ≡ other.host =
    digit one.host other.host a b (low one.boot one.number p.boot p.number) (low other.boot other.number q.boot q.number) split in
    let rest : a ≡ b = omega (arith, split, hosts) in
    let boots : one.boot ≡ other.boot = low_digit one.boot other.boot one.number other.number p.number q.number rest in
    let numbers : one.number ≡ other.number = omega (arith, rest, boots) in
    ap (λ (n : ℕ). record { host = n; boot = one.boot; number = one.number }) hosts
    ∙ ap (λ (n : ℕ). record { host = other.host; boot = n; number = one.number }) boots
    ∙ ap (λ (n : ℕ). record { host = other.host; boot = other.boot; number = n }) numbers

-- ---- many

abbrev Differ : ℕ → List ℕ → Type 0
Differ tag tags = AllByRecursion (λ other. (tag == other) ≡ false) tags

abbrev AllDiffer : List ℕ → Type 0
AllDiffer [] = Unit {0}
AllDiffer (tag ∷ tags) = Differ tag tags × AllDiffer tags

abbrev Unused : List ℕ → List ℕ → List ℕ → Type 0
Unused calls syncs tags = AllByRecursion (λ tag. (is_taken tag calls ≡ false) × (is_taken tag syncs ≡ false)) tags

eqb_eq : (m n : ℕ) → (m == n) ≡ true → m ≡ n
eqb_eq m n is = grind (arith, nat_tests)

differs : (one other : Request) → IsInRange one → IsInRange other → other ≢ one → (request_tag one == request_tag other) ≡ false
differs one other p q apart = by_test (request_tag one == request_tag other) refl
  where
    by_test : (b : Bool) → (request_tag one == request_tag other) ≡ b → (request_tag one == request_tag other) ≡ false
    by_test true is = absurd (apart (sym (tags_differ one other p q (eqb_eq (request_tag one) (request_tag other) is))))
    by_test false is = is

differ_all : (one : Request) (requests : List Request) → IsInRange one → AllByRecursion IsInRange requests → AllByRecursion (λ other. other ≢ one) requests → Differ (request_tag one) (map request_tag requests)
differ_all one [] p ranges apart = tt
differ_all one (other ∷ requests) p ranges apart = (differs one other p ranges.0 apart.0, differ_all one requests p ranges.1 apart.1)

all_differ : (requests : List Request) → AllByRecursion IsInRange requests → AreDistinct requests → AllDiffer (map request_tag requests)
all_differ [] ranges apart = tt
all_differ (one ∷ requests) ranges apart = (differ_all one requests ranges.0 ranges.1 apart.0, all_differ requests ranges.1 apart.1)

none_used : (tags : List ℕ) → Unused [] [] tags
none_used [] = tt
none_used (tag ∷ tags) = ((refl, refl), none_used tags)

one_used : (tag other : ℕ) → (tag == other) ≡ false → is_taken other (tag ∷ []) ≡ false
one_used tag other differ = ap (λ b. b || false) differ

with_call : (tag : ℕ) (calls syncs tags : List ℕ) → Differ tag tags → Unused calls syncs tags → Unused (calls ++ tag ∷ []) syncs tags
with_call tag calls syncs [] differ unused = tt
with_call tag calls syncs (other ∷ tags) differ unused =
    ((taken_both other calls (tag ∷ []) unused.0.0 (one_used tag other differ.0), unused.0.1), with_call tag calls syncs tags differ.1 unused.1)

with_sync : (tag : ℕ) (calls syncs tags : List ℕ) → Differ tag tags → Unused calls syncs tags → Unused calls (syncs ++ tag ∷ []) tags
with_sync tag calls syncs [] differ unused = tt
with_sync tag calls syncs (other ∷ tags) differ unused =
    ((unused.0.0, taken_both other syncs (tag ∷ []) unused.0.1 (one_used tag other differ.0)), with_sync tag calls syncs tags differ.1 unused.1)

fresh : {C : Type 0} (profile : Profile C) (calls syncs : List ℕ) (steps : List (Step C)) → AllDiffer (tags_in profile steps) → Unused calls syncs (tags_in profile steps) → AreFreshTags profile calls syncs steps
fresh profile calls syncs [] differ unused = tt
fresh profile calls syncs (Receives message ∷ steps) differ unused = (tt, fresh profile calls syncs steps differ unused)
fresh profile calls syncs (Submits number call ∷ steps) differ unused = (
  unused.0.0,
  fresh profile (calls ++ profile.setting.tag call ∷ []) syncs steps differ.1
      (with_call (profile.setting.tag call) calls syncs (tags_in profile steps) differ.0 unused.1),
)
fresh profile calls syncs (Syncs number tag ∷ steps) differ unused =
    (unused.0.1, fresh profile calls (syncs ++ tag ∷ []) steps differ.1 (with_sync tag calls syncs (tags_in profile steps) differ.0 unused.1))
fresh profile calls syncs (Leads number ∷ steps) differ unused = (tt, fresh profile calls syncs steps differ unused)
fresh profile calls syncs (Follows number leader ∷ steps) differ unused = (tt, fresh profile calls syncs steps differ unused)
fresh profile calls syncs (Restarts number ∷ steps) differ unused = (tt, fresh profile calls syncs steps differ unused)

pub issued_are_fresh : {C : Type 0} (profile : Profile C) → IssuedTagsAreFresh profile
issued_are_fresh profile steps requests are ranges apart =
    fresh profile [] [] steps (subst AllDiffer (sym are) (all_differ requests ranges apart)) (none_used (tags_in profile steps))
