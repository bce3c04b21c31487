-- Requests with rising numbers are distinct, and so are their tags.
use Rattle.std.proofs.Common.{◌≡◌, ◌≢◌, ℕ, zero, suc, ◌<◌, ◌≤◌, List, [], ◌∷◌, ◌++◌, map, take, refl, sym, ap, ◌∙◌, arith}
use Rattle.std.specs.List.{AllByRecursion}
use Rattle.std.proofs.lemmas.List.{append_assoc}
use Rattle.zab_model.specs.Worlds.{Profile}
use Rattle.zab_host_laws.specs.Hosts.{Step}
use Rattle.zab_host.specs.Hosts.{Input, Receives, Submits, Syncs, Leads, Follows}
use Rattle.zab_host.specs.Tags.{Request, request_tag}
use Rattle.zab_host_laws.specs.Composition.{step_of}
use Rattle.zab_host_laws.specs.Tags.{tag_in, tags_in, AreDistinct}
use Rattle.zk_server_laws.specs.Turns.{AreRising}
use Rattle.zk_server_laws.proofs.Lists.{all_map}

-- a request of this start, numbered from `low` to below `high`
pub record IsOf (number boot low high : ℕ) (request : Request) : Type 0 where
  pub host : request.host ≡ number
  pub boot_is : request.boot ≡ boot
  pub low_is : low ≤ request.number
  pub high_is : request.number < high

pub rising_up : (number boot low high : ℕ) (requests : List Request) → AreRising number boot low high requests → low ≤ high
rising_up number boot low high [] r = r
rising_up number boot low high (request ∷ requests) r =
    let more = rising_up number boot (suc request.number) high requests r.1.1.1 in
    let least = r.1.1.0 in
    omega arith

pub rising_all : (number boot low high : ℕ) (requests : List Request) → AreRising number boot low high requests → AllByRecursion (IsOf number boot low high) requests
rising_all number boot low high [] r = tt
rising_all number boot low high (request ∷ requests) r =
    let more = rising_up number boot (suc request.number) high requests r.1.1.1 in
    let least = r.1.1.0 in (
      record { host = r.0; boot_is = r.1.0; low_is = least; high_is = omega arith },
      all_map (IsOf number boot (suc request.number) high) (IsOf number boot low high) requests
          (λ other is. let high_too = is.low_is in record { host = is.host; boot_is = is.boot_is; low_is = omega arith; high_is = is.high_is })
          (rising_all number boot (suc request.number) high requests r.1.1.1),
    )

later : (number boot low high : ℕ) (one other : Request) → one.number < low → IsOf number boot low high other → other ≢ one
later number boot low high one other less is same =
    let e : other.number ≡ one.number = ap (λ (r : Request). r.number) same in
    let least = is.low_is in
    absurd (omega arith)

pub rising_distinct : (number boot low high : ℕ) (requests : List Request) → AreRising number boot low high requests → AreDistinct requests
rising_distinct number boot low high [] r = tt
rising_distinct number boot low high (request ∷ requests) r = (
  all_map (IsOf number boot (suc request.number) high) (λ other. other ≢ request) requests
      (λ other is. later number boot (suc request.number) high request other (omega arith) is)
      (rising_all number boot (suc request.number) high requests r.1.1.1),
  rising_distinct number boot (suc request.number) high requests r.1.1.1,
)

pub rising_take : (number boot low high count : ℕ) (requests : List Request) → AreRising number boot low high requests → AreRising number boot low high (take count requests)
rising_take number boot low high zero requests r = rising_up number boot low high requests r
rising_take number boot low high (suc count) [] r = r
rising_take number boot low high (suc count) (request ∷ requests) r =
    (r.0, (r.1.0, (r.1.1.0, rising_take number boot (suc request.number) high count requests r.1.1.1)))

-- lists without a common request
pub distinct_append : (a b : List Request) → AreDistinct a → AreDistinct b → AllByRecursion (λ one. AllByRecursion (λ other. other ≢ one) b) a → AreDistinct (a ++ b)
distinct_append [] b p q apart = q
distinct_append (one ∷ a) b p q apart = (both a p.0, distinct_append a b p.1 q apart.1)
  where
    both : (rest : List Request) → AllByRecursion (λ other. other ≢ one) rest → AllByRecursion (λ other. other ≢ one) (rest ++ b)
    both [] all = apart.0
    both (other ∷ rest) all = (all.0, both rest all.1)

-- ---- tags

module _ {C : Type 0} (profile : Profile C) where
  pub tags_both : (a b : List (Step C)) → tags_in profile (a ++ b) ≡ tags_in profile a ++ tags_in profile b
  tags_both [] b = refl
  tags_both (step ∷ a) b =
      ap (λ l. tag_in profile step ++ l) (tags_both a b) ∙ sym (append_assoc (tag_in profile step) (tags_in profile a) (tags_in profile b))

  -- the first inputs have the first tags
  pub record FirstTags (number count : ℕ) (inputs : List (Input C)) (requests : List Request) : Type 0 where
    pub many : ℕ
    pub is : tags_in profile (map (step_of number) (take count inputs)) ≡ map request_tag (take many requests)

  one_more : (number count : ℕ) (tag : ℕ) (inputs : List (Input C)) (request : Request) (requests : List Request) → tag ≡ request_tag request
      → FirstTags number count inputs requests → (many : ℕ) × (tag ∷ tags_in profile (map (step_of number) (take count inputs)) ≡ map request_tag (take many (request ∷ requests)))
  one_more number count tag inputs request requests same first =
      (suc first.many, ap (λ t. t ∷ tags_in profile (map (step_of number) (take count inputs))) same ∙ ap (λ l. request_tag request ∷ l) first.is)

  pub first_tags : (number count : ℕ) (inputs : List (Input C)) (requests : List Request) → tags_in profile (map (step_of number) inputs) ≡ map request_tag requests → FirstTags number count inputs requests
  first_tags number zero inputs requests is = record { many = 0; is = refl }
  first_tags number (suc count) [] requests is = record { many = 0; is = refl }
  first_tags number (suc count) (Receives message ∷ inputs) requests is = (let f = first_tags number count inputs requests is in record { many = f.many; is = f.is })
  first_tags number (suc count) (Leads ∷ inputs) requests is = (let f = first_tags number count inputs requests is in record { many = f.many; is = f.is })
  first_tags number (suc count) (Follows leader ∷ inputs) requests is = (let f = first_tags number count inputs requests is in record { many = f.many; is = f.is })
  first_tags number (suc count) (Submits call ∷ inputs) [] is = absurd cc
  first_tags number (suc count) (Submits call ∷ inputs) (request ∷ requests) is =
      (let one : profile.setting.tag call ≡ request_tag request = cc in
      let rest : tags_in profile (map (step_of number) inputs) ≡ map request_tag requests = cc in
      let m = one_more number count (profile.setting.tag call) inputs request requests one (first_tags number count inputs requests rest) in record { many = m.0; is = m.1 })
  first_tags number (suc count) (Syncs tag ∷ inputs) [] is = absurd cc
  first_tags number (suc count) (Syncs tag ∷ inputs) (request ∷ requests) is =
      (let one : tag ≡ request_tag request = cc in
      let rest : tags_in profile (map (step_of number) inputs) ≡ map request_tag requests = cc in
      let m = one_more number count (tag) inputs request requests one (first_tags number count inputs requests rest) in record { many = m.0; is = m.1 })
