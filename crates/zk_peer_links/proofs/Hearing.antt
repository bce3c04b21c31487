-- What happens to links, one input after the other.
use Rattle.std.proofs.Common.{◌≡◌, ◌≢◌, ◌⊎◌, inl, inr, ℕ, ◌+◌, ◌-◌, ◌<◌, ◌≤◌, Bool, true, false, if◌then◌else◌, List, [], ◌∷◌, ◌++◌, length, take, set, get_or, Option, Some, None, refl, sym, ap, ◌∙◌, subst, arith}
use Rattle.std.specs.Prelude.{IfSome}
use Rattle.std.proofs.lemmas.List.{take_all, take_more, get_or_default}
use Rattle.zk_peer_links.specs.Links.{Adds, Brings, Hearing, Hears, HearsAll, IsAt, IsNowhere, LinkView, closed, has_number, hearing, is_peer, link_at, new_link, number_of, opened, opens, unwanted}
use Rattle.zk_peer_links.specs.declared.arrival.Arrival.{Arrival}
use Rattle.zk_peer_links.specs.declared.arrival.Arrival.TheVariants as arrivals
use Rattle.zk_peer_links.specs.declared.link_input.LinkInput.{LinkInput}
use Rattle.zk_peer_links.specs.declared.link_input.LinkInput.TheVariants as inputs

pub both : (me : ℕ) (a b : List LinkInput) (x y z : Hearing) → HearsAll me a x y → HearsAll me b y z → HearsAll me (a ++ b) x z
both me [] b x y z first later = subst (λ (it : Hearing). HearsAll me b it z) first later
both me (input ∷ a) b x y z first later = (first.0, (first.1.0, both me a b first.0 y z first.1.1 later))

module _ (me : ℕ) (all : List LinkInput) (start : Hearing) where
  pub hears_none : HearsAll me (take 0 all) start start
  hears_none = refl

  pub hears_more : (index : ℕ) (input : LinkInput) (mid new : Hearing) → index < length all → input ≡ get_or all index input → HearsAll me (take index all) start mid → Hears me input mid new
      → HearsAll me (take (index + 1) all) start new
  hears_more index input mid new lt is so_far step =
      let more : take (index + 1) all ≡ take index all ++ input ∷ [] = take_more all index input lt ∙ ap (λ (it : LinkInput). take index all ++ it ∷ []) (sym is) in
      subst (λ (l : List LinkInput). HearsAll me l start new) (sym more) (both me (take index all) (input ∷ []) start mid new so_far (new, (step, refl)))

  pub hears_whole : (index : ℕ) (new : Hearing) → length all ≤ index → HearsAll me (take index all) start new → HearsAll me all start new
  hears_whole index new whole heard = subst (λ (l : List LinkInput). HearsAll me l start new) (take_all index all whole) heard

-- ---- one input

module _ (links : List (Option LinkView)) (before : List Arrival) (ended : List ℕ) where
  abbrev old : Hearing
  old = hearing links before ended

  at_place : (place : ℕ) (slot : Option LinkView) → place < length links → slot ≡ get_or links place slot → link_at links place ≡ slot
  at_place place slot within is = sym (is ∙ get_or_default links place slot None within)

  no_slot : (line place : ℕ) → IsAt line links place → link_at links place ≡ None → ⊥
  no_slot line place at none = (let no : false ≡ true = sym (ap (has_number line) none) ∙ at.has in absurd cc)

  brings_at : (line place : ℕ) (bytes : List ℕ) (slot left : Option LinkView) (new_links : List (Option LinkView)) (after : List Arrival) (ends : List ℕ) → IsAt line links place → link_at links place ≡ slot
      → new_links ≡ set links place left → IfSome slot (Adds place line bytes left before after ended ends) → Brings place line bytes old (hearing new_links after ends)
  brings_at line place bytes None left new_links after ends at is now adds = absurd (no_slot line place at is)
  brings_at line place bytes (Some link) left new_links after ends at is now adds = record {
    link = link;
    is = is;
    left = left;
    arrived = adds.arrived;
    ended = adds.ended;
    brings = adds.brings;
    now = ap (λ (l : List (Option LinkView)). hearing l after ends) now ∙ ap (λ (l : List Arrival). hearing (set links place left) l ends) adds.arrives
        ∙ ap (λ (l : List ℕ). hearing (set links place left) (before ++ adds.arrived) l) adds.ends;
  }

  pub brings : (me line place : ℕ) (bytes : List ℕ) (slot left : Option LinkView) (new_links : List (Option LinkView)) (after : List Arrival) (ends : List ℕ) → IsAt line links place → slot ≡ get_or links place slot
      → new_links ≡ set links place left → IfSome slot (Adds place line bytes left before after ended ends) → Hears me (inputs.Brought line bytes) old (hearing new_links after ends)
  brings me line place bytes slot left new_links after ends at is now adds = inl (place, (at, brings_at line place bytes slot left new_links after ends at (at_place place slot at.within is) now adds))

  pub brings_nothing : (me line : ℕ) (bytes : List ℕ) (new : Hearing) → IsNowhere line links → new ≡ old → Hears me (inputs.Brought line bytes) old new
  brings_nothing me line bytes new nowhere same = inr (nowhere, same)

  pub closes : (me line place : ℕ) (new_links : List (Option LinkView)) (after : List Arrival) → IsAt line links place → new_links ≡ set links place None → after ≡ before ++ arrivals.Closed (place + 1) ∷ []
      → Hears me (inputs.Closed line) old (hearing new_links after ended)
  closes me line place new_links after at now told =
      inl (place, (at, ap (λ (l : List (Option LinkView)). hearing l after ended) now ∙ ap (λ (l : List Arrival). hearing (set links place None) l ended) told))

  pub closes_nothing : (me line : ℕ) (new : Hearing) → IsNowhere line links → new ≡ old → Hears me (inputs.Closed line) old new
  closes_nothing me line new nowhere same = inr (nowhere, same)

  pub opens_place : (me peer line place : ℕ) (slot : Option LinkView) (new_links : List (Option LinkView)) (after : List Arrival) (ends : List ℕ) → is_peer me (length links) peer ≡ true → place ≡ peer - 1
      → place < length links → slot ≡ get_or links place slot → new_links ≡ set links place (Some (new_link line)) → after ≡ before ++ arrivals.Closed (place + 1) ∷ [] → ends ≡ ended ++ number_of slot
      → hearing new_links after ends ≡ opens me peer line old
  opens_place me peer line place slot new_links after ends peers at within is now told said =
      let at_peer : opens me peer line old ≡ opened (peer - 1) line old = ap (λ (b : Bool). if b then opened (peer - 1) line old else unwanted line old) peers in
      ap (λ (l : List (Option LinkView)). hearing l after ends) now ∙ ap (λ (l : List Arrival). hearing (set links place (Some (new_link line))) l ends) told
      ∙ ap (λ (l : List ℕ). hearing (set links place (Some (new_link line))) (before ++ arrivals.Closed (place + 1) ∷ []) l) (said ∙ ap (λ (o : Option LinkView). ended ++ number_of o) (sym (at_place place slot within is)))
      ∙ ap (λ (n : ℕ). opened n line old) at ∙ sym at_peer

  pub opens_nowhere : (me peer line : ℕ) (ends : List ℕ) → is_peer me (length links) peer ≡ false → ends ≡ ended ++ line ∷ [] → hearing links before ends ≡ opens me peer line old
  opens_nowhere me peer line ends peers said =
      ap (λ (l : List ℕ). hearing links before l) said ∙ sym (ap (λ (b : Bool). if b then opened (peer - 1) line old else unwanted line old) peers)
