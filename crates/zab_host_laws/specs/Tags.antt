-- The tags of hosts' calls and syncs.
use Rattle.std.specs.Prelude.{◌≡◌, ◌≢◌, ℕ, List, [], ◌∷◌, ◌++◌, map}
use Rattle.std.specs.List.{AllByRecursion}
use Rattle.zab_model.specs.Worlds.{Profile}
use Rattle.zab_host_laws.specs.Hosts.{Step, Submits, Syncs}
use Rattle.zab_host.specs.Tags.{Request, IsInRange, request_tag}
use Rattle.zab_host_laws.specs.Releases.{AreFreshTags}

abbrev pub tag_in : {C : Type 0} → Profile C → Step C → List ℕ
tag_in profile (Submits number call) = profile.setting.tag call ∷ []
tag_in profile (Syncs number tag) = tag ∷ []
tag_in profile step = []

-- the tags of calls and syncs, in the order of steps
abbrev pub tags_in : {C : Type 0} → Profile C → List (Step C) → List ℕ
tags_in profile [] = []
tags_in profile (step ∷ steps) = tag_in profile step ++ tags_in profile steps

abbrev pub AreDistinct : List Request → Type 0
AreDistinct [] = Unit {0}
AreDistinct (request ∷ requests) = AllByRecursion (λ other. other ≢ request) requests × AreDistinct requests

-- If a tag is determined by its request's host, the host's start, and the request's number since
-- then, no step reuses a tag.
abbrev pub IssuedTagsAreFresh : {C : Type 0} → Profile C → Type 0
IssuedTagsAreFresh {C} profile = (steps : List (Step C)) (requests : List Request) → tags_in profile steps ≡ map request_tag requests
    → AllByRecursion IsInRange requests → AreDistinct requests
    → AreFreshTags profile [] [] steps
