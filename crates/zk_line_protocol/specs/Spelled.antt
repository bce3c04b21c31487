-- The content of a line, by its form.
use Rattle.std.specs.Prelude.{◌≡◌, ◌↔◌, ◌++◌, ℕ, ℤ, List, [], Some, Bool, codes}
use Rattle.std.specs.Str.{IsUtf8}
use Rattle.zk_acl.specs.declared.acl.Id.{Id}
use Rattle.zk_acl.specs.Digests.{digest_of}
use Rattle.zk_requests.specs.declared.call.Part.{Part}
use Rattle.zk_requests.specs.declared.call.Request.{Request}
use Rattle.zk_requests.specs.declared.call.Request.TheVariants as requests
use Rattle.zk_request_syntax.specs.declared.lookups.Lookup.TheVariants as lookups
use Rattle.zk_request_syntax.specs.RequestLines.{SpellsRequest, SpellsLookup, SpellsPart}
use Rattle.zk_format.specs.Listings.{IsListedPath}
use Rattle.zk_format.specs.Spelling.{quoted}
use Rattle.zk_table.specs.declared.read.ReadCall.{ReadCall}
use Rattle.zk_line_protocol.specs.ParsedLines.{said_in_text, said_in_multi_text}
use Rattle.zk_line_protocol.specs.declared.parsed_line.ParsedLine.TheVariants as saids
use Rattle.zk_line_protocol.specs.declared.parsed_line.ParsedMultiLine.TheVariants as insides

-- a request that changes nodes, and is no multi
abbrev pub IsWrite : Request → Type 0
IsWrite (requests.Multi parts) = ⊥
IsWrite (requests.OpenSession timeout) = ⊥
IsWrite requests.CloseSession = ⊥
IsWrite request = Unit {0}

-- a text that proves an identity
pub record SpellsProof (id : Id) (text : List ℕ) : Type 0 where
  pub proof : List ℕ
  pub is_text : IsUtf8 proof
  pub proves : digest_of proof ≡ Some id
  pub spelled : text ≡ codes "addauth digest " ++ quoted proof

-- each line is parsed as a kind exactly if it has that kind's form
pub record LinesSay : Type 0 where
  pub writes : (text : List ℕ) (request : Request) → IsWrite request → (said_in_text text ≡ saids.Writes request) ↔ SpellsRequest request text
  pub opens : (text : List ℕ) (timeout : ℤ) → (said_in_text text ≡ saids.Opens timeout) ↔ SpellsRequest (requests.OpenSession timeout) text
  pub closes : (text : List ℕ) → (said_in_text text ≡ saids.Closes) ↔ SpellsRequest requests.CloseSession text
  pub begins : (text : List ℕ) → (said_in_text text ≡ saids.BeginsMulti) ↔ SpellsRequest (requests.Multi []) text
  pub looks : (text : List ℕ) (call : ReadCall) (watch : Bool) → (said_in_text text ≡ saids.Looks call watch) ↔ SpellsLookup (lookups.Asks call watch) text
  pub proves : (text : List ℕ) (id : Id) → (said_in_text text ≡ saids.Proves id) ↔ SpellsProof id text
  pub syncs : (text path : List ℕ) → (said_in_text text ≡ saids.Syncs path) ↔ (IsListedPath path × (text ≡ codes "sync " ++ quoted path))
  pub well : (text : List ℕ) → (said_in_text text ≡ saids.AsksWhetherWell) ↔ (text ≡ codes "ruok")

-- and so is each line inside a multi
pub record LinesSayInMulti : Type 0 where
  pub adds : (text : List ℕ) (part : Part) → (said_in_multi_text text ≡ insides.Adds part) ↔ SpellsPart part text
  pub commits : (text : List ℕ) → (said_in_multi_text text ≡ insides.Commits) ↔ (text ≡ codes "commit")
