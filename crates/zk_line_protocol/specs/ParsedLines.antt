-- The content of a line: outside a multi, and inside one. This project's own.
use Rattle.std.specs.Prelude.{◌≡◌, ℕ, List, [], ◌∷◌, if◌then◌else◌, Option, Some, None, option_map, codes, Result, Ok, Err}
use Rattle.std.specs.Str.{bytes_eq, is_utf8}
use Rattle.zk_acl.specs.declared.acl.Id.{Id}
use Rattle.zk_acl.specs.Digests.{digest_of}
use Rattle.zk_listing.specs.declared.list_fault.ListCause.{ListCause}
use Rattle.zk_listing.specs.Reading.{◌>>=◌, Fails, front_of, back_of, past, quoted_at, path_at}
use Rattle.zk_requests.specs.declared.call.Part.{Part}
use Rattle.zk_requests.specs.declared.call.Request.{Request}
use Rattle.zk_requests.specs.declared.call.Request.TheVariants as requests
use Rattle.zk_request_syntax.specs.declared.lookups.Lookup.{Lookup}
use Rattle.zk_request_syntax.specs.declared.lookups.Lookup.TheVariants as lookups
use Rattle.zk_request_syntax.specs.Reading.{request_at, lookup_at, part_at, whole}
use Rattle.zk_line_protocol.specs.declared.parsed_line.ParsedLine.{ParsedLine}
use Rattle.zk_line_protocol.specs.declared.parsed_line.ParsedLine.TheVariants as saids
use Rattle.zk_line_protocol.specs.declared.parsed_line.ParsedMultiLine.{ParsedMultiLine}
use Rattle.zk_line_protocol.specs.declared.parsed_line.ParsedMultiLine.TheVariants as insides

-- a reader's result is the value of its reading, unless an allocation fails
abbrev pub MakesBy : {X Y : Type 0} → (X → Y) → Result X ListCause → Option Y → Type 0
MakesBy view (Ok x) read = read ≡ Some (view x)
MakesBy view (Err cause) read = Fails cause read

-- bytes that are not UTF-8 are no text
abbrev pub text_in : Option (List ℕ) → Option (List ℕ)
text_in None = None
text_in (Some bytes) = if is_utf8 bytes then Some bytes else None

-- what comes after a word and a space
unfoldable pub behind_word : List ℕ → List ℕ → Option (List ℕ)
behind_word word bytes = if bytes_eq (front_of bytes) word then past 32 (back_of bytes) else None

-- ---- outside a multi

-- the word `multi` alone begins a multi; with parts after it, it is no valid line
abbrev pub said_of_multi : List Part → ParsedLine
said_of_multi [] = saids.BeginsMulti
said_of_multi (part ∷ parts) = saids.Nothing

abbrev pub said_by_request : Request → ParsedLine
said_by_request (requests.OpenSession timeout) = saids.Opens timeout
said_by_request requests.CloseSession = saids.Closes
said_by_request (requests.Multi parts) = said_of_multi parts
said_by_request request = saids.Writes request

-- a read of an invalid path is no valid line
abbrev pub said_by_lookup : Lookup → ParsedLine
said_by_lookup (lookups.Asks call watch) = saids.Looks call watch
said_by_lookup lookups.BadPath = saids.Nothing

-- `addauth digest TEXT`: the text between quotes
unfoldable pub proof_in : List ℕ → Option (List ℕ)
proof_in line = behind_word (codes "addauth") line >>= λ rest. behind_word (codes "digest") rest >>= λ text. whole (quoted_at text)

-- `sync PATH`: the path
unfoldable pub synced_in : List ℕ → Option (List ℕ)
synced_in line = behind_word (codes "sync") line >>= λ rest. whole (path_at rest)

-- a text without a colon proves no identity
abbrev pub proved_in : List ℕ → Option Id
proved_in line = proof_in line >>= digest_of

-- the first reader that accepts the line decides
abbrev pub or_said : Option ParsedLine → ParsedLine → ParsedLine
or_said (Some said) other = said
or_said None other = other

abbrev pub said_in_text : List ℕ → ParsedLine
said_in_text text =
    or_said (option_map said_by_request (whole (request_at text)))
    (or_said (option_map said_by_lookup (whole (lookup_at text)))
    (or_said (option_map saids.Proves (proved_in text))
    (or_said (option_map saids.Syncs (synced_in text))
    (if bytes_eq text (codes "ruok") then saids.AsksWhetherWell else saids.Nothing))))

-- a line that is too long, or not UTF-8, has no content
abbrev pub said_in : Option (List ℕ) → ParsedLine
said_in None = saids.Nothing
said_in (Some text) = said_in_text text

-- ---- inside a multi

abbrev pub or_part : Option Part → ParsedMultiLine → ParsedMultiLine
or_part (Some part) other = insides.Adds part
or_part None other = other

abbrev pub said_in_multi_text : List ℕ → ParsedMultiLine
said_in_multi_text text = or_part (whole (part_at text)) (if bytes_eq text (codes "commit") then insides.Commits else insides.Nothing)

abbrev pub said_in_multi : Option (List ℕ) → ParsedMultiLine
said_in_multi None = insides.Nothing
said_in_multi (Some text) = said_in_multi_text text
