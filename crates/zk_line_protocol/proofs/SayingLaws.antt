-- A line is parsed by its form.
use Rattle.std.proofs.Common.{◌≡◌, ℕ, ℤ, Bool, true, false, eqb, if◌then◌else◌, List, [], ◌∷◌, ◌++◌, length, Option, Some, None, option_map, refl, sym, ap, subst, ◌∙◌, append-nil, append_assoc}
use Rattle.std.proofs.lemmas.Slice.Eq.{bytes_eq-Decides}
use Rattle.std.specs.Prelude.{codes, option_and_then}
use Rattle.std.specs.Str.{bytes_eq, IsUtf8}
use Rattle.zk_acl.specs.declared.acl.Id.{Id}
use Rattle.zk_acl.specs.Digests.{digest_of}
use Rattle.zk_listing.specs.Reading.{front_of, back_of, past, quoted_at, path_at}
use Rattle.zk_listing.proofs.Exact.{bind_some, past_is, past_self, front-back}
use Rattle.zk_listing.proofs.QuotedLaws.{quoted_exact, path_exact}
use Rattle.zk_requests.specs.declared.call.Part.{Part}
use Rattle.zk_requests.specs.declared.call.Request.{Request}
use Rattle.zk_requests.specs.declared.call.Request.TheVariants as requests
use Rattle.zk_request_syntax.specs.declared.lookups.Lookup.{Lookup}
use Rattle.zk_request_syntax.specs.declared.lookups.Lookup.TheVariants as lookups
use Rattle.zk_request_syntax.specs.Reading.{request_at, lookup_at, part_at, whole}
use Rattle.zk_request_syntax.specs.RequestLines.{SpellsRequest, SpellsLookup, SpellsPart, SpellsRead, flag_text, lookup_word}
use Rattle.zk_request_syntax.proofs.LookupTexts.{whole_lookup}
use Rattle.zk_request_syntax.proofs.PartTexts.{whole_part}
use Rattle.zk_request_syntax.proofs.RequestTexts.{whole_request}
use Rattle.zk_format.specs.Listings.{IsListedPath}
use Rattle.zk_format.specs.Spelling.{quoted}
use Rattle.zk_table.specs.Replies.{path_read}
use Rattle.zk_table.specs.declared.read.ReadCall.{ReadCall}
use Rattle.zk_table.specs.declared.read.ReadCall.TheVariants as calls
use Rattle.zk_line_protocol.specs.ParsedLines.{behind_word, proof_in, synced_in, proved_in, said_by_request, said_by_lookup, or_said, said_in_text, or_part, said_in_multi_text}
use Rattle.zk_line_protocol.specs.Spelled.{IsWrite, SpellsProof, LinesSay, LinesSayInMulti}
use Rattle.zk_line_protocol.specs.declared.parsed_line.ParsedLine.{ParsedLine}
use Rattle.zk_line_protocol.specs.declared.parsed_line.ParsedLine.TheVariants as saids
use Rattle.zk_line_protocol.specs.declared.parsed_line.ParsedMultiLine.{ParsedMultiLine}
use Rattle.zk_line_protocol.specs.declared.parsed_line.ParsedMultiLine.TheVariants as insides
use Rattle.zk_line_protocol.proofs.LoneFields.{whole_takes, whole_again}
use Rattle.zk_line_protocol.proofs.WholeReadings.{spells, reads}

-- ---- words

behind_takes : (word bytes rest : List ℕ) → behind_word word bytes ≡ Some rest → bytes ≡ word ++ 32 ∷ rest
unfolding behind_word
behind_takes word bytes rest h =
    let p = option_if (bytes_eq (front_of bytes) word) (past 32 (back_of bytes)) rest h in
    front-back bytes ∙ ap (λ (w : List ℕ). w ++ back_of bytes) ((bytes_eq-Decides (front_of bytes) word).0 p.0) ∙ ap (λ (b : List ℕ). word ++ b) (past_is 32 (back_of bytes) rest p.1)
  where
    option_if : (b : Bool) (o : Option (List ℕ)) (r : List ℕ) → (if b then o else None) ≡ Some r → (b ≡ true) × (o ≡ Some r)
    option_if true o r e = (refl, e)
    option_if false o r e = absurd (let bad : None ≡ Some r = e in cc)

addauth_again : (rest : List ℕ) → behind_word (codes "addauth") (codes "addauth " ++ rest) ≡ Some rest
unfolding behind_word front_of back_of
addauth_again rest = past_self 32 rest

digest_again : (rest : List ℕ) → behind_word (codes "digest") (codes "digest " ++ rest) ≡ Some rest
unfolding behind_word front_of back_of
digest_again rest = past_self 32 rest

sync_again : (rest : List ℕ) → behind_word (codes "sync") (codes "sync " ++ rest) ≡ Some rest
unfolding behind_word front_of back_of
sync_again rest = past_self 32 rest

-- ---- proofs and syncs

proof_takes : (text proof : List ℕ) → proof_in text ≡ Some proof → IsUtf8 proof × (text ≡ codes "addauth digest " ++ quoted proof)
unfolding proof_in
proof_takes text proof h =
    let p = bind_some {B = List ℕ} (behind_word (codes "addauth") text) (λ rest. option_and_then (λ t. whole (quoted_at t)) (behind_word (codes "digest") rest)) proof h in
    let q = bind_some {B = List ℕ} (behind_word (codes "digest") p.0) (λ t. whole (quoted_at t)) proof p.2 in
    let t = whole_takes quoted IsUtf8 quoted_at quoted_exact q.0 proof q.2 in
    let inner : p.0 ≡ codes "digest" ++ 32 ∷ quoted proof = behind_takes (codes "digest") p.0 q.0 q.1 ∙ ap (λ (r : List ℕ). codes "digest" ++ 32 ∷ r) (t.1 ∙ append-nil (quoted proof)) in
    (t.0, behind_takes (codes "addauth") text p.0 p.1 ∙ ap (λ (r : List ℕ). codes "addauth" ++ 32 ∷ r) inner)

proof_again : (proof : List ℕ) → IsUtf8 proof → proof_in (codes "addauth digest " ++ quoted proof) ≡ Some proof
unfolding proof_in
proof_again proof utf8 =
    rw (addauth_again (codes "digest " ++ quoted proof), digest_again (quoted proof)) (whole_again quoted IsUtf8 quoted_at quoted_exact (quoted proof) proof utf8 (sym (append-nil (quoted proof))))

synced_takes : (text path : List ℕ) → synced_in text ≡ Some path → IsListedPath path × (text ≡ codes "sync " ++ quoted path)
unfolding synced_in
synced_takes text path h =
    let p = bind_some {B = List ℕ} (behind_word (codes "sync") text) (λ rest. whole (path_at rest)) path h in
    let t = whole_takes quoted IsListedPath path_at path_exact p.0 path p.2 in
    (t.0, behind_takes (codes "sync") text p.0 p.1 ∙ ap (λ (r : List ℕ). codes "sync" ++ 32 ∷ r) (t.1 ∙ append-nil (quoted path)))

synced_again : (path : List ℕ) → IsListedPath path → synced_in (codes "sync " ++ quoted path) ≡ Some path
unfolding synced_in
synced_again path fits = rw (sync_again (quoted path)) (whole_again quoted IsListedPath path_at path_exact (quoted path) path fits (sym (append-nil (quoted path))))

-- ---- the readers of lines

abbrev said_by : Option Request → Option Lookup → Option Id → Option (List ℕ) → Bool → ParsedLine
said_by request lookup id path well =
    or_said (option_map said_by_request request) (or_said (option_map said_by_lookup lookup) (or_said (option_map saids.Proves id) (or_said (option_map saids.Syncs path) (if well then saids.AsksWhetherWell else saids.Nothing))))

abbrev Came : Option Request → Option Lookup → Option Id → Option (List ℕ) → Bool → ParsedLine → Type 0
Came request lookup id path well (saids.Writes x) = request ≡ Some x
Came request lookup id path well (saids.Opens timeout) = request ≡ Some (requests.OpenSession timeout)
Came request lookup id path well saids.Closes = request ≡ Some requests.CloseSession
Came request lookup id path well saids.BeginsMulti = request ≡ Some (requests.Multi [])
Came request lookup id path well (saids.Looks call watch) = lookup ≡ Some (lookups.Asks call watch)
Came request lookup id path well (saids.Proves x) = id ≡ Some x
Came request lookup id path well (saids.Syncs x) = path ≡ Some x
Came request lookup id path well saids.AsksWhetherWell = well ≡ true
Came request lookup id path well saids.Nothing = Unit {0}

came : (request : Option Request) (lookup : Option Lookup) (id : Option Id) (path : Option (List ℕ)) (well : Bool) → Came request lookup id path well (said_by request lookup id path well)
came (Some (requests.Create p content acl flags)) lookup id path well = refl
came (Some (requests.Delete p version)) lookup id path well = refl
came (Some (requests.SetData p content version)) lookup id path well = refl
came (Some (requests.SetAcl p acl version)) lookup id path well = refl
came (Some (requests.Multi [])) lookup id path well = refl
came (Some (requests.Multi (part ∷ parts))) lookup id path well = tt
came (Some (requests.OpenSession timeout)) lookup id path well = refl
came (Some requests.CloseSession) lookup id path well = refl
came None (Some (lookups.Asks call watch)) id path well = refl
came None (Some lookups.BadPath) id path well = tt
came None None (Some x) path well = refl
came None None None (Some x) well = refl
came None None None None true = refl
came None None None None false = tt

module _ (text : List ℕ) where
  from : (said : ParsedLine) → said_in_text text ≡ said → Came (whole (request_at text)) (whole (lookup_at text)) (proved_in text) (synced_in text) (bytes_eq text (codes "ruok")) said
  from said h = subst (λ (s : ParsedLine). Came (whole (request_at text)) (whole (lookup_at text)) (proved_in text) (synced_in text) (bytes_eq text (codes "ruok")) s) h
      (came (whole (request_at text)) (whole (lookup_at text)) (proved_in text) (synced_in text) (bytes_eq text (codes "ruok")))

-- ---- the converse

says_write : (request : Request) → IsWrite request → said_by_request request ≡ saids.Writes request
says_write (requests.Create path content acl flags) w = refl
says_write (requests.Delete path version) w = refl
says_write (requests.SetData path content version) w = refl
says_write (requests.SetAcl path acl version) w = refl
says_write (requests.Multi parts) w = absurd w
says_write (requests.OpenSession timeout) w = absurd w
says_write requests.CloseSession w = absurd w

says_request : (text : List ℕ) (request : Request) → SpellsRequest request text → said_in_text text ≡ said_by_request request
says_request text request s = rw (reads SpellsRequest request_at whole_request text request s) refl

no_get : (more : List ℕ) → whole (request_at (codes "get" ++ 32 ∷ more)) ≡ None
unfolding request_at front_of
no_get more = refl

no_stat : (more : List ℕ) → whole (request_at (codes "stat" ++ 32 ∷ more)) ≡ None
unfolding request_at front_of
no_stat more = refl

no_ls : (more : List ℕ) → whole (request_at (codes "ls" ++ 32 ∷ more)) ≡ None
unfolding request_at front_of
no_ls more = refl

no_getacl : (more : List ℕ) → whole (request_at (codes "getacl" ++ 32 ∷ more)) ≡ None
unfolding request_at front_of
no_getacl more = refl

-- an optional word, and what comes after it, begin with a space
abbrev behind_flag : Bool → List ℕ → List ℕ
behind_flag true rest = codes "-w" ++ rest
behind_flag false [] = []
behind_flag false (b ∷ bs) = bs

flagged : (watch : Bool) (path : List ℕ) → flag_text watch (codes "-w") ++ 32 ∷ quoted path ≡ 32 ∷ behind_flag watch (32 ∷ quoted path)
flagged true path = refl
flagged false path = refl

read_text : (call : ReadCall) (watch : Bool) (text : List ℕ) → SpellsRead call watch text → text ≡ lookup_word call ++ 32 ∷ behind_flag watch (32 ∷ quoted (path_read call))
read_text call watch text s = s.spelled ∙ append_assoc (lookup_word call) (flag_text watch (codes "-w")) (32 ∷ quoted (path_read call)) ∙ ap (λ (l : List ℕ). lookup_word call ++ l) (flagged watch (path_read call))

no_request : (call : ReadCall) (more : List ℕ) → whole (request_at (lookup_word call ++ 32 ∷ more)) ≡ None
no_request (calls.GetData path) more = no_get more
no_request (calls.Exists path) more = no_stat more
no_request (calls.GetChildren path) more = no_ls more
no_request (calls.GetAcl path) more = no_getacl more

says_look : (text : List ℕ) (call : ReadCall) (watch : Bool) → SpellsLookup (lookups.Asks call watch) text → said_in_text text ≡ saids.Looks call watch
says_look text call watch s =
    let none : whole (request_at text) ≡ None = ap (λ (t : List ℕ). whole (request_at t)) (read_text call watch text s.0) ∙ no_request call (behind_flag watch (32 ∷ quoted (path_read call))) in
    rw (none, reads SpellsLookup lookup_at whole_lookup text (lookups.Asks call watch) s) refl

no_proof_request : (rest : List ℕ) → whole (request_at (codes "addauth digest " ++ rest)) ≡ None
unfolding request_at front_of
no_proof_request rest = refl

no_proof_lookup : (rest : List ℕ) → whole (lookup_at (codes "addauth digest " ++ rest)) ≡ None
unfolding lookup_at front_of
no_proof_lookup rest = refl

no_sync_request : (rest : List ℕ) → whole (request_at (codes "sync " ++ rest)) ≡ None
unfolding request_at front_of
no_sync_request rest = refl

no_sync_lookup : (rest : List ℕ) → whole (lookup_at (codes "sync " ++ rest)) ≡ None
unfolding lookup_at front_of
no_sync_lookup rest = refl

no_sync_proof : (rest : List ℕ) → proof_in (codes "sync " ++ rest) ≡ None
unfolding proof_in behind_word front_of
no_sync_proof rest = refl

says_proof : (id : Id) (proof : List ℕ) → IsUtf8 proof → digest_of proof ≡ Some id → said_in_text (codes "addauth digest " ++ quoted proof) ≡ saids.Proves id
says_proof id proof utf8 proves = rw (no_proof_request (quoted proof), no_proof_lookup (quoted proof), proof_again proof utf8, proves) refl

says_sync : (path : List ℕ) → IsListedPath path → said_in_text (codes "sync " ++ quoted path) ≡ saids.Syncs path
says_sync path fits = rw (no_sync_request (quoted path), no_sync_lookup (quoted path), no_sync_proof (quoted path), synced_again path fits) refl

says_well : said_in_text (codes "ruok") ≡ saids.AsksWhetherWell
unfolding request_at lookup_at proof_in synced_in behind_word front_of
says_well = refl

pub lines_say : LinesSay
lines_say = record {
  writes = λ text request w. (λ h. spells SpellsRequest request_at whole_request text request (from text (saids.Writes request) h), λ s. says_request text request s ∙ says_write request w);
  opens = λ text timeout. (λ h. spells SpellsRequest request_at whole_request text (requests.OpenSession timeout) (from text (saids.Opens timeout) h), λ s. says_request text (requests.OpenSession timeout) s);
  closes = λ text. (λ h. spells SpellsRequest request_at whole_request text requests.CloseSession (from text saids.Closes h), λ s. says_request text requests.CloseSession s);
  begins = λ text. (λ h. spells SpellsRequest request_at whole_request text (requests.Multi []) (from text saids.BeginsMulti h), λ s. says_request text (requests.Multi []) s);
  looks = λ text call watch. (λ h. spells SpellsLookup lookup_at whole_lookup text (lookups.Asks call watch) (from text (saids.Looks call watch) h), λ s. says_look text call watch s);
  proves = λ text id. (
    λ h.
        let p = bind_some {B = Id} (proof_in text) digest_of id (from text (saids.Proves id) h) in
        let t = proof_takes text p.0 p.1 in
        record { proof = p.0; is_text = t.0; proves = p.2; spelled = t.1 },
    λ s. ap said_in_text s.spelled ∙ says_proof id s.proof s.is_text s.proves,
  );
  syncs = λ text path. (λ h. synced_takes text path (from text (saids.Syncs path) h), λ s. ap said_in_text s.1 ∙ says_sync path s.0);
  well = λ text. (λ h. (bytes_eq-Decides text (codes "ruok")).0 (from text saids.AsksWhetherWell h), λ e. ap said_in_text e ∙ says_well);
}

-- ---- inside a multi

abbrev CameInMulti : Option Part → Bool → ParsedMultiLine → Type 0
CameInMulti part commit (insides.Adds x) = part ≡ Some x
CameInMulti part commit insides.Commits = commit ≡ true
CameInMulti part commit insides.Nothing = Unit {0}

came_in_multi : (part : Option Part) (commit : Bool) → CameInMulti part commit (or_part part (if commit then insides.Commits else insides.Nothing))
came_in_multi (Some part) commit = refl
came_in_multi None true = refl
came_in_multi None false = tt

from_in_multi : (text : List ℕ) (said : ParsedMultiLine) → said_in_multi_text text ≡ said → CameInMulti (whole (part_at text)) (bytes_eq text (codes "commit")) said
from_in_multi text said h = subst (λ (s : ParsedMultiLine). CameInMulti (whole (part_at text)) (bytes_eq text (codes "commit")) s) h (came_in_multi (whole (part_at text)) (bytes_eq text (codes "commit")))

says_commit : said_in_multi_text (codes "commit") ≡ insides.Commits
unfolding part_at front_of
says_commit = refl

pub parts_say : LinesSayInMulti
parts_say = record {
  adds = λ text part. (λ h. spells SpellsPart part_at whole_part text part (from_in_multi text (insides.Adds part) h), λ s. rw (reads SpellsPart part_at whole_part text part s) refl);
  commits = λ text. (λ h. (bytes_eq-Decides text (codes "commit")).0 (from_in_multi text insides.Commits h), λ e. ap said_in_multi_text e ∙ says_commit);
}
