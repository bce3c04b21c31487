-- The contracts of the readers: they accept exactly the texts of the format.
use Rattle.std.specs.Prelude.{◌≡◌, ◌≢◌, ◌+◌, ℕ, List, [], ◌∷◌, ◌++◌, length, Result, Ok, Err}
use Rattle.std.specs.List.{AllByRecursion}
use Rattle.std.specs.Str.{IsUtf8}
use Rattle.zk_table.specs.declared.txn.Txn.{Txn}
use Rattle.zk_listing.specs.declared.list_fault.ListCause.{ListCause}
use Rattle.zk_listing.specs.declared.list_fault.ListCause.TheVariants as causes
use Rattle.zk_format.specs.Listings.{line_of, listing_of, IsListed}
use Rattle.zk_listing.specs.Reading.{IsEnd}

-- ---- fields: `view` is the model of a value, `spell` its text, and `Fits` a condition for having
-- one

-- the text started with the value that was read
abbrev pub ReadsFound : {X Y : Type 0} → (X → Y) → (Y → List ℕ) → (Y → Type 0) → Result X ListCause → List ℕ → List ℕ → Type 0
ReadsFound view spell Fits (Ok x) old new = Fits (view x) × (old ≡ spell (view x) ++ new)
ReadsFound view spell Fits (Err cause) old new = Unit {0}

-- a text that starts with a value is read as no other value and has no fault, except for an
-- allocation failure
abbrev pub ReadsOnly : {X Y : Type 0} → (X → Y) → (Y → List ℕ) → (Y → Type 0) → Result X ListCause → List ℕ → List ℕ → Type 0
ReadsOnly {X} {Y} view spell Fits (Ok x) old new = (y : Y) (rest : List ℕ) → Fits y → IsEnd rest → old ≡ spell y ++ rest → (view x ≡ y) × (new ≡ rest)
ReadsOnly view spell Fits (Err causes.NoMemory) old new = Unit {0}
ReadsOnly {X} {Y} view spell Fits (Err cause) old new = (y : Y) (rest : List ℕ) → Fits y → IsEnd rest → old ≢ spell y ++ rest

-- ---- lines

-- the text does not start with the line of a transaction
abbrev pub BeginsWithNoLine : List ℕ → Type 0
BeginsWithNoLine text = (txn : Txn) (rest : List ℕ) → IsListed txn → text ≢ line_of txn ++ rest

abbrev pub ReadsLine : Result Txn ListCause → List ℕ → List ℕ → Type 0
ReadsLine (Ok txn) old new = IsListed txn × (old ≡ line_of txn ++ new)
ReadsLine (Err causes.NoMemory) old new = Unit {0}
ReadsLine (Err cause) old new = BeginsWithNoLine old

-- the first line's transaction is appended to the others
abbrev pub AddsLine : Result (Unit {0}) ListCause → List Txn → List Txn → List ℕ → List ℕ → Type 0
AddsLine (Ok x) txns more old new = (txn : Txn) × IsListed txn × (old ≡ line_of txn ++ new) × (more ≡ txns ++ txn ∷ [])
AddsLine (Err causes.NoMemory) txns more old new = Unit {0}
AddsLine (Err cause) txns more old new = BeginsWithNoLine old

-- ---- listings

-- the text starts with the lines of these transactions
pub record BeginsWithListing (text : List ℕ) (txns : List Txn) (rest : List ℕ) : Type 0 where
  pub listed : AllByRecursion IsListed txns
  pub spelled : text ≡ listing_of txns ++ rest

-- the lines before this one, counted from 1, are lines of transactions, and this one is not
pub record IsFirstFault (text : List ℕ) (line : ℕ) : Type 0 where
  pub before : List Txn
  pub rest : List ℕ
  pub begins : BeginsWithListing text before rest
  pub number : line ≡ length before + 1
  pub filled : rest ≢ []
  pub none : BeginsWithNoLine rest

-- ---- what holds of every listing

abbrev pub ListingsAreTexts : Type 0
ListingsAreTexts = (txns : List Txn) → AllByRecursion IsListed txns → IsUtf8 (listing_of txns)

-- no two lists of transactions have the same listing
abbrev pub ListingsHaveOneMeaning : Type 0
ListingsHaveOneMeaning = (txns others : List Txn) → AllByRecursion IsListed txns → AllByRecursion IsListed others → listing_of txns ≡ listing_of others → txns ≡ others
