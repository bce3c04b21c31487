-- What the files of a store held as they were opened, and so what it may recover.
use Rattle.std.specs.Prelude.{◌≡◌, ◌⊎◌, ℕ}
use Rattle.zab_epoch.specs.declared.stable.Stable.{Stable}
use Rattle.zk_store.specs.Books.{NoBook, book_of}
use Rattle.zk_store.specs.Holding.{empty}
use Rattle.zk_store.specs.Stores.{Files, StandFor}

-- each stable part that the files stand for
abbrev pub FindsAll : Files → (Stable → Type 0) → Type 0
FindsAll files may_recover = (found : Stable) (boots : ℕ) → StandFor files found boots → may_recover found

-- no other, but the stable part of a new server if there was no book
abbrev pub FindsOnly : Files → (Stable → Type 0) → Type 0
FindsOnly files may_recover = (found : Stable) → may_recover found
    → ((boots : ℕ) × StandFor files found boots) ⊎ ((book_of files.book ≡ NoBook) × (found ≡ empty))
