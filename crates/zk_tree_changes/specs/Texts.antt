-- The text of a difference: each line after its sign and the transaction that changed the node last.
use Rattle.std.specs.Prelude.{◌≡◌, ℕ, List, [], ◌∷◌, ◌++◌, Option, Some, None, codes}
use Rattle.zk_tree_changes.specs.Differences.{Line}
use Rattle.zk_tree_changes.specs.declared.sign.Sign.{Sign}
use Rattle.zk_tree_changes.specs.declared.sign.Sign.TheVariants.{Removed, Added, Before, After}
use Rattle.zk_tree_changes.specs.declared.stamps.Stamp.{Stamp}
use Rattle.zk_format.specs.Spelling.{id_digits}
use Rattle.zk_json.specs.Times.{IsTimeText}

abbrev pub sign_text : Sign → List ℕ
sign_text Removed = codes "-"
sign_text Added = codes "+"
sign_text Before = codes "<"
sign_text After = codes ">"

-- a transaction's time and zxid; a dash for each if it is not known
abbrev pub IsStampText : Option Stamp → List ℕ → Type 0
IsStampText None text = text ≡ codes " - - "
IsStampText (Some stamp) text = (time : List ℕ) × IsTimeText stamp.time time × (text ≡ 32 ∷ time ++ 32 ∷ id_digits stamp.zxid ++ 32 ∷ [])

-- after the sign
abbrev pub IsLineText : (List ℕ → Option Stamp) → Line → List ℕ → Type 0
IsLineText stamp_at line text = (stamp : List ℕ) × IsStampText (stamp_at line.path) stamp × (text ≡ sign_text line.sign ++ stamp ++ line.node)

abbrev pub AreLines : (List ℕ → Option Stamp) → List Line → List ℕ → Type 0
AreLines stamp_at [] text = text ≡ []
AreLines stamp_at (line ∷ lines) text = (front : List ℕ) × (rest : List ℕ) × IsLineText stamp_at line front × AreLines stamp_at lines rest × (text ≡ front ++ rest)

-- ---- calls

abbrev pub AppendsStamp : Option Stamp → List ℕ → List ℕ → Type 0
AppendsStamp stamp old new = (text : List ℕ) × IsStampText stamp text × (new ≡ old ++ text)

abbrev pub AppendsLines : (List ℕ → Option Stamp) → List Line → List ℕ → List ℕ → Type 0
AppendsLines stamp_at lines old new = (text : List ℕ) × AreLines stamp_at lines text × (new ≡ old ++ text)
