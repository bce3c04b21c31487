-- The notices of `zk compare` on what the answer does not cover: transactions that a directory lost, and
-- logs that are broken.
use Rattle.std.specs.Prelude.{◌≡◌, ℕ, List, [], ◌++◌, codes}
use Rattle.zk_comparison.specs.Lines.{AreLines, directory_word}
use Rattle.zk_comparison.specs.declared.finding.Directory.{Directory}
use Rattle.zk_directory_state.specs.FaultLines.{fault_text}
use Rattle.zk_verification.specs.Reports.{IsRangeText}
use Rattle.zk_verification.specs.declared.mark.Mark.{Mark}
use Rattle.zk_verification.specs.declared.mark.Mark.TheVariants as marks

-- what a notice says, and of which directory
abbrev pub front_of : List ℕ → Directory → List ℕ
front_of word directory = codes "zk: " ++ word ++ codes " " ++ directory_word directory ++ codes " "

-- the transactions before and after those that are lost, with their times; or why a log is broken, and where
abbrev pub IsNotice : Directory → Mark → List ℕ → Type 0
IsNotice directory (marks.Lost damage) text = (range : List ℕ) × IsRangeText damage.before damage.after range × (text ≡ front_of (codes "lost") directory ++ range)
IsNotice directory (marks.Gap before after) text = (range : List ℕ) × IsRangeText before after range × (text ≡ front_of (codes "lost") directory ++ range)
IsNotice directory (marks.Wrong fault) text = text ≡ front_of (codes "broken") directory ++ fault_text fault ++ codes "\n"
IsNotice directory mark text = text ≡ []

abbrev pub AreNotices : Directory → List Mark → List ℕ → Type 0
AreNotices directory all text = AreLines (IsNotice directory) all text

-- ---- calls within

abbrev pub AppendsNotice : Directory → Mark → List ℕ → List ℕ → Type 0
AppendsNotice directory mark old new = (text : List ℕ) × IsNotice directory mark text × (new ≡ old ++ text)

abbrev pub AppendsNotices : Directory → List Mark → List ℕ → List ℕ → Type 0
AppendsNotices directory all old new = (text : List ℕ) × AreNotices directory all text × (new ≡ old ++ text)
