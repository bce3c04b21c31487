-- Notices about clients' sessions. ZooKeeper, class Learner: ping, validateSession; class LearnerHandler:
-- PING, REVALIDATE. One notice a session; the layout is this project's own.
use Rattle.std.specs.Prelude.{◌≡◌, ℕ, List, ◌++◌, FitsSigned}
use Rattle.std.specs.Int.{w32, w64}
use Rattle.zab_frames.specs.Messages.{word, long_word}
use Rattle.zab_frames.specs.Ranges.{IsLongWord}
use Rattle.zk_peer_links.specs.declared.session_notice.SessionNews.{SessionNews}
use Rattle.zk_peer_links.specs.declared.session_notice.SessionNews.TheVariants.{Ping, Touched, Attached}
use Rattle.zk_peer_links.specs.declared.session_notice.SessionNotice.{SessionNotice}
use Rattle.zk_records.specs.Records.{int, long}

-- kinds that no message has, nor a notice of an election
abbrev pub kind_of_news : SessionNews → ℕ
kind_of_news Ping = 13
kind_of_news Touched = 14
kind_of_news Attached = 15

abbrev pub IsNoNews : ℕ → Type 0
IsNoNews kind = (news : SessionNews) → kind ≡ kind_of_news news → ⊥

-- the sender, the addressee, the kind, the session and its timeout
unfoldable pub contents_of_session : SessionNotice → List ℕ
contents_of_session notice =
    long_word notice.sender ++ long_word notice.addressee ++ word (kind_of_news notice.news) ++ long notice.session ++ int notice.timeout

-- what the types guarantee
pub record IsSessionNotice (notice : SessionNotice) : Type 0 where
  pub sender : IsLongWord notice.sender
  pub addressee : IsLongWord notice.addressee
  pub session : FitsSigned w64 notice.session
  pub timeout : FitsSigned w32 notice.timeout
