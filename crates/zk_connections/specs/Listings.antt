-- A server's replies to the four-letter words `cons` and `dump`. ZooKeeper Administrator's Guide,
-- "The Four Letter Words".
use Rattle.std.specs.Prelude.{ℕ, ℤ, List, [], ◌∷◌, ◌++◌, length, Bool, true, false, Option, Some, None, codes}
use Rattle.std.specs.Fmt.{decimal, digits, signed_decimal}
use Rattle.std.specs.Int.{w64, cast_unsigned}
use Rattle.std.specs.List.{flat_map}
use Rattle.std.specs.Net.Text.{socket_text}
use Rattle.std.specs.declared.net.SocketAddr.{SocketAddr}
use Rattle.zk_connections.specs.Connections.{session_of}
use Rattle.zk_connections.specs.Inputs.{wants_input}
use Rattle.zk_connections.specs.declared.connection.Connection.{Connection}
use Rattle.zk_connections.specs.declared.listing.OwnedNodes.{OwnedNodes}

-- a client's address
abbrev pub peer_text : Option SocketAddr → List ℕ
peer_text (Some peer) = codes "/" ++ socket_text peer
peer_text None = codes "/unknown"

-- a session's number, in hexadecimal digits
abbrev pub hex_text : ℕ → List ℕ
hex_text session = codes "0x" ++ digits 16 false session

-- 0 if there is none
abbrev pub session_number : Option ℤ → ℕ
session_number (Some session) = cast_unsigned w64 session
session_number None = 0

-- ---- `cons`: a line for each connection

-- 1 if the server reads of its client, as that of `OP_READ`
abbrev pub interest_text : Bool → List ℕ
interest_text true = codes "1"
interest_text false = codes "0"

abbrev pub details_text : Option ℤ → List ℕ
details_text (Some session) = codes "sid=" ++ hex_text (cast_unsigned w64 session)
details_text None = []

abbrev pub connection_line : Connection → List ℕ
connection_line it =
    codes " " ++ peer_text it.peer ++ codes "[" ++ interest_text (wants_input it) ++ codes "]("
    ++ details_text (session_of it) ++ codes ")\n"

abbrev pub connections_text : List Connection → List ℕ
connections_text connections = flat_map connection_line connections ++ codes "\n"

-- ---- `dump`: the sessions with their timeouts in milliseconds, as a follower lists them; the
-- ephemeral nodes of each; and the sessions of the server's connections, 0 for none

abbrev pub session_line : ℕ × ℤ → List ℕ
session_line session = hex_text session.0 ++ codes "\t" ++ signed_decimal session.1 ++ codes "ms\n"

abbrev pub path_line : List ℕ → List ℕ
path_line path = codes "\t" ++ path ++ codes "\n"

abbrev pub owned_lines : OwnedNodes → List ℕ
owned_lines it = hex_text it.session ++ codes ":\n" ++ flat_map path_line it.paths.items

abbrev pub peer_line : Connection → List ℕ
peer_line it =
    codes "\tip: " ++ peer_text it.peer ++ codes " sessionId: " ++ hex_text (session_number (session_of it)) ++ codes "\n"

unfoldable pub sessions_title : List ℕ
sessions_title = codes "SessionTracker dump:\nGlobal Sessions"

unfoldable pub ephemerals_title : List ℕ
ephemerals_title = codes "ephemeral nodes dump:\nSessions with Ephemerals "

unfoldable pub peers_title : List ℕ
peers_title = codes "Connections dump:\n"

abbrev pub counted_title : List ℕ → ℕ → List ℕ
counted_title title count = title ++ codes "(" ++ decimal count ++ codes "):\n"

abbrev pub sessions_text : List Connection → List (ℕ × ℤ) → List OwnedNodes → List ℕ
sessions_text connections sessions owned =
    counted_title sessions_title (length sessions) ++ flat_map session_line sessions
    ++ counted_title ephemerals_title (length owned) ++ flat_map owned_lines owned
    ++ peers_title ++ flat_map peer_line connections
