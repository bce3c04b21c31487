-- Error codes, as the 3.4 server and its clients number them.
use Rattle.std.specs.Prelude.{ℤ, negsuc}

-- -2
abbrev pub runtime_inconsistency : ℤ
runtime_inconsistency = negsuc 1

-- -8
abbrev pub bad_arguments : ℤ
bad_arguments = negsuc 7

-- -101
abbrev pub no_node : ℤ
no_node = negsuc 100

-- -102
abbrev pub no_auth : ℤ
no_auth = negsuc 101

-- -103
abbrev pub bad_version : ℤ
bad_version = negsuc 102

-- -108
abbrev pub no_children_for_ephemerals : ℤ
no_children_for_ephemerals = negsuc 107

-- -110
abbrev pub node_exists : ℤ
node_exists = negsuc 109

-- -111
abbrev pub not_empty : ℤ
not_empty = negsuc 110

-- -112
abbrev pub session_expired : ℤ
session_expired = negsuc 111

-- -114
abbrev pub invalid_acl : ℤ
invalid_acl = negsuc 113
