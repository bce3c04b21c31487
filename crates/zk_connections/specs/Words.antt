-- ZooKeeper Administrator's Guide, "The Four Letter Words".
use Rattle.std.specs.Prelude.{ℕ, List, length, take, nat_lt, Option, Some, None, if◌then◌else◌, codes}
use Rattle.std.specs.Str.{bytes_eq}
use Rattle.zk_connections.specs.declared.word.Word.{Word}
use Rattle.zk_connections.specs.declared.word.Word.TheVariants.{Ruok, Srvr, Stat, Mntr, Envi, Isro, Cons, Dump}

abbrev pub word_of : List ℕ → Option Word
word_of text =
    if bytes_eq text (codes "ruok") then Some Ruok
    else (if bytes_eq text (codes "srvr") then Some Srvr
    else (if bytes_eq text (codes "stat") then Some Stat
    else (if bytes_eq text (codes "mntr") then Some Mntr
    else (if bytes_eq text (codes "envi") then Some Envi
    else (if bytes_eq text (codes "isro") then Some Isro
    else (if bytes_eq text (codes "cons") then Some Cons
    else (if bytes_eq text (codes "dump") then Some Dump
    else None)))))))

-- the word that is the first four bytes
abbrev pub word_in : List ℕ → Option Word
word_in input = if nat_lt (length input) 4 then None else word_of (take 4 input)
