-- The Adler-32 checksum of bytes that are added a part at a time: RFC 1950, section 8.2 (The
-- Adler-32 algorithm).
use Rattle.std.specs.Prelude.{ℕ, ◌+◌, ◌*◌, ◌%◌, List}
use Rattle.zk_records.specs.Checksum.{sum_one, sum_two}
use Rattle.zk_snapshot_writer.specs.declared.checksum.Checksum.{Checksum}

-- of no bytes
abbrev pub start : Checksum
start = record { first = 1; second = 0 }

-- s1 and s2 after more bytes, both modulo 65521
abbrev pub after : Checksum → List ℕ → Checksum
after sums bytes = record { first = sum_one sums.first bytes % 65521; second = sum_two sums.first sums.second bytes % 65521 }

-- s2 * 65536 + s1
abbrev pub total : Checksum → ℕ
total sums = sums.second * 65536 + sums.first
