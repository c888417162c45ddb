-- What the answers of the reader and the writer mean by the paper's rules.
-- To believe.
--
--   ReadMeans s r N          reading the bytes s gave the refusal r beside the record N: s are bytes, and N has 64 slots; beside 0 it keeps the
--                            rules, and s are its bytes
--   WrittenMeans N r n after     writing N gave the refusal r and the count n and left `after`: N has 64 slots; beside 0 it reads back from
--                            the first n bytes
use Rattle.std.specs.Prelude.{List, ◌≡◌, ℕ, take}
use Rattle.network.specs.declared.Network.{Network}
use Rattle.network.specs.Record.{Stored}
use Rattle.network.specs.Rules.{Rules}
use Rattle.format.specs.Format.{Bytes, accept, decode_of, encode_of}

pub record ReadMeans (s : List ℕ) (r : ℕ) (N : Network) : Type 0 where
  pub given : Bytes s
  pub stored : Stored N
  pub rules : r ≡ 0 → Rules N
  pub bytes : r ≡ 0 → encode_of N ≡ s

pub record WrittenMeans (N : Network) (r n : ℕ) (after : List ℕ) : Type 0 where
  pub stored : Stored N
  pub reads-back : r ≡ 0 → decode_of (take n after) ≡ accept N
