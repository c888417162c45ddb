-- Lists of mincuts: rows of cuts beside rows of source sides (the paper's section "The list", and the words of the demands).
-- To believe.
--
--   CompleteList N n cuts sides  the first n rows are the mincuts of N, rising, each beside its source side (demand 2)
--   SameList n cuts m cuts'      n rows and m rows have equal cuts at equal places, and are equally many (demand 3's equal lists)
--   Outnumber N n                the mincuts of N are more than n: so many different ones can be named (demand 1's "too many cuts")
use Rattle.std.specs.Prelude.{List, ◌↔◌, ◌≡◌, ℕ, ◌<◌, get_or}
use Rattle.sequences.specs.Distinct.{More}
use Rattle.bitset.specs.Members.{◌∈◌}
use Rattle.network.specs.declared.Network.{Network}
use Rattle.graph.specs.Cuts.{Mincut, OnSourceSide}

pub record CompleteList (N : Network) (n : ℕ) (cuts sides : List ℕ) : Type 0 where
  pub rising : (i j : ℕ) → i < j → j < n → get_or cuts i 0 < get_or cuts j 0
  pub members : (c : ℕ) → ((i : ℕ) × (i < n) × (get_or cuts i 0 ≡ c)) ↔ Mincut N c
  pub beside : (i v : ℕ) → i < n → (v ∈ get_or sides i 0) ↔ OnSourceSide N (get_or cuts i 0) v

-- Sides and later rows are not compared.
pub record SameList (n : ℕ) (cuts : List ℕ) (m : ℕ) (cuts' : List ℕ) : Type 0 where
  pub counts : n ≡ m
  pub rows : (i : ℕ) → i < n → get_or cuts i 0 ≡ get_or cuts' i 0

abbrev pub Outnumber : Network → ℕ → Type 0
Outnumber N = More (Mincut N)
