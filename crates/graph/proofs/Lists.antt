-- A network has one complete list: whoever made it, it has the same rows.
-- Assumes nothing.
use mathlib.Core.Path.{◌≡◌}
use mathlib.Core.List.{List}
use mathlib.Core.Logic.Iff
use Prim.Native.Nat.{ℕ, ◌<◌}
use lib.ListN.{get_or}
use Rattle.sequences.proofs.Rising.{rows-unique}
use Rattle.bitset.proofs.Sets.{same_set}
use Rattle.network.specs.declared.Network.{Network}
use Rattle.graph.specs.Lists.{CompleteList, SameList}

pub complete-unique : (N : Network) (n m : ℕ) (cuts sides cuts' sides' : List ℕ) → CompleteList N n cuts sides → CompleteList N m cuts' sides'
    → SameList n cuts m cuts' × SameList n sides m sides'
complete-unique N n m cuts sides cuts' sides' a b =
    let (counts, rows) = rows-unique (λ i. get_or cuts i 0) (λ i. get_or cuts' i 0) n m a.rising b.rising
    (λ c. Iff.trans (a.members c) (Iff.symm (b.members c))) in
    let beside : (i : ℕ) → i < n → get_or sides i 0 ≡ get_or sides' i 0 = λ i h.
    same_set (λ v. Iff.trans (a.beside i v h) (Iff.symm (rw (rows i h) (b.beside i v (rw counts at h))))) in
    (record { counts = counts; rows = rows }, record { counts = counts; rows = beside })
