-- Separate ways: after every complete list call the fewest cables in any row are as many as the most routes of which no two share a cable.
-- Assumes what the code's types say of the records.
use mathlib.Core.List.{List}
use mathlib.Core.Path.{◌≡◌, sym, ◌∙◌}
use Prim.Native.Nat.{ℕ, ◌≤◌}
use lib.ListN.{length}
use Rattle.bitset.specs.Members.{size}
use Rattle.network.specs.declared.Network.{Network}
use Rattle.network.specs.Record.{Stored, fault_of}
use Rattle.format.specs.Format.{decode_of}
use Rattle.graph.specs.Cuts.{Cut, Mincut}
use Rattle.graph.specs.Lists.{CompleteList}
use Rattle.graph.proofs.Sound.{Sound, accepted-sound}
use Rattle.menger.specs.Separate.{Apart, Most}
use Rattle.menger.proofs.Bounds.{apart_distinct, apart-cut, apart-most, fewest-mincut, most-none}
use Rattle.menger.proofs.Menger.{menger, fewest-most}
use Rattle.listing.specs.List.{listed_by, cut_rows_after}
use Rattle.listing.specs.Trimmed.{trimmed_listed_by, trimmed_cut_rows}
use Rattle.listing.proofs.Call.{complete-call}
use Rattle.demands.specs.SeparateWays.{Matched, SeparateWays}
use Rattle.demands.proofs.DemandTwo.{demand-two, read-stored}
use Rattle.demands.proofs.Trimmed.{trimmed-listed}

-- In a complete list of a sound network the two numbers are one.
matched : (N : Network) → Sound N → (n : ℕ) (cuts sides : List ℕ) → CompleteList N n cuts sides → Matched N n cuts
matched N S n cuts sides list =
    let (k, narrow) = menger N S in
    record {
      number = k;
      fewest = (fewest-most N S n cuts sides list k).1 narrow.most;
      most = narrow.most;
      same = fewest-most N S n cuts sides list;
      no-route = most-none N k narrow.most;
    }

-- A list call that gave the refusal 0 was made on an accepted record, and left the complete list.
lists : (N : Network) → Stored N → (cuts sides : List ℕ) → (listed_by N cuts sides).refusal ≡ 0
    → Matched N (listed_by N cuts sides).count (cut_rows_after N cuts sides)
lists N stored cuts sides none = matched N (complete-call N stored cuts sides none).0 _ _ _ (demand-two.list N stored cuts sides none)

trimmed : (N : Network) → Stored N → (cuts sides : List ℕ) → (trimmed_listed_by N cuts sides).refusal ≡ 0
    → Matched N (trimmed_listed_by N cuts sides).count (trimmed_cut_rows N cuts sides)
trimmed N stored cuts sides none =
    let same = trimmed-listed.rows N cuts sides none in
    rw (same.count, same.cut-rows) (lists N stored cuts sides (sym same.refusal ∙ none))

shown : (N : Network) → Stored N → fault_of N ≡ 0 → (l : List ℕ) → Apart N l → (c : ℕ) → Cut N c → length l ≡ size 64 c
    → Most N (length l) × Mincut N c × ((d : ℕ) → Cut N d → size 64 c ≤ size 64 d)
shown N stored ok l apart c cut same =
    let B = (accepted-sound N stored ok).bounded in
    let fewest : (d : ℕ) → Cut N d → size 64 c ≤ size 64 d = λ d other. rw (← same) (apart-cut N B l apart d other) in
    (apart-most N B l apart c cut same, fewest-mincut N B c cut fewest, fewest)

pub separate-ways : SeparateWays
separate-ways = record {
  lists = lists;
  lists-bytes = λ s e. lists (decode_of s).network (read-stored s e);
  trimmed = trimmed;
  different = λ N stored ok. apart_distinct N (accepted-sound N stored ok).differ;
  shown = shown;
}
