-- Link logs played back: what each byte that the call left tells, over every log, and what the events of a log do.
-- To believe.
--
--   LogPlayed        byte for byte, both ways of saying it, and by the list call's rows; what an event takes down and brings up
use Rattle.std.specs.Prelude.{List, ◌⊎◌, ◌↔◌, ◌≡◌, ℕ, suc, ◌<◌, get_or}
use Rattle.bitset.specs.Members.{◌⊆◌, ◌∈◌}
use Rattle.network.specs.declared.Network.{Network}
use Rattle.network.specs.Record.{Stored}
use Rattle.graph.specs.Paths.{Minpath}
use Rattle.listing.specs.List.{listed_by, cut_rows_after}
use Rattle.replay.specs.Log.{command_at, edge_at, down_after}
use Rattle.replay.specs.Replay.{replayed_by, silent_after, Tells}

pub record LogPlayed : Type 0 where
  -- Over every log: 1 exactly if some minimal cut is wholly down, which is exactly if no route is left among the cables still up; else 0.
  pub right : (N : Network) → Stored N → (log lent : List ℕ) → (replayed_by N log lent).refusal ≡ 0
      → (i : ℕ) → i < (replayed_by N log lent).count → Tells N (down_after log (suc i)) (get_or (silent_after N log lent) i 0)
  -- Where the list call lists, 1 exactly if all cables of some row are down.
  pub rows : (N : Network) → Stored N → (log lent cuts sides : List ℕ) → (replayed_by N log lent).refusal ≡ 0 → (listed_by N cuts sides).refusal ≡ 0
      → (i : ℕ) → i < (replayed_by N log lent).count
      → (get_or (silent_after N log lent) i 0 ≡ 1)
      ↔ ((j : ℕ) × (j < (listed_by N cuts sides).count) × (get_or (cut_rows_after N cuts sides) j 0 ⊆ down_after log (suc i)))
  -- Without a route every byte is 1.
  pub no-route : (N : Network) → Stored N → (log lent : List ℕ) → (replayed_by N log lent).refusal ≡ 0 → ((r : ℕ) → Minpath N r → ⊥)
      → (i : ℕ) → i < (replayed_by N log lent).count → get_or (silent_after N log lent) i 0 ≡ 1
  -- At first no cable is down; down adds its cable, up takes it away, and to take down a cable that is down, or up one that is up, changes
  -- nothing.
  pub first : (log : List ℕ) (k : ℕ) → k ∈ down_after log 0 → ⊥
  pub down : (log : List ℕ) (n k : ℕ) → command_at log n ≡ 0x44
      → (k ∈ down_after log (suc n)) ↔ ((k ∈ down_after log n) ⊎ (k ≡ edge_at log n))
  pub up : (log : List ℕ) (n k : ℕ) → command_at log n ≡ 0x55
      → (k ∈ down_after log (suc n)) ↔ ((k ∈ down_after log n) × (k ≡ edge_at log n → ⊥))
  pub down-again : (log : List ℕ) (n : ℕ) → command_at log n ≡ 0x44 → edge_at log n ∈ down_after log n → down_after log (suc n) ≡ down_after log n
  pub up-again : (log : List ℕ) (n : ℕ) → command_at log n ≡ 0x55 → (edge_at log n ∈ down_after log n → ⊥) → down_after log (suc n) ≡ down_after log n
