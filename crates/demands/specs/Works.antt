-- Works during opening hours: which minutes the call counts, over every schedule, and what windows hold.
-- To believe.
--
--   OpenWhile N o w P    P holds of the edges out in exactly as many open minutes of the week as the call gives for N, openings o and works w
--   WorksCounted         the minutes, both ways of saying which, and by the list call's rows; what a window opens and takes out
use Rattle.std.specs.Prelude.{List, [], ◌∷◌, ◌⊎◌, ◌↔◌, ◌≡◌, ℕ, ◌≤◌, ◌<◌, T, get_or}
use Rattle.sequences.specs.Counts.{Exactly}
use Rattle.bitset.specs.Members.{◌⊆◌, ◌∈◌}
use Rattle.network.specs.declared.Network.{Network}
use Rattle.network.specs.Record.{Stored}
use Rattle.graph.specs.Paths.{Minpath}
use Rattle.graph.specs.Cuts.{Silenced, HoldsMincut}
use Rattle.listing.specs.List.{listed_by, cut_rows_after}
use Rattle.windows.specs.Windows.{week, is_open, out_at}
use Rattle.maintenance.specs.Outage.{outage_of}

abbrev pub OpenWhile : Network → List ℕ → List ℕ → (ℕ → Type 0) → Type 0
OpenWhile N o w P = Exactly week (λ m. T (is_open o m) × P (out_at w m)) (outage_of N o w).minutes

pub record WorksCounted : Type 0 where
  -- Over every schedule that is not refused: the open minutes in which the edges out hold a minimal cut, which are those in which no route
  -- is left without them.
  pub cut : (N : Network) → Stored N → (o w : List ℕ) → (outage_of N o w).refusal ≡ 0 → OpenWhile N o w (HoldsMincut N)
  pub routes : (N : Network) → Stored N → (o w : List ℕ) → (outage_of N o w).refusal ≡ 0 → OpenWhile N o w (Silenced N)
  -- Where the list call lists, those in which all cables of some row are out.
  pub rows : (N : Network) → Stored N → (o w cuts sides : List ℕ) → (outage_of N o w).refusal ≡ 0 → (listed_by N cuts sides).refusal ≡ 0
      → OpenWhile N o w (λ d. (j : ℕ) × (j < (listed_by N cuts sides).count) × (get_or (cut_rows_after N cuts sides) j 0 ⊆ d))
  -- Without a route every open minute counts, and without opening windows none does.
  pub no-route : (N : Network) → Stored N → (o w : List ℕ) → (outage_of N o w).refusal ≡ 0 → ((r : ℕ) → Minpath N r → ⊥)
      → Exactly week (λ m. T (is_open o m)) (outage_of N o w).minutes
  pub closed : (N : Network) (w : List ℕ) → (outage_of N [] w).minutes ≡ 0
  -- A window holds its start and not its end; without windows nothing is open and nothing out.
  pub opens : (s e : ℕ) (o : List ℕ) (m : ℕ) → T (is_open (s ∷ e ∷ o) m) ↔ (((s ≤ m) × (m < e)) ⊎ T (is_open o m))
  pub none_open : (m : ℕ) → T (is_open [] m) → ⊥
  pub takes_out : (s e k : ℕ) (w : List ℕ) (m j : ℕ) → (j ∈ out_at (s ∷ e ∷ k ∷ w) m) ↔ (((s ≤ m) × (m < e) × (j ≡ k)) ⊎ (j ∈ out_at w m))
  pub none_out : (m j : ℕ) → j ∈ out_at [] m → ⊥
