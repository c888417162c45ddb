-- Link logs played back: what each byte that the call left tells, and what the events of a log do.
-- Assumes what the code's types say of the records.
use mathlib.Core.List.{List}
use mathlib.Core.Logic.Iff
use mathlib.Core.Logic.{◌⊎◌, ◌↔◌}
use mathlib.Core.Path.{◌≡◌, refl, ◌∙◌}
use Prim.Native.Nat.{ℕ, suc, ◌<◌}
use native.Mathlib.Omega.{arith}
use lib.ListN.{get_or}
use denote.Floats.{is_true}
use Rattle.bitset.specs.Members.{has, insert, ◌⊆◌, ◌∈◌}
use Rattle.bitset.proofs.Sets.{not-zero, in_insert, in-drop, drop-none}
use Rattle.bitset.proofs.Subsets.{⊆-refl, ⊆-antisym, ⊆-insert, insert-⊆, zero-⊆}
use Rattle.network.specs.declared.Network.{Network}
use Rattle.network.specs.Record.{Stored}
use Rattle.graph.specs.Paths.{Minpath}
use Rattle.graph.specs.Cuts.{HoldsMincut}
use Rattle.graph.specs.Lists.{CompleteList}
use Rattle.graph.proofs.Cuts.{mincut-none}
use Rattle.listing.specs.List.{cut_rows_after}
use Rattle.replay.specs.Log.{command_at, edge_at, down_after}
use Rattle.replay.specs.Replay.{replayed_by, silent_after, Tells}
use Rattle.replay.proofs.Events.{changed-down, changed-up}
use Rattle.replay.proofs.Meaning.{replay-means}
use Rattle.demands.specs.Replay.{LogPlayed}
use Rattle.demands.proofs.DemandTwo.{demand-two}

-- ---- what a byte tells

-- A set of edges holds a mincut exactly if it holds a row of a complete list.
pub holds_row : (N : Network) (n : ℕ) (cuts sides : List ℕ) → CompleteList N n cuts sides → (d : ℕ)
    → HoldsMincut N d ↔ ((j : ℕ) × (j < n) × (get_or cuts j 0 ⊆ d))
holds_row N n cuts sides whole d = (
  λ h. let (j, l, e) = (whole.members h.0).1 h.1.0 in (j, l, rw e h.1.1),
  λ r. (get_or cuts r.0 0, ((whole.members (get_or cuts r.0 0)).0 (r.0, r.1, refl), r.2)),
)

module _ (N : Network) (stored : Stored N) (log lent : List ℕ) (none : (replayed_by N log lent).refusal ≡ 0) where
  right : (i : ℕ) → i < (replayed_by N log lent).count → Tells N (down_after log (suc i)) (get_or (silent_after N log lent) i 0)
  right = (replay-means N stored log lent (refl, refl)).1.told none

  -- The empty mincut is always down.
  no-route : ((r : ℕ) → Minpath N r → ⊥) → (i : ℕ) → i < (replayed_by N log lent).count → get_or (silent_after N log lent) i 0 ≡ 1
  no-route apart i within = (right i within).cut.1 (0, ((mincut-none N apart 0).1 refl, zero-⊆ (down_after log (suc i))))

-- ---- what an event does

module _ (log : List ℕ) (n : ℕ) where
  abbrev before : ℕ
  before = down_after log n

  down : (k : ℕ) → command_at log n ≡ 0x44 → (k ∈ down_after log (suc n)) ↔ ((k ∈ down_after log n) ⊎ (k ≡ edge_at log n))
  unfolding down_after
  down k e = rw (changed-down (command_at log n) before (edge_at log n) e) (in_insert before (edge_at log n) k)

  up : (k : ℕ) → command_at log n ≡ 0x55 → (k ∈ down_after log (suc n)) ↔ ((k ∈ down_after log n) × (k ≡ edge_at log n → ⊥))
  unfolding down_after
  up k e = rw (changed-up (command_at log n) before (edge_at log n) (λ f. omega arith)) (in-drop before (edge_at log n) k)

  down-again : command_at log n ≡ 0x44 → edge_at log n ∈ before → down_after log (suc n) ≡ before
  unfolding down_after
  down-again e m =
      let k = edge_at log n in
      changed-down (command_at log n) before k e
      ∙ ⊆-antisym (insert before k) before (insert-⊆ before before k (⊆-refl before) (is_true (has before k) m)) (⊆-insert before k)

  up-again : command_at log n ≡ 0x55 → (edge_at log n ∈ before → ⊥) → down_after log (suc n) ≡ before
  unfolding down_after
  up-again e off = changed-up (command_at log n) before (edge_at log n) (λ f. omega arith) ∙ drop-none before (edge_at log n) off

pub log-played : LogPlayed
unfolding down_after
log-played = record {
  right = right;
  rows = λ N stored log lent cuts sides none listed i within.
      Iff.trans (right N stored log lent none i within).cut
      (holds_row N _ (cut_rows_after N cuts sides) _ (demand-two.list N stored cuts sides listed) (down_after log (suc i)));
  no-route = no-route;
  first = λ log k. not-zero k;
  down = down;
  up = up;
  down-again = down-again;
  up-again = up-again;
}
