-- Sound networks: what the record test says of the nodes and edges of an accepted record.
-- Assumes nothing.
--
--   Sound N          edges below 64 with ends below the node count, no more nodes than there may be, and two terminals among them
--                    [working: accepted-sound (graph/proofs/Sound)]
use mathlib.Core.Path.{◌≡◌}
use mathlib.Core.Logic.{inl, inr, ◌≢◌}
use Prim.Native.Nat.{ℕ, ◌≤◌, ◌<◌}
use native.Mathlib.Omega.{arith}
use denote.Floats.{is_true}
use Rattle.bitset.specs.Members.{◌∈◌}
use Rattle.bitset.proofs.Sets.{member-lt}
use Rattle.node_set.specs.Width.{node_width}
use Rattle.network.specs.declared.Network.{Network}
use Rattle.network.specs.Record.{has_edge, first_end, second_end, slot_fault, fault_of, Stored, present}
use Rattle.network.proofs.Refusals.{size_none, outside-none, terminals-none}
use Rattle.network.proofs.Slots.{accepted}
use Rattle.graph.specs.Reach.{Bounded}
use Rattle.graph.specs.Paths.{Joins}

-- Edges below 64 with ends below the node count, no more nodes than there may be, and two terminals among them.
pub record Sound (N : Network) : Type 0 where
  pub bounded : Bounded N
  pub small : N.nodes ≤ node_width
  pub source-lt : N.source < N.nodes
  pub sink-lt : N.sink < N.nodes
  pub differ : N.source ≢ N.sink

-- The slot of a present edge keeps the rule of its two ends.
slot_kept : (N : Network) (e : ℕ) → e ∈ present N → slot_fault N e ≡ 0 → (first_end N e < N.nodes) × (second_end N e < N.nodes)
unfolding slot_fault
slot_kept N e m none = outside-none 9 N.nodes (first_end N e) (second_end N e) (omega arith) (rw (is_true (has_edge N e) m, slot_fault) at none)

-- An accepted record is a sound network.
pub accepted-sound : (N : Network) → Stored N → fault_of N ≡ 0 → Sound N
unfolding Joins
accepted-sound N S ok =
    let rules = accepted N ok in
    let terminals = terminals-none N.nodes N.source N.sink rules.terminals in
    let slot : (e : ℕ) → e ∈ present N → (first_end N e < N.nodes) × (second_end N e < N.nodes) =
    λ e m. slot_kept N e m (rules.slot-none e (member-lt 64 (present N) e S.edges m)) in
    record {
      bounded = record {
        edges = S.edges;
        ends = λ e u v j. elim j.1 [ inl q ↦ rw (← q.1) (slot e j.0).1 | inr q ↦ rw (← q.0) (slot e j.0).0 ];
      };
      small = (size_none node_width N.nodes rules.size).1;
      source-lt = terminals.0;
      sink-lt = terminals.1;
      differ = terminals.2;
    }
