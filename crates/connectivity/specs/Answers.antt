-- The answers of the calls, refusals included, and what they mean.
-- To believe.
--
--   FoundPart            what finding the relevant part gives: the refusal's number, 0 if there is none, and two sets
--   part_from r n e      such an answer from its fields: the refusal r beside the nodes n and the edges e
--   found a              what the answer a gives: a refusal beside two empty sets, or 0 beside the two sets found
--   relevant_of N        the relevant part of N (the paper's useful part): its first fault beside two empty sets, else 0 beside the
--                        relevant nodes and edges
--   PartMeans N r n e    what the refusal r, the nodes n and the edges e mean as the relevant part of N
--   numbered a           the answer a with the number of its refusal
--   verdict_on N c       what c is, where nothing is refused  [computed: verdict-iff (connectivity/proofs/Answers)]
--   verdict_of N c       what c is, or the number of the refusal
--   Says N c v           what the verdict or refusal v says of c
--   VerdictMeans N c v   what the verdict or refusal v on c means
--   verdict_number v     the number of a verdict
--   VerdictNumbers       the numbers of a verdict or refusal: that of the refusal, and that of the verdict
--   numbers_of v         the numbers of each case: that of the refusal is 0 beside a verdict, that of the verdict 0 beside a refusal
use Rattle.std.specs.Prelude.{true, false, ◌↔◌, ◌≡◌, ℕ, ◌<◌, Result, Ok, Err}
use Rattle.bitset.specs.Members.{◌∈◌}
use Rattle.node_set.specs.declared.NodeSet.{NodeSet}
use Rattle.edge_set.specs.declared.EdgeSet.{EdgeSet}
use Rattle.network.specs.declared.Network.{Network}
use Rattle.network.specs.declared.refusal.Refusal.{Refusal}
use Rattle.network.specs.Record.{unless_refused, fault_of, set_fault, Stored}
use Rattle.network.specs.Refusals.{number_of}
use Rattle.graph.specs.Cuts.{Cut, Mincut, RelevantEdge, RelevantNode}
use Rattle.graph.specs.CutTests.{severed, all_needed}
use Rattle.graph.specs.Relevant.{relevant_nodes, relevant_edges}
use Rattle.connectivity.specs.declared.part.RelevantPart.{RelevantPart}
use Rattle.connectivity.specs.declared.judging.Verdict.{Verdict}
use Rattle.connectivity.specs.declared.judging.Verdict.TheVariants.{NotCut, NotMinimal, Minimal}

-- ---- the relevant part

pub record FoundPart : Type 0 where
  pub refusal : ℕ
  pub nodes : NodeSet
  pub edges : EdgeSet

abbrev pub part_from : ℕ → ℕ → ℕ → FoundPart
part_from r n e = record { refusal = r; nodes = record { 0 = n }; edges = record { 0 = e } }

abbrev pub found : Result RelevantPart Refusal → FoundPart
found (Ok p) = part_from 0 p.nodes.0 p.edges.0
found (Err r) = part_from (number_of r) 0 0

unfoldable pub relevant_of : Network → FoundPart
relevant_of N = let r = fault_of N in part_from r (unless_refused r (relevant_nodes N) 0) (unless_refused r (relevant_edges N) 0)

-- By the definitions of graph theory: beside the refusal 0 the members are exactly the relevant nodes and edges.
pub record PartMeans (N : Network) (r n e : ℕ) : Type 0 where
  pub stored : Stored N
  pub nodes : r ≡ 0 → (v : ℕ) → (v ∈ n) ↔ RelevantNode N v
  pub edges : r ≡ 0 → (k : ℕ) → (k ∈ e) ↔ RelevantEdge N k

-- ---- judging

abbrev pub numbered : Result Verdict Refusal → Result Verdict ℕ
numbered (Ok v) = Ok v
numbered (Err r) = Err (number_of r)

-- The verdict on a set of present edges of an accepted network.
unfoldable pub verdict_on : Network → ℕ → Verdict
verdict_on N c =
    elim (severed N c) [
      | true ↦ elim (all_needed N c) [ true ↦ Minimal | false ↦ NotMinimal ]
      | false ↦ NotCut
    ]

unfoldable pub verdict_of : Network → ℕ → Result Verdict ℕ
verdict_of N c = let r = set_fault N c in unless_refused r (Ok (verdict_on N c)) (Err r)

-- A verdict by the definitions of graph theory.
abbrev pub Says : Network → ℕ → Result Verdict ℕ → Type 0
Says N c (Ok NotCut) = Cut N c → ⊥
Says N c (Ok NotMinimal) = Cut N c × (Mincut N c → ⊥)
Says N c (Ok Minimal) = Mincut N c
Says N c (Err r) = (set_fault N c ≡ r) × (0 < r)

pub record VerdictMeans (N : Network) (c : ℕ) (v : Result Verdict ℕ) : Type 0 where
  pub stored : Stored N
  pub says : Says N c v

-- By its place in the paper's order.
abbrev pub verdict_number : Verdict → ℕ
verdict_number NotCut = 1
verdict_number NotMinimal = 2
verdict_number Minimal = 3

-- The refusal's number by the paper's table "Who causes a refusal".
pub record VerdictNumbers : Type 0 where
  pub refusal : ℕ
  pub verdict : ℕ

abbrev pub numbers_of : Result Verdict ℕ → VerdictNumbers
numbers_of (Ok v) = record { refusal = 0; verdict = verdict_number v }
numbers_of (Err r) = record { refusal = r; verdict = 0 }
