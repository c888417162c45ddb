-- What earlier plans keep: of the rules that of the point count alone was widened.
-- Assumes, where sides and useful points are measured, what the code's types say of the records.
use mathlib.Core.Bool.{Bool, true, false, ◌||◌}
use mathlib.Core.List.{List}
use mathlib.Core.Path.{◌≡◌, refl, sym, ap, ◌∙◌}
use Prim.Native.Nat.{ℕ, ◌+◌, ◌-◌, ◌^◌, ◌≤◌, ◌<◌}
use native.Mathlib.Nat.{lt_of_lt_of_le}
use native.Mathlib.Decide.{ℕ_discrete}
use native.Mathlib.Omega.{arith}
use lib.Dec.{ltb}
use lib.ListN.{length, get_or}
use Rattle.sequences.specs.Words.{onto}
use Rattle.bitset.specs.Members.{members}
use Rattle.bitset.proofs.Sets.{set-lt}
use Rattle.bitset.proofs.MemberList.{members-past}
use Rattle.node_set.specs.Width.{node_width}
use Rattle.network.specs.declared.Network.{Network}
use Rattle.network.specs.Record.{◌then◌, Stored, size_fault, terminal_fault, slots_fault, fault_up_to, fault_of}
use Rattle.network.proofs.Refusals.{then-none, none_then, some_then, then-kept, some-when, none-when, size_none, refused-some}
use Rattle.network.proofs.Rules.{none-size}
use Rattle.format.specs.Format.{Decoded}
use Rattle.format.specs.Format.{at, missing, unfit, size_refusal, size_step, refuse, if_taken, decode_up_to, decode_of}
use Rattle.format.proofs.Steps.{SizeView, size, size-view}
use Rattle.format.proofs.Reading.{accepts, decode-plan}
use Rattle.graph.specs.Cuts.{RelevantNode}
use Rattle.graph.specs.Lists.{CompleteList}
use Rattle.graph.specs.Relevant.{relevant_nodes}
use Rattle.graph.proofs.Sound.{Sound, accepted-sound}
use Rattle.graph.proofs.Relevant.{relevant-lt, in-relevant_nodes}
use Rattle.connectivity.specs.Answers.{relevant_of}
use Rattle.connectivity.proofs.Answers.{part-refusal, part-nodes}
use Rattle.listing.specs.List.{mincuts, source_sides, list_refusal, listed_by, cut_rows_after, side_rows_after}
use Rattle.listing.proofs.Refusals.{refusal-none}
use Rattle.listing.proofs.Call.{completed}
use Rattle.listing.proofs.Meaning.{call-complete}
use Rattle.text.specs.Text.{line_up_to, line_of}
use Rattle.demands.specs.Kept.{PointsKept}

module _ (before : ℕ) (narrower : before ≤ node_width) where
  -- The point count: fit before, it is fit now.
  size-kept : (n : ℕ) → (size_fault before n ≡ 4 → ⊥) → size_fault node_width n ≡ size_fault before n
  unfolding size_fault
  size-kept n f = go (ltb n 2 || ltb before n) refl
    where
      go : (b : Bool) → (ltb n 2 || ltb before n) ≡ b → size_fault node_width n ≡ size_fault before n
      go true e = absurd (f (some-when 4 e))
      go false e =
          let none : size_fault before n ≡ 0 = none-when 4 e in
          let fit = size_none before n none in
          none-size node_width n fit.0 (omega (arith, fit.1)) ∙ sym none

  -- ---- records and plans

  faults : (N : Network) → (fault_up_to before N ≡ 4 → ⊥) → fault_of N ≡ fault_up_to before N
  unfolding fault_up_to
  faults N f =
      let rest : ℕ = terminal_fault N.nodes N.source N.sink then slots_fault N 0 64 in
      ap (λ r. r then rest) (size-kept N.nodes (λ e. f (ap (λ r. r then rest) e ∙ some_then 4 rest (omega arith))))

  -- The command 50.
  size-refusal-kept : (s : List ℕ) → (size_refusal before s ≡ 4 → ⊥) → size_refusal node_width s ≡ size_refusal before s
  unfolding size_refusal
  size-refusal-kept s = then-kept 4 (missing 1 s) (then-kept 4 (unfit 0x50 s) (then-kept 4 (missing 2 s) (size-kept (at s 1))))

  size-refused : (s : List ℕ) → size_refusal before s ≡ 4 → (decode_up_to before s).refusal ≡ 4
  unfolding decode_up_to size_step if_taken
  size-refused s e = rw e

  plans : (s : List ℕ) → ((decode_up_to before s).refusal ≡ 4 → ⊥) → decode_of s ≡ decode_up_to before s
  unfolding decode_up_to size_step
  plans s f = rw (size-refusal-kept s (λ e. f (size-refused s e)))

  -- What the reader took at the earlier limit has a point count within it.
  size-read : (s : List ℕ) → (decode_up_to before s).refusal ≡ 0 → size_fault before (at s 1) ≡ 0
  unfolding decode_up_to if_taken
  size-read s e = go (size-view before s)
    where
      go : SizeView before s → size_fault before (at s 1) ≡ 0
      go (size n rest step p f) = ap (λ b. size_fault before (at b 1)) p ∙ f
      go (SizeView.refused r step l b) =
          let number : (decode_up_to before s).refusal ≡ r = rw step (ap (λ (d : Decoded). d.refusal) (refused-some r _ (refuse r) (λ z. omega arith))) in
          absurd (omega arith)

  read : (s : List ℕ) → (decode_up_to before s).refusal ≡ 0 → Stored (decode_of s).network × (fault_up_to before (decode_of s).network ≡ 0)
  unfolding fault_up_to
  read s e =
      let ok : (decode_of s).refusal ≡ 0 = ap (λ (d : Decoded). d.refusal) (plans s (λ four. omega arith)) ∙ e in
      let N : Network = (decode_of s).network in
      let plan = decode-plan s N (accepts s ok) in
      let fit : size_fault before N.nodes ≡ 0 = ap (size_fault before) plan.points ∙ size-read s e in
      (plan.stored, none_then _ fit ∙ (then-none (size_fault node_width N.nodes) _ plan.accepted).1)

  -- ---- lists

  module _ (N : Network) (was : fault_up_to before N ≡ 0) where
    -- What was accepted is accepted.
    accepted : fault_of N ≡ 0
    accepted = faults N (λ e. omega arith) ∙ was

    lists : (cuts sides : List ℕ) → length cuts ≡ length sides → length (mincuts N) ≤ length cuts
        → (listed_by N cuts sides ≡ record { refusal = 0; count = length (mincuts N) })
        × (cut_rows_after N cuts sides ≡ onto (mincuts N) cuts)
        × (side_rows_after N cuts sides ≡ onto (source_sides N) sides)
    lists cuts sides paired enough =
        let done = completed N cuts sides ((refusal-none N cuts sides).1 (accepted, paired, enough)) in
        (sym done.0, sym done.1, sym done.2)

    module _ (stored : Stored N) where
      sound : Sound N
      sound = accepted-sound N stored accepted

      -- A relevant node is below the earlier limit.
      node-lt : (v : ℕ) → RelevantNode N v → v < before
      unfolding fault_up_to
      node-lt v r = lt_of_lt_of_le (relevant-lt N sound v r) (size_none before N.nodes (then-none (size_fault before N.nodes) _ was).0).1

      refused-count : (cuts sides : List ℕ) → ((listed_by N cuts sides).refusal ≡ 0 → ⊥) → (listed_by N cuts sides).count ≡ 0
      unfolding listed_by
      refused-count cuts sides f = refused-some (list_refusal N cuts sides) (length (mincuts N)) 0 f

      sides-lt : (cuts sides : List ℕ) (i : ℕ) → i < (listed_by N cuts sides).count → get_or (side_rows_after N cuts sides) i 0 < 2 ^ before
      sides-lt cuts sides i h = go (ℕ_discrete (listed_by N cuts sides).refusal 0)
        where
          go : Dec ((listed_by N cuts sides).refusal ≡ 0) → get_or (side_rows_after N cuts sides) i 0 < 2 ^ before
          go (yes e) =
              let list : CompleteList N _ _ _ = call-complete N stored cuts sides (refl, refl, refl) e in
              set-lt before _ (λ v m. node-lt v ((list.beside i v h).0 m).relevant)
          go (no f) = absurd (omega (arith, refused-count cuts sides f))

      part-lt : (relevant_of N).nodes.0 < 2 ^ before
      part-lt =
          let nodes : (relevant_of N).nodes.0 ≡ relevant_nodes N = part-nodes N (relevant_of N) refl (part-refusal N (relevant_of N) refl ∙ accepted) in
          rw nodes (set-lt before (relevant_nodes N) (λ v m. node-lt v ((in-relevant_nodes N sound v).0 m)))

  -- ---- print

  lines : (c side : ℕ) → side < 2 ^ before → line_of c side ≡ line_up_to before c side
  unfolding line_up_to
  lines c side h =
      let wider : node_width ≡ (node_width - before) + before = omega arith in
      let same : members node_width side ≡ members before side =
      ap (λ w. members w side) wider ∙ members-past before (node_width - before) side h in
      rw same

-- Whatever the limit was, up to today's.
pub points_kept : (before : ℕ) → before ≤ node_width → PointsKept before
points_kept before narrower = record {
  faults = faults before narrower;
  plans = plans before narrower;
  read = read before narrower;
  lists = lists before narrower;
  sides = λ N stored was. sides-lt before narrower N was stored;
  part = λ N stored was. part-lt before narrower N was stored;
  lines = lines before narrower;
}

-- The limit before sixty-four points.
pub points-32-kept : PointsKept 32
points-32-kept = points_kept 32 (omega arith)
