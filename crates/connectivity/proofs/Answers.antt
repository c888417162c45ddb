-- The answers of the calls: how they come from the tests that the code makes, and that they are right by the definitions of graph theory.
-- Assumes nothing of a network but what is said.
use mathlib.Core.Path.{◌≡◌, refl, sym, ap, ◌∙◌}
use mathlib.Core.Bool.{Bool, true, false, not}
use mathlib.Core.Logic.{◌↔◌}
use Prim.Native.Nat.{ℕ, zero, suc, ◌^◌, ◌<◌}
use native.Mathlib.Nat.{zero-lt-suc}
use native.Mathlib.Omega.{arith}
use denote.Floats.{is_true, passes}
use lib.Dec.{T}
use Rattle.sequences.proofs.Words.{T-every}
use Rattle.bitset.specs.Members.{◌⊆◌, ◌∖◌, members, ◌∈◌}
use Rattle.bitset.proofs.Subsets.{same_test}
use Rattle.sequences.proofs.Tests.{T_not, T-then}
use Rattle.bitset.proofs.Sets.{member-lt}
use Rattle.bitset.proofs.MemberList.{in_members}
use Rattle.network.specs.declared.Network.{Network}
use Rattle.network.specs.Record.{unless_refused, fault_of, set_fault, Stored, present}
use Rattle.std.specs.Result.{IsErrAnd}
use Rattle.network.specs.declared.refusal.Refusal.{Refusal}
use Rattle.network.specs.Refusals.{number_of}
use Rattle.network.proofs.Refusals.{refused-some, number-some}
use Rattle.network.proofs.Sets.{set-none, set-ok}
use Rattle.graph.specs.Reach.{Bounded}
use Rattle.graph.specs.Cuts.{Cut, Mincut}
use Rattle.graph.specs.CutTests.{severed, cut_test, all_needed, mincut_test}
use Rattle.graph.specs.Relevant.{relevant_nodes, relevant_edges}
use Rattle.graph.proofs.Cuts.{severed-iff, cut_test-iff, mincut_test-iff}
use Rattle.graph.proofs.Sound.{Sound, accepted-sound}
use Rattle.graph.proofs.Relevant.{in-relevant_nodes, in-relevant_edges}
use Rattle.std.specs.Prelude.{Result, Ok, Err}
use Rattle.connectivity.specs.declared.part.RelevantPart.{RelevantPart}
use Rattle.connectivity.specs.declared.judging.Verdict.{Verdict}
use Rattle.connectivity.specs.declared.judging.Verdict.TheVariants.{NotCut, NotMinimal, Minimal}
use Rattle.connectivity.specs.Answers.{FoundPart, part_from, found, relevant_of, PartMeans, numbered, verdict_on, verdict_of, Says, VerdictMeans}

-- ---- the relevant part

-- Beside a refusal both sets are empty.
pub part-refused : (N : Network) (r : ℕ) → fault_of N ≡ r → (r ≡ 0 → ⊥) → part_from r 0 0 ≡ relevant_of N
unfolding relevant_of
part-refused N r fault some = rw (fault, refused-some r (relevant_nodes N) 0 some, refused-some r (relevant_edges N) 0 some)

-- So they are where it is passed on.
pub part-passed : (N : Network) (a : Result RelevantPart Refusal) (r : Refusal) → IsErrAnd a (λ e. e ≡ r) → fault_of N ≡ number_of r
    → found a ≡ relevant_of N
part-passed N (Ok p) r passed fault = absurd passed
part-passed N (Err e) r passed fault =
    ap (λ x. part_from (number_of x) 0 0) passed ∙ part-refused N (number_of r) fault (number-some r)

-- Without a refusal they are the relevant nodes and edges.
pub part-accepted : (N : Network) (n e : ℕ) → fault_of N ≡ 0 → n ≡ relevant_nodes N → e ≡ relevant_edges N → part_from 0 n e ≡ relevant_of N
unfolding relevant_of
part-accepted N n e ok q s = rw (ok, q, s)

-- The refusal beside the relevant part is the record's first fault.
pub part-refusal : (N : Network) (p : FoundPart) → p ≡ relevant_of N → p.refusal ≡ fault_of N
unfolding relevant_of
part-refusal N p e = ap (λ (q : FoundPart). q.refusal) e

-- Without a refusal the two sets are the relevant ones.
module _ (N : Network) (p : FoundPart) (e : p ≡ relevant_of N) (none : p.refusal ≡ 0) where
  part-whole : p ≡ part_from 0 (relevant_nodes N) (relevant_edges N)
  part-whole = e ∙ sym (part-accepted N (relevant_nodes N) (relevant_edges N) (sym (part-refusal N p e) ∙ none) refl refl)

  pub part-nodes : p.nodes.0 ≡ relevant_nodes N
  part-nodes = ap (λ (q : FoundPart). q.nodes.0) part-whole

  pub part-edges : p.edges.0 ≡ relevant_edges N
  part-edges = ap (λ (q : FoundPart). q.edges.0) part-whole

-- Their members are then exactly the relevant nodes and edges.
pub part-means : (N : Network) → Stored N → (p : FoundPart) → p ≡ relevant_of N → PartMeans N p.refusal p.nodes.0 p.edges.0
part-means N stored p e =
    let sound : p.refusal ≡ 0 → Sound N = λ none. accepted-sound N stored (sym (part-refusal N p e) ∙ none) in record {
      stored = stored;
      nodes = λ none v. rw (part-nodes N p e none) (in-relevant_nodes N (sound none) v);
      edges = λ none k. rw (part-edges N p e none) (in-relevant_edges N (sound none) k);
    }

-- ---- the tests of judging

module _ (N : Network) (c : ℕ) where
  -- Where each member is needed, all are.
  pub needed-true : ((e : ℕ) → e ∈ c → T (not (severed N (c ∖ 2 ^ e)))) → all_needed N c ≡ true
  unfolding all_needed
  needed-true each =
      is_true (all_needed N c) ((T-every (λ e. not (severed N (c ∖ 2 ^ e))) (members 64 c)).1 (λ e m. each e ((in_members 64 c e).0 m).0))

  -- Where a member can be dropped, not all are.
  pub needed-false : c < 2 ^ 64 → (e : ℕ) → e ∈ c → severed N (c ∖ 2 ^ e) ≡ true → all_needed N c ≡ false
  unfolding all_needed
  needed-false small e m dropped =
      same_test (all_needed N c) false (λ t.
      (T_not (severed N (c ∖ 2 ^ e))).0
      ((T-every (λ e. not (severed N (c ∖ 2 ^ e))) (members 64 c)).0 t e ((in_members 64 c e).1 (m, member-lt 64 c e small m)))
      (passes (severed N (c ∖ 2 ^ e)) dropped)) absurd

  -- ---- the verdict from the tests

  -- A refusal is the verdict.
  pub verdict-refused : (r : ℕ) → set_fault N c ≡ r → (r ≡ 0 → ⊥) → Err r ≡ verdict_of N c
  unfolding verdict_of
  verdict-refused r fault some = rw fault (sym (refused-some r (Ok (verdict_on N c)) (Err r) some))

  -- So is one that is passed on.
  pub verdict-passed : (a : Result Verdict Refusal) (r : Refusal) → IsErrAnd a (λ e. e ≡ r) → set_fault N c ≡ number_of r → numbered a ≡ verdict_of N c
  verdict-passed (Ok v) r passed fault = absurd passed
  verdict-passed (Err e) r passed fault = ap (λ x. Err (number_of x)) passed ∙ verdict-refused (number_of r) fault (number-some r)

  -- Without a refusal it is the verdict on the set.
  pub verdict-judged : set_fault N c ≡ 0 → verdict_of N c ≡ Ok (verdict_on N c)
  unfolding verdict_of
  verdict-judged none = rw none

  module _ (ok : fault_of N ≡ 0) (within : c ⊆ present N) where
    -- A set that severs nothing is not a cut.
    pub verdict-not-cut : severed N c ≡ false → Ok NotCut ≡ verdict_of N c
    unfolding verdict_on
    verdict-not-cut e = sym (verdict-judged (set-none N c ok within) ∙ rw (e, verdict_on))

    -- A set that severs, and whose members are all needed, is minimal.
    pub verdict-minimal : severed N c ≡ true → all_needed N c ≡ true → Ok Minimal ≡ verdict_of N c
    unfolding verdict_on
    verdict-minimal e f = sym (verdict-judged (set-none N c ok within) ∙ rw (e, f, verdict_on))

    -- A set that severs, and whose members are not all needed, is not minimal.
    pub verdict-not-minimal : severed N c ≡ true → all_needed N c ≡ false → Ok NotMinimal ≡ verdict_of N c
    unfolding verdict_on
    verdict-not-minimal e f = sym (verdict-judged (set-none N c ok within) ∙ rw (e, f, verdict_on))

-- ---- the verdict is right

-- A cut is minimal exactly if all its members are needed.
mincut-needed : (N : Network) → Bounded N → (c : ℕ) → Cut N c → Mincut N c ↔ T (all_needed N c)
unfolding mincut_test
mincut-needed N B c k =
    let both = T-then (cut_test N c) (all_needed N c) in (
      λ m. (both.0 ((mincut_test-iff N B c).1 m)).1,
      λ t. (mincut_test-iff N B c).0 (both.1 ((cut_test-iff N B c).1 k, t)),
    )

-- On a set of present edges the verdict is right.
on-right : (N : Network) → Bounded N → (c : ℕ) → c ⊆ present N → Says N c (Ok (verdict_on N c))
unfolding verdict_on
on-right N B c within = go (severed N c) refl (all_needed N c) refl
  where
    cut : severed N c ≡ true → Cut N c
    cut e = (severed-iff N B c within).0 (passes (severed N c) e)

    go : (a : Bool) → severed N c ≡ a → (b : Bool) → all_needed N c ≡ b
        → Says N c (Ok (elim a [ true ↦ elim b [ true ↦ Minimal | false ↦ NotMinimal ] | false ↦ NotCut ]))
    go true e true f = (mincut-needed N B c (cut e)).1 (passes (all_needed N c) f)
    go true e false f = (cut e, λ m. rw f at ((mincut-needed N B c (cut e)).0 m))
    go false e b f = λ k. rw e at ((severed-iff N B c within).1 k)

module _ (N : Network) (stored : Stored N) (c : ℕ) where
  -- What the verdict says holds, whatever the record and the set.
  pub verdict-right : Says N c (verdict_of N c)
  unfolding verdict_of
  verdict-right = go (set_fault N c) refl
    where
      go : (r : ℕ) → set_fault N c ≡ r → Says N c (unless_refused r (Ok (verdict_on N c)) (Err r))
      go zero e = let p = set-ok N c e in on-right N (accepted-sound N stored p.0).bounded c p.1
      go (suc r) e = (e, zero-lt-suc r)

  -- Beside the answer stands what it means.
  pub verdict-means : {v : Result Verdict ℕ} → v ≡ verdict_of N c → (v ≡ verdict_of N c) × VerdictMeans N c v
  verdict-means e = (e, record { stored = stored; says = rw e verdict-right })

  -- Of a set of present edges of an accepted network, the verdict is v exactly if what v says holds: exactly one of the three does.
  pub verdict-iff : fault_of N ≡ 0 → c ⊆ present N → (v : Result Verdict ℕ) → (verdict_of N c ≡ v) ↔ Says N c v
  verdict-iff ok within v = (λ e. rw e at verdict-right, go (verdict_of N c) v verdict-right)
    where
      accepted : (r : ℕ) → (set_fault N c ≡ r) × (0 < r) → ⊥
      accepted r p = omega (arith, set-none N c ok within)

      go : (w v : Result Verdict ℕ) → Says N c w → Says N c v → w ≡ v
      go (Ok NotCut) (Ok NotCut) p q = refl
      go (Ok NotCut) (Ok NotMinimal) p q = absurd (p q.0)
      go (Ok NotCut) (Ok Minimal) p q = absurd (p q.cut)
      go (Ok NotCut) (Err r) p q = absurd (accepted r q)
      go (Ok NotMinimal) (Ok NotCut) p q = absurd (q p.0)
      go (Ok NotMinimal) (Ok NotMinimal) p q = refl
      go (Ok NotMinimal) (Ok Minimal) p q = absurd (p.1 q)
      go (Ok NotMinimal) (Err r) p q = absurd (accepted r q)
      go (Ok Minimal) (Ok NotCut) p q = absurd (q p.cut)
      go (Ok Minimal) (Ok NotMinimal) p q = absurd (q.1 p)
      go (Ok Minimal) (Ok Minimal) p q = refl
      go (Ok Minimal) (Err r) p q = absurd (accepted r q)
      go (Err r) v p q = absurd (accepted r p)
