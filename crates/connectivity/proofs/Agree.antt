-- Networks that agree have the same relevant part, and a set of edges is judged alike in both.
-- Assumes accepted networks, and for judging that both have the edges of the set.
use mathlib.Core.Path.{◌≡◌, sym, ap, ◌∙◌}
use mathlib.Core.Bool.{true, false, not}
use Prim.Native.Nat.{ℕ, ◌^◌}
use Rattle.std.specs.Prelude.{Ok}
use Rattle.sequences.specs.Words.{every}
use Rattle.bitset.specs.Members.{◌⊆◌, ◌∖◌, members}
use Rattle.network.specs.declared.Network.{Network}
use Rattle.network.specs.Record.{Stored, fault_of, present}
use Rattle.network.proofs.Sets.{set-none}
use Rattle.graph.specs.CutTests.{all_needed}
use Rattle.graph.proofs.Sound.{Sound, accepted-sound}
use Rattle.graph.proofs.Agree.{Agree, nodes-agree, edges-agree, severed-agree}
use Rattle.connectivity.specs.declared.judging.Verdict.TheVariants.{NotCut, NotMinimal, Minimal}
use Rattle.connectivity.specs.Answers.{relevant_of, verdict_on, verdict_of}
use Rattle.connectivity.proofs.Answers.{verdict-judged}

module _ (N M : Network) (stored : Stored N) (stored' : Stored M) (ok : fault_of N ≡ 0) (ok' : fault_of M ≡ 0) (a : Agree N M) where
  sound : Sound N
  sound = accepted-sound N stored ok

  sound' : Sound M
  sound' = accepted-sound M stored' ok'

  pub part-agrees : relevant_of N ≡ relevant_of M
  unfolding relevant_of
  part-agrees = rw (ok, ok', nodes-agree N M a sound sound', edges-agree N M a sound sound')

  -- The same sets sever, so that the same edges are needed.
  on_agrees : (c : ℕ) → verdict_on N c ≡ verdict_on M c
  unfolding verdict_on all_needed
  on_agrees c i =
      elim (severed-agree N M a sound sound' c i) [
        | true ↦
            elim (every (λ (e : ℕ). not (severed-agree N M a sound sound' (c ∖ 2 ^ e) i)) (members 64 c)) [ true ↦ Minimal | false ↦ NotMinimal ]
        | false ↦ NotCut
      ]

  pub verdict-agrees : (c : ℕ) → c ⊆ present N → c ⊆ present M → verdict_of N c ≡ verdict_of M c
  verdict-agrees c within within' =
      verdict-judged N c (set-none N c ok within) ∙ ap Ok (on_agrees c) ∙ sym (verdict-judged M c (set-none M c ok' within'))
