-- The laws of a drill, for every start: only present edges are down, the number does not depend on the settings, without a route every step
-- counts, with one none does at failure setting 0, and at repair setting 0 those that count are the last ones.
-- Assumes, where cuts are spoken of, that the edges have numbers below 64 and ends below the node count.
use mathlib.Core.Bool.{true, false}
use mathlib.Core.List.{List, [], ◌∷◌, Memᴰ}
use mathlib.Core.Logic.{◌↔◌}
use mathlib.Core.Path.{◌≡◌, refl, sym, ap, ◌∙◌}
use Prim.Native.Nat.{ℕ, zero, suc, ◌+◌, ◌*◌, ◌<◌, zero-le}
use native.Mathlib.Decide.{ℕ_discrete}
use native.Mathlib.Nat.{zero-mul}
use native.Mathlib.Omega.{arith}
use denote.Floats.{is_true}
use lib.Dec.{T}
use lib.ListN.{length}
use Rattle.sequences.proofs.Ranges.{count-steady, count-last}
use Rattle.bitset.specs.Members.{has, ◌∈◌, ◌⊆◌, members, size}
use Rattle.bitset.proofs.Members.{has-zero}
use Rattle.bitset.proofs.MemberList.{in_members, length-members}
use Rattle.bitset.proofs.Sets.{not-zero}
use Rattle.bitset.proofs.Subsets.{⊆-refl, ⊆-trans, zero-⊆, same_test}
use Rattle.network.specs.declared.Network.{Network}
use Rattle.network.specs.Record.{present}
use Rattle.graph.specs.Paths.{Minpath}
use Rattle.graph.specs.Cuts.{HoldsMincut}
use Rattle.graph.specs.CutTests.{severed}
use Rattle.graph.specs.Reach.{Bounded}
use Rattle.graph.proofs.Cuts.{severed-silenced, severed-mono, holds-silenced, mincut-none, cut-transversal}
use Rattle.generator.specs.Generator.{advanced, draw_of, number_after}
use Rattle.generator.proofs.Draws.{number-first, number-add}
use Rattle.simulation.specs.declared.State.{State}
use Rattle.simulation.specs.Steps.{after_draw, turn, step, state_after, down_after}
use Rattle.simulation.specs.Simulation.{silent_step, silent_steps}
use Rattle.simulation.proofs.Steps.{draw-stays-up, draw-down, draw-others}

-- ---- which edges can be down

-- Where only edges of p draw, only these are down: after a step,
step-inside : (f r p : ℕ) (l : List ℕ) → ((k : ℕ) → Memᴰ k l → k ∈ p) → (s : State) → s.down.0 ⊆ p → (step f r l s).down.0 ⊆ p
unfolding step turn
step-inside f r p [] within s h = h
step-inside f r p (k ∷ l) within s h =
    step-inside f r p l (λ j m. within j (Memᴰ.tail m)) (turn f r s k) (λ j m. elim (ℕ_discrete j k) [
      | yes e ↦ rw e (within k (Memᴰ.head refl))
      | no n ↦ h j ((draw-others f r s.down.0 k (draw_of (advanced s.number)) j n).0 m)
    ])

-- and after several.
pub steps-inside : (p n f r i : ℕ) → down_after p n f r i ⊆ p
unfolding state_after
steps-inside p n f r zero = zero-⊆ p
steps-inside p n f r (suc i) = step-inside f r p (members 64 p) (λ k m. ((in_members 64 p k).0 m).0) (state_after p n f r i) (steps-inside p n f r i)

-- ---- the number

-- A step takes a draw for each edge,
step-number : (f r : ℕ) (l : List ℕ) (s : State) → (step f r l s).number ≡ number_after s.number (length l)
unfolding step turn number_after
step-number f r [] s = refl
step-number f r (k ∷ l) s = step-number f r l (turn f r s k) ∙ number-first s.number (length l)

-- and so does each of several.
pub steps-number : (p n f r i : ℕ) → (state_after p n f r i).number ≡ number_after n (i * size 64 p)
unfolding state_after number_after
steps-number p n f r zero = ap (number_after n) (sym (zero-mul (size 64 p)))
steps-number p n f r (suc i) =
    let m : ℕ = size 64 p in
    let all : i * m + m ≡ suc i * m = omega arith in
    step-number f r (members 64 p) (state_after p n f r i)
    ∙ ap (number_after (state_after p n f r i).number) (length-members 64 p)
    ∙ ap (λ s. number_after s m) (steps-number p n f r i)
    ∙ number-add n (i * m) m
    ∙ ap (number_after n) all

-- ---- at failure setting 0

-- Nothing goes down,
step-idle : (r : ℕ) (l : List ℕ) (s : State) → s.down.0 ≡ 0 → (step 0 r l s).down.0 ≡ 0
unfolding step turn
step-idle r [] s none = none
step-idle r (k ∷ l) s none =
    let x : ℕ = draw_of (advanced s.number) in
    step-idle r l (turn 0 r s k) (draw-stays-up 0 r s.down.0 k x (ap (λ d. has d k) none ∙ has-zero k) zero-le ∙ none)

-- so that nothing is down after any step.
pub steps-idle : (p n r i : ℕ) → down_after p n 0 r i ≡ 0
unfolding state_after
steps-idle p n r zero = refl
steps-idle p n r (suc i) = step-idle r (members 64 p) (state_after p n 0 r i) (steps-idle p n r i)

-- ---- at repair setting 0

-- What is down stays down: after a draw,
draw-grows : (f d k x : ℕ) → d ⊆ after_draw f 0 d k x
draw-grows f d k x j m = elim (ℕ_discrete j k) [
  | yes e ↦ rw e ((draw-down f 0 d k x (rw e at m)).1 zero-le)
  | no n ↦ (draw-others f 0 d k x j n).1 m
]

-- after a step,
step-grows : (f : ℕ) (l : List ℕ) (s : State) → s.down.0 ⊆ (step f 0 l s).down.0
unfolding step turn
step-grows f [] s = ⊆-refl s.down.0
step-grows f (k ∷ l) s =
    ⊆-trans s.down.0 (turn f 0 s k).down.0 (step f 0 l (turn f 0 s k)).down.0
    (draw-grows f s.down.0 k (draw_of (advanced s.number))) (step-grows f l (turn f 0 s k))

-- and from one step to the next.
pub steps-grow : (p n f i : ℕ) → down_after p n f 0 i ⊆ down_after p n f 0 (suc i)
unfolding state_after
steps-grow p n f i = step-grows f (members 64 p) (state_after p n f 0 i)

-- ---- what counts

module _ (N : Network) (B : Bounded N) (n : ℕ) where
  -- Without a route every step counts;
  pub no-route : (f r steps : ℕ) → ((p : ℕ) → Minpath N p → ⊥) → silent_steps N n f r steps ≡ steps
  unfolding silent_steps
  no-route f r steps none =
      count-steady (silent_step N n f r) true 0 steps (λ i h l.
      let d : ℕ = down_after (present N) n f r (suc i) in
      is_true (severed N d) ((severed-silenced N B d).1 ((holds-silenced N B d).0 (0, ((mincut-none N none 0).1 refl, zero-⊆ d)))))

  -- with one, nothing severs where nothing is down,
  heard : (p : ℕ) → Minpath N p → severed N 0 ≡ false
  heard p m = same_test (severed N 0) false (λ t.
      let (c, mincut) = (holds-silenced N B 0).1 ((severed-silenced N B 0).0 t) in
      let (k, shared) = ((cut-transversal N c).0 mincut.0.cut).1 p m in
      not-zero k (mincut.1 k shared.1)) absurd

  -- so that at failure setting 0 none counts,
  pub never-fails : (r steps p : ℕ) → Minpath N p → silent_steps N n 0 r steps ≡ 0
  unfolding silent_steps
  never-fails r steps p m =
      count-steady (silent_step N n 0 r) false 0 steps (λ i h l. ap (severed N) (steps-idle (present N) n r (suc i)) ∙ heard p m)

  -- and at repair setting 0 those that count are the last ones.
  pub never-repaired : (f steps i : ℕ) → i < steps
      → HoldsMincut N (down_after (present N) n f 0 (suc i)) ↔ (steps < suc i + silent_steps N n f 0 steps)
  unfolding silent_steps
  never-repaired f steps i h =
      let down : ℕ → ℕ = down_after (present N) n f 0 in
      let stays : (j : ℕ) → T (severed N (down (suc j))) → T (severed N (down (suc (suc j)))) =
      λ j. severed-mono N B (down (suc j)) (down (suc (suc j))) (steps-grow (present N) n f (suc j)) in
      let d : ℕ = down (suc i) in
      let last = count-last (silent_step N n f 0) stays steps i h in
      let means = severed-silenced N B d in
      let cut = holds-silenced N B d in
      (λ k. last.0 (means.1 (cut.0 k)), λ l. cut.1 (means.0 (last.1 l)))
