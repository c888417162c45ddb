-- The steps of a drill, over plain values: what a draw does, that the draws of a step can be applied at once, that a step goes through the
-- present edges, the lowest first, and what is known from step to step.
-- Assumes nothing.
--
--   Drawn f r edges before left number failing repaired     within a step: the edges left, the last number, and which draws were below the
--                        failure setting, and below the repair setting
--   Turn N n f r steps state severs silent done     after the first `done` steps: the state, whether the edges down sever, and how many of
--                        these steps ended so
use mathlib.Core.Bool.{Bool, true, false, cond}
use mathlib.Core.Path.{◌≡◌, refl, sym, ap, ap₂, ◌∙◌}
use mathlib.Core.List.{[], ◌∷◌, Memᴰ, rel_of_Pairwise-cons}
use mathlib.Core.Logic.Iff
use mathlib.Core.Logic.{◌⊎◌, inl, inr, ◌↔◌, ⊎_map}
use Prim.Native.Nat.{ℕ, suc, ◌+◌, ◌^◌, ◌≤◌, ◌<◌, zero-le}
use native.Mathlib.Numerals.{add-one}
use native.Mathlib.Decide.{ℕ_discrete, dec_lt}
use native.Mathlib.Omega.{arith}
use borrow.Author.Tests.{ltb-true, lt-ltb, le-ltb}
use denote.Floats.{passes, is_true}
use lib.Dec.{ltb}
use Rattle.sequences.specs.Words.{range}
use Rattle.sequences.specs.Counts.{count_if}
use Rattle.sequences.proofs.Counts.{count-nil}
use Rattle.sequences.proofs.Ranges.{count_next, count-below}
use Rattle.bitset.specs.Members.{has, ◌∈◌, insert, add_if, ◌∖◌, members}
use Rattle.bitset.proofs.MemberList.{members-rising}
use Rattle.bitset.proofs.Sets.{∈-dec, same_set, not-zero, in_insert, in-add_if, in-or, in-minus, in-drop}
use Rattle.bitset.proofs.Subsets.{same_test}
use Rattle.edge_set.specs.declared.EdgeSet.{EdgeSet}
use Rattle.network.specs.declared.Network.{Network}
use Rattle.network.specs.Record.{present}
use Rattle.graph.specs.CutTests.{severed}
use Rattle.generator.specs.Generator.{advanced, draw_of}
use Rattle.simulation.specs.declared.State.{State}
use Rattle.simulation.specs.Steps.{after_draw, turn, step, after_draws, state_after}
use Rattle.simulation.specs.Simulation.{silent_step, silent_steps}

-- ---- what a draw does

module _ (f r d k x : ℕ) where
  -- By its state before the draw, and by the draw.
  drawn : (down below-repair below-failure : Bool) → has d k ≡ down → ltb x r ≡ below-repair → ltb x f ≡ below-failure
      → after_draw f r d k x
      ≡ elim down [
        | true ↦ elim below-repair [ true ↦ d ∖ 2 ^ k | false ↦ d ]
        | false ↦ elim below-failure [ true ↦ insert d k | false ↦ d ]
      ]
  unfolding after_draw
  drawn down below-repair below-failure e b b' i =
      elim (e i) [
        | true ↦ elim (b i) [ true ↦ d ∖ 2 ^ k | false ↦ d ]
        | false ↦ elim (b' i) [ true ↦ insert d k | false ↦ d ]
      ]

  -- An edge down is repaired, or stays down;
  pub draw-repaired : has d k ≡ true → x < r → after_draw f r d k x ≡ d ∖ 2 ^ k
  draw-repaired there low = drawn true true (ltb x f) there (lt-ltb x r low) refl

  pub draw-stays-down : has d k ≡ true → r ≤ x → after_draw f r d k x ≡ d
  draw-stays-down there high = drawn true false (ltb x f) there (le-ltb x r high) refl

  -- an edge up fails, or stays up.
  pub draw-failed : has d k ≡ false → x < f → after_draw f r d k x ≡ insert d k
  draw-failed off low = drawn false (ltb x r) true off refl (lt-ltb x f low)

  pub draw-stays-up : has d k ≡ false → f ≤ x → after_draw f r d k x ≡ d
  draw-stays-up off high = drawn false (ltb x r) false off refl (le-ltb x f high)

module _ (f r d k x : ℕ) where
  -- An edge up fails exactly if the draw is below the failure setting,
  pub draw-up : (k ∈ d → ⊥) → (k ∈ after_draw f r d k x) ↔ (x < f)
  draw-up out = go (same_test (has d k) false out absurd) (dec_lt x f)
    where
      go : has d k ≡ false → Dec (x < f) → (k ∈ after_draw f r d k x) ↔ (x < f)
      go off (yes h) = rw (draw-failed f r d k x off h) (λ m. h, λ l. (in_insert d k k).1 (inr refl))
      go off (no h) = rw (draw-stays-up f r d k x off (omega arith)) (λ m. absurd (out m), λ l. absurd (h l))

  -- one down stays down exactly if it is not below the repair setting,
  pub draw-down : k ∈ d → (k ∈ after_draw f r d k x) ↔ (r ≤ x)
  draw-down there = go (is_true (has d k) there) (dec_lt x r)
    where
      go : has d k ≡ true → Dec (x < r) → (k ∈ after_draw f r d k x) ↔ (r ≤ x)
      go on (yes h) = rw (draw-repaired f r d k x on h) (λ m. absurd (((in-drop d k k).0 m).1 refl), λ l. absurd (omega arith))
      go on (no h) = rw (draw-stays-down f r d k x on (omega arith)) (λ m. omega arith, λ l. there)

  -- and the draw changes no other.
  pub draw-others : (j : ℕ) → (j ≡ k → ⊥) → (j ∈ after_draw f r d k x) ↔ (j ∈ d)
  draw-others j other = go (has d k) refl (dec_lt x r) (dec_lt x f)
    where
      go : (b : Bool) → has d k ≡ b → Dec (x < r) → Dec (x < f) → (j ∈ after_draw f r d k x) ↔ (j ∈ d)
      go true e (yes h) _ = rw (draw-repaired f r d k x e h) (λ m. ((in-drop d k j).0 m).0, λ m. (in-drop d k j).1 (m, other))
      go true e (no h) _ = rw (draw-stays-down f r d k x e (omega arith)) Iff.rfl
      go false e _ (yes h) =
          rw (draw-failed f r d k x e h) (λ m. elim ((in_insert d k j).0 m) [ inl i ↦ i | inr q ↦ absurd (other q) ], λ m. (in_insert d k j).1 (inl m))
      go false e _ (no h) = rw (draw-stays-up f r d k x e (omega arith)) Iff.rfl

-- ---- all draws of a step at once

-- What is down: what was and is not repaired, and what was not and fails.
in_after : (d a b j : ℕ) → (j ∈ after_draws d a b) ↔ (((j ∈ d) × (j ∈ b → ⊥)) ⊎ ((j ∈ a) × (j ∈ d → ⊥)))
in_after d a b j =
    let either = in-or (d ∖ b) (a ∖ d) j in
    let kept = in-minus d b j in
    let came = in-minus a d j in
    (λ m. ⊎_map kept.0 came.0 (either.0 m), λ c. either.1 (⊎_map kept.1 came.1 c))

-- Where nothing has drawn, nothing has changed;
none-drawn : (d : ℕ) → after_draws d 0 0 ≡ d
none-drawn d = same_set (λ j. (
  λ m. elim ((in_after d 0 0 j).0 m) [ inl k ↦ k.0 | inr k ↦ absurd (not-zero j k.0) ],
  λ m. (in_after d 0 0 j).1 (inl (m, not-zero j)),
))

-- and the draw of an edge that has not drawn is one more.
module _ (f r d a b k x : ℕ) (not-failing : k ∈ a → ⊥) (not-repaired : k ∈ b → ⊥) where
  abbrev a' : ℕ
  a' = add_if (ltb x f) a k

  abbrev b' : ℕ
  b' = add_if (ltb x r) b k

  -- Of the edge itself,
  itself : (k ∈ after_draw f r (after_draws d a b) k x) ↔ (k ∈ after_draws d a' b')
  itself = go (∈-dec k d)
    where
      now : (k ∈ after_draws d a b) ↔ (((k ∈ d) × (k ∈ b → ⊥)) ⊎ ((k ∈ a) × (k ∈ d → ⊥)))
      now = in_after d a b k

      go : Dec (k ∈ d) → (k ∈ after_draw f r (after_draws d a b) k x) ↔ (k ∈ after_draws d a' b')
      go (yes down) =
          let drew = draw-down f r (after_draws d a b) k x (now.1 (inl (down, not-repaired))) in (
            λ m. (in_after d a' b' k).1 (inl (
              down,
              λ i. elim ((in-add_if (ltb x r) b k k).0 i) [
                | inl j ↦ not-repaired j
                | inr j ↦ let below = ltb-true x r (is_true (ltb x r) j.0) in let l = drew.0 m in omega arith
              ],
            )),
            λ m. drew.1 (elim ((in_after d a' b' k).0 m) [
              | inl j ↦ elim (dec_lt x r) [
                | yes l ↦ absurd (j.1 ((in-add_if (ltb x r) b k k).1 (inr (passes (ltb x r) (lt-ltb x r l), refl))))
                | no l ↦ omega arith
              ]
              | inr j ↦ absurd (j.1 down)
            ]),
          )
      go (no up) =
          let drew = draw-up f r (after_draws d a b) k x (λ m. elim (now.0 m) [ inl j ↦ up j.0 | inr j ↦ not-failing j.0 ]) in (
            λ m. (in_after d a' b' k).1 (inr ((in-add_if (ltb x f) a k k).1 (inr (passes (ltb x f) (lt-ltb x f (drew.0 m)), refl)), up)),
            λ m. drew.1 (elim ((in_after d a' b' k).0 m) [
              | inl j ↦ absurd (up j.0)
              | inr j ↦ elim ((in-add_if (ltb x f) a k k).0 j.0) [
                | inl i ↦ absurd (not-failing i)
                | inr i ↦ ltb-true x f (is_true (ltb x f) i.0)
              ]
            ]),
          )

  -- and of every other.
  other : (j : ℕ) → (j ≡ k → ⊥) → (j ∈ after_draw f r (after_draws d a b) k x) ↔ (j ∈ after_draws d a' b')
  other j n =
      let same : (c : Bool) (s : ℕ) → (j ∈ s) ↔ (j ∈ add_if c s k) = λ c s. (
        λ m. (in-add_if c s k j).1 (inl m),
        λ m. elim ((in-add_if c s k j).0 m) [ inl i ↦ i | inr i ↦ absurd (n i.1) ],
      ) in
      let drew = draw-others f r (after_draws d a b) k x j n in
      let kept = Iff.and Iff.rfl (Iff.not (same (ltb x r) b)) in
      let came = Iff.and (same (ltb x f) a) Iff.rfl in (
        λ m. (in_after d a' b' j).1 (⊎_map kept.0 came.0 ((in_after d a b j).0 (drew.0 m))),
        λ m. drew.1 ((in_after d a b j).1 (⊎_map kept.1 came.1 ((in_after d a' b' j).0 m))),
      )

  drawn-more : after_draw f r (after_draws d a b) k x ≡ after_draws d a' b'
  drawn-more = same_set (λ j. elim (ℕ_discrete j k) [ yes e ↦ rw e itself | no n ↦ other j n ])

-- ---- a step

-- Within a step: what is left to do from here on gives what the whole step gives, and no edge that is left has drawn.
pub record Drawn (f r edges : ℕ) (before : State) (left number failing repaired : ℕ) : Type 0 where
  pub rest : step f r (members 64 left) (record { number = number; down = record { 0 = after_draws before.down.0 failing repaired } })
      ≡ step f r (members 64 edges) before
  pub not-failing : (k : ℕ) → Memᴰ k (members 64 left) → k ∈ failing → ⊥
  pub not-repaired : (k : ℕ) → Memᴰ k (members 64 left) → k ∈ repaired → ⊥

module _ (f r edges : ℕ) (before : State) where
  -- At first no edge has drawn.
  pub drawn-first : {left failing repaired : ℕ} → left ≡ edges → failing ≡ 0 → repaired ≡ 0
      → Drawn f r edges before left before.number failing repaired
  drawn-first {left} {failing} {repaired} all a b = record {
    rest =
        let same : after_draws before.down.0 failing repaired ≡ before.down.0 = ap₂ (after_draws before.down.0) a b ∙ none-drawn before.down.0 in
        λ i. step f r (members 64 (all i)) (record { number = before.number; down = record { 0 = same i } });
    not-failing = λ k l m. not-zero k (rw a at m);
    not-repaired = λ k l m. not-zero k (rw b at m);
  }

  module _ {left number failing repaired : ℕ} (t : Drawn f r edges before left number failing repaired) where
    -- The lowest edge draws first, and then the others;
    pub drawn-next : {k next : ℕ} → members 64 left ≡ k ∷ members 64 next → {number' x failing' repaired' : ℕ} → number' ≡ advanced number
        → x ≡ draw_of number' → failing' ≡ add_if (ltb x f) failing k → repaired' ≡ add_if (ltb x r) repaired k
        → Drawn f r edges before next number' failing' repaired'
    unfolding step turn
    drawn-next {k} {next} came {number'} {x} {failing'} {repaired'} e draw a b =
        let d : ℕ = before.down.0 in
        let s : State = record { number = number; down = record { 0 = after_draws d failing repaired } } in
        let now : draw_of (advanced number) ≡ x = sym (draw ∙ ap draw_of e) in
        let here : Memᴰ k (members 64 left) = rw came (Memᴰ.head refl) in
        let down : after_draw f r (after_draws d failing repaired) k (draw_of (advanced number)) ≡ after_draws d failing' repaired' =
        ap (after_draw f r (after_draws d failing repaired) k) now
        ∙ drawn-more f r d failing repaired k x (t.not-failing k here) (t.not-repaired k here)
        ∙ ap₂ (after_draws d) (sym a) (sym b) in
        let state : turn f r s k ≡ record { number = number'; down = record { 0 = after_draws d failing' repaired' } } =
        λ i. record { number = sym e i; down = record { 0 = down i } } in
        let apart : (c : Bool) (set j : ℕ) → Memᴰ j (members 64 next) → (Memᴰ j (members 64 left) → j ∈ set → ⊥) → j ∈ add_if c set k → ⊥ =
        λ c set j m out i.
        let above : k < j = rel_of_Pairwise-cons (rw came at (members-rising 64 left)) ∣ m ∣₁ in
        elim ((in-add_if c set k j).0 i) [ inl q ↦ out (rw came (Memᴰ.tail m)) q | inr q ↦ let same = q.1 in omega arith ] in
        record {
          rest = ap (step f r (members 64 next)) (sym state) ∙ ap (λ l. step f r l s) (sym came) ∙ t.rest;
          not-failing = λ j m i. apart (ltb x f) failing j m (t.not-failing j) (rw a at i);
          not-repaired = λ j m i. apart (ltb x r) repaired j m (t.not-repaired j) (rw b at i);
        }

    -- where none is left, the step is over.
    pub drawn-last : members 64 left ≡ [] → {down : EdgeSet} → down.0 ≡ after_draws before.down.0 failing repaired
        → record { number = number; down = down } ≡ step f r (members 64 edges) before
    unfolding step
    drawn-last over {down} e =
        let s : State = record { number = number; down = record { 0 = after_draws before.down.0 failing repaired } } in
        let here : record { number = number; down = down } ≡ s = λ i. record { number = number; down = record { 0 = e i } } in
        here ∙ ap (λ l. step f r l s) (sym over) ∙ t.rest

-- ---- from step to step

pub record Turn (N : Network) (n f r steps : ℕ) (state : State) (severs : Bool) (silent done : ℕ) : Type 0 where
  pub within : done ≤ steps
  pub reached : state ≡ state_after (present N) n f r done
  pub known : severs ≡ severed N state.down.0
  pub counted : silent ≡ count_if (silent_step N n f r) (range 0 done)

module _ (N : Network) (n f r steps : ℕ) where
  -- At first nothing is down.
  pub first-turn : {down : EdgeSet} {severs : Bool} → down.0 ≡ 0 → severs ≡ severed N down.0
      → Turn N n f r steps (record { number = n; down = down }) severs 0 0
  unfolding state_after range
  first-turn none known = record {
    within = zero-le;
    reached = λ i. record { number = n; down = record { 0 = none i } };
    known = known;
    counted = sym (count-nil (silent_step N n f r));
  }

  module _ {state : State} {severs : Bool} {silent done : ℕ} (t : Turn N n f r steps state severs silent done) where
    -- No more steps are counted than there were.
    pub counted-le : silent ≤ done
    counted-le = omega (arith, t.counted, count-below (silent_step N n f r) done)

    module _ (h : done < steps) {next : State} {severs' : Bool} (e : next ≡ step f r (members 64 (present N)) state)
        (known : severs' ≡ severed N next.down.0) where
      on : next ≡ state_after (present N) n f r (suc done)
      unfolding state_after
      on = e ∙ ap (step f r (members 64 (present N))) t.reached

      -- The step is counted as it ended.
      more : (b : Bool) → severs' ≡ b → count_if (silent_step N n f r) (range 0 (done + 1)) ≡ silent + cond b 1 0
      more b same =
          let now : severs' ≡ silent_step N n f r done = known ∙ ap (λ (s : State). severed N s.down.0) on in
          ap (λ m. count_if (silent_step N n f r) (range 0 m)) (add-one done)
          ∙ count_next (silent_step N n f r) b done (sym now ∙ same)
          ∙ ap (λ c. c + cond b 1 0) (sym t.counted)

      after : {silent' : ℕ} → silent' ≡ count_if (silent_step N n f r) (range 0 (done + 1)) → Turn N n f r steps next severs' silent' (done + 1)
      after counted = record {
        within = omega arith;
        reached = on ∙ ap (state_after (present N) n f r) (sym (add-one done));
        known = known;
        counted = counted;
      }

      -- One that ended silent counts, one that did not does not.
      pub silent-turn : severs' ≡ true → Turn N n f r steps next severs' (silent + 1) (done + 1)
      silent-turn same = after (sym (more true same))

      pub heard-turn : severs' ≡ false → Turn N n f r steps next severs' silent (done + 1)
      heard-turn same =
          let none : silent + 0 ≡ silent = omega arith in
          after (sym (more false same ∙ none))

    -- After the last step all are counted.
    pub last_turn : steps ≤ done → (silent ≡ silent_steps N n f r steps) × (state.number ≡ (state_after (present N) n f r steps).number)
    unfolding silent_steps
    last_turn over =
        let end : done ≡ steps = omega (arith, t.within) in (
          t.counted ∙ ap (λ k. count_if (silent_step N n f r) (range 0 k)) end,
          ap (λ (s : State). s.number) t.reached ∙ ap (λ k. (state_after (present N) n f r k).number) end,
        )
