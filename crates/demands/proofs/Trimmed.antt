-- Plans that were trimmed already: the call that lists them does what the list call does, and which plans they are.
-- Assumes what the code's types say of the records.
use mathlib.Core.Path.{◌≡◌, refl, sym, ◌∙◌}
use mathlib.Core.Bool.{true, true≢false}
use mathlib.Core.List.{List}
use mathlib.Core.Logic.Iff
use mathlib.Core.Logic.{◌⊎◌, inl, inr, ◌↔◌}
use Prim.Native.Nat.{ℕ, ◌-◌, ◌^◌, ◌<◌}
use native.Mathlib.Decide.{ℕ_discrete}
use native.Mathlib.Omega.{arith}
use denote.Floats.{is_true}
use Rattle.bitset.proofs.Sets.{not-zero, empty-or-member}
use Rattle.network.specs.declared.Network.{Network}
use Rattle.network.specs.Record.{Stored, fault_of, present}
use Rattle.network.specs.Ends.{Loop}
use Rattle.graph.specs.Paths.{Minpath, SameMinpaths}
use Rattle.graph.specs.Cuts.{RelevantNode, Trimmed}
use Rattle.graph.specs.Lists.{SameList}
use Rattle.graph.specs.Relevant.{trimmed}
use Rattle.graph.proofs.Sound.{Sound, accepted-sound}
use Rattle.graph.proofs.Trimmed.{trimmed-whole, trimmed-iff, trimmed-loop}
use Rattle.connectivity.specs.Answers.{relevant_of}
use Rattle.connectivity.proofs.Answers.{part-refusal, part-nodes, part-edges}
use Rattle.listing.specs.List.{list_refusal, listed_by, cut_rows_after}
use Rattle.listing.specs.Trimmed.{trimmed_refusal, trimmed_listed_by, trimmed_cut_rows}
use Rattle.listing.proofs.Call.{answered-listing}
use Rattle.listing.proofs.Trimmed.{refusal-untrimmed, refusal-ordinary, answers-ordinary, trimmed-refusal}
use Rattle.demands.specs.Trimmed.{SameListing, TrimmedListed}
use Rattle.demands.proofs.DemandThree.{demand-three}

-- Where the refusal is that of the list call, so is all that the call does.
same : (N : Network) (cuts sides : List ℕ) → trimmed_refusal N cuts sides ≡ list_refusal N cuts sides → SameListing N cuts sides
same N cuts sides e = answered-listing (answers-ordinary N cuts sides e)

rows : (N : Network) (cuts sides : List ℕ) → (trimmed_listed_by N cuts sides).refusal ≡ 0 → SameListing N cuts sides
rows N cuts sides none = same N cuts sides (refusal-ordinary N cuts sides (λ e. omega (arith, trimmed-refusal N cuts sides, none)))

-- What the test says of a sound network.
is-trimmed : (N : Network) → Sound N → Trimmed N → trimmed N ≡ true
is-trimmed N S t = is_true (trimmed N) ((trimmed-iff N S).1 t)

takes : (N : Network) → Stored N → Trimmed N → (cuts sides : List ℕ) → SameListing N cuts sides
takes N stored t cuts sides =
    same N cuts sides (refusal-ordinary N cuts sides (λ e.
    let (ok, lacks) = (refusal-untrimmed N cuts sides).0 e in
    true≢false (sym (is-trimmed N (accepted-sound N stored ok) t) ∙ lacks)))

-- ---- equal lists

-- A list by the call is one by the list call, and so compared with another list as that is.
either-lists : (N M : Network) → Stored N → Stored M → (cuts sides cuts' sides' : List ℕ)
    → (trimmed_listed_by N cuts sides).refusal ≡ 0 → (listed_by M cuts' sides').refusal ≡ 0
    → SameList (trimmed_listed_by N cuts sides).count (trimmed_cut_rows N cuts sides) (listed_by M cuts' sides').count (cut_rows_after M cuts' sides')
    ↔ SameMinpaths N M
either-lists N M stored stored' cuts sides cuts' sides' none none' =
    let one = rows N cuts sides none in
    rw (one.count, one.cut-rows) (demand-three.lists N M stored stored' cuts sides cuts' sides' (sym one.refusal ∙ none) none')

lists : (N M : Network) → Stored N → Stored M → (cuts sides cuts' sides' : List ℕ)
    → (trimmed_listed_by N cuts sides).refusal ≡ 0 → (trimmed_listed_by M cuts' sides').refusal ≡ 0
    → SameList (trimmed_listed_by N cuts sides).count (trimmed_cut_rows N cuts sides) (trimmed_listed_by M cuts' sides').count (trimmed_cut_rows M cuts' sides')
    ↔ SameMinpaths N M
lists N M stored stored' cuts sides cuts' sides' none none' =
    let other = rows M cuts' sides' none' in
    rw (other.count, other.cut-rows) (either-lists N M stored stored' cuts sides cuts' sides' none (sym other.refusal ∙ none'))

-- ---- which plans are trimmed

module _ (N : Network) (stored : Stored N) (ok : fault_of N ≡ 0) where
  sound : Sound N
  sound = accepted-sound N stored ok

  part : Trimmed N ↔ (((relevant_of N).nodes.0 ≡ 2 ^ N.nodes - 1) × ((relevant_of N).edges.0 ≡ present N))
  part =
      let none = part-refusal N (relevant_of N) refl ∙ ok in
      rw (part-nodes N (relevant_of N) refl none, part-edges N (relevant_of N) refl none)
      (Iff.trans (Iff.symm (trimmed-iff N sound)) (trimmed-whole N))

  loop : (k v : ℕ) → Loop N k v → (cuts sides : List ℕ) → (trimmed_listed_by N cuts sides).refusal ≡ 26
  loop k v l cuts sides =
      trimmed-refusal N cuts sides ∙ (refusal-untrimmed N cuts sides).1 (ok, trimmed-loop N sound (λ none. none k v l))

  -- Of two points each is a terminal.
  two-points : N.nodes ≡ 2 → present N ≡ 0 → Trimmed N
  two-points two bare = record {
    nodes = λ v h. go v h (ℕ_discrete v N.source);
    edges = λ e m. absurd (not-zero e (rw bare at m));
  }
    where
      go : (v : ℕ) → v < N.nodes → Dec (v ≡ N.source) → RelevantNode N v
      go v h (yes e) = inl e
      go v h (no n) = inr (inl (omega (arith, sound.differ, sound.source-lt, sound.sink-lt)))

  -- ---- without a route

  module _ (apart : (r : ℕ) → Minpath N r → ⊥) where
    -- The terminals alone are relevant.
    terminal : (v : ℕ) → RelevantNode N v → (v ≡ N.source) ⊎ (v ≡ N.sink)
    terminal v (inl e) = inl e
    terminal v (inr (inl e)) = inr e
    terminal v (inr (inr (r, (m, i)))) = absurd (apart r m)

    -- Of three points one is neither.
    third : 2 < N.nodes → ((v : ℕ) → v < N.nodes → (v ≡ N.source) ⊎ (v ≡ N.sink)) → ⊥
    third h ends = go (ends 0 (omega arith)) (ends 1 (omega arith)) (ends 2 (omega arith))
      where
        go : (0 ≡ N.source) ⊎ (0 ≡ N.sink) → (1 ≡ N.source) ⊎ (1 ≡ N.sink) → (2 ≡ N.source) ⊎ (2 ≡ N.sink) → ⊥
        go (inl a) (inl b) c = omega arith
        go (inl a) (inr b) (inl c) = omega arith
        go (inl a) (inr b) (inr c) = omega arith
        go (inr a) (inl b) (inl c) = omega arith
        go (inr a) (inl b) (inr c) = omega arith
        go (inr a) (inr b) c = omega arith

    no-route : Trimmed N → (N.nodes ≡ 2) × (present N ≡ 0)
    no-route t =
        let few : 2 < N.nodes → ⊥ = λ h. third h (λ v l. terminal v (t.nodes v l)) in (
          omega (arith, few, sound.differ, sound.source-lt, sound.sink-lt),
          elim (empty-or-member (present N)) [ inl none ↦ none | inr m ↦ absurd (apart _ (t.edges m.0 m.1).1.0) ],
        )

pub trimmed-listed : TrimmedListed
trimmed-listed = record {
  rows = rows;
  trimmed = takes;
  lists = lists;
  either-lists = either-lists;
  part = part;
  loop = loop;
  two-points = two-points;
  no-route = no-route;
}
