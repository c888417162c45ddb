-- Cuts: the mincuts are the least sets of edges that meet every minpath, the two families fix each other, a set of edges silences exactly if
-- it holds a mincut, and the tests are right.
-- Assumes, where something is decided, that the edges have numbers below 64 and ends below the node count.
use mathlib.Core.Path.{◌≡◌, sym}
use mathlib.Core.Bool.{Bool, true, false, not}
use mathlib.Core.List.{List, [], ◌∷◌}
use mathlib.Core.Logic.Dec
use mathlib.Core.Logic.Iff
use mathlib.Core.Logic.{◌↔◌}
use Prim.Native.Nat.{ℕ, ◌^◌}
use denote.Floats.{is_true, passes}
use lib.Bits.{bit_and}
use lib.Dec.{T, eqb}
use Rattle.sequences.specs.Words.{every}
use Rattle.sequences.proofs.Words.{T-every}
use Rattle.bitset.specs.Members.{has, ◌⊆◌, ◌∖◌, members, ◌∈◌}
use Rattle.bitset.proofs.Subsets.{⊆-trans, same_test, subset-and}
use Rattle.sequences.proofs.Tests.{T_not, T-then, T-eqb}
use Rattle.bitset.proofs.Sets.{∈-dec, in_and, in-minus, minus-⊆, member-lt}
use Rattle.bitset.proofs.MemberList.{in_members}
use Rattle.network.specs.Record.{present}
use Rattle.network.specs.declared.Network.{Network}
use Rattle.graph.specs.Paths.{Joins, Hop, Leads, Minpath, Connected, SameMinpaths}
use Rattle.graph.specs.Cuts.{only, without, Silenced, Cut, Mincut, HoldsMincut}
use Rattle.graph.specs.Reach.{reach_of, Bounded}
use Rattle.graph.specs.CutTests.{reaches, severed, cut_test, all_needed, mincut_test, Settled}
use Rattle.graph.proofs.Minpaths.{minpath-present, walk-minpath, minpath-only, connected-minpath, minpath-least}
use Rattle.graph.proofs.Reach.{bounded-only, in-reach-single}
use Rattle.bitset.specs.Families.{Holds, Transversal, Blocker}
use Rattle.bitset.proofs.Families.{Decided, least-drop, transversal-up, transversal-same, transversal-rest, blocker-same, holds-inside, blocker-inside, blocker-none, transversal-shrink, meets-blocker, blocker-private, blocker-blocker, same-blocker}

-- ---- cuts are transversals

module _ (N : Network) where
  -- Without the edges of d no minpath is left exactly if the source is not connected to the sink there.
  silenced-connected : (d : ℕ) → Silenced N d ↔ (Connected (without N d) N.source N.sink → ⊥)
  unfolding only
  silenced-connected d = (
    λ s w. let m = walk-minpath (without N d) w.0 w.1 in s m.0 m.1.0,
    λ n r m. n (m.steps, m.leads),
  )

  -- Without the edges of d no minpath is left exactly if d meets every minpath.
  silenced-transversal : (d : ℕ) → Silenced N d ↔ Transversal (Minpath N) d
  silenced-transversal d =
      let rest = transversal-rest (Minpath N) (present N) (minpath-present N) d in
      let only-rest = minpath-only N (present N ∖ d) (minus-⊆ (present N) d) in
      (λ s. rest.1 (λ h. s h.0 ((only-rest h.0).1 h.1)), λ v r m. rest.0 v (r, (only-rest r).0 m))

  -- What silences does so as it grows.
  pub silenced-mono : (c d : ℕ) → c ⊆ d → Silenced N c → Silenced N d
  silenced-mono c d h s = (silenced-transversal d).1 (transversal-up (Minpath N) c d h ((silenced-transversal c).0 s))

  -- All edges together do, where source and sink differ: no step is left.
  silenced-all : (N.source ≡ N.sink → ⊥) → Silenced N (present N)
  unfolding Leads Joins only
  silenced-all differ r m = go m.steps m.leads
    where
      go : (p : List Hop) → Leads (without N (present N)) N.source p N.sink → ⊥
      go [] e = differ e
      go (s ∷ p) l = let k = (in-minus (present N) (present N) s.edge).0 l.0.0 in k.1 k.0

  -- A cut is a set of present edges that silences.
  cut-silenced : (c : ℕ) → Cut N c ↔ ((c ⊆ present N) × Silenced N c)
  cut-silenced c = (λ k. (k.present, k.severs), λ k. record { present = k.0; severs = k.1 })

  -- A set of present edges is a cut exactly if without it the source is not connected to the sink.
  pub cut-connected : (c : ℕ) → Cut N c ↔ ((c ⊆ present N) × (Connected (without N c) N.source N.sink → ⊥))
  cut-connected c = Iff.trans (cut-silenced c) (Iff.and Iff.rfl (silenced-connected c))

  -- A set of present edges is a cut exactly if it meets every minpath.
  pub cut-transversal : (c : ℕ) → Cut N c ↔ ((c ⊆ present N) × Transversal (Minpath N) c)
  cut-transversal c = Iff.trans (cut-silenced c) (Iff.and Iff.rfl (silenced-transversal c))

  -- The mincuts are the blocker of the minpaths.
  pub mincut-blocker : (c : ℕ) → Mincut N c ↔ Blocker (Minpath N) c
  mincut-blocker c = (
    λ m. record {
      has = ((cut-transversal c).0 m.cut).1;
      least = λ d h v. m.least d h ((cut-transversal d).1 (⊆-trans d c (present N) h m.cut.present, v));
    },
    λ b. record {
      cut = (cut-transversal c).1 (blocker-inside (Minpath N) (present N) (minpath-present N) c b, b.has);
      least = λ d h k. b.least d h ((cut-transversal d).0 k).1;
    },
  )

  -- A cut is a mincut exactly if none of its members can be dropped.
  pub mincut-drop : (c : ℕ) → Cut N c → Mincut N c ↔ ((e : ℕ) → e ∈ c → Cut N (c ∖ 2 ^ e) → ⊥)
  mincut-drop c k =
      let drop = least-drop (Transversal (Minpath N)) (transversal-up (Minpath N)) c ((cut-transversal c).0 k).1 in
      let inside : (e : ℕ) → (c ∖ 2 ^ e) ⊆ present N = λ e. ⊆-trans (c ∖ 2 ^ e) c (present N) (minus-⊆ c (2 ^ e)) k.present in (
        λ m e n d. drop.0 ((mincut-blocker c).0 m) e n ((cut-transversal (c ∖ 2 ^ e)).0 d).1,
        λ f. (mincut-blocker c).1 (drop.1 (λ e n v. f e n ((cut-transversal (c ∖ 2 ^ e)).1 (inside e, v)))),
      )

  -- Without a minpath the empty set is the only mincut.
  pub mincut-none : ((r : ℕ) → Minpath N r → ⊥) → (c : ℕ) → Mincut N c ↔ (c ≡ 0)
  mincut-none none c = Iff.trans (mincut-blocker c) (blocker-none (Minpath N) none c)

  -- ---- duality

  module _ (B : Bounded N) where
    -- A set of present edges holds a minpath exactly if over it the source reaches the sink.
    pub minpath-reach : (h : ℕ) → h ⊆ present N → T (reaches N h) ↔ Holds (Minpath N) h
    minpath-reach h l = Iff.trans (in-reach-single (only N h) (bounded-only N B h l) N.source N.sink) (connected-minpath N h l)

    -- Whether a set holds a minpath is decided.
    pub minpaths-decided : Decided (Minpath N) (present N)
    minpaths-decided = record {
      inside = minpath-present N;
      decide = λ h.
          let k : ℕ = bit_and h (present N) in
          let l : k ⊆ present N = λ e m. ((in_and h (present N) e).0 m).1 in
          let holds = Iff.trans (minpath-reach k l) (holds-inside (Minpath N) (present N) (minpath-present N) h) in
          Dec.of_iff holds (∈-dec N.sink (reach_of (only N k) (2 ^ N.source)));
    }

    -- A cut holds a mincut.
    pub cut-shrink : (c : ℕ) → Cut N c → (m : ℕ) × ((m ⊆ c) × Mincut N m)
    cut-shrink c k =
        let r = transversal-shrink minpaths-decided c ((cut-transversal c).0 k).1 in
        (r.0, (r.1.0, (mincut-blocker r.0).1 r.1.1))

    -- A set of edges holds a mincut exactly if it silences.
    pub holds-silenced : (d : ℕ) → HoldsMincut N d ↔ Silenced N d
    holds-silenced d = (
      λ h. silenced-mono h.0 d h.1.1 h.1.0.cut.severs,
      λ s.
          let r = transversal-shrink minpaths-decided d ((silenced-transversal d).0 s) in
          (r.0, ((mincut-blocker r.0).1 r.1.1, r.1.0)),
    )

    -- A set meets every mincut exactly if it holds a minpath.
    pub meets-mincuts : (h : ℕ) → Transversal (Mincut N) h ↔ Holds (Minpath N) h
    meets-mincuts h = Iff.trans (transversal-same (Mincut N) (Blocker (Minpath N)) mincut-blocker h) (meets-blocker minpaths-decided h)

    -- Each member of a mincut is the only edge that the mincut shares with some minpath.
    pub mincut-private : (c : ℕ) → Mincut N c → (e : ℕ) → e ∈ c
        → (r : ℕ) × (Minpath N r × (e ∈ r) × ((k : ℕ) → k ∈ r → k ∈ c → k ≡ e))
    mincut-private c m = blocker-private minpaths-decided c ((mincut-blocker c).0 m)

    -- The minpaths are the blocker of the mincuts.
    pub minpath-blocker : (r : ℕ) → Minpath N r ↔ Blocker (Mincut N) r
    minpath-blocker r =
        Iff.trans (blocker-blocker minpaths-decided (minpath-least N) r)
        (blocker-same (Blocker (Minpath N)) (Mincut N) (λ c. Iff.symm (mincut-blocker c)) r)

-- Two networks have the same minpaths exactly if they have the same mincuts.
pub same-minpaths : (N M : Network) → Bounded N → Bounded M → SameMinpaths N M ↔ ((c : ℕ) → Mincut N c ↔ Mincut M c)
same-minpaths N M B C =
    let same = same-blocker (minpaths-decided N B) (minpaths-decided M C) (minpath-least N) (minpath-least M) in (
      λ s c. Iff.trans (mincut-blocker N c) (Iff.trans (same.1 s c) (Iff.symm (mincut-blocker M c))),
      λ s. same.0 (λ c. Iff.trans (Iff.symm (mincut-blocker N c)) (Iff.trans (s c) (mincut-blocker M c))),
    )

-- ---- the tests

module _ (N : Network) (B : Bounded N) where
  -- The test of what a set of edges severs tells whether it silences.
  pub severed-silenced : (d : ℕ) → T (severed N d) ↔ Silenced N d
  unfolding severed
  severed-silenced d =
      let B' = bounded-only N B (present N ∖ d) (minus-⊆ (present N) d) in
      Iff.trans (T_not (has (reach_of (without N d) (2 ^ N.source)) N.sink))
      (Iff.trans (Iff.not (in-reach-single (without N d) B' N.source N.sink)) (Iff.symm (silenced-connected N d)))

  -- What severs does so as it grows.
  pub severed-mono : (c d : ℕ) → c ⊆ d → T (severed N c) → T (severed N d)
  severed-mono c d h t = (severed-silenced d).1 (silenced-mono N c d h ((severed-silenced c).0 t))

  -- So what severs and has grown severs, and what does not and has shrunk does not.
  pub severed-settled : (b : Bool) (c d : ℕ) → Settled b c d → b ≡ severed N c → b ≡ severed N d
  severed-settled true c d h e = sym (is_true (severed N d) (severed-mono c d h (passes (severed N c) (sym e))))
  severed-settled false c d h e = sym (same_test (severed N d) false (λ t. rw (← e) at (severed-mono d c h t)) absurd)

  -- All edges sever.
  pub severed-all : (N.source ≡ N.sink → ⊥) → severed N (present N) ≡ true
  severed-all differ = is_true (severed N (present N)) ((severed-silenced (present N)).1 (silenced-all N differ))

  -- Of a set of present edges, it tells whether it is a cut.
  pub severed-iff : (c : ℕ) → c ⊆ present N → T (severed N c) ↔ Cut N c
  severed-iff c l = (
    λ t. record { present = l; severs = (severed-silenced c).0 t },
    λ k. (severed-silenced c).1 k.severs,
  )

  -- The test of a cut is right.
  pub cut_test-iff : (c : ℕ) → T (cut_test N c) ↔ Cut N c
  unfolding cut_test
  cut_test-iff c =
      let within = Iff.trans (T-eqb (bit_and c (present N)) c) (Iff.symm (subset-and c (present N))) in
      let both = T-then (eqb (bit_and c (present N)) c) (severed N c) in (
        λ t. (severed-iff c (within.0 (both.0 t).0)).0 (both.0 t).1,
        λ k. both.1 (within.1 k.present, (severed-iff c k.present).1 k),
      )

  -- The test of a mincut is right.
  pub mincut_test-iff : (c : ℕ) → T (mincut_test N c) ↔ Mincut N c
  unfolding mincut_test all_needed
  mincut_test-iff c =
      let kept : ℕ → Bool = λ e. not (severed N (c ∖ 2 ^ e)) in
      let both = T-then (cut_test N c) (every kept (members 64 c)) in
      let all = T-every kept (members 64 c) in
      let dropped : c ⊆ present N → (e : ℕ) → T (severed N (c ∖ 2 ^ e)) ↔ Cut N (c ∖ 2 ^ e) =
      λ l e. severed-iff (c ∖ 2 ^ e) (⊆-trans (c ∖ 2 ^ e) c (present N) (minus-⊆ c (2 ^ e)) l) in (
        λ t.
            let k = (cut_test-iff c).0 (both.0 t).0 in
            (mincut-drop N c k).1 (λ e m d.
            let listed = (in_members 64 c e).1 (m, member-lt 64 (present N) e B.edges (k.present e m)) in
            (T_not (severed N (c ∖ 2 ^ e))).0 (all.0 (both.0 t).1 e listed) ((dropped k.present e).1 d)),
        λ m.
            let drop = (mincut-drop N c m.cut).0 m in
            both.1 (
              (cut_test-iff c).1 m.cut,
              all.1 (λ e i. (T_not (severed N (c ∖ 2 ^ e))).1 (λ t.
                  drop e ((in_members 64 c e).0 i).0 ((dropped m.cut.present e).0 t))),
            ),
      )
