-- What is connected: walks joined, turned round, taken along to another network, and led over one edge of a cut.
-- Assumes nothing.
--
--   Over N c e u v       a walk from u to v without the edges of c, but for one step along e
use mathlib.Core.Path.{◌≡◌, refl, ap}
use mathlib.Core.List.{List, [], ◌∷◌, ◌++◌, map}
use mathlib.Core.Logic.{◌⊎◌, inl, inr}
use Prim.Native.Nat.{ℕ}
use Rattle.bitset.specs.Members.{◌⊆◌, ◌∖◌, ◌∈◌}
use Rattle.bitset.proofs.Sets.{∈-dec, in-minus}
use Rattle.network.specs.Record.{present}
use Rattle.network.specs.declared.Network.{Network}
use Rattle.graph.specs.Paths.{Joins, Hop, Leads, edges_of, Connected}
use Rattle.graph.specs.Cuts.{only, without}
use Rattle.graph.proofs.Walks.{edges-cons, joins-sym, joins-ends, back, leads-append, leads-back, leads-mono}

module _ (N : Network) where
  -- To v and on from v.
  pub connected-append : (u v w : ℕ) → Connected N u v → Connected N v w → Connected N u w
  connected-append u v w (p, h) (q, k) = (p ++ q, leads-append N p q u v w h k)

  -- And back.
  pub connected-back : (u v : ℕ) → Connected N u v → Connected N v u
  connected-back u v (p, h) = (back u p, leads-back N p u v h)

  -- A node is connected to itself.
  pub connected-self : (u : ℕ) → Connected N u u
  unfolding Leads
  connected-self u = ([], refl)

  -- With fewer edges gone what was connected still is.
  pub connected-mono : (c d : ℕ) → c ⊆ d → (u v : ℕ) → Connected (without N d) u v → Connected (without N c) u v
  connected-mono c d part u v (p, h) =
      let more : (present N ∖ d) ⊆ (present N ∖ c) = λ k m.
      let i = (in-minus (present N) d k).0 m in (in-minus (present N) c k).1 (i.0, λ j. i.1 (part k j)) in
      (p, leads-mono N (present N ∖ d) (present N ∖ c) more p u v h)

  -- An edge that is not gone connects its ends.
  pub connected-edge : (c e u v : ℕ) → Joins N e u v → (e ∈ c → ⊥) → Connected (without N c) u v
  unfolding Leads Joins only
  connected-edge c e u v j off = (record { edge = e; to = v } ∷ [], (((in-minus (present N) c e).1 (j.0, off), j.1), refl))

-- ---- along to another network

module _ (N M : Network) (f : ℕ → ℕ) (along : (e u v : ℕ) → Joins N e u v → Joins M e (f u) (f v)) where
  -- The steps with their nodes renamed.
  abbrev renamed : List Hop → List Hop
  renamed = map (λ (s : Hop). record { edge = s.edge; to = f s.to })

  leads-along : (p : List Hop) (u v : ℕ) → Leads N u p v → Leads M (f u) (renamed p) (f v)
  unfolding Leads
  leads-along [] u v h = ap f h
  leads-along (s ∷ p) u v h = (along s.edge u s.to h.0, leads-along p s.to v h.1)

  -- Where every edge goes along, with its ends renamed, so does every walk.
  pub connected-along : (u v : ℕ) → Connected N u v → Connected M (f u) (f v)
  connected-along u v (p, h) = (renamed p, leads-along p u v h)

-- ---- over one edge

pub record Over (N : Network) (c e u v : ℕ) : Type 0 where
  pub near : ℕ
  pub far : ℕ
  pub joins : Joins N e near far
  pub before : Connected (without N c) u near
  pub after : Connected (without N c) far v

module _ (N : Network) (c e : ℕ) where
  -- One step more in front.
  over-step : (k u w v : ℕ) → Joins N k u w → Dec (k ∈ c) → (k ∈ c → k ≡ e) → Connected (without N c) w v ⊎ Over N c e w v
      → Connected (without N c) u v ⊎ Over N c e u v
  over-step k u w v j (no off) is (inl q) = inl (connected-append (without N c) u w v (connected-edge N c k u w j off) q)
  over-step k u w v j (no off) is (inr o) = inr (record {
    near = o.near;
    far = o.far;
    joins = o.joins;
    before = connected-append (without N c) u w o.near (connected-edge N c k u w j off) o.before;
    after = o.after;
  })
  over-step k u w v j (yes on) is (inl q) =
      inr (record { near = u; far = w; joins = rw (is on) at j; before = connected-self (without N c) u; after = q })
  over-step k u w v j (yes on) is (inr o) =
      let here : Joins N e u w = rw (is on) at j in
      elim (joins-ends N e u w o.far o.near here (joins-sym N e o.near o.far o.joins)) [
        | inl q ↦ inl (rw q at o.after)
        | inr q ↦ inr (record { near = u; far = w; joins = here; before = connected-self (without N c) u; after = rw q at o.after })
      ]

  -- A walk that takes no edge of c but e can do without e, or goes over it once.
  pub over-once : (p : List Hop) (u v : ℕ) → Leads N u p v → ((k : ℕ) → k ∈ edges_of p → k ∈ c → k ≡ e)
      → Connected (without N c) u v ⊎ Over N c e u v
  unfolding Leads
  over-once [] u v h alone = inl ([], h)
  over-once (s ∷ p) u v h alone =
      over-step s.edge u s.to v h.0 (∈-dec s.edge c) (alone s.edge ((edges-cons s p s.edge).1 (inr refl)))
      (over-once p s.to v h.1 (λ k m. alone k ((edges-cons s p k).1 (inl m))))
