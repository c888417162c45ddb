-- The boundary of a source side is a mincut that has this source side, and each mincut is the boundary of its own source side.
-- Assumes, for a mincut, that the edges have numbers below 64 and ends below the node count.
use mathlib.Core.Path.{◌≡◌, refl, ◌∙◌}
use mathlib.Core.List.Memᴰ
use mathlib.Core.List.{List, [], ◌∷◌, ◌++◌, Memᴰ, append-nil}
use mathlib.Core.Logic.Dec
use mathlib.Core.Logic.{◌⊎◌, inl, inr, ◌↔◌}
use Prim.Native.Nat.{ℕ}
use Rattle.bitset.specs.Members.{◌⊆◌, ◌∖◌, ◌∈◌}
use Rattle.bitset.proofs.Subsets.{⊆-antisym}
use Rattle.bitset.proofs.Sets.{∈-dec, in-minus}
use Rattle.network.specs.Record.{present}
use Rattle.network.specs.declared.Network.{Network}
use Rattle.graph.specs.Reach.{Bounded}
use Rattle.graph.specs.Paths.{Joins, Hop, Leads, nodes_from, edges_of, Minpath}
use Rattle.graph.specs.Cuts.{Cut, Mincut, RelevantEdge, RelevantNode, OnSourceSide}
use Rattle.graph.specs.SourceSides.{Inside, Beyond, SourceSide, Crosses, Boundary}
use Rattle.graph.proofs.Walks.{reached, edges-nil, edges-cons, edges-append, nodes-append, joins-sym, joins-ends, end-met, ends-met, leads-append, split, shorten, edges-present, leads-only}
use Rattle.graph.proofs.Nodes.{nodes-within, carried}
use Rattle.graph.proofs.Cuts.{cut-connected, cut-transversal, mincut-private}
use Rattle.graph.proofs.Inside.{inside-append, inside_back, hangs-at}
use Rattle.graph.proofs.RelevantNodes.{end-relevant}
use Rattle.graph.proofs.RelevantEdges.{path-relevant}

-- ---- where a walk leaves a set

-- The last step of the walk p from u to v that leaves s: along `edge`, and on outside s by `rest`.
record LastCrossing (N : Network) (s u : ℕ) (p : List Hop) (v : ℕ) : Type 0 where
  edge : ℕ
  takes : edge ∈ edges_of p
  crossing : Crosses N s edge
  rest : List Hop
  leads : Leads N crossing.far rest v
  stays : (x : ℕ) → Memᴰ x (nodes_from crossing.far rest) → Memᴰ x (nodes_from u p) × (x ∈ s → ⊥)

module _ (N : Network) (s : ℕ) where
  -- A walk stays outside s, or leaves it for the last time, if it ends outside.
  outside-or-crosses : (p : List Hop) (u v : ℕ) → Leads N u p v → (v ∈ s → ⊥)
      → ((x : ℕ) → Memᴰ x (nodes_from u p) → x ∈ s → ⊥) ⊎ LastCrossing N s u p v
  unfolding Leads
  outside-or-crosses [] u v h out = inl (λ x m i. out (rw (Memᴰ.eq_of_singleton m ∙ h) at i))
  outside-or-crosses (t ∷ p) u v h out = go (outside-or-crosses p t.to v h.1 out) (∈-dec u s)
    where
      go : ((x : ℕ) → Memᴰ x (nodes_from t.to p) → x ∈ s → ⊥) ⊎ LastCrossing N s t.to p v → Dec (u ∈ s)
          → ((x : ℕ) → Memᴰ x (nodes_from u (t ∷ p)) → x ∈ s → ⊥) ⊎ LastCrossing N s u (t ∷ p) v
      go (inr l) d = inr (record {
        edge = l.edge;
        takes = (edges-cons t p l.edge).1 (inl l.takes);
        crossing = l.crossing;
        rest = l.rest;
        leads = l.leads;
        stays = λ x m. (Memᴰ.tail (l.stays x m).0, (l.stays x m).1);
      })
      go (inl off) (yes i) = inr (record {
        edge = t.edge;
        takes = (edges-cons t p t.edge).1 (inr refl);
        crossing = record { near = u; far = t.to; joins = h.0; near-in = i; far-out = off t.to (Memᴰ.head refl) };
        rest = p;
        leads = h.1;
        stays = λ x m. (Memᴰ.tail m, off x m);
      })
      go (inl off) (no n) =
          inl (λ x m. elim (Memᴰ.cases_cons m) [ inl e ↦ λ i. n (rw e at i) | inr m' ↦ off x m' ])

  -- A walk from a node of s to one outside leaves s.
  last-crossing : (p : List Hop) (u v : ℕ) → Leads N u p v → u ∈ s → (v ∈ s → ⊥) → LastCrossing N s u p v
  last-crossing p u v h i out =
      elim (outside-or-crosses p u v h out) [ inl off ↦ absurd (off u (Memᴰ.head refl) i) | inr l ↦ l ]

-- ---- from a source side to its mincut

-- No walk from source to sink avoids a cut.
cut-meets-walk : (N : Network) (d : ℕ) → Cut N d → (p : List Hop) → Leads N N.source p N.sink
    → ((e : ℕ) → e ∈ edges_of p → e ∈ d → ⊥) → ⊥
cut-meets-walk N d cut p h off =
    ((cut-connected N d).0 cut).1 (
      p,
      leads-only N (present N ∖ d) p N.source N.sink h
          (λ e i. (in-minus (present N) d e).1 (edges-present N p N.source N.sink h e i, off e i)),
    )

module _ (N : Network) (s c : ℕ) (side : SourceSide N s) (boundary : Boundary N s c) where
  -- The boundary is a cut: every minpath leaves s somewhere.
  side_cut : Cut N c
  unfolding Joins
  side_cut =
      (cut-transversal N c).1 (
        λ e i. ((boundary e).0 i).1.joins.0,
        λ r m.
            let l = last-crossing N s m.steps N.source N.sink m.leads side.source side.sink in
            let i : l.edge ∈ r = rw m.members at l.takes in
            (l.edge, (i, (boundary l.edge).1 ((r, (m, i)), l.crossing))),
      )

  -- A walk that stays inside s, or stays outside, takes no edge of the boundary.
  one-sided-uncut : (p : List Hop) (u v : ℕ) → Leads N u p v
      → ((x y : ℕ) → Memᴰ x (nodes_from u p) → Memᴰ y (nodes_from u p) → x ∈ s → y ∈ s)
      → (e : ℕ) → e ∈ edges_of p → e ∈ c → ⊥
  one-sided-uncut p u v h same e m i =
      let k = ((boundary e).0 i).1 in
      k.far-out (same k.near k.far (ends-met N p u v e k.near k.far h m k.joins)
      (ends-met N p u v e k.far k.near h m (joins-sym N e k.near k.far k.joins)) k.near-in)

  -- A cut inside the boundary is all of it: past an edge that it lacks leads a walk from source to sink.
  side-least : (d : ℕ) → d ⊆ c → Cut N d → (e : ℕ) → e ∈ c → (e ∈ d → ⊥) → ⊥
  unfolding Leads
  side-least d sub cut e i off =
      let b = (boundary e).0 i in
      let k = b.1 in
      let back-over : Joins N e k.far k.near = joins-sym N e k.near k.far k.joins in
      let far : Beyond N s k.far = (end-relevant N e k.far k.near b.0 back-over, k.far-out) in
      let p = side.inside N.source k.near side.source k.near-in in
      let q = side.outside k.far N.sink far (inr (inl refl), side.sink) in
      let step : Hop = record { edge = e; to = k.far } in
      cut-meets-walk N d cut (p.steps ++ step ∷ q.steps)
      (leads-append N p.steps (step ∷ q.steps) N.source k.near N.sink p.leads (k.joins, q.leads))
      (λ f m j. elim ((edges-append p.steps (step ∷ q.steps) f).0 m) [
        | inl n ↦ one-sided-uncut p.steps N.source k.near p.leads (λ x y a b t. p.stays y b) f n (sub f j)
        | inr n ↦
            elim ((edges-cons step q.steps f).0 n) [
              | inl o ↦ one-sided-uncut q.steps k.far N.sink q.leads (λ x y a b t. absurd ((q.stays x a).1 t)) f o (sub f j)
              | inr o ↦ off (rw o at j)
            ]
      ])

  -- The boundary of a source side is a mincut.
  pub side-mincut : Mincut N c
  side-mincut = record {
    cut = side_cut;
    least = λ d sub cut. ⊆-antisym d c sub (λ e i. (Dec.not-not (∈-dec e d)).0 (side-least d sub cut e i));
  }

  -- A node of s lies on the source side of the boundary.
  side-on : (v : ℕ) → v ∈ s → OnSourceSide N c v
  side-on v i =
      let p = side.inside N.source v side.source i in
      let q = shorten N p.steps N.source v p.leads in
      let stays : (x : ℕ) → Memᴰ x (nodes_from N.source q.steps) → x ∈ s =
      λ x m. p.stays x (nodes-within N.source q.steps p.steps q.within x m) in
      record {
        relevant = side.relevant v i;
        steps = q.steps;
        leads = q.leads;
        kept = λ e m. (
          path-relevant N q.steps N.source v q.leads q.simple (λ x n. side.relevant x (stays x n)) e m,
          one-sided-uncut q.steps N.source v q.leads (λ x y a b t. stays y b) e m,
        );
      }

  -- The source side of the boundary lies in s.
  on-side : (v : ℕ) → OnSourceSide N c v → v ∈ s
  on-side v o =
      carried N (λ x. x ∈ s) o.steps N.source v o.leads
      (λ e m x y j i. (Dec.not-not (∈-dec y s)).0 (λ n. (o.kept e m).1 ((boundary e).1 (
        (o.kept e m).0,
        record {
          near = x;
          far = y;
          joins = j;
          near-in = i;
          far-out = n;
        },
      )))) side.source v (end-met N o.steps N.source v o.leads)

  -- The source side of the boundary of s is s.
  pub boundary-side : (v : ℕ) → (v ∈ s) ↔ OnSourceSide N c v
  boundary-side v = (side-on v, on-side v)

-- ---- from a mincut to its source side

module _ (N : Network) (B : Bounded N) (s c : ℕ) (mincut : Mincut N c) (on : (v : ℕ) → (v ∈ s) ↔ OnSourceSide N c v) where
  -- Over a relevant edge outside c the source side goes on.
  goes_on : (e x y : ℕ) → Joins N e x y → RelevantEdge N e → (e ∈ c → ⊥) → x ∈ s → y ∈ s
  unfolding Leads
  goes_on e x y j r off i =
      let o = (on x).0 i in
      let step : List Hop = record { edge = e; to = y } ∷ [] in
      (on y).1 (record {
        relevant = end-relevant N e y x r (joins-sym N e x y j);
        steps = o.steps ++ step;
        leads = leads-append N o.steps step N.source x y o.leads (j, refl);
        kept = λ f m. elim ((edges-append o.steps step f).0 m) [
          | inl n ↦ o.kept f n
          | inr n ↦ elim ((edges-cons (record { edge = e; to = y }) [] f).0 n) [ inl k ↦ absurd (edges-nil f k) | inr q ↦ (rw q r, rw q off) ]
        ];
      })

  -- So a relevant edge that crosses is in c.
  crossing-cut : (e : ℕ) → RelevantEdge N e → Crosses N s e → e ∈ c
  crossing-cut e r k = (Dec.not-not (∈-dec e c)).0 (λ off. k.far-out (goes_on e k.near k.far k.joins r off k.near-in))

  -- Source is on the source side.
  source_in : N.source ∈ s
  unfolding Leads
  source_in = (on N.source).1 (record { relevant = inl refl; steps = []; leads = refl; kept = λ e m. absurd (edges-nil e m) })

  -- Sink is not.
  sink-out : N.sink ∈ s → ⊥
  sink-out i = let o = (on N.sink).0 i in cut-meets-walk N c mincut.cut o.steps o.leads (λ e m. (o.kept e m).1)

  -- A node of the source side has a walk to source inside it.
  to-source : (v : ℕ) → v ∈ s → Inside N (λ x. x ∈ s) v N.source
  to-source v i =
      let o = (on v).0 i in
      inside_back N (λ x. x ∈ s) N.source v (record {
        steps = o.steps;
        leads = o.leads;
        stays = carried N (λ x. x ∈ s) o.steps N.source v o.leads
            (λ e m x y j. goes_on e x y j (o.kept e m).0 (o.kept e m).1) source_in;
      })

  -- Where the first part of a minpath's path leaves the source side for the last time, it takes an edge of c and goes on outside.
  leaves-by-cut : (r : ℕ) (m : Minpath N r) (p q : List Hop) (v : ℕ) → p ++ q ≡ m.steps → (l : LastCrossing N s N.source p v)
      → (l.edge ∈ r) × (l.edge ∈ c) × Inside N (Beyond N s) l.crossing.far v
  leaves-by-cut r m p q v whole l =
      let i : l.edge ∈ r = rw (← m.members, ← whole) ((edges-append p q l.edge).1 (inl l.takes)) in (
        i,
        crossing-cut l.edge (r, (m, i)) l.crossing,
        record {
          steps = l.rest;
          leads = l.leads;
          stays = λ x a.
              let b = l.stays x a in
              (inr (inr (r, (m, rw (← whole, nodes-append N.source p q) (Memᴰ.append_left (reached q) b.0)))), b.1);
        },
      )

  -- An edge of c leaves the source side, and its far end has a walk to the sink outside.
  cut-leaves : (e : ℕ) → e ∈ c → (k : Crosses N s e) × RelevantEdge N e × Inside N (Beyond N s) k.far N.sink
  cut-leaves e i =
      let n = mincut-private N B c mincut e i in
      let m = n.1.0 in
      let l = last-crossing N s m.steps N.source N.sink m.leads source_in sink-out in
      let w = leaves-by-cut n.0 m m.steps [] N.sink (append-nil m.steps) l in
      let here : (k : Crosses N s l.edge) × RelevantEdge N l.edge × Inside N (Beyond N s) k.far N.sink =
      (l.crossing, (n.0, (m, w.0)), w.2) in
      rw (n.1.2 l.edge w.0 w.1) at here

  -- So c is the boundary of its source side.
  pub mincut-boundary : Boundary N s c
  mincut-boundary e = (λ i. let w = cut-leaves e i in (w.1, w.0), λ b. crossing-cut e b.0 b.1)

  -- However the edge is looked at, its far end has a walk to the sink outside.
  far-to-sink : (e : ℕ) → e ∈ c → (k : Crosses N s e) → Inside N (Beyond N s) k.far N.sink
  far-to-sink e i k =
      let w = cut-leaves e i in
      elim (joins-ends N e w.0.near w.0.far k.far k.near w.0.joins (joins-sym N e k.near k.far k.joins)) [
        | inl q ↦ absurd (k.far-out (rw q w.0.near-in))
        | inr q ↦ rw q w.2
      ]

  -- A relevant node outside has a walk to the sink outside: back along a minpath's path to the edge where it left, and on from there.
  to-sink : (v : ℕ) → RelevantNode N v → (v ∈ s → ⊥) → Inside N (Beyond N s) v N.sink
  unfolding Leads
  to-sink v (inl e) out = absurd (out (rw e source_in))
  to-sink v (inr (inl e)) out = record { steps = []; leads = e; stays = λ x m. rw (Memᴰ.eq_of_singleton m) (inr (inl e), out) }
  to-sink v (inr (inr (r, (m, i)))) out =
      let k = split N m.steps N.source N.sink v m.leads i in
      let l = last-crossing N s k.before N.source v k.leads-to source_in out in
      let w = leaves-by-cut r m k.before k.after v k.whole l in
      inside-append N (Beyond N s) v l.crossing.far N.sink (inside_back N (Beyond N s) l.crossing.far v w.2)
      (far-to-sink l.edge w.1 l.crossing)

  -- The source side of a mincut has the form of one.
  pub mincut-side : SourceSide N s
  mincut-side = record {
    relevant = λ v i. ((on v).0 i).relevant;
    source = source_in;
    sink = sink-out;
    inside = hangs-at N (λ x. x ∈ s) N.source to-source;
    outside = hangs-at N (Beyond N s) N.sink (λ v b. to-sink v b.0 b.1);
  }
