-- Works during opening hours: which minutes the call counts, and what windows hold.
-- Assumes what the code's types say of the records.
use mathlib.Core.Bool.{false}
use mathlib.Core.List.{List, [], ◌∷◌}
use mathlib.Core.Logic.{◌⊎◌, inl, inr, ◌↔◌}
use mathlib.Core.Path.{◌≡◌, refl}
use Prim.Native.Nat.{ℕ, zero, suc, ◌≤◌, ◌<◌}
use borrow.Author.Tests.{ltb-true, leb-true, lt-ltb, le-leb}
use denote.Floats.{passes, is_true}
use lib.Dec.{T, leb, ltb}
use Rattle.sequences.specs.Counts.{Exactly}
use Rattle.sequences.proofs.Tests.{T-or, T_and}
use Rattle.sequences.proofs.Ranges.{count-steady, exactly-same}
use Rattle.bitset.specs.Members.{◌∈◌}
use Rattle.bitset.proofs.Sets.{not-zero}
use Rattle.bitset.proofs.Subsets.{zero-⊆}
use Rattle.network.specs.declared.Network.{Network}
use Rattle.network.specs.Record.{unless_refused, Stored}
use Rattle.graph.specs.Paths.{Minpath}
use Rattle.graph.specs.Cuts.{HoldsMincut}
use Rattle.graph.proofs.Cuts.{mincut-none}
use Rattle.listing.specs.List.{cut_rows_after}
use Rattle.windows.specs.Windows.{week, covers, is_open, out_at}
use Rattle.maintenance.specs.Outage.{silent_minute, silent_minutes, outage_refusal, outage_of, OutageMeans}
use Rattle.windows.proofs.Windows.{in-out}
use Rattle.maintenance.proofs.Meaning.{outage-means}
use Rattle.demands.specs.Works.{OpenWhile, WorksCounted}
use Rattle.demands.proofs.DemandTwo.{demand-two}
use Rattle.demands.proofs.Replay.{holds_row}

module _ (N : Network) (stored : Stored N) (o w : List ℕ) (none : (outage_of N o w).refusal ≡ 0) where
  means : OutageMeans N o w (outage_of N o w).refusal (outage_of N o w).minutes
  means = (outage-means N stored o w refl).1

  -- What is the same of the edges out.
  while : {P : ℕ → Type 0} → ((d : ℕ) → HoldsMincut N d ↔ P d) → OpenWhile N o w P
  while same = exactly-same (λ m. (λ k. (k.0, (same (out_at w m)).0 k.1), λ k. (k.0, (same (out_at w m)).1 k.1))) (means.cut none)

  -- The empty mincut is always out.
  no-route : ((r : ℕ) → Minpath N r → ⊥) → Exactly week (λ m. T (is_open o m)) (outage_of N o w).minutes
  no-route apart =
      exactly-same (λ m. (λ k. k.0, λ t. (t, (0, ((mincut-none N apart 0).1 refl, zero-⊆ (out_at w m)))))) (means.cut none)

-- A closed minute does not count.
never : (N : Network) (w : List ℕ) → silent_minutes N [] w ≡ 0
unfolding silent_minutes silent_minute is_open
never N w = count-steady (silent_minute N [] w) false 0 week (λ j h l. refl)

closed : (N : Network) (w : List ℕ) → (outage_of N [] w).minutes ≡ 0
unfolding outage_of
closed N w = go (outage_refusal N [] w)
  where
    go : (r : ℕ) → unless_refused r (silent_minutes N [] w) 0 ≡ 0
    go zero = never N w
    go (suc r) = refl

-- ---- what a window holds

holds : (s e m : ℕ) → T (covers s e m) ↔ ((s ≤ m) × (m < e))
unfolding covers
holds s e m =
    let both = T_and (leb s m) (ltb m e) in (
      λ t. let k = both.0 t in (leb-true s m (is_true (leb s m) k.0), ltb-true m e (is_true (ltb m e) k.1)),
      λ k. both.1 (passes _ (le-leb s m k.0), passes _ (lt-ltb m e k.1)),
    )

opens : (s e : ℕ) (o : List ℕ) (m : ℕ) → T (is_open (s ∷ e ∷ o) m) ↔ (((s ≤ m) × (m < e)) ⊎ T (is_open o m))
unfolding is_open
opens s e o m =
    let either = T-or (covers s e m) (is_open o m) in
    let here = holds s e m in (
      λ t. elim (either.0 t) [ inl k ↦ inl (here.0 k) | inr k ↦ inr k ],
      λ c. either.1 (elim c [ inl k ↦ inl (here.1 k) | inr k ↦ inr k ]),
    )

takes_out : (s e k : ℕ) (w : List ℕ) (m j : ℕ) → (j ∈ out_at (s ∷ e ∷ k ∷ w) m) ↔ (((s ≤ m) × (m < e) × (j ≡ k)) ⊎ (j ∈ out_at w m))
takes_out s e k w m j =
    let either = in-out s e k w m j in
    let here = holds s e m in (
      λ i. elim (either.0 i) [ inl later ↦ inr later | inr (t, same) ↦ let h = here.0 t in inl (h.0, h.1, same) ],
      λ c. either.1 (elim c [ inl (from, to, same) ↦ inr (here.1 (from, to), same) | inr later ↦ inl later ]),
    )

none_open : (m : ℕ) → T (is_open [] m) → ⊥
unfolding is_open
none_open m t = t

none_out : (m j : ℕ) → j ∈ out_at [] m → ⊥
unfolding out_at
none_out m j = not-zero j

pub works-counted : WorksCounted
works-counted = record {
  cut = λ N stored o w none. (means N stored o w none).cut none;
  routes = λ N stored o w none. (means N stored o w none).routes none;
  rows = λ N stored o w cuts sides none listed. while N stored o w none (holds_row N _ (cut_rows_after N cuts sides) _ (demand-two.list N stored cuts sides listed));
  no-route = no-route;
  closed = closed;
  opens = opens;
  none_open = none_open;
  takes_out = takes_out;
  none_out = none_out;
}
