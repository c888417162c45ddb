-- Rounds of a spread: each goes on from the nodes that the last one found, and nothing is missed by that.
-- Assumes nothing.
--
--   Spread adjacent within start spread fresh     the nodes of the spread are none but those that must be; of those that are not fresh,
--                            all that are adjacent to them inside the set are in the spread too
--   Finds adjacent within spread fresh found      what a round finds: the nodes inside the set that are adjacent to a fresh node and not yet
--                            in the spread
use mathlib.Core.Path.{◌≡◌}
use mathlib.Core.Bool.{false, ◌&&◌, ◌||◌, not}
use mathlib.Core.List.{List}
use mathlib.Core.Logic.Dec
use mathlib.Core.Logic.{◌⊎◌, inl, inr, ⊎_map, ◌↔◌}
use Prim.Native.Nat.{ℕ, ◌<◌}
use denote.Floats.{is_true}
use lib.ListN.{get_or}
use Rattle.bitset.specs.Members.{has, ◌⊆◌, ◌∈◌}
use Rattle.bitset.proofs.Subsets.{⊆-refl, subset-lt, same_test}
use Rattle.bitset.proofs.Sets.{∈-dec, empty-or-member, not-zero}
use Rattle.bitset.proofs.Results.{in-intersection, in-difference, in-union}
use Rattle.spread.specs.Spread.{AdjacentTo, ClosedInside, Reached}

-- The nodes of the spread are none but those that must be; of those that are not fresh, all that are adjacent to them inside the set are
-- in the spread too.
pub record Spread (adjacent : List ℕ) (within start spread fresh : ℕ) : Type 0 where
  pub started : start ⊆ spread
  pub part : fresh ⊆ spread
  pub done : (v w : ℕ) → v ∈ spread → (v ∈ fresh → ⊥) → w ∈ get_or adjacent v 0 → w ∈ within → w ∈ spread
  pub least : (s : ℕ) → start ⊆ s → ClosedInside adjacent within s → spread ⊆ s

-- What a round finds: the nodes inside the set that are adjacent to a fresh node and not yet in the spread.
abbrev pub Finds : List ℕ → ℕ → ℕ → ℕ → ℕ → Type 0
Finds adjacent within spread fresh found = (w : ℕ) → (w ∈ found) ↔ (AdjacentTo adjacent fresh w × (w ∈ within) × (w ∈ spread → ⊥))

-- What a round finds, by what the methods of the sets give.
pub finds : (adjacent : List ℕ) (within spread fresh beside inside found : ℕ)
    → ((w : ℕ) → (w ∈ beside) ↔ AdjacentTo adjacent fresh w)
    → ((j : ℕ) → has inside j ≡ has beside j && has within j)
    → ((j : ℕ) → has found j ≡ has inside j && not (has spread j))
    → Finds adjacent within spread fresh found
finds adjacent within spread fresh beside inside found in-beside in-inside in-found w =
    let both = in-intersection beside within inside in-inside w in
    let new = in-difference inside spread found in-found w in (
      λ m. let p = new.0 m in let q = both.0 p.0 in ((in-beside w).0 q.0, q.1, p.1),
      λ p. new.1 (both.1 ((in-beside w).1 p.0, p.1), p.2),
    )

module _ (adjacent : List ℕ) (within start : ℕ) where
  -- At first the start is the spread, and all of it is fresh.
  pub spread-first : Spread adjacent within start start start
  spread-first = record {
    started = ⊆-refl start;
    part = ⊆-refl start;
    done = λ v w m n. absurd (n m);
    least = λ s there closed. there;
  }

  -- A round that looks at some of the fresh nodes.
  module _ (spread fresh looked found : ℕ) (s : Spread adjacent within start spread fresh) (some : looked ⊆ fresh)
      (new : Finds adjacent within spread looked found) where
    -- What is adjacent to the spread inside the set is there or found: to a node that is looked at by this round, to one that is not
    -- fresh by those before.
    covered : (v w : ℕ) → v ∈ spread → (v ∈ fresh → v ∈ looked) → w ∈ get_or adjacent v 0 → w ∈ within → (w ∈ spread) ⊎ (w ∈ found)
    covered v w m seen i k = go (∈-dec v fresh) (∈-dec w spread)
      where
        go : Dec (v ∈ fresh) → Dec (w ∈ spread) → (w ∈ spread) ⊎ (w ∈ found)
        go f (yes there) = inl there
        go (yes f) (no n) = inr ((new w).1 ((v, (seen f, i)), k, n))
        go (no f) (no n) = absurd (n (s.done v w m f i k))

    -- It keeps what holds: what it finds is fresh, and so are the fresh nodes that it does not look at.
    pub spread-on : (next later : ℕ) → ((w : ℕ) → (w ∈ next) ↔ ((w ∈ spread) ⊎ (w ∈ found)))
        → ((w : ℕ) → (w ∈ later) ↔ (((w ∈ fresh) × (w ∈ looked → ⊥)) ⊎ (w ∈ found))) → Spread adjacent within start next later
    spread-on next later in-next in-later = record {
      started = λ w m. (in-next w).1 (inl (s.started w m));
      part = λ w m. (in-next w).1 (⊎_map (λ f. s.part w f.0) (λ f. f) ((in-later w).0 m));
      done = λ v w m n i k. elim ((in-next v).0 m) [
        | inl there ↦ (in-next w).1 (covered v w there (λ f. (Dec.not-not (∈-dec v looked)).0 (λ o. n ((in-later v).1 (inl (f, o))))) i k)
        | inr f ↦ absurd (n ((in-later v).1 (inr f)))
      ];
      least = λ t there closed w m. elim ((in-next w).0 m) [
        | inl i ↦ s.least t there closed w i
        | inr f ↦
            let p = (new w).0 f in
            let v = p.0.0 in
            closed w (v, (s.least t there closed v (s.part v (some v p.0.1.0)), p.0.1.1)) p.1
      ];
    }

  -- A round that looks at all of them.
  module _ (spread fresh found : ℕ) (s : Spread adjacent within start spread fresh) (new : Finds adjacent within spread fresh found) where
    module _ (next : ℕ) (grown : (j : ℕ) → has next j ≡ has spread j || has found j) where
      -- The members after the round.
      either : (w : ℕ) → (w ∈ next) ↔ ((w ∈ spread) ⊎ (w ∈ found))
      either = in-union spread found next grown

      -- It keeps what holds: what it finds is fresh.
      pub spread-next : Spread adjacent within start next found
      spread-next =
          spread-on spread fresh fresh found s (⊆-refl fresh) new next found either
          (λ w. (λ m. inr m, λ c. elim c [ inl f ↦ absurd (f.1 f.0) | inr m ↦ m ]))

      -- A round that finds a node makes the set a larger number.
      pub spread-larger : (found ≡ 0 → ⊥) → spread < next
      spread-larger some = go (empty-or-member found)
        where
          go : (found ≡ 0) ⊎ ((k : ℕ) × (k ∈ found)) → spread < next
          go (inl e) = absurd (some e)
          go (inr (k, f)) =
              subset-lt spread next k (λ j m. (either j).1 (inl m)) (is_true (has next k) ((either k).1 (inr f)))
              (same_test (has spread k) false ((new k).0 f).2 absurd)

    -- Where a round finds none, all is reached.
    pub spread-last : found ≡ 0 → Reached adjacent within start spread
    spread-last none = record {
      started = s.started;
      closed = λ w p k. elim (covered spread fresh fresh found s (⊆-refl fresh) new p.0 w p.1.0 (λ f. f) p.1.1 k) [ inl there ↦ there | inr f ↦ absurd (not-zero w (rw none at f)) ];
      least = s.least;
    }
