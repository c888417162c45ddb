-- Demand 3: take any two list calls on accepted plans that came out complete, whatever rows were lent for either and whatever these held.
-- The two lists are equal, cut for cut, exactly if the two plans have the same routes. Assumes what the code's types say of the records.
use mathlib.Core.Path.{◌≡◌, sym, ap, ◌∙◌}
use mathlib.Core.List.{List}
use mathlib.Core.Logic.Iff
use mathlib.Core.Logic.{◌↔◌}
use Prim.Native.Nat.{ℕ}
use lib.ListN.{length, get_or}
use lib.Seq.{ext_get_or}
use Rattle.sequences.specs.Words.{onto}
use Rattle.sequences.proofs.Words.{get_or-onto}
use Rattle.network.specs.declared.Network.{Network}
use Rattle.network.specs.Record.{Stored}
use Rattle.format.specs.Format.{decode_of}
use Rattle.graph.specs.Paths.{SameMinpaths}
use Rattle.graph.specs.Lists.{SameList}
use Rattle.branches.proofs.Lists.{lists-equal}
use Rattle.listing.specs.List.{mincuts, listed_by, cut_rows_after}
use Rattle.listing.proofs.Mincuts.{mincuts-lists}
use Rattle.listing.proofs.Call.{complete-call}
use Rattle.demands.specs.Demands.{DemandThree}
use Rattle.demands.proofs.DemandTwo.{read-stored}

-- Two lists are equal exactly if, written onto any rows, they leave equal rows below equal counts.
same-onto : (l lent k lent' : List ℕ) → SameList (length l) (onto l lent) (length k) (onto k lent') ↔ (l ≡ k)
same-onto l lent k lent' = (
  λ s. ext_get_or 0 l k s.counts (λ i h.
      sym (get_or-onto l lent i h) ∙ s.rows i h ∙ get_or-onto k lent' i (rw s.counts at h)),
  λ e. record {
    counts = ap length e;
    rows = λ i h. get_or-onto l lent i h ∙ ap (λ (x : List ℕ). get_or x i 0) e ∙ sym (get_or-onto k lent' i (rw e at h));
  },
)

-- A call that is complete was made on an accepted record, so that nothing is left to ask of the two but what their types say.
lists : (N M : Network) → Stored N → Stored M → (cuts sides cuts' sides' : List ℕ)
    → (listed_by N cuts sides).refusal ≡ 0 → (listed_by M cuts' sides').refusal ≡ 0
    → SameList (listed_by N cuts sides).count (cut_rows_after N cuts sides) (listed_by M cuts' sides').count (cut_rows_after M cuts' sides')
    ↔ SameMinpaths N M
lists N M stored stored' cuts sides cuts' sides' e e' =
    let (sound, left) = complete-call N stored cuts sides e in
    let (sound', left') = complete-call M stored' cuts' sides' e' in
    let equal = lists-equal N M sound.bounded sound'.bounded (mincuts N) (mincuts M)
    (mincuts-lists N sound.bounded) (mincuts-lists M sound'.bounded) in
    rw (← left.0, ← left.1, ← left'.0, ← left'.1) (Iff.trans (same-onto (mincuts N) cuts (mincuts M) cuts') equal)

pub demand-three : DemandThree
demand-three = record {
  lists = lists;
  lists-bytes = λ s t e e'. lists (decode_of s).network (decode_of t).network (read-stored s e) (read-stored t e');
}
