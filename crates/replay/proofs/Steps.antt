-- The steps of the code that plays a log back, over plain values.
-- Assumes nothing.
--
--   Turn N log lent now down severs i    before event i: the edges down, whether they sever, and the bytes written so far onto `lent`
use mathlib.Core.Bool.{Bool, true, false}
use mathlib.Core.List.{List}
use mathlib.Core.Path.{◌≡◌, refl, sym, ap, ◌∙◌}
use Prim.Native.Nat.{ℕ, suc, ◌+◌, ◌≤◌, ◌<◌, zero-le}
use native.Mathlib.Numerals.{add-one}
use native.Mathlib.Omega.{arith}
use mir.Val.{bool_byte}
use lib.ListN.{length, take, set}
use lib.Seq.{take-length}
use Rattle.sequences.specs.Words.{onto}
use Rattle.sequences.proofs.Places.{get_or-tabulate}
use Rattle.sequences.proofs.Stores.{onto-next}
use Rattle.network.specs.declared.Network.{Network}
use Rattle.graph.specs.CutTests.{severed}
use Rattle.replay.specs.Log.{event_count, command_at, edge_at, changed, down_after}
use Rattle.replay.specs.Replay.{byte_of, silent_byte, silent_bytes}
use Rattle.replay.proofs.Meaning.{bytes_count}

-- A test as a byte.
pub bool-byte : (b : Bool) → bool_byte b ≡ byte_of b
bool-byte true = refl
bool-byte false = refl

pub record Turn (N : Network) (log lent now : List ℕ) (down : ℕ) (severs : Bool) (i : ℕ) : Type 0 where
  pub event : i ≤ event_count log
  pub down-now : down ≡ down_after log i
  pub known : severs ≡ severed N down
  pub written : now ≡ onto (take i (silent_bytes N log)) lent

module _ (N : Network) (log lent : List ℕ) where
  -- At first nothing is down, and no byte is written.
  pub first-turn : {down : ℕ} {severs : Bool} → down ≡ 0 → severs ≡ severed N down → Turn N log lent lent down severs 0
  unfolding down_after
  first-turn none known = record { event = zero-le; down-now = none; known = known; written = refl }

  module _ {now : List ℕ} {down : ℕ} {severs : Bool} {i : ℕ} (t : Turn N log lent now down severs i) (room : event_count log ≤ length lent) where
    -- The event changes what is down, and its byte is stored.
    pub next-turn : i < event_count log → {next : ℕ} {severs' : Bool} {b : ℕ} → next ≡ changed (command_at log i) down (edge_at log i)
        → severs' ≡ severed N next → b ≡ byte_of severs' → Turn N log lent (set now i b) next severs' (i + 1)
    unfolding down_after silent_bytes
    next-turn l {next} {severs'} {b} e known stored =
        let on : next ≡ down_after log (suc i) = e ∙ ap (λ d. changed (command_at log i) d (edge_at log i)) t.down-now in
        let byte = get_or-tabulate (event_count log) (silent_byte N log) i l in
        let same : b ≡ silent_byte N log i = stored ∙ ap byte_of (known ∙ ap (severed N) on) in
        record {
          event = omega arith;
          down-now = on ∙ ap (down_after log) (sym (add-one i));
          known = known;
          written = ap (set now i) (same ∙ sym byte) ∙ onto-next (silent_bytes N log) lent i t.written (omega (arith, bytes_count N log)) (omega arith);
        }

    -- After the last event every byte is written.
    pub last_turn : event_count log ≤ i → now ≡ onto (silent_bytes N log) lent
    last_turn l =
        let all : i ≡ length (silent_bytes N log) = omega (arith, bytes_count N log, t.event) in
        t.written ∙ ap (λ b. onto b lent) (ap (λ n. take n (silent_bytes N log)) all ∙ take-length (silent_bytes N log))
