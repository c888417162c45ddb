-- From one change to the next no minute differs from the first: what is counted stretch by stretch is what is counted minute by minute.
-- Assumes nothing.
--
--   Turn N o w minutes m out severs     before the minute m: the silent minutes counted so far, and what is known
use mathlib.Core.Bool.{Bool, true, false, cond, ◌&&◌}
use mathlib.Core.List.Memᴰ
use mathlib.Core.List.{List, ◌++◌}
use mathlib.Core.Path.{◌≡◌, refl, sym, ap, ap₂, ◌∙◌}
use Prim.Native.Nat.{ℕ, ◌+◌, ◌-◌, ◌≤◌, ◌<◌, zero-le}
use native.Mathlib.Omega.{arith}
use Rattle.sequences.specs.Words.{range}
use Rattle.sequences.specs.Counts.{count_if}
use Rattle.sequences.proofs.Counts.{count-nil}
use Rattle.sequences.proofs.Ranges.{count-on, count-below}
use Rattle.network.specs.declared.Network.{Network}
use Rattle.graph.specs.CutTests.{severed}
use Rattle.windows.specs.Windows.{week, is_open, out_at}
use Rattle.windows.specs.Times.{times_of, soonest, changes_of}
use Rattle.windows.proofs.Times.{Next, left, fewer-left, soonest-next, open-steady, out-steady}
use Rattle.maintenance.specs.Outage.{silent_minute, silent_minutes}

-- Until the next change a minute is silent as the first one is.
module _ (m n j : ℕ) (h : m ≤ j) (l : j < n) where
  pub silent-steady : (N : Network) (o w : List ℕ) → Next m (changes_of o w) n → silent_minute N o w j ≡ silent_minute N o w m
  unfolding silent_minute
  silent-steady N o w next =
      ap₂ (λ b d. b && severed N d)
      (open-steady m n j h l o (λ t i. next.first t (Memᴰ.tail (Memᴰ.append_left (times_of w) i))))
      (out-steady m n j h l w (λ t i. next.first t (Memᴰ.tail (Memᴰ.append_right o i))))

-- ---- the sweep

-- Before the minute m: it is one of the week's or its end, the silent minutes before it are counted, and whether the edges `out` sever is
-- known.
pub record Turn (N : Network) (o w : List ℕ) (minutes m out : ℕ) (severs : Bool) : Type 0 where
  pub within : m ≤ week
  pub counted : minutes ≡ count_if (silent_minute N o w) (range 0 m)
  pub known : severs ≡ severed N out

module _ (N : Network) (o w : List ℕ) where
  abbrev silent : ℕ → Bool
  silent = silent_minute N o w

  -- At first that is known of all edges.
  pub first-turn : {all : ℕ} → true ≡ severed N all → Turn N o w 0 0 all true
  unfolding range
  first-turn known = record { within = zero-le; counted = sym (count-nil silent); known = known }

  module _ {minutes m out : ℕ} {severs : Bool} (t : Turn N o w minutes m out severs) where
    -- No more minutes are counted than there were.
    pub counted-le : minutes ≤ m
    counted-le = omega (arith, t.counted, count-below silent m)

    module _ (h : m < week) {n : ℕ} (e : n ≡ soonest m week (o ++ times_of w)) where
      pub next-change : Next m (changes_of o w) n
      next-change = rw e (soonest-next m (o ++ times_of w) week h)

      pub next-within : n ≤ week
      next-within = next-change.first week (Memᴰ.head refl) h

      pub next-fewer : left o w n < left o w m
      next-fewer = fewer-left o w next-change

      -- The stretch counts as its first minute does.
      stretch : (b : Bool) → silent m ≡ b → count_if silent (range 0 n) ≡ minutes + cond b (n - m) 0
      stretch b same =
          let past = next-change.past in
          count-on silent b m n (omega (arith, past)) (λ j h l. silent-steady m n j h l N o w next-change ∙ same)
          ∙ ap (λ c. c + cond b (n - m) 0) (sym t.counted)

      -- It is silent, or heard, if it is open and the edges out sever, or do not;
      module _ {out' : ℕ} {severs' : Bool} (opened : is_open o m ≡ true) (now : out' ≡ out_at w m) (known : severs' ≡ severed N out') where
        judged : (b : Bool) → severs' ≡ b → silent m ≡ b
        unfolding silent_minute
        judged b same = ap₂ ◌&&◌ opened (ap (severed N) (sym now) ∙ sym known ∙ same)

        pub silent-turn : severs' ≡ true → Turn N o w (minutes + (n - m)) n out' severs'
        silent-turn same = record { within = next-within; counted = sym (stretch true (judged true same)); known = known }

        pub heard-turn : severs' ≡ false → Turn N o w minutes n out' severs'
        heard-turn same =
            let none : minutes + 0 ≡ minutes = omega arith in
            record { within = next-within; counted = sym (stretch false (judged false same) ∙ none); known = known }

      -- if it is closed, no question is asked.
      pub closed-turn : is_open o m ≡ false → Turn N o w minutes n out severs
      unfolding silent_minute
      closed-turn shut =
          let none : minutes + 0 ≡ minutes = omega arith in
          let same : silent m ≡ false = ap (λ b. b && severed N (out_at w m)) shut in
          record { within = next-within; counted = sym (stretch false same ∙ none); known = t.known }

    -- At the week's end every minute is.
    pub last_turn : week ≤ m → minutes ≡ silent_minutes N o w
    unfolding silent_minutes
    last_turn over =
        let end : m ≡ week = omega (arith, t.within) in
        t.counted ∙ ap (λ k. count_if silent (range 0 k)) end
