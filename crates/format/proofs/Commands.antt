-- The commands that the writer makes of the slots.
-- Assumes nothing.
--
--   rest N k n       the commands of the n slots from k on, and the end
--   left N s         the commands of the edges of s, which are present, and the end
use mathlib.Core.Bool.{Bool, true, false}
use mathlib.Core.List.{List, [], ◌∷◌, ◌++◌, flat_map, append_assoc}
use mathlib.Core.Path.{◌≡◌, refl, ap, ap₂, ◌∙◌}
use Prim.Native.Nat.{ℕ, zero, suc, ◌+◌, ◌/◌, ◌%◌, ◌^◌, ◌≤◌, ◌<◌}
use native.Mathlib.Decide.{ℕ_discrete}
use native.Mathlib.Omega.{arith}
use borrow.Author.Tests.{eq-eqb, ne_eqb, ltb-true}
use lib.Dec.{ltb}
use lib.ListN.{length, drop, length-append}
use Rattle.sequences.specs.Words.{range}
use Rattle.bitset.specs.Members.{members_from, members}
use Rattle.bitset.proofs.Members.{has-bounded}
use Rattle.network.specs.declared.Network.{Network}
use Rattle.network.specs.Record.{Slot, slot, present, has_edge, first_end, second_end, metres_of}
use Rattle.format.specs.Format.{length_command, command_of, edge_command, present_command, encode_of}

-- The command of a slot is read off what it holds.
pub command-of : (N : Network) (k : ℕ) {s : Slot} → slot N k ≡ s → edge_command N k ≡ command_of k s
unfolding edge_command
command-of N k e = ap (command_of k) e

-- So it is where its edge is present.
command-present : (N : Network) (k : ℕ) → has_edge N k ≡ true → edge_command N k ≡ present_command N k
command-present N k e = command-of N k (λ i. (e i, first_end N k, second_end N k, metres_of N k))

-- A slot without an edge has no command.
pub command-absent : (N : Network) (k : ℕ) → has_edge N k ≡ false → edge_command N k ≡ []
unfolding edge_command
command-absent N k e = rw e

-- A length of 0 metres has no command, any other one of four bytes.
pub length-absent : (k m : ℕ) → m ≡ 0 → length_command k m ≡ []
unfolding length_command
length-absent k m e = rw (eq-eqb m 0 e)

pub length_whole : (k m : ℕ) → (m ≡ 0 → ⊥) → length_command k m ≡ 0x4D ∷ k ∷ m / 256 ∷ m % 256 ∷ []
unfolding length_command
length_whole k m some = rw (ne_eqb m 0 some)

-- The commands of the n slots from k on, where they end together with the n' slots from k' on, are those from k' on if the slots
-- between are absent.
commands-skip : (N : Network) (k n k' n' : ℕ) → k ≤ k' → k + n ≡ k' + n' → ((j : ℕ) → k ≤ j → j < k' → has_edge N j ≡ false)
    → flat_map (edge_command N) (range k n) ≡ flat_map (edge_command N) (range k' n')
unfolding range flat_map
commands-skip N k zero k' n' h e z =
    let p : k ≡ k' = omega arith in
    let q : 0 ≡ n' = omega arith in
    ap₂ (λ x y. flat_map (edge_command N) (range x y)) p q
commands-skip N k (suc n) k' n' h e z =
    here-or-later (λ (l : suc k ≤ k'). commands-skip N (suc k) n k' n' l (omega arith) (λ j p. z j (omega arith))) (ℕ_discrete k k')
  where
    here-or-later : (suc k ≤ k' → flat_map (edge_command N) (range (suc k) n) ≡ flat_map (edge_command N) (range k' n')) → Dec (k ≡ k')
        → flat_map (edge_command N) (range k (suc n)) ≡ flat_map (edge_command N) (range k' n')
    here-or-later later (yes p) = let q : suc n ≡ n' = omega arith in ap₂ (λ x y. flat_map (edge_command N) (range x y)) p q
    here-or-later later (no d) =
        ap (λ c. c ++ flat_map (edge_command N) (range (suc k) n)) (command-absent N k (z k (omega arith) (omega arith)))
        ∙ later (omega arith)

-- The commands of the n slots from k on, and the end.
pub rest : Network → ℕ → ℕ → List ℕ
rest N k n = flat_map (edge_command N) (range k n) ++ 0x45 ∷ []

-- A slot's command comes first of those from it on.
pub rest-first : (N : Network) (k n : ℕ) → rest N k (suc n) ≡ edge_command N k ++ rest N (suc k) n
unfolding rest flat_map range
rest-first N k n = append_assoc (edge_command N k) (flat_map (edge_command N) (range (suc k) n)) (0x45 ∷ [])

-- Absent slots have none.
pub rest-skip : (N : Network) (k n k' n' : ℕ) → k ≤ k' → k + n ≡ k' + n' → ((j : ℕ) → k ≤ j → j < k' → has_edge N j ≡ false) → rest N k n ≡ rest N k' n'
unfolding rest
rest-skip N k n k' n' h e z = ap (λ c. c ++ 0x45 ∷ []) (commands-skip N k n k' n' h e z)

-- After the last slot comes the end, so that there is a byte.
pub rest-none : (N : Network) (k : ℕ) → rest N k 0 ≡ 0x45 ∷ []
unfolding rest range flat_map
rest-none N k = refl

pub rest_some : (N : Network) (k n : ℕ) → 1 ≤ length (rest N k n)
unfolding rest
rest_some N k n = omega (arith, length-append (flat_map (edge_command N) (range k n)) (0x45 ∷ []))

-- A plan is its header and the commands of all slots.
pub encode-header : (N : Network) → encode_of N ≡ 0x50 ∷ N.nodes ∷ 0x53 ∷ N.source ∷ N.sink ∷ rest N 0 64
unfolding encode_of rest
encode-header N = refl

-- So many bytes a plan has.
pub encode-size : (N : Network) → length (encode_of N) ≡ 5 + length (rest N 0 64)
encode-size N = ap length (encode-header N) ∙ omega arith

-- ---- by the set of the edges present

-- The commands of the n slots from k on are those of the edges present there.
commands-members : (N : Network) (k n : ℕ)
    → flat_map (edge_command N) (range k n) ≡ flat_map (present_command N) (members_from (present N) k n)
unfolding range flat_map members_from
commands-members N k zero = refl
commands-members N k (suc n) = go (ltb (present N) (2 ^ k)) refl (has_edge N k) refl (commands-members N (suc k) n)
  where
    go : (a : Bool) → ltb (present N) (2 ^ k) ≡ a → (b : Bool) → has_edge N k ≡ b
        → flat_map (edge_command N) (range (suc k) n) ≡ flat_map (present_command N) (members_from (present N) (suc k) n)
        → edge_command N k ++ flat_map (edge_command N) (range (suc k) n)
        ≡ flat_map (present_command N) (elim a [ true ↦ [] | false ↦ elim b [ true ↦ k ∷ members_from (present N) (suc k) n | false ↦ members_from (present N) (suc k) n ] ])
    go true e b f later = commands-skip N k (suc n) (k + suc n) 0 (omega arith) (omega arith) (λ j h l. has-bounded k (ltb-true (present N) (2 ^ k) e) j h)
    go false e true f later = ap₂ ◌++◌ (command-present N k f) later
    go false e false f later = ap (λ c. c ++ flat_map (edge_command N) (range (suc k) n)) (command-absent N k f) ∙ later

-- The commands of the edges of s, which are present, and the end.
pub left : Network → ℕ → List ℕ
left N s = flat_map (present_command N) (members 64 s) ++ 0x45 ∷ []

-- That of the first one comes first.
pub left-first : (N : Network) (s t : ℕ) {k : ℕ} → members 64 s ≡ k ∷ members 64 t → left N s ≡ present_command N k ++ left N t
unfolding left flat_map
left-first N s t {k} e = rw e (append_assoc (present_command N k) (flat_map (present_command N) (members 64 t)) (0x45 ∷ []))

pub left-length : (N : Network) (s t : ℕ) {k : ℕ} → members 64 s ≡ k ∷ members 64 t
    → length (left N s) ≡ length (present_command N k) + length (left N t)
left-length N s t {k} e = ap length (left-first N s t e) ∙ length-append (present_command N k) (left N t)

pub left-none : (N : Network) (s : ℕ) → members 64 s ≡ [] → left N s ≡ 0x45 ∷ []
unfolding left flat_map
left-none N s e = rw e refl

-- After the header stand those of all edges present.
left_all : (N : Network) → rest N 0 64 ≡ left N (present N)
unfolding rest left
left_all N = ap (λ c. c ++ 0x45 ∷ []) (commands-members N 0 64)

pub left-header : (N : Network) → drop 5 (encode_of N) ≡ left N (present N)
left-header N = ap (drop 5) (encode-header N) ∙ left_all N

-- So many bytes a plan has.
pub left-size : (N : Network) → length (encode_of N) ≡ 5 + length (left N (present N))
left-size N = encode-size N ∙ ap (λ c. 5 + length c) (left_all N)
