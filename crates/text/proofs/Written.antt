-- What has been written, one text after another.
-- Assumes nothing.
--
--   Left p t q u      of the text t to be written on the page p, u is left, and the page has become q
use mathlib.Core.Path.{◌≡◌, refl, ap, sym, ◌∙◌}
use mathlib.Core.List.{List, [], ◌++◌, append-nil, append_assoc}
use Prim.Native.Nat.{ℕ, ◌+◌, ◌-◌, ◌≤◌}
use native.Mathlib.Nat.{zero-add}
use native.Mathlib.Omega.{arith}
use borrow.Rule.Slice.PartMut.{put_mid, Post-is}
use lib.ListN.{length, take, drop, length-append}
use lib.Seq.{sets, length-sets, sets-eq}
use Rattle.sequences.proofs.Stores.{sets-append}
use Rattle.text.specs.declared.Page.{Page}
use Rattle.text.specs.Written.{HasRoom, Appended, Printed}

-- A text copied into its place is written there.
pub sets-copy : (l : List ℕ) (at : ℕ) (t : List ℕ) {now : List ℕ} → now ≡ t → at + length t ≤ length l
    → put_mid at (at + length t - at) l now ≡ sets l at t
sets-copy l at t e h =
    rw (e, Post-is at (at + length t) l (omega arith), sets-eq t l at h) (sym (append_assoc (take at l) t (drop (at + length t) l)))

-- One text written behind another is the two written joined.
pub appended-text : {p q r : Page} {t u : List ℕ} → Appended p t q → Appended q u r → Appended p (t ++ u) r
appended-text {p} {q} {r} {t} {u} v w = record {
  same_memory = w.same_memory ∙ v.same_memory;
  len = rw length-append (omega (arith, v.len, w.len));
  bytes = rw (w.bytes, v.bytes, v.len) (sets-append p.bytes.now p.len t u);
}

-- Where there is room for a text, there is for its front.
pub room-front : {p : Page} {t : List ℕ} (u : List ℕ) → HasRoom p (t ++ u) → HasRoom p t
room-front {p} {t} u h = record { within = omega (arith, h.within, length-append t u) }

-- When the front is written, there is room for the rest.
pub room-rest : {p q : Page} {t u : List ℕ} → HasRoom p (t ++ u) → Appended p t q → HasRoom q u
room-rest {p} {q} {t} {u} h w =
    record { within = omega (arith, h.within, length-append t u, w.len, ap length w.bytes ∙ length-sets p.bytes.now p.len t) }

-- A text written from the start on is printed.
pub appended-printed : {p q : Page} {t : List ℕ} → p.len ≡ 0 → HasRoom p t → Appended p t q → Printed t p.bytes.now q.bytes.now q.len
appended-printed {p} {q} {t} e h w =
    let room : 0 + length t ≤ length p.bytes.now = omega (arith, h.within) in
    record { count = omega (arith, w.len); bytes = w.bytes ∙ rw (e, sets-eq t p.bytes.now 0 room, zero-add (length t)) }

-- What is printed ends within the bytes.
pub printed-within : {t b a : List ℕ} {r : ℕ} → Printed t b a r → r ≤ length a
printed-within p = omega (arith, p.count, simp length-append at (ap length p.bytes))

-- Of the text t to be written on the page p, u is left, and the page has become q.
pub record Left (p : Page) (t : List ℕ) (q : Page) (u : List ℕ) : Type 0 where
  pub done : List ℕ
  pub appended : Appended p done q
  pub whole : done ++ u ≡ t

-- At first all is left.
pub left-all : (p : Page) (t : List ℕ) → Left p t p t
left-all p t = record { done = []; appended = record { same_memory = refl; len = omega arith; bytes = refl }; whole = refl }

-- When nothing is left, the text is written.
pub left-none : {p q : Page} {t : List ℕ} → Left p t q [] → Appended p t q
left-none {p} {q} l = rw (← l.whole, append-nil) l.appended

-- When the next part is written, the part after it is left.
pub left-text : {p q r : Page} {t u v : List ℕ} → Left p t q (u ++ v) → Appended q u r → Left p t r v
left-text {u} {v} l w = record { done = l.done ++ u; appended = appended-text l.appended w; whole = append_assoc l.done u v ∙ l.whole }

-- There is room for what is left, if there was for the text.
pub left-room : {p q : Page} {t u : List ℕ} → Left p t q u → HasRoom p t → HasRoom q u
left-room {p} {q} {t} {u} l h = room-rest {t = l.done} (rw l.whole h) l.appended
